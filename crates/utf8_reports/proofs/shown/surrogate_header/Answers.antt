use Rattle.std.proofs.Common.{false, ◌∙◌}
use Rattle.std.proofs.lemmas.Result.{IfOk-weaker}
use Rattle.surrogate_rope.specs.Ropes.{octets_of}
use Rattle.surrogate_rope.proofs.SurrogateBlocks.{rope_surrogate}
use Rattle.utf8_reports.specs.Shown.{HasEndedHeader, IsShownHeader}
use Rattle.utf8_reports.proofs.HeldHeaders.{front_header}
use Rattle.utf8_reports.proofs.shown.surrogate_header.Goals as goal

pub returns : goal.returns
returns c =
    let rope = c.in_ok-rope.ensures.rope in
    let holds = c.header_span-span.ensures c.args.msg.now rope in
    IfOk-weaker c.header_of.result (HasEndedHeader c.as_slice.result.now) (IsShownHeader false c.args.msg.now)
    (λ header has. record {
      entities = c.args.tree.now.entities;
      tree = c.requires;
      shown = octets_of c.args.msg.now c.in_ok-rope.rope;
      shows = rope_surrogate c.args.msg.now c.in_ok-rope.rope rope;
      has_header = front_header (octets_of c.args.msg.now c.in_ok-rope.rope) c.as_slice.result.now header c.header_span-span.result.len holds (c.as_slice.ensures ∙ c.in_ok-front.ensures) has;
    })
    c.header_of.ensures
