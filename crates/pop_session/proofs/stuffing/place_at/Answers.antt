use Rattle.std.proofs.Common.{take, refl, ap, ◌∙◌}
use Rattle.surrogate_rope.specs.Served.{shown_octets}
use Rattle.pop_session.proofs.StuffedPieces.{last_place}
use Rattle.pop_session.proofs.stuffing.place_at.Goals as goal

pub returns : goal.returns
returns c =
    let buffer = c.read_at-count.new.into in
    c.place_following.ensures
    ∙ last_place (shown_octets c.args.msg.now c.args.shown.now) _ buffer (take c.min.result buffer) c.args.len c.read_at-count.result c.requires.len refl
    (rw c.saturating_sub.ensures at c.read_at-count.ensures.count) (rw c.saturating_sub.ensures at c.read_at-count.ensures.octets) (ap (λ k. take k buffer) c.min.ensures)
