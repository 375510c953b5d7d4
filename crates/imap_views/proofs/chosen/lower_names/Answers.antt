use Rattle.std.proofs.Common.{take, ap, ◌∙◌}
use Rattle.std.specs.Str.{str_to_ascii_lowercase}
use Rattle.std.proofs.lemmas.List.{take_more}
use Rattle.imap_views.proofs.ChosenLemmas.{one_more_name}
use Rattle.imap_views.proofs.chosen.lower_names.Goals as goal

pub loop-name-preserved : goal.loop-name-preserved
loop-name-preserved c =
    let names = c.args.names.now in
    let i = c.loop-name.name-index in
    rw (take_more names i c.name-item.result c.loop-name-test.true)
    (one_more_name (take i names) _ c.in_ok-to_ascii_lowercase.field-0 c.loop-name.lower.keys c.insert.new.self.keys
    (c.in_ok-to_ascii_lowercase.ensures.ok ∙ ap str_to_ascii_lowercase (c.as_slice.ensures ∙ c.name-item.is)) c.in_ok-insert.ensures.keys c.loop-name.invariant)
