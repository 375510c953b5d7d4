use Rattle.std.specs.BTreeSet.{contains_by}
use Rattle.std.specs.Cmp.Lexicographic.{slice_cmp}
use Rattle.std.specs.Ordering.{nat_cmp}
use Rattle.imap_views.proofs.ChosenLemmas.{chosen_held}
use Rattle.imap_views.proofs.chosen.is_chosen.Goals as goal

pub returns : goal.returns
returns c = λ asked holds.
    chosen_held asked (λ q. contains_by (λ key. slice_cmp nat_cmp q key.items) c.args.names.now) _ c.in_ok-name.name.items c.contains.result c.args.negated holds c.in_ok-name.ensures.ok c.contains.ensures
