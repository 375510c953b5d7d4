use Rattle.std.proofs.Common.{rules, ◌≡◌, ◌∷◌}
use Rattle.setup_command.proofs.ListLemmas.{called_by}
use Rattle.setup_command.proofs.word_forms.is_called.Goals as goal

pub returns-then-eq : goal.returns-then-eq
returns-then-eq c =
    let words_are : c.args.words.now ≡ c.in-Some.first.now ∷ c.in-Some.rest.now = search rules in
    let first_is : c.in-Some.first.now.now ≡ c.args.name.now = search rules in
    called_by c.args.name.now c.args.words.now c.in-Some.rest.now c.in-Some.first.now c.are_plain.result words_are first_is c.are_plain.ensures
