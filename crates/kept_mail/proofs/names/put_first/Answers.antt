use Rattle.std.proofs.Common.{sym, ◌∙◌, subst, List, ℕ, ◌≡◌}
use Rattle.kept_mail.specs.private.Names.{number_named, kept_first}
use Rattle.kept_mail.proofs.NameLemmas.{puts_first}
use Rattle.kept_mail.proofs.names.put_first.Goals as goal

pub returns-clause-ok : goal.returns-clause-ok
returns-clause-ok c = λ name.
    let key_is = c.in_ok-key.ensures.items in
    let none = sym c.contains_key.ensures ∙ c.if-contains_key.false in
    subst (λ (k : List ℕ). number_named c.insert.new.self name ≡ kept_first (number_named c.args.numbers.now name) k name c.args.number) key_is (puts_first c.args.numbers.now c.insert.new.self c.in_ok-key.key.items c.args.number (rw key_is none) c.in_ok-insert.ensures.updates name)
