use Rattle.std.proofs.Common.{sym, ◌∙◌, subst, List, ℕ, ◌≡◌}
use Rattle.kept_mail.specs.private.Names.{kept_first}
use Rattle.mail_store.specs.private.Names.{number_hashed}
use Rattle.mail_store.proofs.NameLemmas.{puts_number}
use Rattle.mail_store.proofs.names.put_mailbox.Goals as goal

pub returns-clause-ok : goal.returns-clause-ok
returns-clause-ok c = λ name.
    let key_is = c.in_ok-key.ensures.items in
    let none = sym c.contains_key.ensures ∙ c.if-contains_key.false in
    subst (λ (k : List ℕ). number_hashed c.insert.new.self name ≡ kept_first (number_hashed c.args.numbers.now name) k name c.args.number) key_is (puts_number c.args.numbers.now c.insert.new.self c.in_ok-key.key.items c.args.number (rw key_is none) c.in_ok-insert.ensures.updates name)
