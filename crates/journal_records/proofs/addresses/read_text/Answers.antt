use Rattle.std.proofs.Common.{rules, ◌≡◌, ℕ, List, Some, Err, ap, sym, subst}
use Rattle.address_grammar.specs.Paths.{HasPath, in_angles}
use Rattle.journal_records.proofs.AddressLemmas.{none_found}
use Rattle.journal_records.proofs.addresses.read_text.Goals as goal

pub returns-in-Ok-clause-none : goal.returns-in-Ok-clause-none
returns-in-Ok-clause-none c = none_found c.in-Ok.found c.args.text.now c.as_slice.result.now (search rules) c.in-Ok.ensures.exact

pub returns-in-Err-Malformed-clause-none : goal.returns-in-Err-Malformed-clause-none
returns-in-Err-Malformed-clause-none c = λ address has.
    let path : c.as_slice.result.now ≡ in_angles c.args.text.now = search rules in
    c.in-Err-Malformed.ensures.malformed (ap Err c.in-Err-Malformed.field-0-is) (Some address) (subst (λ (p : List ℕ). HasPath p (Some address)) (sym path) has)
