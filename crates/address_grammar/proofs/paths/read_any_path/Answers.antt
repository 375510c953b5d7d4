use Rattle.std.proofs.Common.{◌≡◌, Err, sym, ap, ◌∙◌}
use Rattle.std.proofs.lemmas.Bool.{both_ways}
use Rattle.std.proofs.lemmas.Result.{err_from_is_err_and}
use Rattle.address_grammar.specs.declared.AddressFault.TheVariants.{Malformed}
use Rattle.address_grammar.proofs.PathLemmas.{path_known, path_unangled, null_path, address_path, no_address_path, only_memory, fault_is}
use Rattle.address_grammar.proofs.paths.read_any_path.Goals as goal

pub returns-in_default-clause-malformed : goal.returns-in_default-clause-malformed
returns-in_default-clause-malformed c = λ _ answer path. path_unangled c.args.text.now _ answer (rw (c.new.ensures, c.deref.ensures.value) c.in_ok-marks.ensures.ok) c.in_default.ensures.none path

pub returns-in_default-clause-exact : goal.returns-in_default-clause-exact
returns-in_default-clause-exact c = λ answer path. absurd (path_unangled c.args.text.now _ answer (rw (c.new.ensures, c.deref.ensures.value) c.in_ok-marks.ensures.ok) c.in_default.ensures.none path)

pub returns-then-not-are_blank-clause-malformed : goal.returns-then-not-are_blank-clause-malformed
returns-then-not-are_blank-clause-malformed c = λ _ answer path.
    both_ways _ (sym c.are_blank.ensures ∙ c.if-not-are_blank.true)
    (path_known c.args.text.now _ _ _ answer (rw (c.new.ensures, c.deref.ensures.value) c.in_ok-marks.ensures.ok) c.in-Some.ensures.found path).nothing_before

pub returns-then-not-are_blank-clause-exact : goal.returns-then-not-are_blank-clause-exact
returns-then-not-are_blank-clause-exact c = λ answer path. absurd (
    both_ways _ (sym c.are_blank.ensures ∙ c.if-not-are_blank.true)
    (path_known c.args.text.now _ _ _ answer (rw (c.new.ensures, c.deref.ensures.value) c.in_ok-marks.ensures.ok) c.in-Some.ensures.found path).nothing_before)

pub returns-then-are_blank-clause-exact : goal.returns-then-are_blank-clause-exact
returns-then-are_blank-clause-exact c = λ answer path.
    null_path _ _ answer (sym c.are_blank-2.ensures ∙ c.if-are_blank.true)
    (path_known c.args.text.now _ _ _ answer (rw (c.new.ensures, c.deref.ensures.value) c.in_ok-marks.ensures.ok) c.in-Some.ensures.found path)

pub returns-in_err-address-clause-malformed : goal.returns-in_err-address-clause-malformed
returns-in_err-address-clause-malformed c = λ e answer path.
    let p = err_from_is_err_and c.from_residual-in_err-address.result c.from_residual-in_err-address.ensures.1 in
    let same : c.in_err-address.field-0.0 ≡ Malformed = fault_is c.from_residual-in_err-address.result p.0 _ p.1 p.2 e in
    no_address_path _ _ answer (sym c.are_blank-2.ensures ∙ c.if-are_blank.false) (c.in_err-address.ensures.malformed (ap Err same))
    (path_known c.args.text.now _ _ _ answer (rw (c.new.ensures, c.deref.ensures.value) c.in_ok-marks.ensures.ok) c.in-Some.ensures.found path)

pub returns-in_err-address-clause-exact : goal.returns-in_err-address-clause-exact
returns-in_err-address-clause-exact c = λ answer path.
    let p = err_from_is_err_and c.from_residual-in_err-address.result c.from_residual-in_err-address.ensures.1 in
    rw (p.1) (only_memory p.0 (λ m.
    no_address_path _ _ answer (sym c.are_blank-2.ensures ∙ c.if-are_blank.false) (c.in_err-address.ensures.malformed (ap Err (sym p.2 ∙ m)))
    (path_known c.args.text.now _ _ _ answer (rw (c.new.ensures, c.deref.ensures.value) c.in_ok-marks.ensures.ok) c.in-Some.ensures.found path)))

pub returns-clause-exact : goal.returns-clause-exact
returns-clause-exact c = λ answer path.
    address_path _ _ answer _ c.in_ok-address.ensures.ok
    (path_known c.args.text.now _ _ _ answer (rw (c.new.ensures, c.deref.ensures.value) c.in_ok-marks.ensures.ok) c.in-Some.ensures.found path)
