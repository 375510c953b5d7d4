use Rattle.std.proofs.Common.{◌≡◌, Err, sym, ap, ◌∙◌}
use Rattle.std.proofs.lemmas.Result.{err_from_is_err_and}
use Rattle.field_tokens.specs.Lexemes.{lexemes_in}
use Rattle.address_grammar.specs.declared.AddressFault.TheVariants.{Malformed}
use Rattle.address_grammar.proofs.PathLemmas.{fault_is, only_memory}
use Rattle.address_grammar.proofs.WholeLists.{elements_of, list_made, list_is}
use Rattle.address_grammar.proofs.lists.read_list.Goals as goal

pub returns-in_err-elements-clause-malformed : goal.returns-in_err-elements-clause-malformed
returns-in_err-elements-clause-malformed c = λ e es cs has.
    let p = err_from_is_err_and c.from_residual-in_err-elements.result c.from_residual-in_err-elements.ensures.1 in
    let same : c.in_err-elements.field-0.0 ≡ Malformed = fault_is c.from_residual-in_err-elements.result p.0 _ p.1 p.2 e in
    (rw (c.new.ensures, c.deref.ensures.value) at (c.in_err-elements.ensures.malformed (ap Err same))) es (elements_of c.args.text.now (lexemes_in c.args.text.now c.in_ok-marks.marks.items) es cs c.in_ok-marks.ensures.ok has)

pub returns-in_err-elements-clause-exact : goal.returns-in_err-elements-clause-exact
returns-in_err-elements-clause-exact c = λ es cs has.
    let p = err_from_is_err_and c.from_residual-in_err-elements.result c.from_residual-in_err-elements.ensures.1 in
    rw (p.1) (only_memory p.0 (λ m.
    (rw (c.new.ensures, c.deref.ensures.value) at (c.in_err-elements.ensures.malformed (ap Err (sym p.2 ∙ m)))) es (elements_of c.args.text.now (lexemes_in c.args.text.now c.in_ok-marks.marks.items) es cs c.in_ok-marks.ensures.ok has)))

pub returns-clause-ok : goal.returns-clause-ok
returns-clause-ok c =
    rw c.from_vec.ensures (list_made c.args.text.now c.in_ok-found.found.items (lexemes_in c.args.text.now c.in_ok-marks.marks.items) _ _ c.in_ok-found.ensures.ok c.in_ok-marks.ensures.ok
    (rw (c.new.ensures, c.deref.ensures.value) at c.in_ok-elements.ensures.ok) (rw c.deref-2.ensures.value at c.in-Ok.ensures))

pub returns-clause-exact : goal.returns-clause-exact
returns-clause-exact c = λ es cs has. list_is c.args.text.now es cs _ (
    rw c.from_vec.ensures (list_made c.args.text.now c.in_ok-found.found.items (lexemes_in c.args.text.now c.in_ok-marks.marks.items) _ _ c.in_ok-found.ensures.ok c.in_ok-marks.ensures.ok
    (rw (c.new.ensures, c.deref.ensures.value) at c.in_ok-elements.ensures.ok) (rw c.deref-2.ensures.value at c.in-Ok.ensures))) has
