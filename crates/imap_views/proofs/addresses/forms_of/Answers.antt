use Rattle.std.proofs.Common.{◌≡◌, Err, ap}
use Rattle.std.proofs.lemmas.Result.{err_from_is_err_and}
use Rattle.field_tokens.specs.Lexemes.{lexemes_in}
use Rattle.address_grammar.specs.declared.AddressFault.TheVariants.{Malformed}
use Rattle.address_grammar.proofs.PathLemmas.{fault_is}
use Rattle.imap_views.proofs.AddressForms.{forms_of_tokens}
use Rattle.imap_views.proofs.addresses.forms_of.Goals as goal

pub returns-in_err-push_places-clause-malformed : goal.returns-in_err-push_places-clause-malformed
returns-in_err-push_places-clause-malformed c = λ e forms has.
    let p = err_from_is_err_and c.from_residual-in_err-push_places.result c.from_residual-in_err-push_places.ensures.1 in
    let same : c.in_err-push_places.field-0.0 ≡ Malformed = fault_is c.from_residual-in_err-push_places.result p.0 _ p.1 p.2 e in
    (rw (c.new.ensures, c.deref.ensures.value) at (c.in_err-push_places.ensures.malformed (ap Err same))) forms (forms_of_tokens c.args.text.now (lexemes_in c.args.text.now c.in_ok-marks.marks.items) forms c.in_ok-marks.ensures.ok has)
