use Rattle.std.proofs.Common.{◌≡◌, sym, ap, ◌∙◌, subst, arith, IsUtf8}
use Rattle.encapsulated_fields.specs.AddressForms.{xtext_form}
use Rattle.encapsulated_fields.proofs.XtextLemmas.{ReadsAs-utf8}
use Rattle.dsn_terms.proofs.OrcptFacts.{not-Utf8, not-Utf8-long}
use Rattle.dsn_terms.proofs.recipient_terms.read_utf8.Goals as goal

pub returns-in_default-clause-none : goal.returns-in_default-clause-none
returns-in_default-clause-none c = not-Utf8 c.args.utf8 c.args.text.now (rw c.in_default.is at c.in_ok-address.ensures.none)

pub xtext_of-requires : goal.xtext_of-requires
xtext_of-requires c = subst IsUtf8 (sym c.as_slice.ensures) (ReadsAs-utf8 c.args.text.now c.in-Some.address (rw c.in-Some.is at c.in_ok-address.ensures.found)).1

pub returns-then-len-gt500-clause-none : goal.returns-then-len-gt500-clause-none
returns-then-len-gt500-clause-none c =
    let form : c.in_ok-xtext_of.field-0 ≡ xtext_form c.in-Some.address = c.in_ok-xtext_of.ensures.form ∙ ap xtext_form c.as_slice.ensures in
    not-Utf8-long c.args.utf8 c.args.text.now c.in-Some.address c.in_ok-xtext_of.field-0 (rw c.in-Some.is at c.in_ok-address.ensures.found) form (omega (arith, c.len-2.ensures, c.if-len-gt500.true))
