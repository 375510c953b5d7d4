use Rattle.std.proofs.Common.{◌∙◌}
use Rattle.address_grammar.specs.Addresses.{address_text}
use Rattle.utf8_reports.proofs.AddressTexts.{text_utf8, text_same}
use Rattle.utf8_reports.proofs.addresses.read_typed.Goals as goal

pub returns-in-Some-clause-exact : goal.returns-in-Some-clause-exact
returns-in-Some-clause-exact c address comes typed =
    let found = c.in_ok-text.ensures.exact (address_text address) (text_utf8 address comes) typed in
    let text = text_same c.in_ok-text.field-0 c.in-Some.text (address_text address) c.in-Some.is found in
    c.read_address.ensures.exact address (record { comes = comes; text_is = c.as_slice.ensures ∙ text })

pub returns-in-None-clause-exact : goal.returns-in-None-clause-exact
returns-in-None-clause-exact c address comes typed =
    let found = c.in_ok-text.ensures.exact (address_text address) (text_utf8 address comes) typed in
    let none = c.in-None.is in
    cc
