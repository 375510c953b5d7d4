use Rattle.std.proofs.Common.{rules, ◌≡◌, sym, ap, ◌∙◌}
use Rattle.address_grammar.specs.Addresses.{address_text}
use Rattle.utf8_reports.proofs.AddressTexts.{spelled_path, found_same}
use Rattle.utf8_reports.proofs.addresses.read_address.Goals as goal

pub returns-in_default-clause-exact : goal.returns-in_default-clause-exact
returns-in_default-clause-exact c address spells =
    let path = spelled_path c.args.text.now c.as_slice.result.now address (c.as_slice.ensures ∙ c.in_ok-path.ensures) spells in
    let found = c.in_ok-address.ensures.exact address path in
    let none = c.in_default.is in
    cc

pub returns-then-ne-clause-exact : goal.returns-then-ne-clause-exact
returns-then-ne-clause-exact c address spells =
    let path = spelled_path c.args.text.now c.as_slice.result.now address (c.as_slice.ensures ∙ c.in_ok-path.ensures) spells in
    let one = found_same c.in_ok-address.field-0 c.in-Some.address address c.in-Some.is (c.in_ok-address.ensures.exact address path) in
    let same : c.as_slice-2.result.now ≡ c.args.text.now = c.as_slice-2.ensures ∙ (c.in_ok-written.ensures.text ∙ (ap address_text one ∙ sym spells.text_is)) in
    search rules

pub returns-clause-exact : goal.returns-clause-exact
returns-clause-exact c address spells =
    let path = spelled_path c.args.text.now c.as_slice.result.now address (c.as_slice.ensures ∙ c.in_ok-path.ensures) spells in
    found_same c.in_ok-address.field-0 c.in-Some.address address c.in-Some.is (c.in_ok-address.ensures.exact address path)
