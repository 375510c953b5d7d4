use Rattle.std.proofs.Common.{rules, ◌≡◌, false}
use Rattle.setup_command.proofs.FormLemmas.{text_of, no_text, form_missing, text_long, domain_utf8}
use Rattle.setup_command.proofs.word_forms.account_address.Goals as goal

pub returns-in_default-clause-none : goal.returns-in_default-clause-none
returns-in_default-clause-none c = no_text c.in_ok-address.field-0 c.args.text.now c.in_default.is c.in_ok-address.ensures.none

pub has_form-requires : goal.has_form-requires
has_form-requires c =
    let is = text_of c.in_ok-address.field-0 c.args.text.now c.in-Some.address c.in-Some.is c.in_ok-address.ensures.some in
    rw c.as_slice.ensures (domain_utf8 c.args.text.now c.in-Some.address is)

pub returns-then-not-branch-clause-none : goal.returns-then-not-branch-clause-none
returns-then-not-branch-clause-none c =
    let is = text_of c.in_ok-address.field-0 c.args.text.now c.in-Some.address c.in-Some.is c.in_ok-address.ensures.some in
    let lacks : c.in_ok-has_form.field-0 ≡ false = search rules in
    form_missing c.args.text.now c.as_slice.result.now c.in-Some.address c.in_ok-has_form.field-0 is c.as_slice.ensures c.in_ok-has_form.ensures lacks

pub returns-then-not-branch-2-clause-none : goal.returns-then-not-branch-2-clause-none
returns-then-not-branch-2-clause-none c =
    let is = text_of c.in_ok-address.field-0 c.args.text.now c.in-Some.address c.in-Some.is c.in_ok-address.ensures.some in
    let long : c.in_ok-is_short.field-0 ≡ false = search rules in
    text_long c.args.text.now c.in-Some.address c.in_ok-is_short.field-0 is c.in_ok-is_short.ensures long
