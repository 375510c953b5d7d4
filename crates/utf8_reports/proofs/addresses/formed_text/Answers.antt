use Rattle.std.proofs.Common.{rules, ◌≡◌, Bool, true, false, Some, sym, ap, subst, ◌∙◌}
use Rattle.std.specs.List.{list_all}
use Rattle.std.specs.Str.{IsUtf8}
use Rattle.mail_wire.specs.Octets.{is_ascii}
use Rattle.encapsulated_fields.proofs.XtextLemmas.{ReadsAs-utf8}
use Rattle.utf8_reports.specs.Recipients.{utf8_form}
use Rattle.utf8_reports.proofs.Forms.{read_found, none_formed, formed_same}
use Rattle.utf8_reports.proofs.addresses.formed_text.Goals as goal

pub returns-in_default-clause-exact : goal.returns-in_default-clause-exact
returns-in_default-clause-exact c text u high formed =
    absurd (none_formed c.in_ok-text.field-0 c.args.global c.args.form.now text c.in_ok-text.ensures.none c.in_default.is u formed)

pub returns-then-is_ascii-clause-exact : goal.returns-then-is_ascii-clause-exact
returns-then-is_ascii-clause-exact c text u high formed =
    let reads = read_found c.in_ok-text.field-0 c.args.form.now c.in-Some.text c.in_ok-text.ensures.found c.in-Some.is in
    let same = formed_same c.args.global c.args.form.now c.in-Some.text text reads u formed in
    absurd (high (ap (list_all is_ascii) (sym (c.as_slice.ensures ∙ same)) ∙ (sym c.is_ascii.ensures ∙ c.if-is_ascii.true)))

pub utf8_form-requires : goal.utf8_form-requires
utf8_form-requires c =
    let reads = read_found c.in_ok-text.field-0 c.args.form.now c.in-Some.text c.in_ok-text.ensures.found c.in-Some.is in
    subst IsUtf8 (sym c.as_slice-2.ensures) (ReadsAs-utf8 c.args.form.now c.in-Some.text reads).1

pub returns-then-ne-clause-exact : goal.returns-then-ne-clause-exact
returns-then-ne-clause-exact c text u high formed =
    let reads = read_found c.in_ok-text.field-0 c.args.form.now c.in-Some.text c.in_ok-text.ensures.found c.in-Some.is in
    let same = formed_same c.args.global c.args.form.now c.in-Some.text text reads u formed in
    let written : c.as_slice-3.result.now ≡ c.args.form.now = c.as_slice-3.ensures ∙ (c.in_ok-written.ensures ∙ (ap (utf8_form c.args.global) (c.as_slice-2.ensures ∙ same) ∙ sym formed)) in
    let never : ⊥ = search rules in
    absurd never

pub returns-clause-exact : goal.returns-clause-exact
returns-clause-exact c text u high formed =
    let reads = read_found c.in_ok-text.field-0 c.args.form.now c.in-Some.text c.in_ok-text.ensures.found c.in-Some.is in
    ap Some (formed_same c.args.global c.args.form.now c.in-Some.text text reads u formed)

pub returns-clause-found : goal.returns-clause-found
returns-clause-found c =
    let reads = read_found c.in_ok-text.field-0 c.args.form.now c.in-Some.text c.in_ok-text.ensures.found c.in-Some.is in
    let text = c.as_slice-2.ensures in
    let form : c.as_slice-3.result.now ≡ utf8_form c.args.global c.in-Some.text = c.as_slice-3.ensures ∙ (c.in_ok-written.ensures ∙ ap (utf8_form c.args.global) text) in (
      (ReadsAs-utf8 c.args.form.now c.in-Some.text reads).1,
      (λ ascii. not_both (sym (ap (list_all is_ascii) c.as_slice.ensures) ∙ (sym c.is_ascii.ensures ∙ c.if-is_ascii.false)) ascii),
      search rules,
    )
  where
    not_both : {b : Bool} → b ≡ false → b ≡ true → ⊥
    not_both h k = cc
