use Rattle.std.proofs.Common.{◌++◌, codes, sym, subst, ap, ◌∙◌}
use Rattle.std.specs.Str.{IsUtf8}
use Rattle.utf8_reports.specs.Fields.{field_line}
use Rattle.utf8_reports.proofs.Adding.{recipient-put}
use Rattle.utf8_reports.proofs.AddressTexts.{text_utf8}
use Rattle.utf8_reports.proofs.recipients.push_recipient.Goals as goal

pub typed_address-requires : goal.typed_address-requires
typed_address-requires c =
    let is = c.as_slice.ensures ∙ c.in_ok-text.ensures in
    subst IsUtf8 (sym is) (text_utf8 c.args.one.now.address c.requires.address)

pub returns : goal.returns
returns c =
    let text = c.as_slice.ensures ∙ c.in_ok-text.ensures in
    let typed = c.as_slice-2.ensures ∙ c.in_ok-typed.ensures in
    let status = c.in_ok-push_field-2.ensures ∙ ap (λ s. c.push_line.new.made ++ field_line (codes "Status: ") s) c.as_slice-3.ensures in
    recipient-put c.push_diagnostic.result c.args.global c.args.one.now c.as_slice.result.now c.as_slice-2.result.now c.args.made.now c.push_slice.new.self c.push_field.new.made
    c.push_line.new.made c.push_field-2.new.made c.push_diagnostic.new.made text typed c.in_ok-push_slice.ensures.ok c.in_ok-push_field.ensures c.in_ok-push_line.ensures status c.push_diagnostic.ensures
