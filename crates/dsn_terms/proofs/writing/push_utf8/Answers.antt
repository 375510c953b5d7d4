use Rattle.std.proofs.Common.{codes, ◌∙◌}
use Rattle.encapsulated_fields.specs.AddressForms.{xtext_form}
use Rattle.dsn_terms.proofs.WrittenTerms.{put-behind, same-put}
use Rattle.dsn_terms.proofs.writing.push_utf8.Goals as goal

pub returns : goal.returns
returns c =
    put-behind c.push_slice-2.result c.args.text.now (codes " ORCPT=utf-8;") (xtext_form c.args.address.now) c.push_slice.new.self c.push_slice-2.new.self c.in_ok-push_slice.ensures.ok
    (same-put c.push_slice-2.result c.push_slice.new.self c.as_slice.result.now (xtext_form c.args.address.now) c.push_slice-2.new.self (c.as_slice.ensures ∙ c.in_ok-form.ensures.form) c.push_slice-2.ensures.ok)
