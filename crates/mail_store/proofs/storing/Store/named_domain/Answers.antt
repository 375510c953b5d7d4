use Rattle.std.proofs.Common.{◌≡◌, None, Some, length, sym, ap, subst, ◌∙◌, arith}
use Rattle.std.specs.Prelude.{is_some}
use Rattle.mail_store.specs.declared.changing.StoreFault.TheVariants as faults
use Rattle.mail_store.specs.Changing.{domain_refusal}
use Rattle.kept_mail.specs.Records.{are_too_many}
use Rattle.kept_mail.specs.private.Names.{number_named}
use Rattle.mail_store.specs.private.Store.{kept_of, indexes_of}
use Rattle.mail_store.proofs.DomainLemmas.{writable-domain, found_domain, domain_exists, domain_many, domain_taken}
use Rattle.mail_store.proofs.storing.Store.named_domain.Goals as goal

pub returns-then-is_some-clause-refusal : goal.returns-then-is_some-clause-refusal
returns-then-is_some-clause-refusal c =
    let found = found_domain (kept_of c.self.inside) (indexes_of c.self.inside) c.args.domain.now c.in_ok-name.name c.self.invariant.indexes c.in_ok-name.ensures in
    let here = c.is_some.ensures ∙ ap (λ o. is_some o) (c.number_of.ensures ∙ ap (number_named c.self.inside.locals) c.as_slice.ensures) ∙ found in
    subst (λ s. domain_refusal s.kept c.args.domain.now ≡ Some faults.Exists) c.self.view_is (domain_exists (kept_of c.self.inside) c.args.domain.now (sym here ∙ c.if-is_some.true))

pub returns-then-are_too_many-clause-refusal : goal.returns-then-are_too_many-clause-refusal
returns-then-are_too_many-clause-refusal c =
    let found = found_domain (kept_of c.self.inside) (indexes_of c.self.inside) c.args.domain.now c.in_ok-name.name c.self.invariant.indexes c.in_ok-name.ensures in
    let here = c.is_some.ensures ∙ ap (λ o. is_some o) (c.number_of.ensures ∙ ap (number_named c.self.inside.locals) c.as_slice.ensures) ∙ found in
    let number : c.len-number.result ≡ length c.self.inside.domains.items = omega (arith, c.len-number.ensures) in
    let many = ap (λ n. are_too_many n 1) (sym number) ∙ sym c.are_too_many.ensures ∙ c.if-are_too_many.true in
    subst (λ s. domain_refusal s.kept c.args.domain.now ≡ Some faults.TooLarge) c.self.view_is
    (domain_many (kept_of c.self.inside) c.args.domain.now (sym here ∙ c.if-is_some.false) many)

pub domain_text-requires : goal.domain_text-requires
domain_text-requires c = writable-domain c.args.domain.now c.as_slice-2.result.now c.requires (c.as_slice-2.ensures ∙ c.in_ok-name.ensures)

pub returns-clause-refusal : goal.returns-clause-refusal
returns-clause-refusal c =
    let found = found_domain (kept_of c.self.inside) (indexes_of c.self.inside) c.args.domain.now c.in_ok-name.name c.self.invariant.indexes c.in_ok-name.ensures in
    let here = c.is_some.ensures ∙ ap (λ o. is_some o) (c.number_of.ensures ∙ ap (number_named c.self.inside.locals) c.as_slice.ensures) ∙ found in
    let number : c.len-number.result ≡ length c.self.inside.domains.items = omega (arith, c.len-number.ensures) in
    let few = ap (λ n. are_too_many n 1) (sym number) ∙ sym c.are_too_many.ensures ∙ c.if-are_too_many.false in
    subst (λ s. domain_refusal s.kept c.args.domain.now ≡ None) c.self.view_is (domain_taken (kept_of c.self.inside) c.args.domain.now (sym here ∙ c.if-is_some.false) few)
