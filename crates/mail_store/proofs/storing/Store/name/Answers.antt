use Rattle.std.proofs.Common.{List, ℕ, IsUtf8, sym, subst}
use Rattle.std.specs.List.{All}
use Rattle.journal_records.specs.Addresses.{IsDomainText}
use Rattle.mail_store.proofs.MailboxLemmas.{first_utf8}
use Rattle.mail_store.proofs.storing.Store.name.Goals as goal

pub domain_text-requires : goal.domain_text-requires
domain_text-requires c =
    let each = subst (λ (l : List (List ℕ)). All IsDomainText l) (sym c.deref.ensures.value) c.self.invariant.indexes.domains_are_texts in
    let at = c.in-Some.ensures.item.3 in
    subst IsUtf8 (sym c.as_slice.ensures) (first_utf8 c.deref.result.now c.in-Some.domain.now each at.0 (at.1 c.in-Some.domain.now))
