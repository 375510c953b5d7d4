-- What a command's words say, and what that leaves to the others.
use Rattle.std.proofs.Common.{◌≡◌, ℕ, List, [], ◌∷◌, Option, refl, sym, subst, ◌∙◌, inl, inr, codes, arith}
use Rattle.mail_wire.specs.WireState.{WireState}
use Rattle.mail_wire.proofs.Moving.{Gives-nil, GivesPrefix-nil}
use Rattle.address_grammar.specs.declared.Address.{Address}
use Rattle.kept_mail.specs.Kept.{Kept}
use Rattle.mail_store.specs.declared.changing.StoreFault.{StoreFault}
use Rattle.journal_records.specs.declared.records.Record.{Record}
use Rattle.session_core.proofs.CaughtLemmas.{left_alone}
use Rattle.setup_command.specs.AddingRuns.{RunsAdding, Broken, InJournal}
use Rattle.setup_command.specs.WordForms.{IsAccountByInput, IsAccountCommand, IsDomainCommand}
use Rattle.setup_command.proofs.FormLemmas.{account_once, by_input_once}
use Rattle.mail_command.specs.Passwords.{RunsByInput, Untaken}
use Rattle.mail_command.specs.Running.{BrokenOff, RefusesWords, words_refused}
use Rattle.mail_command.proofs.TakingLemmas.{Takes-nil}
use Rattle.mail_command.specs.Words.{IsNoCommand, IsRelayCommand, OpensJournal, OfSession, OfAccount, OfDomain, OfRelay}
use Rattle.mail_command.proofs.WordsLemmas.{differ_first, fewer}

third_same : (s t p q : List ℕ) → codes "account" ∷ s ∷ p ∷ [] ≡ codes "account" ∷ t ∷ q ∷ [] → p ≡ q
third_same s t p q same = cc

second_same : (first a b : List ℕ) → first ∷ a ∷ [] ≡ first ∷ b ∷ [] → a ≡ b
second_same first a b same = cc

-- what holds of what the words of `account` were read as holds of whatever they say
pub account_at : (P : Address → List ℕ → Type 0) (words : List (List ℕ)) (a b : Address) (p q : List ℕ) → IsAccountCommand words a p → IsAccountCommand words b q → P a p → P b q
account_at P words a b p q one other holds =
    subst (λ (x : Address). P x q) (account_once words a b p q one other)
    (subst (λ (y : List ℕ). P a y) (third_same one.text other.text p q (sym one.words_are ∙ other.words_are)) holds)

-- so where they say no password
pub by_input_at : (P : Address → Type 0) (words : List (List ℕ)) (a b : Address) → IsAccountByInput words a → IsAccountByInput words b → P a → P b
by_input_at P words a b one other holds = subst P (by_input_once words a b one other) holds

-- so for `domain`
pub domain_at : (P : List ℕ → Type 0) (words : List (List ℕ)) (a b : List ℕ) → IsDomainCommand words a → IsDomainCommand words b → P a → P b
domain_at P words a b one other holds = subst P (second_same (codes "domain") a b (sym one.words_are ∙ other.words_are)) holds

-- and for `relay`
pub relay_at : (P : List ℕ → Type 0) (words : List (List ℕ)) (a b : List ℕ) → IsRelayCommand words a → IsRelayCommand words b → P a → P b
relay_at P words a b one other holds = subst P (second_same (codes "relay") a b (sym one.words_are ∙ other.words_are)) holds

-- words of no command don't open the journal
pub none_opens : (words : List (List ℕ)) → IsNoCommand words → OpensJournal words → ⊥
none_opens words none (OfSession role is) = none.session role is
none_opens words none (OfAccount address password is) = none.account address password is
none_opens words none (OfDomain name is) = none.domain name is
none_opens words none (OfRelay host is) = none.relay host is

-- nor do those of `account` without a password, before they have it
pub by_input_opens : (words : List (List ℕ)) (address : Address) → IsAccountByInput words address → OpensJournal words → ⊥
by_input_opens words address one (OfSession role is) = fewer words _ _ is one.words_are (omega arith)
by_input_opens words address one (OfAccount other password is) = fewer words _ _ one.words_are is.words_are (omega arith)
by_input_opens words address one (OfDomain name is) = differ_first words _ _ one.words_are is.words_are (omega arith)
by_input_opens words address one (OfRelay host is) = differ_first words _ _ one.words_are is.words_are (omega arith)

-- memory was wanting for the words
pub not_begun : (refusal : Kept → Option StoreFault) (one : Record) (octets : Option (List ℕ)) (a : WireState) → RunsAdding refusal one octets octets a a 3
not_begun refusal one octets a = Broken (inl (inr refl)) (InJournal (Gives-nil a) (left_alone octets))

pub by_input_unbegun : (refusal : Kept → Option StoreFault) (one : List ℕ → Record) (octets : Option (List ℕ)) (a : WireState) → RunsByInput refusal one octets octets a a 3
by_input_unbegun refusal one octets a = Untaken (record { octets = []; takes = Takes-nil a; few = omega arith }) (inr refl) refl

pub refusal_unbegun : (a : WireState) → RefusesWords a a 3
refusal_unbegun a = BrokenOff (GivesPrefix-nil a words_refused) (inr refl)
