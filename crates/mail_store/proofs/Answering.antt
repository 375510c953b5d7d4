-- What the reading calls answer, from the indexes.
use Rattle.std.proofs.Common.{◌≡◌, ℕ, ◌+◌, ◌<◌, ◌≤◌, Bool, cond, eqb, List, [], ◌∷◌, length, get_or, reverse, Option, Some, refl, sym, ap, subst, ◌∙◌, arith, inl, inr}
use Rattle.std.specs.Prelude.{count_by}
use Rattle.std.specs.List.{All}
use Rattle.std.proofs.lemmas.Bool.{cases_Bool}
use Rattle.std.proofs.lemmas.List.{length-reverse}
use Rattle.std.proofs.lemmas.List.Elements.{All-from_recursion}
use Rattle.std.proofs.lemmas.List.Sums.{sum_by-cons, count_by-le-length}
use Rattle.std.proofs.lemmas.Option.{slice_get-get_or}
use Rattle.kept_mail.specs.declared.contents.Content.{Content}
use Rattle.kept_mail.specs.declared.limits.TheConstants.{THINGS_MAX}
use Rattle.kept_mail.specs.declared.kept.Message.{Message}
use Rattle.kept_mail.specs.private.Chains.{chain, content_at, empty_content}
use Rattle.kept_mail.specs.Kept.{Kept, numbers_in, uid_next}
use Rattle.mail_store.specs.StoreState.{Indexes, AreIndexes}
use Rattle.kept_mail.proofs.ChainLemmas.{chain_below}

abbrev is_in : ℕ → Message → Bool
is_in folder m = eqb m.folder folder

length-numbers_in : (folder at : ℕ) (ms : List Message) → length (numbers_in folder at ms) ≡ count_by (is_in folder) ms
length-numbers_in folder at [] = refl
length-numbers_in folder at (m ∷ ms) =
    let ih = length-numbers_in folder (at + 1) ms in
    let whole = sum_by-cons (λ (x : Message). cond (is_in folder x) 1 0) m ms in
    elim (cases_Bool (eqb m.folder folder)) [
      | inl same ↦ rw same (omega (arith, ih, rw same at whole))
      | inr other ↦ rw other (omega (arith, ih, rw other at whole))
    ]

some_content : (a b : Content) → Some a ≡ Some b → a ≡ b
some_content a b e = cc

-- what stands at a folder's place is its content
pub content_is : (contents : List Content) (folder : ℕ) (content : Content) → folder < length contents → content ≡ get_or contents folder content → content ≡ content_at contents folder
content_is contents folder content within is = is ∙ some_content _ _ (sym (slice_get-get_or contents folder content within) ∙ slice_get-get_or contents folder empty_content within)

pub uid_is : (kept : Kept) (i : Indexes) (folder : ℕ) (content : Content) → AreIndexes kept i → folder < length kept.folders → content ≡ get_or i.contents folder content
    → (content.count + 1 ≡ uid_next kept folder) × (content.count ≤ THINGS_MAX)
uid_is kept i folder content h there is =
    let its : content ≡ content_at i.contents folder = content_is i.contents folder content (omega (arith, h.folder_count)) is in
    let count : content.count ≡ count_by (is_in folder) kept.messages = ap (λ (c : Content). c.count) its ∙ h.chained.count_is folder ∙ length-numbers_in folder 0 kept.messages in
    (ap (λ (n : ℕ). n + 1) count, omega (arith, count, count_by-le-length (is_in folder) kept.messages, h.few.messages))

-- a folder's chain is as long as its count, names messages, and has the numbers of its messages
pub record IsFolderChain (kept : Kept) (folder : ℕ) (previous : List (Option ℕ)) (content : Content) : Type 0 where
  pub count : length (chain content.count previous content.last) ≡ content.count
  pub known : All (λ id. id < length kept.messages) (chain content.count previous content.last)
  pub numbers : chain content.count previous content.last ≡ reverse (numbers_in folder 0 kept.messages)

pub folder_chain : (kept : Kept) (i : Indexes) (folder : ℕ) (content : Content) → AreIndexes kept i → folder < length kept.folders → content ≡ get_or i.contents folder content → IsFolderChain kept folder i.previous content
folder_chain kept i folder content h there is =
    let its : content ≡ content_at i.contents folder = content_is i.contents folder content (omega (arith, h.folder_count)) is in
    let at = content_at i.contents folder in
    let below = All-from_recursion (λ (id : ℕ). id < length i.previous) (chain at.count i.previous at.last) (chain_below kept.messages i.contents i.previous folder h.chained) in
    let numbers = h.chained.chain_is folder in
    subst (IsFolderChain kept folder i.previous) (sym its) (record {
      count = ap length numbers ∙ length-reverse (numbers_in folder 0 kept.messages) ∙ sym (h.chained.count_is folder);
      known = subst (λ (n : ℕ). All (λ id. id < n) (chain at.count i.previous at.last)) h.chained.len below;
      numbers = numbers;
    })
