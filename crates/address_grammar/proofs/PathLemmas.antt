-- A path is read in one way.
use Rattle.std.proofs.Common.{◌≡◌, ℕ, true, false, List, ◌∷◌, ◌++◌, Option, Some, None, Result, Err, refl, sym, ap, ◌∙◌, arith}
use Rattle.std.proofs.lemmas.Bool.{both_ways}
use Rattle.field_tokens.specs.declared.Style.TheVariants.{Mail}
use Rattle.field_tokens.specs.Tokens.{TokenValue}
use Rattle.field_tokens.proofs.TokenLists.{AreTokens-once}
use Rattle.address_grammar.specs.declared.Address.{Address}
use Rattle.address_grammar.specs.declared.AddressFault.{AddressFault}
use Rattle.address_grammar.specs.declared.AddressFault.TheVariants.{Malformed, Memory}
use Rattle.address_grammar.specs.private.Lexemes.{HasMailTokens, lacks_special, are_blank, SplitsAt}
use Rattle.address_grammar.specs.Addresses.{IsAddress}
use Rattle.address_grammar.specs.Paths.{IsFirstAngled, IsPathOf, IsPath, HasPath}
use Rattle.address_grammar.proofs.LexemeLemmas.{blank_lacks, cut_once, not_lacking}
use Rattle.address_grammar.proofs.AddressLemmas.{IsAddress-once, address_lacks, address_missing}

pub HasTokenValues-once : (text : List ℕ) (ts us : List TokenValue) → HasMailTokens text ts → HasMailTokens text us → ts ≡ us
HasTokenValues-once text ts us p q = AreTokens-once Mail text ts us p.are_tokens q.are_tokens

pub angled_made : (ts before following inner after : List TokenValue) → SplitsAt 60 ts before following → SplitsAt 62 following inner after → are_blank after ≡ true → IsFirstAngled ts before inner
angled_made ts before following inner after opens closes_it blank = record {
  angled = record {
    open_mark = opens.at;
    close_mark = closes_it.at;
    after = after;
    whole = opens.whole ∙ ap (λ r. before ++ opens.at ∷ r) closes_it.whole;
    opens = opens.is_at;
    closes = closes_it.is_at;
    following = blank;
  };
  first_open = opens.first;
  first_close = closes_it.first;
}

pub no_open : (ts before inner : List TokenValue) → lacks_special 60 ts ≡ true → IsFirstAngled ts before inner → ⊥
no_open ts before inner l is = not_lacking 60 before (inner ++ is.angled.close_mark ∷ is.angled.after) is.angled.open_mark is.angled.opens (rw (is.angled.whole) at l)

pub no_close : (ts front following before inner : List TokenValue) → SplitsAt 60 ts front following → lacks_special 62 following ≡ true → IsFirstAngled ts before inner → ⊥
no_close ts front following before inner splits l is =
    let cut = cut_once 60 front before splits.at is.angled.open_mark following (inner ++ is.angled.close_mark ∷ is.angled.after) splits.first is.first_open splits.is_at is.angled.opens (sym splits.whole ∙ is.angled.whole) in
    not_lacking 62 inner is.angled.after is.angled.close_mark is.angled.closes (rw (cut.rest) at l)

-- the brackets are the first ones
pub record SameAngles (a b x y p q : List TokenValue) : Type 0 where
  pub before : a ≡ b
  pub inner : x ≡ y
  pub after : p ≡ q

pub angles_once : (ts a b x y : List TokenValue) (p : IsFirstAngled ts a x) (q : IsFirstAngled ts b y) → SameAngles a b x y p.angled.after q.angled.after
angles_once ts a b x y p q =
    let first = cut_once 60 a b p.angled.open_mark q.angled.open_mark (x ++ p.angled.close_mark ∷ p.angled.after) (y ++ q.angled.close_mark ∷ q.angled.after)
    p.first_open q.first_open p.angled.opens q.angled.opens (sym p.angled.whole ∙ q.angled.whole) in
    let second = cut_once 62 x y p.angled.close_mark q.angled.close_mark p.angled.after q.angled.after p.first_close q.first_close p.angled.closes q.angled.closes first.rest in
    record { before = first.front; inner = second.front; after = second.rest }

pub something_after : (ts front following inner after before within : List TokenValue) → SplitsAt 60 ts front following → SplitsAt 62 following inner after → are_blank after ≡ false
    → IsFirstAngled ts before within → ⊥
something_after ts front following inner after before within opens closes_it not_blank is =
    let first = cut_once 60 front before opens.at is.angled.open_mark following (within ++ is.angled.close_mark ∷ is.angled.after) opens.first is.first_open opens.is_at is.angled.opens (sym opens.whole ∙ is.angled.whole) in
    let second = cut_once 62 inner within closes_it.at is.angled.close_mark after is.angled.after closes_it.first is.first_close closes_it.is_at is.angled.closes (sym closes_it.whole ∙ first.rest) in
    let blank : are_blank after ≡ true = rw (second.rest) is.angled.following in
    absurd (cc (sym not_blank ∙ blank))

path_lacks : (ts : List TokenValue) (answer : Option Address) → IsPathOf ts answer → lacks_special 62 ts ≡ true
path_lacks ts None h = blank_lacks 62 ts h
path_lacks ts (Some a) h = address_lacks 62 ts a (λ e. omega (arith, e)) (λ e. omega (arith, e)) h

pub path_angles : (ts : List TokenValue) (answer : Option Address) → (is : IsPath ts answer) → IsFirstAngled ts is.before is.inner
path_angles ts answer is = record { angled = is.angled; first_open = blank_lacks 60 is.before is.nothing_before; first_close = path_lacks is.inner answer is.holds }

pub not_blank_address : (ts : List TokenValue) (a : Address) → are_blank ts ≡ true → IsAddress ts a → ⊥
not_blank_address ts a h is = address_missing ts a (blank_lacks 64 ts h) is

IsPathOf-once : (ts : List TokenValue) (a b : Option Address) → IsPathOf ts a → IsPathOf ts b → a ≡ b
IsPathOf-once ts None None p q = refl
IsPathOf-once ts None (Some b) p q = absurd (not_blank_address ts b p q)
IsPathOf-once ts (Some a) None p q = absurd (not_blank_address ts a q p)
IsPathOf-once ts (Some a) (Some b) p q = ap Some (IsAddress-once ts a b p q)

pub IsPath-once : (ts : List TokenValue) (a b : Option Address) → IsPath ts a → IsPath ts b → a ≡ b
IsPath-once ts a b p q =
    let same = angles_once ts p.before q.before p.inner q.inner (path_angles ts a p) (path_angles ts b q) in
    IsPathOf-once p.inner a b p.holds (rw (same.inner) q.holds)

pub HasPath-once : (text : List ℕ) (a b : Option Address) → HasPath text a → HasPath text b → a ≡ b
HasPath-once text a b p q =
    let same = HasTokenValues-once text p.tokens q.tokens p.has_tokens q.has_tokens in
    IsPath-once p.tokens a b p.is_path (rw (same) q.is_path)

-- what a text's tokens say of its paths
pub path_of_tokens : (text : List ℕ) (ts : List TokenValue) (answer : Option Address) → HasMailTokens text ts → HasPath text answer → IsPath ts answer
path_of_tokens text ts answer has path = rw (HasTokenValues-once text ts path.tokens has path.has_tokens) path.is_path

-- what is known of a path whose first brackets are known
pub record KnownPath (before inner : List TokenValue) (answer : Option Address) : Type 0 where
  pub nothing_before : are_blank before ≡ true
  pub holds : IsPathOf inner answer

pub path_known : (text : List ℕ) (ts before inner : List TokenValue) (answer : Option Address) → HasMailTokens text ts → IsFirstAngled ts before inner → HasPath text answer → KnownPath before inner answer
path_known text ts before inner answer has first path =
    let is = path_of_tokens text ts answer has path in
    let same = angles_once ts before is.before inner is.inner first (path_angles ts answer is) in
    record { nothing_before = rw (same.before) is.nothing_before; holds = rw (same.inner) is.holds }

pub path_unangled : (text : List ℕ) (ts : List TokenValue) (answer : Option Address) → HasMailTokens text ts → ((before inner : List TokenValue) → IsFirstAngled ts before inner → ⊥) → HasPath text answer → ⊥
path_unangled text ts answer has none path = let is = path_of_tokens text ts answer has path in none is.before is.inner (path_angles ts answer is)

pub null_path : (before inner : List TokenValue) (answer : Option Address) → are_blank inner ≡ true → KnownPath before inner answer → None ≡ answer
null_path before inner answer blank known = IsPathOf-once inner None answer blank known.holds

pub address_path : (before inner : List TokenValue) (answer : Option Address) (a : Address) → IsAddress inner a → KnownPath before inner answer → Some a ≡ answer
address_path before inner answer a is known = IsPathOf-once inner (Some a) answer is known.holds

pub no_address_path : (before inner : List TokenValue) (answer : Option Address) → are_blank inner ≡ false → ((a : Address) → IsAddress inner a → ⊥) → KnownPath before inner answer → ⊥
no_address_path before inner None not_blank none known = absurd (both_ways (are_blank inner) not_blank known.holds)
no_address_path before inner (Some a) not_blank none known = none a known.holds

pub only_memory : (fault : AddressFault) → (fault ≡ Malformed → ⊥) → fault ≡ Memory
only_memory Malformed h = absurd (h refl)
only_memory Memory h = refl

-- an answer has one fault
pub fault_is : {T : Type 0} (r : Result T AddressFault) (f g : AddressFault) → r ≡ Err f → f ≡ g → r ≡ Err Malformed → g ≡ Malformed
fault_is r f g p q e = let same : f ≡ Malformed = cc (sym p ∙ e) in sym q ∙ same
