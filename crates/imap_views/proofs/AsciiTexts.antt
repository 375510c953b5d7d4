-- What is made of ASCII texts is ASCII.
use Rattle.std.proofs.Common.{◌≡◌, ℕ, ◌==◌, Bool, true, false, ◌||◌, cond, List, [], ◌∷◌, Option, Some, None, IfSome, refl, filter}
use Rattle.std.proofs.lemmas.Bool.{and_parts, and_from}
use Rattle.std.specs.List.{list_all, flat_map, AllByRecursion}
use Rattle.mail_wire.specs.Octets.{is_ascii}
use Rattle.mail_wire.proofs.AllLemmas.{pass-append}
use Rattle.address_grammar.specs.Addresses.{quoted_octet, quoted_string}
use Rattle.imap_views.specs.Strings.{nstring, in_parentheses, spaced, listed, before_mark, after_mark}

abbrev pub AreAscii : List ℕ → Type 0
AreAscii octets = list_all is_ascii octets ≡ true

abbrev pub AreAllAscii : List (List ℕ) → Type 0
AreAllAscii texts = AllByRecursion AreAscii texts

pub ascii_flat : {A : Type 0} (test : A → Bool) (f : A → List ℕ) → ((a : A) → test a ≡ true → AreAscii (f a)) → (all : List A) → list_all test all ≡ true → AreAscii (flat_map f all)
ascii_flat test f each [] h = refl
ascii_flat test f each (a ∷ rest) h =
    let parts = and_parts (test a) (list_all test rest) h in
    pass-append is_ascii (f a) (flat_map f rest) (each a parts.0) (ascii_flat test f each rest parts.1)

pub pass_filter : {A : Type 0} (test kept : A → Bool) (all : List A) → list_all test all ≡ true → list_all test (filter kept all) ≡ true
pass_filter test kept [] h = refl
pass_filter test kept (a ∷ rest) h =
    let parts = and_parts (test a) (list_all test rest) h in
    by (kept a) parts.0 (pass_filter test kept rest parts.1)
  where
    by : (b : Bool) → test a ≡ true → list_all test (filter kept rest) ≡ true → list_all test (cond b (a ∷ filter kept rest) (filter kept rest)) ≡ true
    by true first more = and_from (test a) (list_all test (filter kept rest)) first more
    by false first more = more

-- ---- strings

octet_ascii : (x : ℕ) → is_ascii x ≡ true → AreAscii (quoted_octet x)
octet_ascii x h = by ((x == 34) || (x == 92))
  where
    by : (b : Bool) → AreAscii (cond b (92 ∷ x ∷ []) (x ∷ []))
    by true = and_from (is_ascii x) true h refl
    by false = and_from (is_ascii x) true h refl

pub quoted_ascii : (content : List ℕ) → AreAscii content → AreAscii (quoted_string content)
quoted_ascii content h = pass-append is_ascii (flat_map quoted_octet content) (34 ∷ []) (ascii_flat is_ascii quoted_octet octet_ascii content h) refl

pub nstring_ascii : (text : Option (List ℕ)) → IfSome text AreAscii → AreAscii (nstring text)
nstring_ascii None h = refl
nstring_ascii (Some text) h = quoted_ascii text h

pub parentheses_ascii : (text : List ℕ) → AreAscii text → AreAscii (in_parentheses text)
parentheses_ascii text h = pass-append is_ascii text (41 ∷ []) h refl

pub spaced_ascii : (texts : List (List ℕ)) → AreAllAscii texts → AreAscii (spaced texts)
unfolding spaced
spaced_ascii [] h = refl
spaced_ascii (text ∷ []) h = h.0
spaced_ascii (text ∷ next ∷ texts) h = pass-append is_ascii text (32 ∷ spaced (next ∷ texts)) h.0 (spaced_ascii (next ∷ texts) h.1)

-- texts with spaces between them, in parentheses
pub form_ascii : (texts : List (List ℕ)) → AreAllAscii texts → AreAscii (in_parentheses (spaced texts))
form_ascii texts h = parentheses_ascii (spaced texts) (spaced_ascii texts h)

pub listed_ascii : (texts : List (List ℕ)) → AreAllAscii texts → AreAscii (listed texts)
listed_ascii [] h = refl
listed_ascii (text ∷ texts) h = form_ascii (text ∷ texts) h

pub before_ascii : (mark : ℕ) (octets : List ℕ) → AreAscii octets → AreAscii (before_mark mark octets)
unfolding before_mark
before_ascii mark [] h = refl
before_ascii mark (x ∷ octets) h =
    let parts = and_parts (is_ascii x) (list_all is_ascii octets) h in
    by (x == mark) parts.0 (before_ascii mark octets parts.1)
  where
    by : (b : Bool) → is_ascii x ≡ true → AreAscii (before_mark mark octets) → AreAscii (cond b [] (x ∷ before_mark mark octets))
    by true first more = refl
    by false first more = and_from (is_ascii x) (list_all is_ascii (before_mark mark octets)) first more

pub following_ascii : (mark : ℕ) (octets : List ℕ) → AreAscii octets → AreAscii (after_mark mark octets)
unfolding after_mark
following_ascii mark [] h = refl
following_ascii mark (x ∷ octets) h =
    let rest = (and_parts (is_ascii x) (list_all is_ascii octets) h).1 in
    by (x == mark) rest (following_ascii mark octets rest)
  where
    by : (b : Bool) → AreAscii octets → AreAscii (after_mark mark octets) → AreAscii (cond b octets (after_mark mark octets))
    by true rest more = rest
    by false rest more = more
