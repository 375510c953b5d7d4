-- What octets begin with.
use Rattle.std.proofs.Common.{◌≡◌, ℕ, ◌^◌, ◌<◌, ◌≤◌, ◌+◌, List, ◌++◌, length, take, drop, sym, ap, ◌∙◌, arith, refl, inl, inr, append_assoc, length-append, length-drop, length-take}
use Rattle.std.specs.Int.{w32, from_be_bytes}
use Rattle.std.proofs.lemmas.List.{take-append-drop}
use Rattle.std.proofs.lemmas.Nat.{be_bytes_4}
use Rattle.journal_records.specs.declared.limits.TheConstants.{RECORD_MAX}
use Rattle.journal_records.specs.Frames.{IsCutShort}
use Rattle.journal_records.specs.Spelling.{number, octet_list}
use Rattle.journal_records.specs.private.Reading.{number_at, list_at}
use Rattle.journal_records.proofs.Fields.{AreOctets, some_is, number_again, list_again}

-- two ways to begin with a number agree
pub number_once : (a b : ℕ) (x y : List ℕ) → a < 2 ^ 32 → b < 2 ^ 32 → number a ++ x ≡ number b ++ y → (a ≡ b) × (x ≡ y)
number_once a b x y fits_a fits_b e =
    let same = some_is (a, x) (b, y) (sym (number_again a x fits_a) ∙ ap number_at e ∙ number_again b y fits_b) in
    (ap (λ (p : ℕ × List ℕ). p.0) same, ap (λ (p : ℕ × List ℕ). p.1) same)

-- two ways to begin with a list agree
pub list_once : (a b x y : List ℕ) → length a < 2 ^ 32 → length b < 2 ^ 32 → octet_list a ++ x ≡ octet_list b ++ y → (a ≡ b) × (x ≡ y)
list_once a b x y fits_a fits_b e =
    let same = some_is (a, x) (b, y) (sym (list_again a x fits_a) ∙ ap list_at e ∙ list_again b y fits_b) in
    (ap (λ (p : List ℕ × List ℕ). p.0) same, ap (λ (p : List ℕ × List ℕ). p.1) same)

-- a length within the limit, and fewer octets than it says
pub cut_short : (front octets : List ℕ) (n : ℕ) → AreOctets front → length front ≡ 4 → n ≡ from_be_bytes w32 front → front ≡ take 4 octets
    → 0 < n → n ≤ RECORD_MAX → length octets < 4 + n → IsCutShort octets
cut_short front octets n fits four is begins some short less =
    let spelled : number n ≡ front = ap number is ∙ be_bytes_4 front _ four fits refl in
    let text : octets ≡ number n ++ drop 4 octets = sym (take-append-drop 4 octets) ∙ ap (λ (l : List ℕ). l ++ drop 4 octets) (sym begins ∙ sym spelled) in
    inr (n, drop 4 octets, some, short, omega (arith, length-drop 4 octets, length-take 4 octets, ap length begins), text)

-- a whole list is no prefix of a record
pub list_no_prefix : (body tail : List ℕ) → length body ≤ RECORD_MAX → IsCutShort (octet_list body ++ tail) → ⊥
list_no_prefix body tail short (inl few) = omega (arith, few, length-append body tail)
list_no_prefix body tail short (inr (m, held, some, least, less, text)) =
    let both = number_once (length body) m (body ++ tail) held (omega arith) (omega arith) (sym (append_assoc (number (length body)) body tail) ∙ text) in
    omega (arith, both.0, ap length both.1, length-append body tail)
