-- What strings begin with, and what follows them.
use Rattle.std.proofs.Common.{◌≡◌, ℕ, ◌≤◌, Bool, List, [], ◌∷◌, ◌++◌, length, inl, inr, refl, sym, ap, ◌∙◌, subst, arith}
use Rattle.imap_words.specs.Languages.{Then, Or, Is, IsBetween, IsViable}
use Rattle.imap_words.specs.Reading.{BeginsIn, never, always, Reads, StopsReading, FailsAt}
use Rattle.imap_words.specs.declared.stop.Stop.{Stop}
use Rattle.imap_words.specs.declared.tokens.Kind.{Kind}
use Rattle.imap_words.specs.declared.tokens.Kind.TheVariants.{Astring, ListMailbox, NameAstring}
use Rattle.imap_words.specs.Going.{Continues}
use Rattle.imap_words.specs.Tokens.{IsRunOf, passes, is_atom_char, is_astring_char, is_list_char, is_name_char}
use Rattle.imap_words.specs.Strings.{HeadValue, whole, literal, IsHeader, IsQuoted, after_head, BeginsNoString}
use Rattle.imap_words.proofs.Passing.{no_octets}
use Rattle.imap_words.proofs.Composing.{NeverAt, fails_first}
use Rattle.imap_words.proofs.RunSteps.{run_never}
use Rattle.imap_words.proofs.Going.{and_then, then_viable, is_viable, left_continues, right_continues, then_never}
use Rattle.imap_words.proofs.Choosing.{seq_never, mapped_reads, mapped_stops}

-- ---- an octet from one to another

pub between_viable : (low high : ℕ) → low ≤ high → IsViable (IsBetween low high) []
between_viable low high order = record { rest = low ∷ []; value = low; is_word = record { is = refl; from = omega arith; to = order } }

pub between_more : (low high : ℕ) (text : List ℕ) → low ≤ high → length text ≡ 0 → IsViable (IsBetween low high) text
between_more low high text order e = subst (λ z. IsViable (IsBetween low high) z) (sym (no_octets text e)) (between_viable low high order)

pub between_never : (low high x : ℕ) → (low ≤ x → x ≤ high → ⊥) → NeverAt (IsBetween low high) x
between_never low high x none a b v more is e =
    let same : v ≡ x = cc (sym (ap (λ z. z ++ b) is.is) ∙ e) in
    none (subst (λ z. low ≤ z) same is.from) (subst (λ z. z ≤ high) same is.to)

pub between_fails : (low high : ℕ) (text : List ℕ) (x : ℕ) (xs : List ℕ) → low ≤ high → text ≡ x ∷ xs → (low ≤ x → x ≤ high → ⊥) → FailsAt (IsBetween low high) never text (length text)
between_fails low high text x xs order e none = rw e (fails_first (IsBetween low high) never x xs (between_viable low high order) (between_never low high x none))

-- ---- the head of a string

-- a run of a kind, a string in quotes, or the front of a literal
abbrev pub Heads : (List ℕ → List ℕ → Type 0) → (List ℕ → ℕ → Type 0) → Kind → List ℕ → HeadValue → Type 0
Heads Q H kind = Or (Then (IsRunOf (passes kind)) (λ v. Is (whole v))) (Or (Then Q (λ v. Is (whole v))) (Then H (λ n. Is (literal n))))

pub quoted_never : (utf8 : Bool) (x : ℕ) → (x ≡ 34 → ⊥) → NeverAt (IsQuoted utf8) x
quoted_never utf8 x other a b v more is e = other (cc (sym (ap (λ z. z ++ b) is.spelled) ∙ e))

pub header_never : (x : ℕ) → (x ≡ 123 → ⊥) → NeverAt IsHeader x
header_never x other = then_never 123 x _ other

module _ (Q : List ℕ → List ℕ → Type 0) (H : List ℕ → ℕ → Type 0) (kind : Kind) where
  pub head_viable : IsViable H [] → IsViable (Heads Q H kind) []
  head_viable some =
      let all = then_viable H (λ n. Is (literal n)) some (λ n. is_viable (literal n)) in
      record { rest = all.rest; value = all.value; is_word = inr (inr all.is_word) }

  pub head_more : IsViable H [] → (text : List ℕ) → length text ≡ 0 → IsViable (Heads Q H kind) text
  head_more some text e = subst (λ z. IsViable (Heads Q H kind) z) (sym (no_octets text e)) (head_viable some)

  module _ (q_never : (x : ℕ) → (x ≡ 34 → ⊥) → NeverAt Q x) (h_never : (x : ℕ) → (x ≡ 123 → ⊥) → NeverAt H x) (starts : BeginsNoString kind) (text : List ℕ) (x : ℕ) (xs : List ℕ) (e : text ≡ x ∷ xs) where
    head_literal : x ≡ 123 → Continues (Heads Q H kind) text (Then H (λ n. Is (literal n))) text
    head_literal brace =
        subst (λ z. Continues (Heads Q H kind) z (Then H (λ n. Is (literal n))) z) (sym (e ∙ ap (λ z. z ∷ xs) brace))
        (and_then _ _ _ _ _ _ (right_continues (Then (IsRunOf (passes kind)) (λ v. Is (whole v))) _ 123 xs (seq_never (IsRunOf (passes kind)) _ 123 (run_never kind 123 starts.0)))
        (right_continues (Then Q (λ v. Is (whole v))) (Then H (λ n. Is (literal n))) 123 xs (seq_never Q _ 123 (q_never 123 (λ bad. omega (arith, bad))))))

    head_quoted : x ≡ 34 → Continues (Heads Q H kind) text (Then Q (λ v. Is (whole v))) text
    head_quoted quote =
        subst (λ z. Continues (Heads Q H kind) z (Then Q (λ v. Is (whole v))) z) (sym (e ∙ ap (λ z. z ∷ xs) quote))
        (and_then _ _ _ _ _ _ (right_continues (Then (IsRunOf (passes kind)) (λ v. Is (whole v))) _ 34 xs (seq_never (IsRunOf (passes kind)) _ 34 (run_never kind 34 starts.1)))
        (left_continues (Then Q (λ v. Is (whole v))) (Then H (λ n. Is (literal n))) 34 xs (seq_never H _ 34 (h_never 34 (λ bad. omega (arith, bad))))))

    head_plain : (x ≡ 123 → ⊥) → (x ≡ 34 → ⊥) → Continues (Heads Q H kind) text (Then (IsRunOf (passes kind)) (λ v. Is (whole v))) text
    head_plain no_brace no_quote =
        subst (λ z. Continues (Heads Q H kind) z (Then (IsRunOf (passes kind)) (λ v. Is (whole v))) z) (sym e)
        (left_continues (Then (IsRunOf (passes kind)) (λ v. Is (whole v))) (Or (Then Q (λ v. Is (whole v))) (Then H (λ n. Is (literal n)))) x xs never_at)
      where
        never_at : NeverAt (Or (Then Q (λ v. Is (whole v))) (Then H (λ n. Is (literal n)))) x
        never_at a b v more (inl quoted) same = seq_never Q (λ v. Is (whole v)) x (q_never x no_quote) a b v more quoted same
        never_at a b v more (inr header) same = seq_never H (λ n. Is (literal n)) x (h_never x no_brace) a b v more header same

    never_over : (u : ℕ) (b : List ℕ) → BeginsIn (never u) b → BeginsIn (after_head kind (literal u)) b
    never_over u [] h = h
    never_over u (y ∷ b) h = h

    quoted_over : (u b : List ℕ) → BeginsIn (never u) b → BeginsIn (after_head kind (whole u)) b
    quoted_over u [] h = absurd h
    quoted_over u (y ∷ b) h = cc h

    pub literal_stops : (stop : Stop) → x ≡ 123 → StopsReading H never text stop → StopsReading (Heads Q H kind) (after_head kind) text stop
    literal_stops stop brace stops = (head_literal brace).stops (after_head kind) stop (mapped_stops H literal never (after_head kind) text stop never_over stops)

    pub literal_reads : (n : ℕ) (rest : List ℕ) → x ≡ 123 → Reads H never text n rest → Reads (Heads Q H kind) (after_head kind) text (literal n) rest
    literal_reads n rest brace r = (head_literal brace).reads (after_head kind) (literal n) rest (mapped_reads H literal never (after_head kind) text rest n never_over r)

    pub quoted_stops : (stop : Stop) → x ≡ 34 → StopsReading Q never text stop → StopsReading (Heads Q H kind) (after_head kind) text stop
    quoted_stops stop quote stops = (head_quoted quote).stops (after_head kind) stop (mapped_stops Q whole never (after_head kind) text stop quoted_over stops)

    pub quoted_reads : (v rest : List ℕ) → x ≡ 34 → Reads Q never text v rest → Reads (Heads Q H kind) (after_head kind) text (whole v) rest
    quoted_reads v rest quote r = (head_quoted quote).reads (after_head kind) (whole v) rest (mapped_reads Q whole never (after_head kind) text rest v quoted_over r)

    pub plain_stops : (stop : Stop) → (x ≡ 123 → ⊥) → (x ≡ 34 → ⊥) → StopsReading (IsRunOf (passes kind)) (always (passes kind)) text stop → StopsReading (Heads Q H kind) (after_head kind) text stop
    plain_stops stop b q stops = (head_plain b q).stops (after_head kind) stop (mapped_stops (IsRunOf (passes kind)) whole (always (passes kind)) (after_head kind) text stop (λ u b h. h) stops)

    pub plain_reads : (v rest octets : List ℕ) → (x ≡ 123 → ⊥) → (x ≡ 34 → ⊥) → Reads (IsRunOf (passes kind)) (always (passes kind)) text v rest → octets ≡ v → Reads (Heads Q H kind) (after_head kind) text (whole octets) rest
    plain_reads v rest octets b q r same =
        subst (λ z. Reads (Heads Q H kind) (after_head kind) text (whole z) rest) (sym same)
        ((head_plain b q).reads (after_head kind) (whole v) rest (mapped_reads (IsRunOf (passes kind)) whole (always (passes kind)) (after_head kind) text rest v (λ u b h. h) r))

pub astring_starts : BeginsNoString Astring
unfolding is_atom_char is_astring_char
astring_starts = (refl, refl)

pub list_starts : BeginsNoString ListMailbox
unfolding is_atom_char is_list_char
list_starts = (refl, refl)

pub name_starts : BeginsNoString NameAstring
unfolding is_atom_char is_astring_char is_name_char
name_starts = (refl, refl)
