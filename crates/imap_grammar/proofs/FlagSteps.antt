-- The steps of reading flags.
use Rattle.std.proofs.Common.{◌≡◌, ℕ, ◌-◌, false, List, [], ◌∷◌, ◌++◌, length, take, drop, inl, refl, sym, ap, ◌∙◌, subst, append-nil, arith}
use Rattle.imap_words.specs.Languages.{Then, After, Or, Is, IsOctet, SaysItself, IsMoreThan, IsList, IsViable}
use Rattle.imap_words.specs.Reading.{always, never, BeginsIn, Reads, StopsReading}
use Rattle.imap_words.specs.Going.{Continues}
use Rattle.imap_words.specs.declared.stop.Stop.{Stop}
use Rattle.imap_words.specs.declared.stop.Stop.TheVariants.{More}
use Rattle.imap_words.specs.declared.tokens.Kind.TheVariants.{Atom}
use Rattle.imap_words.specs.Tokens.{IsImapAtom, IsSpace, IsOpenParenthesis, IsCloseParenthesis, IsCrlf, is_atom_char}
use Rattle.imap_words.proofs.Passing.{no_octets}
use Rattle.imap_words.proofs.Composing.{Avoids, NeverAt}
use Rattle.imap_words.proofs.TokenSteps.{octet_viable, octet_never}
use Rattle.imap_words.proofs.RunSteps.{run_viable, run_never}
use Rattle.imap_words.proofs.Going.{begins, onwards, and_then, ends_at, never_avoids, octet_avoids, then_never, then_viable, is_viable, is_reads, left_continues, right_continues}
use Rattle.imap_words.proofs.Choosing.{octet_at, seq_never, mapped_reads, mapped_stops, more_avoids, more_viable, list_next, list_separator, list_close, list_open}
use Rattle.imap_words.proofs.HeaderSteps.{crlf_viable}
use Rattle.imap_words.proofs.Starting.{or_never}
use Rattle.imap_words.proofs.Writing.{written_stops, written_split}
use Rattle.imap_words.proofs.Parting.{regroup, nothing_then, then_left, then_right, through_value, list_apart, list_joined, first_same, mapped_end}
use Rattle.imap_grammar.specs.declared.flags.Bits.{Bits}
use Rattle.imap_grammar.specs.Flags.{IsFlag, IsFlagList, IsFlagsToEnd, AreFlags, HasFlags, EndsFlags, IsBits, flags_of}

-- ---- a flag

pub space_ends : is_atom_char 32 ≡ false
unfolding is_atom_char
space_ends = refl

pub backslash_ends : is_atom_char 92 ≡ false
unfolding is_atom_char
backslash_ends = refl

pub open_ends : is_atom_char 40 ≡ false
unfolding is_atom_char
open_ends = refl

pub close_ends : EndsFlags 41
unfolding is_atom_char
close_ends = (refl, λ e. omega (arith, e))

pub return_ends : EndsFlags 13
unfolding is_atom_char
return_ends = (refl, λ e. omega (arith, e))

abbrev pub Escaped : List ℕ → List ℕ → Type 0
Escaped = After (IsOctet 92) IsImapAtom

escaped_never : (x : ℕ) → (x ≡ 92 → ⊥) → NeverAt (SaysItself Escaped) x
escaped_never x other a b v more is e = then_never 92 x (λ _. IsImapAtom) other a b is.says more is.is_word e

flag_never : (x : ℕ) → is_atom_char x ≡ false → (x ≡ 92 → ⊥) → NeverAt IsFlag x
flag_never x none other = or_never IsImapAtom (SaysItself Escaped) x (run_never Atom x none) (escaped_never x other)

pub flag_viable : IsViable IsFlag []
flag_viable = let some = run_viable Atom in record { rest = some.rest; value = some.value; is_word = inl some.is_word }

pub flag_more : (text : List ℕ) → length text ≡ 0 → IsViable IsFlag text
flag_more text e = subst (λ z. IsViable IsFlag z) (sym (no_octets text e)) flag_viable

module _ (text : List ℕ) (x : ℕ) (xs : List ℕ) (e : text ≡ x ∷ xs) where
  plain : (x ≡ 92 → ⊥) → Continues IsFlag text IsImapAtom text
  plain other = subst (λ z. Continues IsFlag z IsImapAtom z) (sym e) (left_continues IsImapAtom (SaysItself Escaped) x xs (escaped_never x other))

  pub plain_stops : (stop : Stop) → (x ≡ 92 → ⊥) → StopsReading IsImapAtom (always is_atom_char) text stop → StopsReading IsFlag (always is_atom_char) text stop
  plain_stops stop other stops = (plain other).stops (always is_atom_char) stop stops

  pub plain_reads : (v rest : List ℕ) → (x ≡ 92 → ⊥) → Reads IsImapAtom (always is_atom_char) text v rest → Reads IsFlag (always is_atom_char) text v rest
  plain_reads v rest other r = (plain other).reads (always is_atom_char) v rest r

  module _ (same : x ≡ 92) where
    escaped : Continues IsFlag text (SaysItself Escaped) text
    escaped = subst (λ z. Continues IsFlag z (SaysItself Escaped) z) (sym (e ∙ ap (λ z. z ∷ xs) same)) (right_continues IsImapAtom (SaysItself Escaped) 92 xs (run_never Atom 92 backslash_ends))

    following : Continues Escaped text IsImapAtom xs
    following = onwards (begins Escaped text) (octet_at text x 92 xs e same) (λ _. never_avoids _)

    pub escaped_stops : (stop : Stop) → StopsReading IsImapAtom (always is_atom_char) xs stop → StopsReading IsFlag (always is_atom_char) text stop
    escaped_stops stop stops = escaped.stops (always is_atom_char) stop (written_stops Escaped (always is_atom_char) (always is_atom_char) (λ u a b h. h) text stop (following.stops (always is_atom_char) stop stops))

    pub escaped_split : (v rest front back : List ℕ) → Reads IsImapAtom (always is_atom_char) xs v rest → front ≡ take (length text - length rest) text → back ≡ drop (length text - length rest) text → Reads IsFlag (always is_atom_char) text front back
    escaped_split v rest front back r f b =
        escaped.reads (always is_atom_char) front back (written_split Escaped (always is_atom_char) (always is_atom_char) (λ u a b h. h) text rest front back v (following.reads (always is_atom_char) v rest r) f b)

    pub escaped_shorter : (v rest : List ℕ) → Reads IsImapAtom (always is_atom_char) xs v rest → Reads Escaped (always is_atom_char) text v rest
    escaped_shorter v rest r = following.reads (always is_atom_char) v rest r

-- ---- flags up to an octet

-- such flags were read
pub record FlagsSoFar (close : ℕ) (text : List ℕ) (bits : Bits) (rest : List ℕ) : Type 0 where
  pub flags : List (List ℕ)
  pub is_bits : IsBits flags bits
  pub so : Continues (AreFlags close) text (IsMoreThan IsSpace IsFlag (IsOctet close) flags) rest

never_over : {V W : Type 0} (f : V → W) (u : V) (b : List ℕ) → BeginsIn (never u) b → BeginsIn (never (f u)) b
never_over f u [] h = h
never_over f u (y ∷ b) h = h

pub value_stops : (P : List ℕ → List (List ℕ) → Type 0) (text : List ℕ) (stop : Stop) → StopsReading P never text stop → StopsReading (HasFlags P) never text stop
value_stops P text stop stops = mapped_stops P flags_of never never text stop (never_over flags_of) stops

pub value_reads : (P : List ℕ → List (List ℕ) → Type 0) (text rest : List ℕ) (flags : List (List ℕ)) (v : ℕ) → Reads P never text flags rest → v ≡ flags_of flags → Reads (HasFlags P) never text v rest
value_reads P text rest flags v r e = subst (λ z. Reads (HasFlags P) never text z rest) (sym e) (mapped_reads P flags_of never never text rest flags (never_over flags_of) r)

module _ (close : ℕ) (ends : EndsFlags close) (text : List ℕ) where
  spaces_avoid : Avoids is_atom_char IsSpace
  spaces_avoid = octet_avoids is_atom_char 32 space_ends

  close_avoids : Avoids is_atom_char (IsOctet close)
  close_avoids = octet_avoids is_atom_char close ends.0

  follow_avoid : (begun : List (List ℕ)) → Avoids is_atom_char (IsMoreThan IsSpace IsFlag (IsOctet close) begun)
  follow_avoid begun = more_avoids IsSpace IsFlag (IsOctet close) is_atom_char begun spaces_avoid close_avoids

  follow_viable : (begun : List (List ℕ)) → IsViable (IsMoreThan IsSpace IsFlag (IsOctet close) begun) []
  follow_viable begun = more_viable IsSpace IsFlag (IsOctet close) begun (octet_viable close)

  pub first_flag_stops : (stop : Stop) → StopsReading IsFlag (always is_atom_char) text stop → StopsReading (HasFlags (AreFlags close)) never text stop
  first_flag_stops stop stops = value_stops (AreFlags close) text stop (ends_at (always is_atom_char) never stop (begins (AreFlags close) text) stops (λ u. follow_avoid (u ∷ [])) (λ u. follow_viable (u ∷ [])))

  pub first_flag_read : (name rest : List ℕ) (bits : Bits) → Reads IsFlag (always is_atom_char) text name rest → IsBits ([] ++ name ∷ []) bits → FlagsSoFar close text bits rest
  first_flag_read name rest bits r is = record { flags = name ∷ []; is_bits = is; so = onwards (begins (AreFlags close) text) r (λ u. follow_avoid (u ∷ [])) }

  module _ (bits : Bits) (rest : List ℕ) (far : FlagsSoFar close text bits rest) where
    pub flags_open : length rest ≡ 0 → StopsReading (HasFlags (AreFlags close)) never text More
    flags_open none = value_stops (AreFlags close) text More (list_open 32 IsFlag (IsOctet close) far.flags never far.so none (octet_viable close))

    module _ (x : ℕ) (others : List ℕ) (e : rest ≡ x ∷ others) where
      pub close_stops : (stop : Stop) → (x ≡ 32 → ⊥) → StopsReading (IsOctet close) never rest stop → StopsReading (HasFlags (AreFlags close)) never text stop
      close_stops stop other stops = value_stops (AreFlags close) text stop (ends_at never never stop (list_close 32 IsFlag (IsOctet close) far.flags x others far.so e other) stops (λ _. never_avoids _) (λ _. is_viable far.flags))

      pub close_reads : (following : List ℕ) (v : ℕ) → (x ≡ 32 → ⊥) → Reads (IsOctet close) never rest close following → v ≡ flags_of far.flags → Reads (HasFlags (AreFlags close)) never text v following
      close_reads following v other r is =
          value_reads (AreFlags close) text following far.flags v ((onwards (list_close 32 IsFlag (IsOctet close) far.flags x others far.so e other) r (λ _. never_avoids _)).reads never far.flags following (is_reads far.flags following)) is

      next_flag : x ≡ 32 → Continues (AreFlags close) text (Then IsFlag (λ u. IsMoreThan IsSpace IsFlag (IsOctet close) (far.flags ++ u ∷ []))) others
      next_flag same = list_separator 32 IsFlag (IsOctet close) far.flags x others far.so e same (octet_never close 32 (λ bad. ends.1 (sym bad)))

      pub next_flag_stops : (stop : Stop) → x ≡ 32 → StopsReading IsFlag (always is_atom_char) others stop → StopsReading (HasFlags (AreFlags close)) never text stop
      next_flag_stops stop same stops =
          value_stops (AreFlags close) text stop (ends_at (always is_atom_char) never stop (next_flag same) stops (λ u. follow_avoid (far.flags ++ u ∷ [])) (λ u. follow_viable (far.flags ++ u ∷ [])))

      pub next_flag_read : (name mid : List ℕ) (more : Bits) → x ≡ 32 → Reads IsFlag (always is_atom_char) others name mid → ((flags : List (List ℕ)) → IsBits flags bits → IsBits (flags ++ name ∷ []) more) → FlagsSoFar close text more mid
      next_flag_read name mid more same r with_name = record {
        flags = far.flags ++ name ∷ [];
        is_bits = with_name far.flags far.is_bits;
        so = list_next 32 IsFlag (IsOctet close) far.flags (next_flag same) r (λ _. spaces_avoid) (λ _. close_avoids) refl;
      }

-- ---- flags in parentheses

abbrev pub InList : List ℕ → List (List ℕ) → Type 0
InList = Or (After IsCloseParenthesis (Is [])) (AreFlags 41)

pub list_begins : (text : List ℕ) → Continues (HasFlags IsFlagList) text (After IsOpenParenthesis (HasFlags InList)) text
list_begins text = regroup IsOpenParenthesis (λ _. InList) (λ flags. Is (flags_of flags)) text

no_flags : flags_of [] ≡ 0
unfolding flags_of
no_flags = refl

pub in_list_viable : IsViable (HasFlags InList) []
in_list_viable = record {
  rest = 41 ∷ [];
  value = 0;
  is_word = record {
    value = [];
    front = 41 ∷ [];
    back = [];
    whole = refl;
    first = inl (record { value = 41; front = 41 ∷ []; back = []; whole = refl; first = (refl, refl); second = (refl, refl) });
    second = (refl, sym no_flags);
  };
}

pub flag_list_viable : IsViable (HasFlags IsFlagList) []
flag_list_viable = record {
  rest = 40 ∷ 41 ∷ [];
  value = 0;
  is_word = record {
    value = [];
    front = 40 ∷ 41 ∷ [];
    back = [];
    whole = refl;
    first = record {
      value = 40;
      front = 40 ∷ [];
      back = 41 ∷ [];
      whole = refl;
      first = (refl, refl);
      second = inl (record { value = 41; front = 41 ∷ []; back = []; whole = refl; first = (refl, refl); second = (refl, refl) });
    };
    second = (refl, sym no_flags);
  };
}

module _ (text rest : List ℕ) (r : Reads IsOpenParenthesis never text 40 rest) where
  after_open : Continues (HasFlags IsFlagList) text (HasFlags InList) rest
  after_open = onwards (list_begins text) r (λ _. never_avoids _)

  pub list_is_open : length rest ≡ 0 → StopsReading (HasFlags IsFlagList) never text More
  list_is_open none = after_open.stops never More (subst (λ z. IsViable (HasFlags InList) z) (sym (no_octets rest none)) in_list_viable)

  module _ (x : ℕ) (xs : List ℕ) (e : rest ≡ x ∷ xs) where
    pub empty_reads : x ≡ 41 → Reads (HasFlags IsFlagList) never text 0 xs
    empty_reads same =
        let closed : Continues (HasFlags InList) rest (Then (After IsCloseParenthesis (Is [])) (λ flags. Is (flags_of flags))) rest
        = subst (λ z. Continues (HasFlags InList) z (Then (After IsCloseParenthesis (Is [])) (λ flags. Is (flags_of flags))) z) (sym (e ∙ ap (λ z. z ∷ xs) same))
        (then_left (After IsCloseParenthesis (Is [])) (AreFlags 41) (λ flags. Is (flags_of flags)) 41 xs (seq_never IsFlag _ 41 (flag_never 41 close_ends.0 (λ bad. omega (arith, bad))))) in
        let apart : Continues (Then (After IsCloseParenthesis (Is [])) (λ flags. Is (flags_of flags))) rest (After IsCloseParenthesis (Then (Is []) (λ flags. Is (flags_of flags)))) rest = regroup IsCloseParenthesis (λ _. Is []) (λ flags. Is (flags_of flags)) rest in
        let at = onwards (and_then _ _ _ _ _ _ (and_then _ _ _ _ _ _ after_open closed) apart) (octet_at rest x 41 xs e same) (λ _. never_avoids _) in
        subst (λ z. Reads (HasFlags IsFlagList) never text z xs) no_flags ((and_then _ _ _ _ _ _ at (nothing_then [] (λ flags. Is (flags_of flags)) xs)).reads never (flags_of []) xs (is_reads (flags_of []) xs))

    some_here : (x ≡ 41 → ⊥) → Continues (HasFlags IsFlagList) text (HasFlags (AreFlags 41)) rest
    some_here other =
        and_then _ _ _ _ _ _ after_open
        (subst (λ z. Continues (HasFlags InList) z (HasFlags (AreFlags 41)) z) (sym e) (then_right (After IsCloseParenthesis (Is [])) (AreFlags 41) (λ flags. Is (flags_of flags)) x xs (then_never 41 x (λ _. Is []) other)))

    pub some_stops : (stop : Stop) → (x ≡ 41 → ⊥) → StopsReading (HasFlags (AreFlags 41)) never rest stop → StopsReading (HasFlags IsFlagList) never text stop
    some_stops stop other stops = (some_here other).stops never stop stops

    pub some_reads : (v : ℕ) (following : List ℕ) → (x ≡ 41 → ⊥) → Reads (HasFlags (AreFlags 41)) never rest v following → Reads (HasFlags IsFlagList) never text v following
    some_reads v following other r = (some_here other).reads never v following r

-- ---- flags up to the line's end

abbrev pub ListToEnd : List ℕ → List (List ℕ) → Type 0
ListToEnd = Then IsFlagList (λ flags. After IsCrlf (Is flags))

abbrev pub Unlisted : List ℕ → List (List ℕ) → Type 0
Unlisted = IsList IsSpace IsFlag IsCrlf

pub to_end_viable : IsViable (HasFlags IsFlagsToEnd) []
to_end_viable =
    let list = flag_list_viable in
    let word = list.is_word in
    record {
      rest = word.front ++ 13 ∷ 10 ∷ [];
      value = flags_of word.value;
      is_word = record {
        value = word.value;
        front = word.front ++ 13 ∷ 10 ∷ [];
        back = [];
        whole = sym (append-nil (word.front ++ 13 ∷ 10 ∷ []));
        first = inl (record {
          value = word.value;
          front = word.front;
          back = 13 ∷ 10 ∷ [];
          whole = refl;
          first = word.first;
          second = record { value = 10; front = 13 ∷ 10 ∷ []; back = []; whole = refl; first = record { value = 13; front = 13 ∷ []; back = 10 ∷ []; whole = refl; first = (refl, refl); second = (refl, refl) }; second = (refl, refl) };
        });
        second = (refl, refl);
      };
    }

pub to_end_word : IsViable IsFlagsToEnd []
to_end_word = record { rest = to_end_viable.is_word.front; value = to_end_viable.is_word.value; is_word = to_end_viable.is_word.first }

pub to_end_more : (text : List ℕ) → length text ≡ 0 → IsViable (HasFlags IsFlagsToEnd) text
to_end_more text none = subst (λ z. IsViable (HasFlags IsFlagsToEnd) z) (sym (no_octets text none)) to_end_viable

module _ (text : List ℕ) (x : ℕ) (xs : List ℕ) (e : text ≡ x ∷ xs) where
  -- a list and the line's end
  listed : x ≡ 40 → Continues (HasFlags IsFlagsToEnd) text (Then (HasFlags IsFlagList) (λ n. After IsCrlf (Is n))) text
  listed same =
      let chosen : Continues (HasFlags IsFlagsToEnd) text (HasFlags ListToEnd) text
      = subst (λ z. Continues (HasFlags IsFlagsToEnd) z (HasFlags ListToEnd) z) (sym (e ∙ ap (λ z. z ∷ xs) same))
      (then_left ListToEnd Unlisted (λ flags. Is (flags_of flags)) 40 xs (seq_never IsFlag _ 40 (flag_never 40 open_ends (λ bad. omega (arith, bad))))) in
      and_then _ _ _ _ _ _ chosen (and_then _ _ _ _ _ _ (regroup IsFlagList (λ flags. After IsCrlf (Is flags)) (λ flags. Is (flags_of flags)) text) (and_then _ _ _ _ _ _ (mapped_end IsFlagList flags_of IsCrlf text) (through_value IsFlagList flags_of (λ n. After IsCrlf (Is n)) text)))

  pub listed_stops : (stop : Stop) → x ≡ 40 → StopsReading (HasFlags IsFlagList) never text stop → StopsReading (HasFlags IsFlagsToEnd) never text stop
  listed_stops stop same stops = ends_at never never stop (listed same) stops (λ _. never_avoids _) (λ n. then_viable IsCrlf _ crlf_viable (λ _. is_viable n))

  module _ (v : ℕ) (following : List ℕ) (r : Reads (HasFlags IsFlagList) never text v following) where
    pub listed_end_stops : (stop : Stop) → x ≡ 40 → StopsReading IsCrlf never following stop → StopsReading (HasFlags IsFlagsToEnd) never text stop
    listed_end_stops stop same stops = ends_at never never stop (onwards (listed same) r (λ _. never_avoids _)) stops (λ _. never_avoids _) (λ _. is_viable v)

    pub listed_end_reads : (rest : List ℕ) → x ≡ 40 → Reads IsCrlf never following 10 rest → Reads (HasFlags IsFlagsToEnd) never text v rest
    listed_end_reads rest same s = (onwards (onwards (listed same) r (λ _. never_avoids _)) s (λ _. never_avoids _)).reads never v rest (is_reads v rest)

  -- flags and the line's end
  unlisted : (x ≡ 40 → ⊥) → Continues (HasFlags IsFlagsToEnd) text (Then (HasFlags (AreFlags 13)) (λ n. After (IsOctet 10) (Is n))) text
  unlisted other =
      let chosen : Continues (HasFlags IsFlagsToEnd) text (HasFlags Unlisted) text
      = subst (λ z. Continues (HasFlags IsFlagsToEnd) z (HasFlags Unlisted) z) (sym e)
      (then_right ListToEnd Unlisted (λ flags. Is (flags_of flags)) x xs (seq_never IsFlagList _ x (then_never 40 x (λ _. InList) other))) in
      let parted : Continues (HasFlags Unlisted) text (HasFlags (Then (AreFlags 13) (λ flags. After (IsOctet 10) (Is flags)))) text = first_same Unlisted (Then (AreFlags 13) (λ flags. After (IsOctet 10) (Is flags))) (λ flags. Is (flags_of flags)) (list_apart IsSpace IsFlag (IsOctet 13) (IsOctet 10)) (list_joined IsSpace IsFlag (IsOctet 13) (IsOctet 10)) text in
      and_then _ _ _ _ _ _ chosen (and_then _ _ _ _ _ _ parted (and_then _ _ _ _ _ _ (regroup (AreFlags 13) (λ flags. After (IsOctet 10) (Is flags)) (λ flags. Is (flags_of flags)) text)
      (and_then _ _ _ _ _ _ (mapped_end (AreFlags 13) flags_of (IsOctet 10) text) (through_value (AreFlags 13) flags_of (λ n. After (IsOctet 10) (Is n)) text))))

  pub unlisted_stops : (stop : Stop) → (x ≡ 40 → ⊥) → StopsReading (HasFlags (AreFlags 13)) never text stop → StopsReading (HasFlags IsFlagsToEnd) never text stop
  unlisted_stops stop other stops = ends_at never never stop (unlisted other) stops (λ _. never_avoids _) (λ n. then_viable (IsOctet 10) _ (octet_viable 10) (λ _. is_viable n))

  module _ (v : ℕ) (following : List ℕ) (r : Reads (HasFlags (AreFlags 13)) never text v following) where
    pub unlisted_end_stops : (stop : Stop) → (x ≡ 40 → ⊥) → StopsReading (IsOctet 10) never following stop → StopsReading (HasFlags IsFlagsToEnd) never text stop
    unlisted_end_stops stop other stops = ends_at never never stop (onwards (unlisted other) r (λ _. never_avoids _)) stops (λ _. never_avoids _) (λ _. is_viable v)

    pub unlisted_end_reads : (rest : List ℕ) → (x ≡ 40 → ⊥) → Reads (IsOctet 10) never following 10 rest → Reads (HasFlags IsFlagsToEnd) never text v rest
    unlisted_end_reads rest other s = (onwards (onwards (unlisted other) r (λ _. never_avoids _)) s (λ _. never_avoids _)).reads never v rest (is_reads v rest)
