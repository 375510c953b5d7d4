-- The steps of finding the end of a line: how many octets of a piece count.
use Rattle.std.proofs.Common.{◌≡◌, ℕ, ◌+◌, ◌-◌, ◌<◌, ◌≤◌, nat_lt, Bool, true, false, List, length, take, drop, None, inl, inr, refl, sym, subst, if◌then◌else◌, arith}
use Rattle.std.proofs.lemmas.Bool.{both_ways, cases_lt, lt-ltb}
use Rattle.std.proofs.lemmas.List.{length-take-le, length-drop, take_all}
use Rattle.mail_wire.specs.Lines.{first_line}
use Rattle.mail_wire.specs.declared.framing.TheConstants.{LINE_MAX}
use Rattle.imap_grammar.specs.Events.{IsWholeLine}
use Rattle.imap_grammar.specs.Standing.{HasSeen, size_of, is_data, line_with, counting, IsUnderLimit, Finds}
use Rattle.imap_grammar.specs.declared.reader.Reader.{Reader}
use Rattle.imap_grammar.specs.declared.reader.Found.TheVariants as found
use Rattle.imap_grammar.proofs.FindLaws.{finds_waiting, finds_whole, finds_long_open, finds_long_line}

abbrev pub free_of : Bool → ℕ → ℕ → ℕ
free_of data_awaited missing used = if data_awaited then (if nat_lt missing used then missing else used) else 0

counted_front : (b : Bool) (missing n : ℕ) (piece : List ℕ) → n ≤ length piece → (if b then length (drop missing (take n piece)) else length (take n piece)) ≡ (if b then n - missing else n)
counted_front true missing n piece fits = omega (arith, length-drop missing (take n piece), length-take-le n piece fits)
counted_front false missing n piece fits = length-take-le n piece fits

least_of : (missing used : ℕ) → used - (if nat_lt missing used then missing else used) ≡ used - missing
least_of missing used = elim (cases_lt missing used) [
  | inl less ↦ let e : nat_lt missing used ≡ true = lt-ltb missing used less in rw e refl
  | inr more ↦ by (nat_lt missing used) more
]
  where
    by : (b : Bool) → used ≤ missing → used - (if b then missing else used) ≡ used - missing
    by true more = refl
    by false more = omega (arith, more)

left_counts : (b : Bool) (missing used : ℕ) → used - free_of b missing used ≡ (if b then used - missing else used)
left_counts true missing used = least_of missing used
left_counts false missing used = omega arith

-- where more are left than there is room, the free ones are all that are missing
free_all : (b : Bool) (missing used room : ℕ) → room < used - free_of b missing used → ((if b then (free_of b missing used + room) - missing else free_of b missing used + room) ≡ room) × ((if b then (free_of b missing used + room + 1) - missing else free_of b missing used + room + 1) ≡ room + 1)
free_all false missing used room more = (omega arith, omega arith)
free_all true missing used room more = elim (cases_lt missing used) [
  | inl less ↦
      let e : free_of true missing used ≡ missing = same (nat_lt missing used) (lt-ltb missing used less) in
      (omega (arith, e), omega (arith, e))
  | inr past ↦ absurd (omega (arith, more, past, least_of missing used))
]
  where
    same : (b : Bool) → b ≡ true → (if b then missing else used) ≡ missing
    same true e = refl
    same false e = absurd (both_ways false refl e)

module _ (utf8 : Bool) (reader : Reader) (seen piece : List ℕ) (s : HasSeen utf8 reader seen) (room : ℕ) (is_room : room ≡ LINE_MAX - reader.counted) where
  abbrev pub lacking : ℕ
  lacking = size_of reader.stage - length reader.literal

  abbrev pub free : ℕ → ℕ
  free used = free_of (is_data reader.stage) lacking used

  few_front : (n : ℕ) → n ≤ length piece → (if is_data reader.stage then n - lacking else n) ≤ room → IsUnderLimit reader (take n piece)
  few_front n fits small = omega (arith, counted_front (is_data reader.stage) lacking n piece fits, small, is_room, s.few)

  many_front : (n : ℕ) → n ≤ length piece → (if is_data reader.stage then n - lacking else n) ≡ room + 1 → LINE_MAX < reader.counted + counting reader (take n piece)
  many_front n fits is = omega (arith, counted_front (is_data reader.stage) lacking n piece fits, is, is_room, s.few)

  fits_all : (used : ℕ) → used - free used ≤ room → (if is_data reader.stage then used - lacking else used) ≤ room
  fits_all used small = subst (λ z. z ≤ room) (left_counts (is_data reader.stage) lacking used) small

  pub find_line : (end : ℕ) → 0 < end → end ≤ length piece → IsWholeLine (line_with reader (take end piece)) → size_of reader.stage ≤ length reader.literal + end → end - free end ≤ room → Finds utf8 reader seen piece (found.Whole end)
  find_line end some fits is all small = finds_whole utf8 reader seen piece s end some fits is all (few_front end fits (fits_all end small))

  pub find_open : first_line (line_with reader piece) ≡ None → length piece - free (length piece) ≤ room → Finds utf8 reader seen piece found.Waiting
  find_open none small =
      let few : IsUnderLimit reader (take (length piece) piece) = few_front (length piece) (omega arith) (fits_all (length piece) small) in
      finds_waiting utf8 reader seen piece s none few (subst (λ z. IsUnderLimit reader z) (take_all (length piece) piece (omega arith)) few)

  pub find_long_line : (end : ℕ) → end ≤ length piece → IsWholeLine (line_with reader (take end piece)) → room < end - free end → Finds utf8 reader seen piece (found.TooLong (free end + room + 1))
  find_long_line end fits is more =
      let counts = free_all (is_data reader.stage) lacking end room more in
      finds_long_line utf8 reader seen piece s (free end + room + 1) (free end + room) end refl (omega (arith, more)) fits is
      (few_front (free end + room) (omega (arith, more, fits)) (omega (arith, counts.0))) (many_front (free end + room + 1) (omega (arith, more, fits)) counts.1)

  pub find_long_open : first_line (line_with reader piece) ≡ None → room < length piece - free (length piece) → Finds utf8 reader seen piece (found.TooLong (free (length piece) + room + 1))
  find_long_open none more =
      let counts = free_all (is_data reader.stage) lacking (length piece) room more in
      finds_long_open utf8 reader seen piece s (free (length piece) + room + 1) (free (length piece) + room) refl (omega (arith, more)) none
      (few_front (free (length piece) + room) (omega (arith, more)) (omega (arith, counts.0))) (many_front (free (length piece) + room + 1) (omega (arith, more)) counts.1)

  -- the same with the number of free octets that was found
  pub line_at : (f end : ℕ) → f ≡ free end → 0 < end → end ≤ length piece → IsWholeLine (line_with reader (take end piece)) → size_of reader.stage ≤ length reader.literal + end → end - f ≤ room → Finds utf8 reader seen piece (found.Whole end)
  line_at f end e some fits is all small = find_line end some fits is all (subst (λ z. end - z ≤ room) e small)

  pub open_at : (f : ℕ) → f ≡ free (length piece) → first_line (line_with reader piece) ≡ None → length piece - f ≤ room → Finds utf8 reader seen piece found.Waiting
  open_at f e none small = find_open none (subst (λ z. length piece - z ≤ room) e small)

  pub long_line_at : (f end : ℕ) → f ≡ free end → end ≤ length piece → IsWholeLine (line_with reader (take end piece)) → room < end - f → Finds utf8 reader seen piece (found.TooLong (f + room + 1))
  long_line_at f end e fits is more = subst (λ z. Finds utf8 reader seen piece (found.TooLong (z + room + 1))) (sym e) (find_long_line end fits is (subst (λ z. room < end - z) e more))

  pub long_open_at : (f : ℕ) → f ≡ free (length piece) → first_line (line_with reader piece) ≡ None → room < length piece - f → Finds utf8 reader seen piece (found.TooLong (f + room + 1))
  long_open_at f e none more = subst (λ z. Finds utf8 reader seen piece (found.TooLong (z + room + 1))) (sym e) (find_long_open none (subst (λ z. room < length piece - z) e more))
