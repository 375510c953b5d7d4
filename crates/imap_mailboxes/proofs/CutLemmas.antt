-- How a pattern is cut at its wildcards.
use Rattle.std.proofs.Common.{◌≡◌, ℕ, ◌+◌, ◌-◌, ◌<◌, ◌≤◌, true, false, not, ◌==◌, List, [], ◌∷◌, ◌++◌, length, take, drop, get_or, nat_lt, unwrap_or, position, None, Some, inl, inr, refl, sym, ap, ◌∙◌, arith, append-nil, append_assoc, take-append-drop}
use Rattle.std.proofs.lemmas.Bool.{and_from, cond-true, cond-false, cases_lt, eqb-true, eq-eqb, ne_eqb, lt-ltb, le-ltb}
use Rattle.std.proofs.lemmas.List.{length-drop, length-take-le, get_or-take, take_all, take-take, drop-take, drop-drop, map_push, drop_more, nil_from_length}
use Rattle.std.proofs.lemmas.List.Edits.{between_none, between_more}
use Rattle.std.proofs.lemmas.List.Elements.{All-nil, All-push}
use Rattle.std.proofs.lemmas.List.Folds.{drop_split}
use Rattle.std.proofs.lemmas.List.Sums.{fails_before_first, passes_at_first, prefix_len-le-length}
use Rattle.std.specs.List.{list_all, count_by, position_or_len, between}
use Rattle.std.specs.Str.{bytes_eq}
use Rattle.mail_wire.specs.declared.values.Span.{Span}
use Rattle.mail_wire.proofs.AllLemmas.{pass-append}
use Rattle.mail_wire.proofs.SpanLemmas.{all_from_places}
use Rattle.imap_words.specs.Tokens.{is_list_wildcard}
use Rattle.imap_mailboxes.specs.Patterns.{is_match}
use Rattle.imap_mailboxes.specs.private.Runs.{is_no_wildcard, span_octets, plain_runs, IsPlainRun, ArePlainRuns, after_wildcards, IsCut, after_front, IsCutWhole}
use Rattle.imap_mailboxes.proofs.PatternLemmas.{match-following, match-two_wildcards, match-any_wildcard, match-nothing, match-run, match-no_run, no_front, has_front}

-- ---- runs

pub runs_same : (runs : List (List ℕ)) (p q : List ℕ) → ((name : List ℕ) → is_match (42 ∷ p) name ≡ is_match (42 ∷ q) name) → (name : List ℕ) → is_match (after_wildcards runs p) name ≡ is_match (after_wildcards runs q) name
runs_same [] p q same name = same name
runs_same (run ∷ runs) p q same name = match-following (42 ∷ run) (after_wildcards runs p) (after_wildcards runs q) name (runs_same runs p q same)

pub runs_push : (runs : List (List ℕ)) (run last : List ℕ) → after_wildcards (runs ++ run ∷ []) last ≡ after_wildcards runs (run ++ 42 ∷ last)
runs_push [] run last = refl
runs_push (first ∷ runs) run last = ap (λ p. 42 ∷ (first ++ p)) (runs_push runs run last)

-- what is left after a wildcard begins with one
begins_wild : (runs : List (List ℕ)) (last : List ℕ) → (rest : List ℕ) × (after_wildcards runs last ≡ 42 ∷ rest)
begins_wild [] last = (last, refl)
begins_wild (run ∷ runs) last = (run ++ after_wildcards runs last, refl)

-- the next run of the octets and those after it
next_run : (octets : List ℕ) (runs : List Span) (last : List ℕ) (i : ℕ) (d : Span) → i < length runs
    → after_wildcards (plain_runs octets (drop i runs)) last ≡ 42 ∷ (span_octets octets (get_or runs i d) ++ after_wildcards (plain_runs octets (drop (i + 1) runs)) last)
next_run octets runs last i d l = ap (λ spans. after_wildcards (plain_runs octets spans) last) (drop_more runs i d l)

-- a slice of the octets by a span
abbrev pub sliced : List ℕ → Span → List ℕ
sliced octets span = take (span.at + span.len - span.at) (drop span.at octets)

pub sliced-is : (octets : List ℕ) (span : Span) → sliced octets span ≡ span_octets octets span
sliced-is octets span =
    let len : span.at + span.len - span.at ≡ span.len = omega arith in
    ap (λ n. take n (drop span.at octets)) len

pub run_met : (octets : List ℕ) (runs : List Span) (last rest following : List ℕ) (i : ℕ) (d : Span) → i < length runs
    → ((pattern : List ℕ) → is_match (42 ∷ (sliced octets (get_or runs i d) ++ 42 ∷ pattern)) rest ≡ is_match (42 ∷ pattern) following)
    → is_match (after_wildcards (plain_runs octets (drop (i + 1) runs)) last) following ≡ is_match (after_wildcards (plain_runs octets (drop i runs)) last) rest
run_met octets runs last rest following i d l found =
    let w = begins_wild (plain_runs octets (drop (i + 1) runs)) last in
    ap (λ p. is_match p following) w.1 ∙ (sym (found w.0) ∙ ap (λ p. is_match p rest) (ap (λ r. 42 ∷ (r ++ 42 ∷ w.0)) (sliced-is octets (get_or runs i d)) ∙ (ap (λ p. 42 ∷ (span_octets octets (get_or runs i d) ++ p)) (sym w.1) ∙ sym (next_run octets runs last i d l))))

pub run_missing : (octets : List ℕ) (runs : List Span) (last rest : List ℕ) (i : ℕ) (d : Span) → i < length runs
    → ((pattern : List ℕ) → is_match (42 ∷ (sliced octets (get_or runs i d) ++ 42 ∷ pattern)) rest ≡ false) → is_match (after_wildcards (plain_runs octets (drop i runs)) last) rest ≡ false
run_missing octets runs last rest i d l none =
    let w = begins_wild (plain_runs octets (drop (i + 1) runs)) last in
    ap (λ p. is_match p rest) (next_run octets runs last i d l ∙ (ap (λ p. 42 ∷ (span_octets octets (get_or runs i d) ++ p)) w.1 ∙ ap (λ r. 42 ∷ (r ++ 42 ∷ w.0)) (sym (sliced-is octets (get_or runs i d))))) ∙ none w.0

-- ---- one octet more

-- The octets before this place are cut: the run from `begin` on isn't yet.
pub record CutSoFar (octets : List ℕ) (from begin place : ℕ) (runs : List Span) : Type 0 where
  pub low : from ≤ begin
  pub high : begin ≤ place
  pub plain : list_all is_no_wildcard (between begin place octets) ≡ true
  pub are_runs : ArePlainRuns octets runs
  pub same : (more name : List ℕ) → is_match (42 ∷ (between from begin octets ++ more)) name ≡ is_match (after_wildcards (plain_runs octets runs) more) name

pub cut_begin : (octets : List ℕ) (from : ℕ) → CutSoFar octets from from from []
cut_begin octets from = record {
  low = omega arith;
  high = omega arith;
  plain = ap (list_all is_no_wildcard) (between_none octets from);
  are_runs = All-nil (IsPlainRun octets);
  same = λ more name. ap (λ b. is_match (42 ∷ (b ++ more)) name) (between_none octets from);
}

pub cut_plain : (octets : List ℕ) (from begin place : ℕ) (runs : List Span) → CutSoFar octets from begin place runs → place < length octets → is_list_wildcard (get_or octets place 0) ≡ false → CutSoFar octets from begin (place + 1) runs
cut_plain octets from begin place runs so_far within plain = record {
  low = so_far.low;
  high = omega (arith, so_far.high);
  plain = ap (list_all is_no_wildcard) (between_more octets begin place 0 so_far.high within)
      ∙ pass-append is_no_wildcard (between begin place octets) (get_or octets place 0 ∷ []) so_far.plain (and_from (is_no_wildcard (get_or octets place 0)) true (ap not plain) refl);
  are_runs = so_far.are_runs;
  same = so_far.same;
}

-- all octets before the place and the wildcard there
front_with : (octets : List ℕ) (from begin place : ℕ) → from ≤ begin → begin ≤ place → place < length octets
    → between from (place + 1) octets ≡ between from begin octets ++ (between begin place octets ++ get_or octets place 0 ∷ [])
front_with octets from begin place low high within =
    between_more octets from place 0 (omega arith) within
    ∙ (ap (λ b. b ++ get_or octets place 0 ∷ []) (between_parts octets from begin place low high) ∙ append_assoc (between from begin octets) (between begin place octets) (get_or octets place 0 ∷ []))
  where
    between_parts : (xs : List ℕ) (i j k : ℕ) → i ≤ j → j ≤ k → between i k xs ≡ between i j xs ++ between j k xs
    between_parts xs i j k ij jk =
        let total : (j - i) + (k - j) ≡ k - i = omega arith in
        let at : i + (j - i) ≡ j = omega arith in
        let all = take (k - i) (drop i xs) in
        let split : all ≡ take (j - i) all ++ drop (j - i) all = sym (take-append-drop (j - i) all) in
        let front : take (j - i) all ≡ between i j xs = take-take (j - i) (k - i) (drop i xs) (omega arith) in
        let back : drop (j - i) all ≡ between j k xs =
        ap (λ n. drop (j - i) (take n (drop i xs))) (sym total) ∙ (drop-take (j - i) (k - j) (drop i xs) ∙ ap (take (k - j)) (drop-drop (j - i) i xs ∙ ap (λ n. drop n xs) at)) in
        split ∙ (ap (λ z. z ++ drop (j - i) all) front ∙ ap (λ z. between i j xs ++ z) back)

-- what the pattern means where the run before a wildcard ends
at_wildcard : (octets : List ℕ) (from begin place : ℕ) (runs : List Span) → CutSoFar octets from begin place runs → place < length octets → (more name : List ℕ)
    → is_match (42 ∷ (between from (place + 1) octets ++ more)) name ≡ is_match (after_wildcards (plain_runs octets runs) (between begin place octets ++ get_or octets place 0 ∷ more)) name
at_wildcard octets from begin place runs so_far within more name =
    ap (λ b. is_match (42 ∷ b) name) (ap (λ b. b ++ more) (front_with octets from begin place so_far.low so_far.high within)
    ∙ (append_assoc (between from begin octets) (between begin place octets ++ get_or octets place 0 ∷ []) more
    ∙ ap (λ b. between from begin octets ++ b) (append_assoc (between begin place octets) (get_or octets place 0 ∷ []) more)))
    ∙ so_far.same (between begin place octets ++ get_or octets place 0 ∷ more) name

pub cut_empty : (octets : List ℕ) (from begin place : ℕ) (runs : List Span) → CutSoFar octets from begin place runs → place < length octets → is_list_wildcard (get_or octets place 0) ≡ true → place ≤ begin → CutSoFar octets from (place + 1) (place + 1) runs
cut_empty octets from begin place runs so_far within wild none = record {
  low = omega (arith, so_far.low);
  high = omega arith;
  plain = ap (list_all is_no_wildcard) (between_none octets (place + 1));
  are_runs = so_far.are_runs;
  same = λ more name.
      let same : begin ≡ place = omega (arith, so_far.high) in
      let nothing : between begin place octets ≡ [] = ap (λ b. between b place octets) same ∙ between_none octets place in
      at_wildcard octets from begin place runs so_far within more name
      ∙ (ap (λ b. is_match (after_wildcards (plain_runs octets runs) (b ++ get_or octets place 0 ∷ more)) name) nothing
      ∙ runs_same (plain_runs octets runs) (get_or octets place 0 ∷ more) more (λ n. match-two_wildcards 42 (get_or octets place 0) more n refl wild) name);
}

pub cut_run : (octets : List ℕ) (from begin place : ℕ) (runs : List Span) → CutSoFar octets from begin place runs → place < length octets → is_list_wildcard (get_or octets place 0) ≡ true → begin < place
    → CutSoFar octets from (place + 1) (place + 1) (runs ++ record { at = begin; len = place - begin } ∷ [])
cut_run octets from begin place runs so_far within wild some =
    let run = between begin place octets in
    let w = get_or octets place 0 in
    record {
      low = omega (arith, so_far.low);
      high = omega arith;
      plain = ap (list_all is_no_wildcard) (between_none octets (place + 1));
      are_runs = All-push (IsPlainRun octets) runs (record { at = begin; len = place - begin }) so_far.are_runs (record { within = omega arith; plain = so_far.plain });
      same = λ more name.
          at_wildcard octets from begin place runs so_far within more name
          ∙ (runs_same (plain_runs octets runs) (run ++ w ∷ more) (run ++ 42 ∷ more) (λ n. match-following (42 ∷ run) (w ∷ more) (42 ∷ more) n (λ m. match-any_wildcard w 42 more m wild refl)) name
          ∙ ap (λ p. is_match p name) (sym (runs_push (plain_runs octets runs) run more) ∙ ap (λ all. after_wildcards all more) (sym (map_push (span_octets octets) runs (record { at = begin; len = place - begin })))));
    }

pub cut_end : (octets : List ℕ) (from begin place : ℕ) (runs : List Span) → CutSoFar octets from begin place runs → place ≡ length octets → IsCut octets from runs begin
cut_end octets from begin place runs so_far end = record {
  are_runs = so_far.are_runs;
  within = omega (arith, so_far.high);
  plain = ap (list_all is_no_wildcard) (sym (take_all (place - begin) (drop begin octets) (omega (arith, length-drop begin octets)))) ∙ so_far.plain;
  same = λ name. ap (λ b. is_match (42 ∷ b) name) (drop_split octets from begin so_far.low) ∙ so_far.same (drop begin octets) name;
}

-- ---- the whole pattern

pub first-is : (octets : List ℕ) (first : ℕ) → first ≡ unwrap_or (position is_list_wildcard octets) (length octets) → first ≡ position_or_len is_list_wildcard octets
first-is octets first is = elim (cases_lt (position_or_len is_list_wildcard octets) (length octets)) [
  | inl some ↦ is ∙ ap (λ o. unwrap_or o (length octets)) (cond-true (nat_lt (position_or_len is_list_wildcard octets) (length octets)) (Some (position_or_len is_list_wildcard octets)) None (lt-ltb _ _ some))
  | inr none ↦
      let all : length octets ≡ position_or_len is_list_wildcard octets = omega (arith, prefix_len-le-length (λ x. not (is_list_wildcard x)) octets) in
      is ∙ (ap (λ o. unwrap_or o (length octets)) (cond-false (nat_lt (position_or_len is_list_wildcard octets) (length octets)) (Some (position_or_len is_list_wildcard octets)) None (le-ltb _ _ none)) ∙ all)
]

with_wildcard : (octets : List ℕ) (first from : ℕ) (runs : List Span) (last : ℕ) → first ≡ position_or_len is_list_wildcard octets → (first < length octets → from ≡ first + 1) → IsCut octets from runs last
    → (name : List ℕ) → first < length octets → is_match octets name ≡ is_match (take first octets ++ after_front octets first runs last) name
with_wildcard octets first from runs last at following is_cut name some =
    let rest = after_wildcards (plain_runs octets runs) (drop last octets) in
    let w = get_or octets first 0 in
    let wild : is_list_wildcard w ≡ true = ap (λ k. is_list_wildcard (get_or octets k 0)) at ∙ passes_at_first is_list_wildcard octets 0 (omega arith) in
    let parts : octets ≡ take first octets ++ w ∷ drop (first + 1) octets = sym (take-append-drop first octets) ∙ ap (λ z. take first octets ++ z) (drop_more octets first 0 some) in
    ap (λ p. is_match p name) parts
    ∙ (match-following (take first octets) (w ∷ drop (first + 1) octets) rest name (λ n. match-any_wildcard w 42 (drop (first + 1) octets) n wild refl ∙ (ap (λ k. is_match (42 ∷ drop k octets) n) (sym (following some)) ∙ is_cut.same n))
    ∙ ap (λ p. is_match (take first octets ++ p) name) (sym (cond-false (first == length octets) [] rest (ne_eqb first (length octets) (λ e. omega (arith, e))))))

without : (octets : List ℕ) (first : ℕ) (runs : List Span) (last : ℕ) (name : List ℕ) → first ≡ length octets → is_match octets name ≡ is_match (take first octets ++ after_front octets first runs last) name
without octets first runs last name whole =
    let rest = after_wildcards (plain_runs octets runs) (drop last octets) in
    ap (λ p. is_match p name) (sym (append-nil octets) ∙ (ap (λ p. p ++ []) (sym (take_all first octets (omega arith)))
    ∙ ap (λ p. take first octets ++ p) (sym (cond-true (first == length octets) [] rest (eq-eqb first (length octets) whole)))))

pub whole_cut : (octets : List ℕ) (plain first from : ℕ) (runs : List Span) (last : ℕ) → plain ≡ count_by is_no_wildcard octets → first ≡ position_or_len is_list_wildcard octets
    → (first < length octets → from ≡ first + 1) → IsCut octets from runs last → IsCutWhole octets plain first runs last
whole_cut octets plain first from runs last so_many at following is_cut =
    let within : first ≤ length octets = omega (arith, prefix_len-le-length (λ x. not (is_list_wildcard x)) octets) in
    record {
      so_many = so_many;
      first_within = within;
      first_plain = all_from_places is_no_wildcard (take first octets) (λ k l.
          ap is_no_wildcard (get_or-take first octets k 0 (omega (arith, length-take-le first octets within))) ∙ ap not (fails_before_first is_list_wildcard octets k 0 (omega (arith, length-take-le first octets within))));
      are_runs = is_cut.are_runs;
      last_within = is_cut.within;
      last_plain = is_cut.plain;
      same = λ name. elim (cases_lt first (length octets)) [
        | inl some ↦ with_wildcard octets first from runs last at following is_cut name some
        | inr none ↦ without octets first runs last name (omega (arith, within))
      ];
    }

-- ---- what it matches

pub whole_missing : (octets name : List ℕ) (plain first : ℕ) (runs : List Span) (last : ℕ) → IsCutWhole octets plain first runs last → bytes_eq (take (length (take first octets)) name) (take first octets) ≡ false
    → false ≡ is_match octets name
whole_missing octets name plain first runs last whole differs =
    sym (whole.same name ∙ match-no_run (take first octets) (after_front octets first runs last) name whole.first_plain (no_front (take first octets) name differs))

whole_met : (octets name rest : List ℕ) (plain first : ℕ) (runs : List Span) (last : ℕ) → IsCutWhole octets plain first runs last → bytes_eq (take (length (take first octets)) name) (take first octets) ≡ true
    → rest ≡ drop (length (take first octets)) name → is_match octets name ≡ is_match (after_front octets first runs last) rest
whole_met octets name rest plain first runs last whole same e =
    whole.same name ∙ (ap (is_match (take first octets ++ after_front octets first runs last)) (has_front (take first octets) name rest same e) ∙ match-run (take first octets) (after_front octets first runs last) rest whole.first_plain)

-- without a wildcard
pub whole_ends : (octets name rest : List ℕ) (plain first : ℕ) (runs : List Span) (last : ℕ) → IsCutWhole octets plain first runs last → bytes_eq (take (length (take first octets)) name) (take first octets) ≡ true
    → rest ≡ drop (length (take first octets)) name → first ≡ length octets → (length rest == 0) ≡ is_match octets name
whole_ends octets name rest plain first runs last whole same e at =
    match-nothing rest (length rest == 0) (λ none. nil_from_length rest (eqb-true (length rest) 0 none)) (λ none. eq-eqb (length rest) 0 (ap length none))
    ∙ (ap (λ p. is_match p rest) (sym (cond-true (first == length octets) [] (after_wildcards (plain_runs octets runs) (drop last octets)) (eq-eqb first (length octets) at)))
    ∙ sym (whole_met octets name rest plain first runs last whole same e))

-- after the first one
pub whole_goes_on : (octets name rest : List ℕ) (plain first : ℕ) (runs : List Span) (last : ℕ) → IsCutWhole octets plain first runs last → bytes_eq (take (length (take first octets)) name) (take first octets) ≡ true
    → rest ≡ drop (length (take first octets)) name → (first ≡ length octets → ⊥) → is_match (after_wildcards (plain_runs octets runs) (drop last octets)) rest ≡ is_match octets name
whole_goes_on octets name rest plain first runs last whole same e before =
    ap (λ p. is_match p rest) (sym (cond-false (first == length octets) [] (after_wildcards (plain_runs octets runs) (drop last octets)) (ne_eqb first (length octets) before)))
    ∙ sym (whole_met octets name rest plain first runs last whole same e)
