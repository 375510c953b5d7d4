-- A served text is runs of tokens, none of which starts a clause.
use Rattle.std.proofs.Common.{◌≡◌, ℕ, ◌<◌, ◌==◌, Bool, true, false, cond, codes, List, [], ◌∷◌, ◌++◌, length, map, filter, All, Option, Some, None, refl, sym, ap, ◌∙◌, subst, arith}
use Rattle.std.proofs.lemmas.Bool.{and_parts, and_from, or_parts}
use Rattle.std.proofs.lemmas.Bool.Decides.{nat_tests}
use Rattle.std.proofs.lemmas.List.{append_assoc, append-nil, length-append}
use Rattle.std.proofs.lemmas.List.Elements.{All-head, All-tail, All-weaker}
use Rattle.std.proofs.lemmas.List.Folds.{list_all-append}
use Rattle.std.proofs.lemmas.List.Splits.{slice_split_none, slice_split_at}
use Rattle.std.proofs.lemmas.List.Sums.{AllPass-from_list_all}
use Rattle.std.specs.List.{AllByRecursion, list_all, list_any, flat_map, join_with_byte, slice_split, onto_first}
use Rattle.std.specs.Str.{bytes_eq, str_to_ascii_lowercase}
use Rattle.mail_wire.specs.Octets.{is_ascii, same_name}
use Rattle.mail_wire.specs.Spans.{Stops}
use Rattle.mail_wire.proofs.AllLemmas.{pass-append, pass-weaker}
use Rattle.param_2231.proofs.WordsAgain.{lower-twice}
use Rattle.ace_domains.specs.Domains.{normal_form, IsDomain, IsAtom, is_atext as is_atext}
use Rattle.ace_domains.proofs.FormLemmas.{form_domain}
use Rattle.field_tokens.specs.declared.Style.TheVariants.{Mail}
use Rattle.field_tokens.specs.declared.TokenKind.TheVariants.{Atom, Special}
use Rattle.field_tokens.specs.TokenOctets.{is_atom_octet, is_line_octet}
use Rattle.field_tokens.specs.Tokens.{IsToken, TokenValue, AreTokens}
use Rattle.field_tokens.specs.Squeezed.{is_blank, is_there, runs_of, octets_of, squeezed_values, comments_of, space, IsPart}
use Rattle.field_tokens.proofs.TokenLists.{token_octets_some}
use Rattle.field_tokens.proofs.Parts.{BeginsNoGap, EndsNoGap, part_of}
use Rattle.field_tokens.proofs.SqueezedValues.{AreKept, IsRunOfTokens, runs_of-run, IsPart-runs, kept_split, kept_comments}
use Rattle.field_tokens.proofs.TokenLines.{squeezed_line}
use Rattle.field_downgrade.specs.Received.{is_clause_word, is_inner, are_blank_tokens, is_host_word, holds_clause_word, unless_word, served_text}
use Rattle.field_downgrade.specs.private.ReceivedSteps.{AreRead}

-- a space before each of the parts
abbrev pub spaced : List (List TokenValue) → List TokenValue
spaced parts = flat_map (λ part. space ∷ part) parts

-- a run of tokens without gaps and comments
pub record IsTokenRun (run : List TokenValue) : Type 0 where
  pub some : 0 < length run
  pub kept : AreKept run
  pub is_part : IsPart Mail run

-- no clause starts in them
abbrev pub AreInner : List (List TokenValue) → Type 0
AreInner runs = AllByRecursion (λ run. list_all is_inner run ≡ true) runs

-- the text is such runs with a space between any two
pub record IsServed (text : List ℕ) : Type 0 where
  pub runs : List (List TokenValue)
  pub each : AllByRecursion IsTokenRun runs
  pub inner : AreInner runs
  pub text_is : join_with_byte 32 (map octets_of runs) ≡ text
  pub ascii : list_all is_ascii text ≡ true
  pub line : list_all is_line_octet text ≡ true

-- ---- the runs of tokens

split_inner-more : (b : Bool) (t : TokenValue) (runs : List (List TokenValue)) → is_inner t ≡ true → AreInner runs
    → AreInner (cond b ([] ∷ runs) (onto_first t runs))
split_inner-more true t runs is all = (refl, all)
split_inner-more false t [] is all = (and_from (is_inner t) true is refl, tt)
split_inner-more false t (run ∷ runs) is all = (and_from (is_inner t) (list_all is_inner run) is all.0, all.1)

split_inner : (ts : List TokenValue) → list_all is_inner ts ≡ true → AreInner (slice_split (λ (t : TokenValue). is_blank t.kind) ts)
split_inner [] all = (refl, tt)
split_inner (t ∷ ts) all =
    let parts = and_parts (is_inner t) (list_all is_inner ts) all in
    split_inner-more (is_blank t.kind) t (slice_split (λ (t : TokenValue). is_blank t.kind) ts) parts.0 (split_inner ts parts.1)

inner_there : (runs : List (List TokenValue)) → AreInner runs → AreInner (filter is_there runs)
inner_there [] all = tt
inner_there ([] ∷ runs) all = inner_there runs all.1
inner_there ((t ∷ run) ∷ runs) all = (all.0, inner_there runs all.1)

token_runs : (runs : List (List TokenValue)) → AllByRecursion IsRunOfTokens runs → AllByRecursion (IsPart Mail) runs → AllByRecursion IsTokenRun runs
token_runs [] are parts = tt
token_runs (run ∷ runs) are parts = (record { some = are.0.some; kept = are.0.kept; is_part = parts.0 }, token_runs runs are.1 parts.1)

-- the runs of tokens that stand beside each other
pub runs_each : (ts : List TokenValue) → AreRead Mail ts → AllByRecursion IsTokenRun (runs_of ts)
runs_each ts read = token_runs (runs_of ts) (runs_of-run ts) (IsPart-runs Mail ts (octets_of ts) read.are_tokens)

pub runs_inner : (ts : List TokenValue) → list_all is_inner ts ≡ true → AreInner (runs_of ts)
runs_inner ts inner = inner_there (slice_split (λ (t : TokenValue). is_blank t.kind) ts) (split_inner ts inner)

-- ---- runs among blanks

split_run : (run : List TokenValue) (t : TokenValue) (ts : List TokenValue) → AreKept run → is_blank t.kind ≡ true
    → slice_split (λ (t : TokenValue). is_blank t.kind) (run ++ t ∷ ts) ≡ run ∷ slice_split (λ (t : TokenValue). is_blank t.kind) ts
split_run [] t ts kept blank = rw (blank) refl
split_run (u ∷ run) t ts kept blank = rw (kept.0, split_run run t ts kept.1 blank) refl

abbrev BeginsBlank : List TokenValue → Type 0
BeginsBlank [] = Unit {0}
BeginsBlank (t ∷ ts) = is_blank t.kind ≡ true

there_first : (run : List TokenValue) (runs : List (List TokenValue)) → 0 < length run → filter is_there (run ∷ runs) ≡ run ∷ filter is_there runs
there_first [] runs some = absurd (omega (arith, some))
there_first (t ∷ run) runs some = refl

run_before : (run ts : List TokenValue) → 0 < length run → AreKept run → BeginsBlank ts → runs_of (run ++ ts) ≡ run ∷ runs_of ts
run_before run [] some kept blank = rw (append-nil run, kept_split run kept) (there_first run [] some)
run_before run (t ∷ ts) some kept blank = rw (split_run run t ts kept blank, there_first run (slice_split (λ (t : TokenValue). is_blank t.kind) ts) some, blank) refl

blank_runs : (ts : List TokenValue) → are_blank_tokens ts ≡ true → runs_of ts ≡ []
blank_runs [] e = refl
blank_runs (t ∷ ts) e = let parts = and_parts (is_blank t.kind) (are_blank_tokens ts) e in rw (parts.0) (blank_runs ts parts.1)

blank_begins : (ts : List TokenValue) → are_blank_tokens ts ≡ true → BeginsBlank ts
blank_begins [] e = tt
blank_begins (t ∷ ts) e = (and_parts (is_blank t.kind) (are_blank_tokens ts) e).0

spaced_begins : (runs : List (List TokenValue)) (ts : List TokenValue) → are_blank_tokens ts ≡ true → BeginsBlank (spaced runs ++ ts)
spaced_begins [] ts e = blank_begins ts e
spaced_begins (run ∷ runs) ts e = refl

pub spaced_runs : (runs : List (List TokenValue)) (ts : List TokenValue) → AllByRecursion IsTokenRun runs → are_blank_tokens ts ≡ true → runs_of (spaced runs ++ ts) ≡ runs
spaced_runs [] ts each blank = blank_runs ts blank
spaced_runs (run ∷ runs) ts each blank =
    ap runs_of (append_assoc run (spaced runs) ts) ∙ run_before run (spaced runs ++ ts) each.0.some each.0.kept (spaced_begins runs ts blank) ∙ ap (λ r. run ∷ r) (spaced_runs runs ts each.1 blank)

pub spaced_inner : (runs : List (List TokenValue)) → AreInner runs → list_all is_inner (spaced runs) ≡ true
spaced_inner [] inner = refl
spaced_inner (run ∷ runs) inner = list_all-append is_inner run (spaced runs) ∙ and_from (list_all is_inner run) (list_all is_inner (spaced runs)) inner.0 (spaced_inner runs inner.1)

pub runs_no_comments : (runs : List (List TokenValue)) → AllByRecursion IsTokenRun runs → flat_map comments_of runs ≡ []
runs_no_comments [] each = refl
runs_no_comments (run ∷ runs) each = ap (λ r. r ++ flat_map comments_of runs) (kept_comments run each.0.kept) ∙ runs_no_comments runs each.1

pub runs_parts : (runs : List (List TokenValue)) → AllByRecursion IsTokenRun runs → AllByRecursion (IsPart Mail) runs
runs_parts [] each = tt
runs_parts (run ∷ runs) each = (each.0.is_part, runs_parts runs each.1)

part_octets : (part : List TokenValue) → IsPart Mail part → 0 < length (octets_of part)
part_octets part is = by part is.begins.2 is.are_tokens
  where
    by : (ts : List TokenValue) → ts ≡ is.begins.0 ∷ is.begins.1 → AreTokens Mail ts (octets_of ts) → 0 < length (octets_of ts)
    by [] e are = cc e
    by (t ∷ ts) e are = omega (arith, token_octets_some Mail t.kind t.octets are.0 are.2, length-append t.octets (octets_of ts))

-- runs without octets are no runs
pub runs_some : (run : List TokenValue) (runs : List (List TokenValue)) → AllByRecursion IsTokenRun (run ∷ runs) → 0 < length (join_with_byte 32 (map octets_of (run ∷ runs)))
runs_some run [] each = part_octets run each.0.is_part
runs_some run (next ∷ runs) each = omega (arith, part_octets run each.0.is_part, length-append (octets_of run) (32 ∷ join_with_byte 32 (map octets_of (next ∷ runs))))

-- ---- words in lower case

same_lower : (word name : List ℕ) → same_name (str_to_ascii_lowercase word) name ≡ same_name word name
unfolding same_name
same_lower word name = ap (λ r. bytes_eq r (str_to_ascii_lowercase name)) (lower-twice word)

pub served_lower : (word text : List ℕ) → served_text (str_to_ascii_lowercase word) text ≡ served_text word text
served_lower word text = rw (same_lower word (codes "from"), same_lower word (codes "by")) refl

-- ---- a normal form

abbrev atom : List ℕ → TokenValue
atom octets = record { kind = Atom; octets = octets }

abbrev dot : TokenValue
dot = record { kind = Special; octets = 46 ∷ [] }

abbrev dotted : List (List ℕ) → List TokenValue
dotted [] = []
dotted (a ∷ []) = atom a ∷ []
dotted (a ∷ b ∷ labels) = atom a ∷ dot ∷ dotted (b ∷ labels)

atext_atom : (x : ℕ) → is_atext x ≡ true → is_atom_octet Mail x ≡ true
atext_atom x h = grind (arith, nat_tests)

atext_plain : (x : ℕ) → is_atext x ≡ true → (x == 46) ≡ false
atext_plain x h = grind (arith, nat_tests)

atext_ascii : (x : ℕ) → is_atext x ≡ true → is_ascii x ≡ true
atext_ascii x h = grind (arith, nat_tests)

atext_line : (x : ℕ) → is_atext x ≡ true → is_line_octet x ≡ true
atext_line x h = grind (arith, nat_tests)

atom_token : (label rest : List ℕ) → IsAtom label → Stops (is_atom_octet Mail) rest → IsToken Mail Atom label rest
atom_token label rest is stops = (is.some, record { whole = refl; passes = pass-weaker is_atext (is_atom_octet Mail) atext_atom label is.octets; stops = stops })

dotted_tokens : (labels : List (List ℕ)) → All IsAtom labels → AreTokens Mail (dotted labels) (join_with_byte 46 labels)
dotted_tokens [] all = refl
dotted_tokens (a ∷ []) all = ([], sym (append-nil a), atom_token a [] (All-head IsAtom a [] all) tt, refl)
dotted_tokens (a ∷ b ∷ labels) all =
    let rest : List ℕ = join_with_byte 46 (b ∷ labels) in
    (46 ∷ rest, refl, atom_token a (46 ∷ rest) (All-head IsAtom a (b ∷ labels) all) refl, (rest, refl, (46, refl, refl), dotted_tokens (b ∷ labels) (All-tail IsAtom a (b ∷ labels) all)))

dotted_octets : (labels : List (List ℕ)) → octets_of (dotted labels) ≡ join_with_byte 46 labels
dotted_octets [] = refl
dotted_octets (a ∷ []) = append-nil a
dotted_octets (a ∷ b ∷ labels) = ap (λ r. a ++ 46 ∷ r) (dotted_octets (b ∷ labels))

dotted_kept : (labels : List (List ℕ)) → AreKept (dotted labels)
dotted_kept [] = tt
dotted_kept (a ∷ []) = (refl, tt)
dotted_kept (a ∷ b ∷ labels) = (refl, (refl, dotted_kept (b ∷ labels)))

dotted_ends : (labels : List (List ℕ)) → EndsNoGap (dotted labels)
dotted_ends [] = tt
dotted_ends (a ∷ []) = refl
dotted_ends (a ∷ b ∷ []) = refl
dotted_ends (a ∷ b ∷ c ∷ labels) = dotted_ends (b ∷ c ∷ labels)

dotted_some : (labels : List (List ℕ)) → 0 < length labels → 0 < length (dotted labels)
dotted_some [] some = absurd (omega (arith, some))
dotted_some (a ∷ []) some = omega arith
dotted_some (a ∷ b ∷ labels) some = omega arith

dotted_begins : (labels : List (List ℕ)) → BeginsNoGap (dotted labels)
dotted_begins [] = tt
dotted_begins (a ∷ []) = refl
dotted_begins (a ∷ b ∷ labels) = refl

dotted_inner : (labels : List (List ℕ)) → list_any is_clause_word labels ≡ false → list_all is_inner (dotted labels) ≡ true
dotted_inner [] e = refl
dotted_inner (a ∷ []) e = rw ((or_parts (is_clause_word a) false e).0) refl
dotted_inner (a ∷ b ∷ labels) e = let parts = or_parts (is_clause_word a) (list_any is_clause_word (b ∷ labels)) e in rw (parts.0) (dotted_inner (b ∷ labels) parts.1)

no_dots : (label : List ℕ) → IsAtom label → All (λ x. (x == 46) ≡ false) label
no_dots label is = All-weaker (λ x. is_atext x ≡ true) (λ x. (x == 46) ≡ false) atext_plain label (AllPass-from_list_all is_atext label is.octets)

split_labels : (a : List ℕ) (labels : List (List ℕ)) → All IsAtom (a ∷ labels) → slice_split (λ x. x == 46) (join_with_byte 46 (a ∷ labels)) ≡ a ∷ labels
split_labels a [] all = slice_split_none (λ x. x == 46) a (no_dots a (All-head IsAtom a [] all))
split_labels a (b ∷ labels) all =
    slice_split_at (λ x. x == 46) a 46 (join_with_byte 46 (b ∷ labels)) (no_dots a (All-head IsAtom a (b ∷ labels) all)) refl
    ∙ ap (λ r. a ∷ r) (split_labels b labels (All-tail IsAtom a (b ∷ labels) all))

joined_hold : (q : ℕ → Bool) → ((x : ℕ) → is_atext x ≡ true → q x ≡ true) → q 46 ≡ true → (labels : List (List ℕ)) → All IsAtom labels → list_all q (join_with_byte 46 labels) ≡ true
joined_hold q imp at [] all = refl
joined_hold q imp at (a ∷ []) all = pass-weaker is_atext q imp a (All-head IsAtom a [] all).octets
joined_hold q imp at (a ∷ b ∷ labels) all =
    pass-append q a (46 ∷ join_with_byte 46 (b ∷ labels)) (pass-weaker is_atext q imp a (All-head IsAtom a (b ∷ labels) all).octets)
    (and_from (q 46) (list_all q (join_with_byte 46 (b ∷ labels))) at (joined_hold q imp at (b ∷ labels) (All-tail IsAtom a (b ∷ labels) all)))

served_domain : (form : List ℕ) → IsDomain form → holds_clause_word form ≡ false → IsServed form
served_domain form is words = by is.atoms is.some is.each is.whole
  where
    by : (labels : List (List ℕ)) → 0 < length labels → All IsAtom labels → form ≡ join_with_byte 46 labels → IsServed form
    by [] some all whole = absurd (omega (arith, some))
    by (a ∷ labels) some all whole =
        let run : List TokenValue = dotted (a ∷ labels) in
        let octets : octets_of run ≡ form = dotted_octets (a ∷ labels) ∙ sym whole in
        let any : list_any is_clause_word (a ∷ labels) ≡ false = sym (ap (list_any is_clause_word) (ap (slice_split (λ x. x == 46)) whole ∙ split_labels a labels all)) ∙ words in
        record {
          runs = run ∷ [];
          each = (
            record {
              some = dotted_some (a ∷ labels) some;
              kept = dotted_kept (a ∷ labels);
              is_part = part_of Mail run (dotted_some (a ∷ labels) some) (subst (AreTokens Mail run) (sym (dotted_octets (a ∷ labels))) (dotted_tokens (a ∷ labels) all)) (dotted_begins (a ∷ labels)) (dotted_ends (a ∷ labels));
            },
            tt,
          );
          inner = (dotted_inner (a ∷ labels) any, tt);
          text_is = octets;
          ascii = rw (whole) (joined_hold is_ascii atext_ascii refl (a ∷ labels) all);
          line = rw (whole) (joined_hold is_line_octet atext_line refl (a ∷ labels) all);
        }

-- ---- served texts

served_form : (text form served : List ℕ) → normal_form text ≡ Some form → (b : Bool) → holds_clause_word form ≡ b → cond b None (Some form) ≡ Some served → IsServed served
served_form text form served is true e h = cc h
served_form text form served is false e h = let same : form ≡ served = cc h in subst IsServed same (served_domain form (form_domain text form is) e)

served_unless : (text served : List ℕ) (form : Option (List ℕ)) → normal_form text ≡ form → unless_word form ≡ Some served → IsServed served
served_unless text served None e h = cc h
served_unless text served (Some form) e h = served_form text form served e (holds_clause_word form) refl h

served_high : (text served : List ℕ) (b : Bool) → cond b (unless_word (normal_form text)) None ≡ Some served → IsServed served
served_high text served true h = served_unless text served (normal_form text) refl h
served_high text served false h = cc h

served_by : (ts : List TokenValue) (word served : List ℕ) (b : Bool) → AreRead Mail ts → list_all is_inner ts ≡ true → list_all is_ascii (squeezed_values ts) ≡ b
    → cond b (Some (squeezed_values ts)) (cond (is_host_word word) (unless_word (normal_form (squeezed_values ts))) None) ≡ Some served → IsServed served
served_by ts word served true read inner ascii h =
    let same : squeezed_values ts ≡ served = cc h in
    subst IsServed same (record { runs = runs_of ts; each = runs_each ts read; inner = runs_inner ts inner; text_is = refl; ascii = ascii; line = (squeezed_line Mail ts (octets_of ts) read.are_tokens read.is_line).plain })
served_by ts word served false read inner high h = served_high (squeezed_values ts) served (is_host_word word) h

pub served_is : (ts : List TokenValue) (word served : List ℕ) → AreRead Mail ts → list_all is_inner ts ≡ true → served_text word (squeezed_values ts) ≡ Some served → IsServed served
served_is ts word served read inner h = served_by ts word served (list_all is_ascii (squeezed_values ts)) read inner refl h
