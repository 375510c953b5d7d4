-- Names of sections, and what an item asks.
use Rattle.std.proofs.Common.{◌≡◌, ℕ, ◌+◌, ◌-◌, ◌<◌, ◌≤◌, min, Bool, false, List, [], ◌∷◌, ◌++◌, length, get_or, map, take, drop, Option, None, Some, refl, sym, ap, subst, ◌∙◌, append-nil, append_assoc, arith, ne_eqb}
use Rattle.std.specs.Prelude.{codes, ◌&&◌, ◌==◌, not, slice_range}
use Rattle.std.specs.Fmt.{decimal}
use Rattle.std.specs.List.{join_with_byte}
use Rattle.std.proofs.lemmas.List.{drop_min, length-drop, length-take-le, map_more, take_all, take_min}
use Rattle.mail_wire.specs.declared.values.Span.{Span}
use Rattle.kept_mail.specs.declared.kept.Listed.{Listed}
use Rattle.mail_store.specs.StoreState.{StoreState}
use Rattle.surrogate_cache.specs.Served.{Mode}
use Rattle.session_core.specs.Oracles.{Oracles}
use Rattle.imap_grammar.specs.declared.command.SectionPart.{SectionPart}
use Rattle.imap_grammar.specs.declared.command.SectionPart.TheVariants as part
use Rattle.imap_views.specs.Chosen.{AreChosen}
use Rattle.imap_views.specs.Strings.{AddsText}
use Rattle.imap_session.specs.Items.{part_words, partial_octets, partial_span, partial_text, section_name}
use Rattle.imap_session.specs.Replies.{text}
use Rattle.imap_session.specs.declared.sections.Asked.{Asked}
use Rattle.imap_session.specs.declared.sections.Chosen.{Chosen}
use Rattle.imap_session.specs.declared.sections.Wanted.{Wanted}
use Rattle.imap_session.specs.declared.sections.Wanted.TheVariants as want
use Rattle.imap_session.specs.private.Asking.{AddsFields, separator_octets, head_octets, name_of, wanted_parts}
use Rattle.imap_session.specs.private.Shown.{names_all}
use Rattle.imap_session.proofs.FetchLemmas.{stands_after}

-- ---- texts with an octet between any two

joined_push : (c : ℕ) (xs : List (List ℕ)) (x : List ℕ) → join_with_byte c (xs ++ x ∷ []) ≡ join_with_byte c xs ++ (separator_octets c (stands_after false xs) ++ x)
joined_push c [] x = refl
joined_push c (y ∷ []) x = refl
joined_push c (y ∷ z ∷ xs) x = ap (λ (rest : List ℕ). y ++ c ∷ rest) (joined_push c (z ∷ xs) x) ∙ sym (append_assoc y (c ∷ join_with_byte c (z ∷ xs)) (c ∷ x))

some_mapped : {X : Type 0} (f : X → List ℕ) (xs : List X) → stands_after false (map f xs) ≡ stands_after false xs
some_mapped f [] = refl
some_mapped f (x ∷ xs) = refl

-- one more
pub joined_more : {X : Type 0} (c : ℕ) (f : X → List ℕ) (items : List X) (at : ℕ) (d : X) (is_separated : Bool) (old had spaced new : List ℕ) → at < length items
    → is_separated ≡ stands_after false (take at items) → had ≡ old ++ join_with_byte c (map f (take at items)) → spaced ≡ had ++ separator_octets c is_separated → new ≡ spaced ++ f (get_or items at d)
    → new ≡ old ++ join_with_byte c (map f (take (at + 1) items))
joined_more c f items at d is_separated old had spaced new low following had_is spaced_is new_is =
    let front = map f (take at items) in
    let last = f (get_or items at d) in
    let more : join_with_byte c (map f (take (at + 1) items)) ≡ join_with_byte c front ++ (separator_octets c is_separated ++ last) =
    ap (join_with_byte c) (map_more f items at d low)
    ∙ (joined_push c front last ∙ ap (λ (b : Bool). join_with_byte c front ++ (separator_octets c b ++ last)) (some_mapped f (take at items) ∙ sym following)) in
    rw (new_is, spaced_is, had_is, more) (simp append_assoc)

pub joined_all : {X : Type 0} (c : ℕ) (f : X → List ℕ) (items : List X) (at : ℕ) (old made : List ℕ) → length items ≤ at → made ≡ old ++ join_with_byte c (map f (take at items))
    → made ≡ old ++ join_with_byte c (map f items)
joined_all {X = X} c f items at old made past is = is ∙ ap (λ (l : List X). old ++ join_with_byte c (map f l)) (take_all at items past)

-- ---- the name of a section

joined_word : (path : List ℕ) (word : List ℕ) → join_with_byte 46 (map decimal path ++ word ∷ []) ≡ join_with_byte 46 (map decimal path) ++ (separator_octets 46 (not (length path == 0)) ++ word)
joined_word [] word = refl
joined_word (n ∷ path) word =
    joined_push 46 (map decimal (n ∷ path)) word
    ∙ ap (λ (b : Bool). join_with_byte 46 (map decimal (n ∷ path)) ++ (separator_octets 46 (not b) ++ word)) (sym (ne_eqb (length (n ∷ path)) 0 (λ is. omega (arith, is))))

-- the words of the part after the path
joined_words : (path : List ℕ) (what : SectionPart)
    → join_with_byte 46 (map decimal path ++ part_words what) ≡ join_with_byte 46 (map decimal path) ++ (separator_octets 46 (not (names_all what) && not (length path == 0)) ++ join_with_byte 46 (part_words what))
joined_words path part.Whole = ap (join_with_byte 46) (append-nil (map decimal path)) ∙ sym (append-nil (join_with_byte 46 (map decimal path)))
joined_words path part.Header = joined_word path (codes "HEADER")
joined_words path (part.Fields names negated) = joined_word path _
joined_words path part.Text = joined_word path (codes "TEXT")
joined_words path part.Mime = joined_word path (codes "MIME")

-- the name is put last a piece after another
pub name_made : (path : List ℕ) (what : SectionPart) (partial : Option (ℕ × ℕ)) (is_separated : Bool) (old begun numbered spaced worded closed name : List ℕ) → begun ≡ old ++ codes "BODY[" → numbered ≡ begun ++ join_with_byte 46 (map decimal path)
    → is_separated ≡ (not (names_all what) && not (length path == 0)) → spaced ≡ numbered ++ separator_octets 46 is_separated → worded ≡ spaced ++ join_with_byte 46 (part_words what) → closed ≡ worded ++ codes "]"
    → name ≡ closed ++ partial_text partial → name ≡ old ++ section_name path what partial
name_made path what partial is_separated old begun numbered spaced worded closed name begun_is numbered_is apart_is spaced_is worded_is closed_is name_is =
    rw (name_is, closed_is, worded_is, spaced_is, apart_is, numbered_is, begun_is, joined_words path what) (simp append_assoc)

-- ---- what is asked

-- where there is no such section
pub nothing_wanted : (oracles : Oracles) (mode : Mode) (store : StoreState) (one : Listed) (asked : List ℕ) (partial : Option (ℕ × ℕ)) (wanted : Wanted)
    → wanted_parts oracles mode store one asked partial wanted None ≡ text (asked ++ codes " NIL") ∷ []
nothing_wanted oracles mode store one asked partial (want.Octets what) = refl
nothing_wanted oracles mode store one asked partial (want.Fields chosen) = refl

-- ---- a part of a section

-- it stands within the section
pub partial_within : (partial : Option (ℕ × ℕ)) (span : Span) (end : ℕ) → span.at + span.len ≤ end → (partial_span partial span).at + (partial_span partial span).len ≤ end
partial_within None span end within = within
partial_within (Some asked) span end within = omega arith

-- of octets that stand alone
pub partial_alone : (partial : Option (ℕ × ℕ)) (octets : List ℕ) (whole : Span) → whole.at ≡ 0 → whole.len ≡ length octets
    → partial_octets partial octets ≡ take (partial_span partial whole).len (drop (partial_span partial whole).at octets)
partial_alone None octets whole at len = rw (at, len) (sym (take_all (length octets) octets (omega arith)))
partial_alone (Some asked) octets whole at len =
    let place : whole.at + min asked.0 whole.len ≡ min asked.0 (length octets) = omega arith in
    rw (place, len) (sym (ap (λ (l : List ℕ). take (min asked.1 (length octets - asked.0)) l) (drop_min asked.0 octets)
    ∙ (ap (λ (n : ℕ). take (min asked.1 n) (drop asked.0 octets)) (sym (length-drop asked.0 octets)) ∙ take_min asked.1 (drop asked.0 octets))))

-- the part of the fields that was asked is put last as a literal
part_added : (asked : Asked) (chosen : Chosen) (header told : List ℕ) (whole : Span) (old headed new : List ℕ) → AddsText (AreChosen header chosen.names.now chosen.negated) [] told → whole.at ≡ 0 → whole.len ≡ length told
    → headed ≡ old ++ head_octets (name_of asked) (partial_span asked.partial whole).len
    → new ≡ headed ++ slice_range told (partial_span asked.partial whole).at ((partial_span asked.partial whole).at + (partial_span asked.partial whole).len) → AddsFields asked chosen header old new
part_added asked chosen header told whole old headed new are at len headed_is new_is =
    let span = partial_span asked.partial whole in
    let within : span.at + span.len ≤ length told = partial_within asked.partial whole (length told) (omega arith) in
    let part : partial_octets asked.partial told ≡ take span.len (drop span.at told) = partial_alone asked.partial told whole at len in
    let rest = length-drop span.at told in
    let size : length (take span.len (drop span.at told)) ≡ span.len = length-take-le span.len (drop span.at told) (omega arith) in
    let slice : slice_range told span.at (span.at + span.len) ≡ take span.len (drop span.at told) = ap (λ (n : ℕ). take n (drop span.at told)) (add_sub span.at span.len) in
    record {
      text = told;
      are_chosen = subst (AreChosen header chosen.names.now chosen.negated) (sym are.2) are.1;
      new_is = new_is ∙ (ap (λ (l : List ℕ). l ++ slice_range told span.at (span.at + span.len)) headed_is
          ∙ (append_assoc old (head_octets (name_of asked) span.len) (slice_range told span.at (span.at + span.len))
          ∙ (ap (λ (l : List ℕ). old ++ (head_octets (name_of asked) span.len ++ l)) slice
          ∙ (ap (λ (n : ℕ). old ++ (head_octets (name_of asked) n ++ take span.len (drop span.at told))) (sym size)
          ∙ ap (λ (l : List ℕ). old ++ (head_octets (name_of asked) (length l) ++ l)) (sym part)))));
    }
  where
    add_sub : (a b : ℕ) → (a + b) - a ≡ b
    add_sub a b = omega arith

pub fields_added : (asked : Asked) (chosen : Chosen) (header told : List ℕ) (whole span : Span) (read old headed new : List ℕ) → AddsText (AreChosen header chosen.names.now chosen.negated) [] told → whole.at ≡ 0
    → whole.len ≡ length told → span ≡ partial_span asked.partial whole → read ≡ told → headed ≡ old ++ head_octets (name_of asked) span.len → new ≡ headed ++ slice_range read span.at (span.at + span.len)
    → AddsFields asked chosen header old new
fields_added asked chosen header told whole span read old headed new are at len span_is read_is headed_is new_is =
    part_added asked chosen header told whole old headed new are at len (rw span_is at headed_is) (rw (read_is, span_is) at new_is)
