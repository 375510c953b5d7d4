-- What a body with `rfc822` in place of `global` is.
use Rattle.std.proofs.Common.{◌≡◌, ℕ, ◌+◌, ◌<◌, Bool, true, List, [], ◌∷◌, ◌++◌, length, take, drop, refl, sym, ap, ◌∙◌, subst, arith}
use Rattle.std.proofs.lemmas.Bool.{and_parts}
use Rattle.std.proofs.lemmas.List.{append_assoc, append_cancel_left, length-append, drop_at}
use Rattle.std.proofs.lemmas.List.Folds.{list_all-append}
use Rattle.std.proofs.lemmas.Str.{IsUtf8-append, IsUtf8-from_ascii}
use Rattle.std.specs.List.{list_all}
use Rattle.std.specs.Str.{IsUtf8}
use Rattle.std.specs.Prelude.{codes}
use Rattle.mail_wire.specs.Octets.{is_white, is_ascii}
use Rattle.mail_wire.specs.Folds.{unfolded, IsFolded}
use Rattle.mail_wire.specs.Spans.{Stops}
use Rattle.mail_wire.proofs.Folded.{without_ends, without_ends-append, unfolded-folded, IsFolded-append, IsFolded-plain}
use Rattle.mail_wire.proofs.SpanLemmas.{span_once}
use Rattle.mail_wire.proofs.AllLemmas.{pass-append}
use Rattle.encoded_words.proofs.WrittenWords.{ascii_literal}
use Rattle.utf8_fields.specs.Parts.{FieldParts, field_octets, HasParts, HasValue}
use Rattle.utf8_fields.proofs.OneValue.{IsTrimmed-once}
use Rattle.encoded_words.proofs.WritableUnits.{all_ascii, before_ascii, BeginsAscii}
use Rattle.param_2231.specs.GlobalTypes.{NamesGlobal, with_rfc822}
use Rattle.param_2231.proofs.GlobalLemmas.{IsGlobalAt, global_at, NamesGlobal-once, with_rfc822-stops, with_rfc822-stops_after}
use Rattle.field_downgrade.specs.Stands.{with_body}
use Rattle.field_downgrade.specs.GlobalBodies.{ChangesGlobal}
use Rattle.field_downgrade.proofs.GlobalBodiesShown.{AreAtom, atom_plain, cut_atom, begins_shown, place_once}
use Rattle.field_downgrade.proofs.GlobalBodiesPlaces.{front_is, word_is, value_stops, shown_value}
use Rattle.field_downgrade.proofs.Pieces.{keeps_all}
use Rattle.field_downgrade.proofs.WordLemmas.{ascii_small}

-- ---- the parts of a body

-- the body by the word, which is one of an atom
pub record IsCutAt (body : List ℕ) (c : List ℕ) (change : ChangesGlobal body c) : Type 0 where
  pub atom : AreAtom change.word
  pub some : 0 < length change.word
  pub ascii : list_all is_ascii change.word ≡ true
  pub before_folded : IsFolded change.before
  pub after_folded : IsFolded change.after
  pub shown : without_ends change.before ≡ change.has.lead ++ take change.at change.value

pub cut_at : (body changed : List ℕ) → IsFolded body → (c : ChangesGlobal body changed) → IsCutAt body changed c
cut_at body changed is c =
    let g = global_at c.value c.at c.names in
    let word : c.word ≡ g.word = c.word_is ∙ word_is c.value c.at g in
    let atom : AreAtom c.word = subst AreAtom (sym word) g.atom in
    let some : 0 < length c.word = omega (arith, ap length word, g.size) in
    let folded = cut_atom body c.before c.word c.after is some atom c.whole in
    record {
      atom = atom;
      some = some;
      ascii = ap (list_all is_ascii) word ∙ g.ascii;
      before_folded = folded.0;
      after_folded = folded.1;
      shown = sym (unfolded-folded c.before folded.0) ∙ c.place;
    }

-- ---- one changed body

-- what is shown has one value, and white of one length before it
same_front : (xs lead other value value2 trail trail2 : List ℕ) (at at2 : ℕ) → value ≡ value2 → at ≡ at2 → NamesGlobal value at → Stops is_white value → list_all is_white lead ≡ true → list_all is_white other ≡ true
    → xs ≡ lead ++ (value ++ trail) → xs ≡ other ++ (value2 ++ trail2) → lead ++ take at value ≡ other ++ take at2 value2
same_front xs lead other value value2 trail trail2 at at2 same place names stops white white2 e f =
    let g = global_at value at names in
    let first = value_stops value trail at g stops in
    let second : Stops is_white (value2 ++ trail2) = subst (λ v. Stops is_white (v ++ trail2)) same (value_stops value trail2 at g stops) in
    let lead_is : lead ≡ other = (span_once is_white lead other (value ++ trail) (value2 ++ trail2) white white2 first second (sym e ∙ f)).0 in
    ap (λ r. r ++ take at value) lead_is ∙ ap (λ n. other ++ take n value) place ∙ ap (λ v. other ++ take at2 v) same

pub ChangesGlobal-once : (body changed other : List ℕ) → IsFolded body → ChangesGlobal body changed → ChangesGlobal body other → changed ≡ other
ChangesGlobal-once body changed other is c d =
    let value : c.value ≡ d.value = IsTrimmed-once is_white (unfolded body) c.value d.value c.has d.has in
    let at : c.at ≡ d.at = NamesGlobal-once d.value c.at d.at (subst (λ v. NamesGlobal v c.at) value c.names) d.names in
    let p = cut_at body changed is c in
    let q = cut_at body other is d in
    let front : c.has.lead ++ take c.at c.value ≡ d.has.lead ++ take d.at d.value =
    same_front (unfolded body) c.has.lead d.has.lead c.value d.value c.has.trail d.has.trail c.at d.at value at c.names c.has.begins c.has.lead_passes d.has.lead_passes c.has.whole d.has.whole in
    let word : c.word ≡ d.word = c.word_is ∙ ap (λ v. take 6 (drop c.at v)) value ∙ ap (λ n. take 6 (drop n d.value)) at ∙ sym d.word_is in
    let cut = place_once c.before d.before (c.word ++ c.after) (d.word ++ d.after) (sym c.whole ∙ d.whole) (p.shown ∙ front ∙ sym q.shown)
    (begins_shown c.word c.after p.some p.atom) (begins_shown d.word d.after q.some q.atom) in
    let after : c.after ≡ d.after = append_cancel_left d.word c.after d.after (ap (λ w. w ++ c.after) (sym word) ∙ cut.1) in
    c.changed_is ∙ ap (λ b. b ++ (codes "rfc822" ++ c.after)) cut.0 ∙ ap (λ a. d.before ++ (codes "rfc822" ++ a)) after ∙ sym d.changed_is

-- ---- the changed body is one, too

abbrev new_folded : IsFolded (codes "rfc822")
new_folded = IsFolded-plain (codes "rfc822") refl

pub ChangesGlobal-folded : (body changed : List ℕ) → IsFolded body → ChangesGlobal body changed → IsFolded changed
ChangesGlobal-folded body changed is c =
    let p = cut_at body changed is c in
    subst IsFolded (sym c.changed_is) (IsFolded-append c.before (codes "rfc822" ++ c.after) p.before_folded (IsFolded-append (codes "rfc822") c.after new_folded p.after_folded))

-- what is shown after the word
shown_after : (body changed : List ℕ) (is : IsFolded body) (c : ChangesGlobal body changed) → without_ends c.after ≡ drop (c.at + 6) c.value ++ c.has.trail
shown_after body changed is c =
    let g = global_at c.value c.at c.names in
    let p = cut_at body changed is c in
    let word : c.word ≡ g.word = c.word_is ∙ word_is c.value c.at g in
    let rest : drop (c.at + 6) c.value ≡ g.rest = rest_is c.value c.at g in
    let value : c.value ≡ take c.at c.value ++ (g.word ++ g.rest) = g.whole ∙ ap (λ f. f ++ (g.word ++ g.rest)) (sym (front_is c.value c.at g)) in
    let split : c.has.lead ++ (c.value ++ c.has.trail) ≡ (c.has.lead ++ take c.at c.value) ++ (g.word ++ (g.rest ++ c.has.trail)) =
    ap (λ v. c.has.lead ++ (v ++ c.has.trail)) value ∙ ap (λ r. c.has.lead ++ r) (append_assoc (take c.at c.value) (g.word ++ g.rest) c.has.trail
    ∙ ap (λ r. take c.at c.value ++ r) (append_assoc g.word g.rest c.has.trail)) ∙ sym (append_assoc c.has.lead (take c.at c.value) (g.word ++ (g.rest ++ c.has.trail))) in
    let whole : without_ends body ≡ (c.has.lead ++ take c.at c.value) ++ (g.word ++ without_ends c.after) =
    ap without_ends c.whole ∙ without_ends-append c.before (c.word ++ c.after) ∙ ap (λ r. r ++ without_ends (c.word ++ c.after)) p.shown
    ∙ ap (λ r. (c.has.lead ++ take c.at c.value) ++ r) (without_ends-append c.word c.after ∙ ap (λ r. r ++ without_ends c.after) (keeps_all c.word (atom_plain c.word p.atom) ∙ word)) in
    let both : (c.has.lead ++ take c.at c.value) ++ (g.word ++ without_ends c.after) ≡ (c.has.lead ++ take c.at c.value) ++ (g.word ++ (g.rest ++ c.has.trail)) =
    sym whole ∙ shown_value body c.value is c.has ∙ split in
    let following = append_cancel_left (c.has.lead ++ take c.at c.value) (g.word ++ without_ends c.after) (g.word ++ (g.rest ++ c.has.trail)) both in
    append_cancel_left g.word (without_ends c.after) (g.rest ++ c.has.trail) following ∙ ap (λ r. r ++ c.has.trail) (sym rest)
  where
    rest_is : (value : List ℕ) (at : ℕ) (g : IsGlobalAt value at) → drop (at + 6) value ≡ g.rest
    rest_is value at g =
        ap (drop (at + 6)) (g.whole ∙ sym (append_assoc g.front g.word g.rest)) ∙ drop_at (g.front ++ g.word) g.rest (at + 6) (omega (arith, g.at_is, g.size, length-append g.front g.word))

-- its value is the value with `rfc822` in place of `global`
pub ChangesGlobal-value : (body changed : List ℕ) → IsFolded body → (c : ChangesGlobal body changed) → HasValue changed (with_rfc822 c.value c.at)
ChangesGlobal-value body changed is c =
    let p = cut_at body changed is c in
    let rest : List ℕ = drop (c.at + 6) c.value in
    let shown : without_ends changed ≡ (c.has.lead ++ take c.at c.value) ++ (codes "rfc822" ++ (rest ++ c.has.trail)) =
    ap without_ends c.changed_is ∙ without_ends-append c.before (codes "rfc822" ++ c.after) ∙ ap (λ r. r ++ without_ends (codes "rfc822" ++ c.after)) p.shown
    ∙ ap (λ r. (c.has.lead ++ take c.at c.value) ++ (codes "rfc822" ++ r)) (shown_after body changed is c) in
    let joined : (c.has.lead ++ take c.at c.value) ++ (codes "rfc822" ++ (rest ++ c.has.trail)) ≡ c.has.lead ++ (with_rfc822 c.value c.at ++ c.has.trail) =
    append_assoc c.has.lead (take c.at c.value) (codes "rfc822" ++ (rest ++ c.has.trail))
    ∙ ap (λ r. c.has.lead ++ r) (sym (append_assoc (take c.at c.value) (codes "rfc822") (rest ++ c.has.trail)) ∙ sym (append_assoc (take c.at c.value ++ codes "rfc822") rest c.has.trail)) in
    record {
      lead = c.has.lead;
      trail = c.has.trail;
      lead_passes = c.has.lead_passes;
      trail_passes = c.has.trail_passes;
      begins = with_rfc822-stops c.value c.at c.names c.has.begins;
      ends = with_rfc822-stops_after c.value c.at c.names c.has.ends;
      whole = unfolded-folded changed (ChangesGlobal-folded body changed is c) ∙ shown ∙ joined;
    }

-- what holds of each octet of the body, and of the type, holds of each octet of the changed one
pub ChangesGlobal-all : (p : ℕ → Bool) → list_all p (codes "rfc822") ≡ true → (body changed : List ℕ) → ChangesGlobal body changed → list_all p body ≡ true → list_all p changed ≡ true
ChangesGlobal-all p type body changed c all =
    let front = and_parts (list_all p c.before) (list_all p (c.word ++ c.after)) (sym (list_all-append p c.before (c.word ++ c.after)) ∙ sym (ap (list_all p) c.whole) ∙ all) in
    let rest = and_parts (list_all p c.word) (list_all p c.after) (sym (list_all-append p c.word c.after) ∙ front.1) in
    ap (list_all p) c.changed_is ∙ pass-append p c.before (codes "rfc822" ++ c.after) front.0 (pass-append p (codes "rfc822") c.after type rest.1)

begins_ascii : (word after : List ℕ) → 0 < length word → list_all is_ascii word ≡ true → BeginsAscii (word ++ after)
begins_ascii [] after some ascii = absurd (omega (arith, some))
begins_ascii (x ∷ word) after some ascii = ascii_small x (and_parts (is_ascii x) (list_all is_ascii word) ascii).0

-- it is UTF-8 where the body is
pub ChangesGlobal-utf8 : (body changed : List ℕ) → IsFolded body → ChangesGlobal body changed → IsUtf8 body → IsUtf8 changed
ChangesGlobal-utf8 body changed is c utf8 =
    let p = cut_at body changed is c in
    let front = before_ascii c.before (c.word ++ c.after) (begins_ascii c.word c.after p.some p.ascii) (subst IsUtf8 c.whole utf8) in
    let following = all_ascii is_ascii ascii_small c.word c.after p.ascii front.rest in
    let new : IsUtf8 (codes "rfc822") = IsUtf8-from_ascii (codes "rfc822") (ascii_literal (codes "rfc822") refl) in
    subst IsUtf8 (sym c.changed_is) (IsUtf8-append c.before (codes "rfc822" ++ c.after) front.front (IsUtf8-append (codes "rfc822") c.after new following.rest))

pub ChangesGlobal-parts : (octets : List ℕ) (f : FieldParts) (changed : List ℕ) → HasParts octets f → ChangesGlobal f.body changed → HasParts (field_octets (with_body f changed)) (with_body f changed)
ChangesGlobal-parts octets f changed has c = record {
  spelled = refl;
  named = has.named;
  name = has.name;
  white = has.white;
  body = ChangesGlobal-folded f.body changed has.body c;
  utf8 = ChangesGlobal-utf8 f.body changed has.body c has.utf8;
  ending = has.ending;
}
