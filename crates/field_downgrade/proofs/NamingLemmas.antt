-- The ASCII Content-Type of an opened message/global is named the type of a message.
use Rattle.std.specs.Prelude.{IfOk}
use Rattle.std.proofs.Common.{◌≡◌, ◌⊎◌, Result, Ok, Err, inl, inr, ℕ, Bool, true, false, List, ◌∷◌, ◌++◌, get_or, codes, refl, sym, ap, ◌∙◌, subst, arith}
use Rattle.std.specs.List.{list_all}
use Rattle.std.proofs.lemmas.Bool.{and_parts, both_ways}
use Rattle.std.proofs.lemmas.List.{append_cancel_left, append_cancel_right}
use Rattle.std.proofs.lemmas.List.Folds.{list_all-append}
use Rattle.encoded_words.proofs.Octets.{all_cons}
use Rattle.mail_wire.specs.Octets.{is_ascii, is_white}
use Rattle.mail_wire.specs.Folds.{unfolded, IsFolded}
use Rattle.mail_wire.proofs.AllLemmas.{pass-append}
use Rattle.param_grammar.specs.Joining.{SaysParams}
use Rattle.utf8_fields.specs.Parts.{FieldParts, HasParts, HasValue, IsField, field_octets}
use Rattle.utf8_fields.proofs.OneField.{HasParts-once}
use Rattle.param_grammar.specs.declared.ParamKind.TheVariants.{Content, Disposition}
use Rattle.param_2231.specs.GlobalTypes.{NamesGlobal, with_rfc822}
use Rattle.field_downgrade.specs.declared.kind.Kind.{Kind}
use Rattle.field_downgrade.specs.declared.kind.Kind.TheVariants.{Unstructured, Addresses, Phrases, Params, Ids, Path, Typed, Trace, Plain}
use Rattle.field_downgrade.specs.Kinds.{kind_named}
use Rattle.field_downgrade.specs.GlobalBodies.{ChangesGlobal}
use Rattle.field_downgrade.specs.Stands.{IsAsciiField, NamesMessage, with_body, Changed, Renamed, IsSameMeaning, Parameters, SaysAs}
use Rattle.field_downgrade.specs.Message.{IsServedField, PutsServed}
use Rattle.field_downgrade.specs.private.Steps.{PutsNamed}
use Rattle.utf8_fields.proofs.TrimLemmas.{trimmed}
use Rattle.field_downgrade.proofs.OneMeaning.{HasValue-once}
use Rattle.field_downgrade.proofs.Rewriting.{IsServed-kept}
use Rattle.field_downgrade.proofs.StructuredFields.{structured_no_hyphen}
use Rattle.param_grammar.proofs.SaidParams.{SaysParams-once}
use Rattle.param_grammar.proofs.DecideParams.{decide_params}
use Rattle.param_2231.proofs.GlobalLemmas.{decide_global, global_read}
use Rattle.field_downgrade.proofs.GlobalBodiesPlaces.{ChangesGlobal-some}
use Rattle.field_downgrade.proofs.GlobalBodiesLemmas.{ChangesGlobal-value, ChangesGlobal-all, ChangesGlobal-parts}
use Rattle.field_downgrade.proofs.NulLemmas.{KeepsNoNul, KeepsNoNul-from, not_nul}

decide_type : (kind : Kind) → (kind ≡ Params Content) ⊎ ¬ (kind ≡ Params Content)
decide_type Unstructured = inr (λ e. cc e)
decide_type Addresses = inr (λ e. cc e)
decide_type Phrases = inr (λ e. cc e)
decide_type (Params Content) = inl refl
decide_type (Params Disposition) = inr (λ e. cc e)
decide_type Ids = inr (λ e. cc e)
decide_type Path = inr (λ e. cc e)
decide_type Typed = inr (λ e. cc e)
decide_type Trace = inr (λ e. cc e)
decide_type Plain = inr (λ e. cc e)

-- a field without `global` in its value isn't such a type
pub not_named : (octets : List ℕ) (p : FieldParts) (value : List ℕ) → ((f : FieldParts) → HasParts octets f → p ≡ f) → HasValue p.body value → ((at : ℕ) → ¬ (NamesGlobal value at)) → (made : List ℕ) → NamesMessage octets made → ⊥
not_named octets p value once has none made names =
    let same : names.f ≡ p = sym (once names.f names.is_field.is_field) in
    let changes : ChangesGlobal p.body names.changed = subst (λ (g : FieldParts). ChangesGlobal g.body names.changed) same names.changes in
    none changes.at (subst (λ v. NamesGlobal v changes.at) (HasValue-once p.body changes.value value changes.has has) changes.names)

-- whether an ASCII field is such a type
pub decide_named : (octets : List ℕ) (f : FieldParts) → IsAsciiField octets f → ((made : List ℕ) × NamesMessage octets made) ⊎ ((made : List ℕ) → ¬ (NamesMessage octets made))
decide_named octets f is = elim (decide_type (kind_named f.name)) [
  | inr other ↦ inr (λ made names. other (subst (λ (g : FieldParts). kind_named g.name ≡ Params Content) (HasParts-once octets names.f f names.is_field.is_field is.is_field) names.kind))
  | inl kind ↦
      let value = trimmed is_white (unfolded f.body) in
      elim (decide_global value.0 (decide_params Content value.0)) [
        | inl names ↦
            let changed = ChangesGlobal-some f.body value.0 names.0 is.is_field.body value.1 names.1 in
            inl (field_octets (with_body f changed.0), record { f = f; is_field = is; kind = kind; changed = changed.0; changes = changed.1; made_is = refl })
        | inr none ↦ inr (not_named octets f value.0 (λ g other. HasParts-once octets f g is.is_field other) value.1 none)
      ]
]

-- the field with another body
frame_all : (p : ℕ → Bool) → p 58 ≡ true → (f : FieldParts) (changed : List ℕ) → list_all p (field_octets f) ≡ true → (list_all p f.body ≡ true → list_all p changed ≡ true)
    → list_all p (field_octets (with_body f changed)) ≡ true
frame_all p colon f changed all imp =
    let name = and_parts (list_all p f.name) (list_all p (f.white ++ 58 ∷ (f.body ++ f.ending))) (sym (list_all-append p f.name (f.white ++ 58 ∷ (f.body ++ f.ending))) ∙ all) in
    let white = and_parts (list_all p f.white) (list_all p (58 ∷ (f.body ++ f.ending))) (sym (list_all-append p f.white (58 ∷ (f.body ++ f.ending))) ∙ name.1) in
    let following = and_parts (p 58) (list_all p (f.body ++ f.ending)) white.1 in
    let body = and_parts (list_all p f.body) (list_all p f.ending) (sym (list_all-append p f.body f.ending) ∙ following.1) in
    pass-append p f.name (f.white ++ 58 ∷ (changed ++ f.ending)) name.0
    (pass-append p f.white (58 ∷ (changed ++ f.ending)) white.0 (all_cons p 58 (changed ++ f.ending) colon (pass-append p changed f.ending (imp body.0) body.1)))

same_body : (f : FieldParts) (changed : List ℕ) → field_octets (with_body f changed) ≡ field_octets f → changed ≡ f.body
same_body f changed e =
    let following : f.white ++ 58 ∷ (changed ++ f.ending) ≡ f.white ++ 58 ∷ (f.body ++ f.ending)
    = append_cancel_left f.name (f.white ++ 58 ∷ (changed ++ f.ending)) (f.white ++ 58 ∷ (f.body ++ f.ending)) e in
    let colon : 58 ∷ (changed ++ f.ending) ≡ 58 ∷ (f.body ++ f.ending) = append_cancel_left f.white (58 ∷ (changed ++ f.ending)) (58 ∷ (f.body ++ f.ending)) following in
    append_cancel_right changed f.body f.ending (cc colon)

-- such a field stands for the type
named_parts : (octets made : List ℕ) → (n : NamesMessage octets made) → IsAsciiField made (with_body n.f n.changed)
named_parts octets made n =
    let is = n.is_field.is_field in
    let ascii : list_all is_ascii (field_octets n.f) ≡ true = subst (λ xs. list_all is_ascii xs ≡ true) is.spelled n.is_field.ascii in
    record {
      is_field = subst (λ xs. HasParts xs (with_body n.f n.changed)) (sym n.made_is) (ChangesGlobal-parts octets n.f n.changed is n.changes);
      ascii = rw (n.made_is) (frame_all is_ascii refl n.f n.changed ascii (ChangesGlobal-all is_ascii refl n.f.body n.changed n.changes));
    }

-- it gains no NUL
named_lacks : (octets made : List ℕ) → NamesMessage octets made → KeepsNoNul octets made
named_lacks octets made n =
    KeepsNoNul-from octets made
    (λ all.
    let spelled : list_all not_nul (field_octets n.f) ≡ true = subst (λ xs. list_all not_nul xs ≡ true) n.is_field.is_field.spelled all in
    rw (n.made_is) (frame_all not_nul refl n.f n.changed spelled (ChangesGlobal-all not_nul refl n.f.body n.changed n.changes)))

named_means : (octets made : List ℕ) → (n : NamesMessage octets made) → IsSameMeaning true n.f (with_body n.f n.changed)
named_means octets made n =
    let params = n.changes.names.params in
    let comments = n.changes.names.comments in
    record {
      name = refl;
      no_hyphen = structured_no_hyphen n.f.name (λ e. by n.kind e);
      meaning = Parameters (codes "message/global") params comments;
      made_meaning = Parameters (codes "message/rfc822") params comments;
      means = record {
        value = n.changes.value;
        has_value = n.changes.has;
        says = subst (λ k. SaysAs k n.f.name n.changes.value (Parameters (codes "message/global") params comments)) (sym n.kind) (codes "message/global", params, comments, refl, n.changes.names.says);
      };
      made_means = record {
        value = with_rfc822 n.changes.value n.changes.at;
        has_value = ChangesGlobal-value n.f.body n.changed n.is_field.is_field.body n.changes;
        says = subst (λ k. SaysAs k n.f.name (with_rfc822 n.changes.value n.changes.at) (Parameters (codes "message/rfc822") params comments)) (sym n.kind)
            (codes "message/rfc822", params, comments, refl, global_read n.changes.value n.changes.at (codes "message/global") params comments n.changes.names n.changes.names.says);
      };
      stands = rw (n.kind) refl;
    }
  where
    by : {kind : Kind} → kind ≡ Params Content → kind ≡ Unstructured → ⊥
    by e u = let no = sym e ∙ u in cc no

pub IsServed-named : (octets made : List ℕ) → NamesMessage octets made → IsServedField true octets made
IsServed-named octets made n =
    let parts = named_parts octets made n in
    record {
      layout = Changed refl n;
      stands = Renamed n.f (with_body n.f n.changed) refl n.is_field (made, n) parts (named_means octets made n);
      ascii = parts.ascii;
      lines = record {
        f = n.f;
        g = with_body n.f n.changed;
        is_field = n.is_field.is_field;
        made_field = parts.is_field;
        ending = refl;
        no_nul = named_lacks octets made n;
        no_hyphen = λ not_ascii. absurd (both_ways (list_all is_ascii octets) not_ascii n.is_field.ascii);
      };
    }

two_types : codes "message/rfc822" ≡ codes "message/global" → ⊥
two_types e = let ninth : 114 ≡ 103 = ap (λ xs. get_or xs 8 0) e in omega (arith, ninth)

-- a body doesn't name both types
changed_differs : (body changed : List ℕ) → IsFolded body → ChangesGlobal body changed → changed ≡ body → ⊥
changed_differs body changed folded c e =
    let params = c.names.params in
    let comments = c.names.comments in
    let has : HasValue body (with_rfc822 c.value c.at) = subst (λ b. HasValue b (with_rfc822 c.value c.at)) e (ChangesGlobal-value body changed folded c) in
    let same : with_rfc822 c.value c.at ≡ c.value = HasValue-once body (with_rfc822 c.value c.at) c.value has c.has in
    let message : SaysParams Content c.value (codes "message/rfc822") params comments
    = subst (λ v. SaysParams Content v (codes "message/rfc822") params comments) same (global_read c.value c.at (codes "message/global") params comments c.names c.names.says) in
    let once = SaysParams-once Content c.value (codes "message/rfc822") (codes "message/global") params params comments comments message c.names.says in
    two_types once.main

-- it is another field than the type
pub named_differs : (octets made : List ℕ) → NamesMessage octets made → made ≡ octets → ⊥
named_differs octets made n e =
    let is = n.is_field.is_field in
    changed_differs n.f.body n.changed is.body n.changes (same_body n.f n.changed (sym n.made_is ∙ e ∙ is.spelled))

-- the served form of an ASCII field
pub IsServed-ascii : (open_global : Bool) (octets : List ℕ) → IsField octets → list_all is_ascii octets ≡ true → (made : List ℕ) × IsServedField open_global octets made
IsServed-ascii false octets is_any ascii = (octets, IsServed-kept false octets is_any ascii (λ no. no))
IsServed-ascii true octets is_any ascii = elim (decide_named octets is_any.parts (record { is_field = is_any.has_parts; ascii = ascii })) [
  | inl n ↦ (n.0, IsServed-named octets n.0 n.1)
  | inr none ↦ (octets, IsServed-kept true octets is_any ascii (λ changed. none changed.0 changed.1))
]

-- the answer of the field that was named or wasn't is that of the served field
pub puts_named : (open_global named : Bool) (raw old new : List ℕ) → IsField raw → list_all is_ascii raw ≡ true → open_global ≡ true → PutsNamed raw named old new → PutsServed open_global raw named old new
puts_named false named raw old new is_any ascii opened puts = cc opened
puts_named true true raw old new is_any ascii opened puts = (puts.more, IsServed-named raw puts.more puts.holds, named_differs raw puts.more puts.holds, puts.added)
puts_named true false raw old new is_any ascii opened puts = (IsServed-kept true raw is_any ascii (λ changed. puts.0 changed.0 changed.1), puts.1)

pub named_served : {E : Type 0} (open_global : Bool) (raw old new : List ℕ) (r : Result Bool E) → IsField raw → list_all is_ascii raw ≡ true → open_global ≡ true → IfOk r (λ named. PutsNamed raw named old new)
    → IfOk r (λ is_new. PutsServed open_global raw is_new old new)
named_served open_global raw old new (Ok named) is_any ascii opened puts = puts_named open_global named raw old new is_any ascii opened puts
named_served open_global raw old new (Err e) is_any ascii opened puts = tt

pub other_type : (raw : List ℕ) (p : FieldParts) → ((f : FieldParts) → HasParts raw f → p ≡ f) → ¬ (kind_named p.name ≡ Params Content) → (made : List ℕ) → ¬ NamesMessage raw made
other_type raw p once other made names = other (ap (λ (f : FieldParts). kind_named f.name) (once names.f names.is_field.is_field) ∙ names.kind)

pub names_message : (raw : List ℕ) (p : FieldParts) (changed : List ℕ) → HasParts raw p → list_all is_ascii raw ≡ true → kind_named p.name ≡ Params Content → ChangesGlobal p.body changed
    → NamesMessage raw (field_octets (with_body p changed))
names_message raw p changed has ascii kind changes = record { f = p; is_field = record { is_field = has; ascii = ascii }; kind = kind; changed = changed; changes = changes; made_is = refl }
