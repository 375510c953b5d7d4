-- No entity of a surrogate is an opened message/global.
use Rattle.std.proofs.Common.{◌≡◌, ℕ, Bool, true, false, inl, List, [], ◌∷◌, Some, refl, sym, ap, ◌∙◌, subst, codes, if◌then◌else◌}
use Rattle.std.proofs.lemmas.Bool.{both_ways, true≢false}
use Rattle.std.proofs.lemmas.Slice.Eq.{bytes_eq-Decides}
use Rattle.std.specs.List.{AllZip}
use Rattle.std.specs.Str.{bytes_eq}
use Rattle.mail_wire.specs.Octets.{is_white, same_name}
use Rattle.mail_wire.specs.Folds.{unfolded}
use Rattle.utf8_fields.specs.Parts.{FieldParts, HasParts, HasValue, field_octets}
use Rattle.utf8_fields.proofs.OneField.{HasParts-once}
use Rattle.utf8_fields.proofs.TrimLemmas.{trimmed}
use Rattle.param_grammar.specs.declared.ParamKind.TheVariants.{Content}
use Rattle.param_grammar.specs.Joining.{SaysParams}
use Rattle.param_2231.specs.GlobalTypes.{NamesGlobal}
use Rattle.param_2231.specs.ParamsReadBack.{served_main}
use Rattle.param_2231.proofs.GlobalLemmas.{main_once, names_global_says}
use Rattle.field_downgrade.specs.declared.kind.Kind.TheVariants.{Params}
use Rattle.field_downgrade.specs.Kinds.{kind_named}
use Rattle.field_downgrade.specs.Stands.{Stands, Same, Renamed, Ascii, StandsSo, SameMeaning, UnderOtherName, StillMalformed, IsSameMeaning, IsAsciiField, IsMalformed, IsChangedType, with_body}
use Rattle.field_downgrade.proofs.GlobalBodiesPlaces.{ChangesGlobal-some}
use Rattle.field_downgrade.proofs.OneMeaning.{HasValue-once}
use Rattle.field_downgrade.proofs.StructuredFields.{type_is_params}
use Rattle.mime_tree.specs.declared.entity.Entity.{Entity}
use Rattle.mime_tree.specs.declared.entity.Shape.TheVariants.{Message}
use Rattle.mime_tree.specs.Openings.{IsValueWhere, IsFirstValue}
use Rattle.mime_tree.specs.Rewriting.{IsSameEntity}
use Rattle.mime_tree.specs.Tree.{raws_of}
use Rattle.surrogate_rope.specs.Layout.{IsOpenGlobal, InEntity, StandsInAscii}
use Rattle.surrogate_rope.proofs.NameLemmas.{IsOpening, aside_differs}
use Rattle.surrogate_rope.proofs.FieldPairs.{Pair, pair_of}
use Rattle.surrogate_rope.proofs.SameTexts.{SayTypes, say_types, no_params}

-- the first of the made fields that has a name, and the field that it stands for, which is the first one that has it
record FirstMade (msg : List ℕ) (entity : Entity) (name : List ℕ) (raws : List (List ℕ)) (text : List ℕ) : Type 0 where
  raw : List ℕ
  made : List ℕ
  f : FieldParts
  g : FieldParts
  stands : InEntity StandsInAscii msg entity raw made
  has : HasParts raw f
  made_has : HasParts made g
  named : same_name f.name name ≡ true
  value : List ℕ
  is_value : HasValue f.body value
  made_value : HasValue g.body text
  first : IsFirstValue name raws (Some value)

-- the parts of a field that something stands for
parts_before : (open_global : Bool) (raw made : List ℕ) (g : FieldParts) → Stands raw made open_global → HasParts made g → (f : FieldParts) × HasParts raw f
parts_before open_global raw made g (Same ascii unchanged e) has = (g, subst (λ xs. HasParts xs g) e has)
parts_before open_global raw made g (Renamed f other opened is changed made_is same) has = (f, is.is_field)
parts_before open_global raw made g (Ascii f other high made_is so) has = (f, high.is_field)

-- a field of another name stands before the first one
after_other : (msg : List ℕ) (entity : Entity) (name raw : List ℕ) (raws : List (List ℕ)) (text : List ℕ) (f : FieldParts) → HasParts raw f → same_name f.name name ≡ false → FirstMade msg entity name raws text
    → FirstMade msg entity name (raw ∷ raws) text
after_other msg entity name raw raws text f has other later = record {
  raw = later.raw;
  made = later.made;
  f = later.f;
  g = later.g;
  stands = later.stands;
  has = later.has;
  made_has = later.made_has;
  named = later.named;
  value = later.value;
  is_value = later.is_value;
  made_value = later.made_value;
  first = (f, has, subst (λ b. IsValueWhere b f.body (IsFirstValue name raws) (Some later.value)) (sym other) later.first);
}

here_first : (msg : List ℕ) (entity : Entity) (name raw made : List ℕ) (raws : List (List ℕ)) (text : List ℕ) (f g : FieldParts) → InEntity StandsInAscii msg entity raw made → HasParts raw f → HasParts made g
    → same_name f.name name ≡ true → HasValue g.body text → FirstMade msg entity name (raw ∷ raws) text
here_first msg entity name raw made raws text f g stands has made_has named made_value =
    let value = trimmed is_white (unfolded f.body) in
    record {
      raw = raw;
      made = made;
      f = f;
      g = g;
      stands = stands;
      has = has;
      made_has = made_has;
      named = named;
      value = value.0;
      is_value = value.1;
      made_value = made_value;
      first = (f, has, subst (λ b. IsValueWhere b f.body (IsFirstValue name raws) (Some value.0)) (sym named) (value.0, value.1, refl));
    }

one_or_later : (is : Bool) (msg : List ℕ) (entity : Entity) (name raw made : List ℕ) (raws mades : List (List ℕ)) (text : List ℕ) (f g : FieldParts) → InEntity StandsInAscii msg entity raw made → HasParts raw f → HasParts made g
    → same_name f.name name ≡ is → IsValueWhere is g.body (IsFirstValue name mades) (Some text) → (IsFirstValue name mades (Some text) → FirstMade msg entity name raws text) → FirstMade msg entity name (raw ∷ raws) text
one_or_later true msg entity name raw made raws mades text f g stands has made_has named here later =
    let same : here.0 ≡ text = cc (here.2) in
    here_first msg entity name raw made raws text f g stands has made_has named (subst (λ t. HasValue g.body t) same here.1)
one_or_later false msg entity name raw made raws mades text f g stands has made_has named here later = after_other msg entity name raw raws text f has named (later here)

first_made : (msg : List ℕ) (entity : Entity) (name : List ℕ) (raws mades : List (List ℕ)) (text : List ℕ) → IsOpening name → AllZip (InEntity StandsInAscii msg entity) raws mades → IsFirstValue name mades (Some text)
    → FirstMade msg entity name raws text
first_made msg entity name [] [] text opens all first = cc first
first_made msg entity name [] (made ∷ mades) text opens all first = absurd all
first_made msg entity name (raw ∷ raws) [] text opens all first = absurd all
first_made msg entity name (raw ∷ raws) (made ∷ mades) text opens all first =
    let g = first.0 in
    let stands = all.0.holds.0 in
    let before = parts_before all.0.open_global raw made g stands first.1 in
    let pair = pair_of all.0.open_global raw made before.0 before.1 stands in
    let named : same_name g.name name ≡ same_name before.0.name name = subst (λ (p : FieldParts). same_name p.name name ≡ same_name before.0.name name) (HasParts-once made pair.g g pair.has first.1) (pair.named name opens) in
    one_or_later (same_name before.0.name name) msg entity name raw made raws mades text before.0 g all.0 before.1 first.1 refl
    (subst (λ b. IsValueWhere b g.body (IsFirstValue name mades) (Some text)) named first.2) (λ later. first_made msg entity name raws mades text opens all.1 later)

-- the main part that is served is message/global only where it was, and the entity isn't an opened one
served_not_global : (open_global : Bool) (main : List ℕ) → served_main open_global Content main ≡ codes "message/global" → (open_global ≡ false) × (main ≡ codes "message/global")
served_not_global false main same = (refl, same)
served_not_global true main same = by (bytes_eq main (codes "message/global")) refl same
  where
    by : (is : Bool) → bytes_eq main (codes "message/global") ≡ is → (if is then codes "message/rfc822" else main) ≡ codes "message/global" → (true ≡ false) × (main ≡ codes "message/global")
    by true e other = let no : false ≡ true = ap (λ m. bytes_eq m (codes "message/global")) other in absurd (true≢false (sym no))
    by false e other = absurd (both_ways (bytes_eq main (codes "message/global")) e ((bytes_eq-Decides main (codes "message/global")).1 other))

-- what means the same doesn't name it
same_none : (open_global : Bool) (f g : FieldParts) (value text : List ℕ) (at : ℕ) → same_name f.name (codes "Content-Type") ≡ true → HasValue f.body value → HasValue g.body text → IsSameMeaning open_global f g
    → ((place : ℕ) → NamesGlobal value place → open_global ≡ true) → NamesGlobal text at → ⊥
same_none open_global f g value text at named is_value made_value same opens names =
    let say = say_types open_global f g value text (type_is_params f.name named) is_value made_value same in
    let main : served_main open_global Content say.main ≡ codes "message/global"
    = main_once Content text (served_main open_global Content say.main) (codes "message/global") say.params names.params say.comments names.comments say.made_says names.says in
    let shut = served_not_global open_global say.main main in
    let place = names_global_says value say.params say.comments (subst (λ m. SaysParams Content value m say.params say.comments) shut.1 say.says) in
    both_ways open_global shut.0 (opens place.0 place.1)

-- so does what is still malformed
fault_none : (g : FieldParts) (text : List ℕ) (at : ℕ) → kind_named g.name ≡ Params Content → HasValue g.body text → IsMalformed g → NamesGlobal text at → ⊥
fault_none g text at kind made_value malformed names = no_params g text kind made_value malformed (codes "message/global") names.params names.comments names.says

-- an ASCII field that names it in an opened message/global has another one in its place
same_field : (open_global : Bool) (raw : List ℕ) (f : FieldParts) (value : List ℕ) (at : ℕ) → IsAsciiField raw f → same_name f.name (codes "Content-Type") ≡ true → HasValue f.body value
    → ¬ IsChangedType open_global raw → open_global ≡ true → NamesGlobal value at → ⊥
same_field false raw f value at is named is_value unchanged opened names = cc opened
same_field true raw f value at is named is_value unchanged opened names =
    let changed = ChangesGlobal-some f.body value at is.is_field.body is_value names in
    unchanged (field_octets (with_body f changed.0), record { f = f; is_field = is; kind = type_is_params f.name named; changed = changed.0; changes = changed.1; made_is = refl })

stands_none : (open_global : Bool) (raw made : List ℕ) (f g : FieldParts) (value text : List ℕ) (at : ℕ) → Stands raw made open_global → HasParts raw f → HasParts made g → same_name f.name (codes "Content-Type") ≡ true
    → HasValue f.body value → HasValue g.body text → ((place : ℕ) → NamesGlobal value place → open_global ≡ true) → NamesGlobal text at → ⊥
stands_none open_global raw made f g value text at (Same ascii unchanged e) has made_has named is_value made_value opens names =
    let parts : g ≡ f = HasParts-once raw g f (subst (λ xs. HasParts xs g) e made_has) has in
    let same : text ≡ value = HasValue-once f.body text value (subst (λ (p : FieldParts). HasValue p.body text) parts made_value) is_value in
    let is_named : NamesGlobal value at = subst (λ t. NamesGlobal t at) same names in
    same_field open_global raw f value at (record { is_field = has; ascii = ascii }) named is_value unchanged (opens at is_named) is_named
stands_none open_global raw made f g value text at (Renamed p q opened is changed made_is same) has made_has named is_value made_value opens names =
    same_none open_global f g value text at named is_value made_value
    (subst (λ (x : FieldParts). IsSameMeaning open_global x g) (HasParts-once raw p f is.is_field has) (subst (λ (x : FieldParts). IsSameMeaning open_global p x) (HasParts-once made q g made_is.is_field made_has) same)) opens names
stands_none open_global raw made f g value text at (Ascii p q high made_is so) has made_has named is_value made_value opens names =
    by (subst (λ (x : FieldParts). StandsSo open_global x g) (HasParts-once raw p f high.is_field has) (subst (λ (x : FieldParts). StandsSo open_global p x) (HasParts-once made q g made_is.is_field made_has) so))
  where
    by : StandsSo open_global f g → ⊥
    by (SameMeaning same) = same_none open_global f g value text at named is_value made_value same opens names
    by (UnderOtherName e) = both_ways (same_name f.name (codes "Content-Type")) (aside_differs f (codes "Content-Type") (inl refl) e.aside) named
    by (StillMalformed kept) = fault_none g text at (ap kind_named kept.name ∙ type_is_params f.name named) made_value kept.still_malformed names

-- An entity of a surrogate is no opened message/global.
pub none_open : (msg : List ℕ) (entity : Entity) (next : ℕ) (made : List ℕ) (other : Entity) (other_next : ℕ) → IsSameEntity (InEntity StandsInAscii msg) msg entity next made other other_next → ¬ IsOpenGlobal made other
none_open msg entity next made other other_next same is =
    let first = first_made msg entity (codes "Content-Type") (raws_of msg entity.block) (raws_of made other.block) is.text (inl refl) same.fields is.first in
    stands_none first.stands.open_global first.raw first.made first.f first.g first.value is.text is.at first.stands.holds.0 first.has first.made_has first.named first.is_value first.made_value
    (λ place names. first.stands.is_open.1 (record { shape = sym same.shape ∙ is.shape; text = first.value; first = first.first; at = place; names = names })) is.names
