-- Fields with their CRLF put on say what the others say of how an entity is opened.
use Rattle.std.proofs.Common.{◌≡◌, ℕ, ◌⊎◌, inl, inr, List, [], ◌∷◌, ◌++◌, Bool, true, false, Option, codes, refl, sym, ap, ◌∙◌, subst, append_assoc}
use Rattle.std.specs.List.{AllZip, AllByRecursion, list_all}
use Rattle.mail_wire.specs.Lines.{crlf}
use Rattle.mail_wire.specs.Octets.{is_ascii, same_name}
use Rattle.mail_wire.proofs.AllLemmas.{pass-append}
use Rattle.utf8_fields.specs.Parts.{FieldParts, HasParts, field_octets}
use Rattle.utf8_fields.proofs.OneField.{HasParts-once}
use Rattle.mime_tree.specs.declared.openings.Opening.{Opening}
use Rattle.mime_tree.specs.declared.openings.Opening.TheVariants.{Nothing}
use Rattle.mime_tree.specs.Openings.{IsIdentity, IsValueWhere, IsFirstValue, OpensByFields, Opens}
use Rattle.mime_tree.proofs.DecidingOpenings.{AreRawFields}
use Rattle.utf8_reports.proofs.EndedBlocks.{IsEndedField}

-- the parts of the field with its CRLF
record HasEndedParts (made : List ℕ) (f : FieldParts) : Type 0 where
  g : FieldParts
  has : HasParts made g
  name : g.name ≡ f.name
  body : g.body ≡ f.body

abbrev with_ending : FieldParts → List ℕ → FieldParts
with_ending f ending = record { name = f.name; white = f.white; body = f.body; ending = ending }

-- a field without its ending, and then the ending
joined_ending : (f : FieldParts) (ending : List ℕ) → field_octets (with_ending f []) ++ ending ≡ field_octets (with_ending f ending)
joined_ending f ending =
    append_assoc f.name (f.white ++ 58 ∷ (f.body ++ [])) ending
    ∙ ap (λ rest. f.name ++ rest) (append_assoc f.white (58 ∷ (f.body ++ [])) ending)
    ∙ ap (λ rest. f.name ++ (f.white ++ 58 ∷ rest)) (append_assoc f.body [] ending)

put_parts : (raw made : List ℕ) (f : FieldParts) → HasParts raw f → f.ending ≡ [] → made ≡ raw ++ crlf → HasEndedParts made f
put_parts raw made f has none put =
    let spelled : raw ≡ field_octets (with_ending f []) = has.spelled ∙ ap (λ ending. field_octets (with_ending f ending)) none in
    record {
      g = with_ending f crlf;
      has = record {
        spelled = put ∙ ap (λ text. text ++ crlf) spelled ∙ joined_ending f crlf;
        named = has.named;
        name = has.name;
        white = has.white;
        body = has.body;
        utf8 = has.utf8;
        ending = inr refl;
      };
      name = refl;
      body = refl;
    }

ended_parts : (raw made : List ℕ) (f : FieldParts) → HasParts raw f → IsEndedField raw made → HasEndedParts made f
ended_parts raw made f has (inl same) = record { g = f; has = subst (λ text. HasParts text f) (sym same) has; name = refl; body = refl }
ended_parts raw made f has (inr put) = elim has.ending [
  | inl none ↦ put_parts raw made f has none put.0
  | inr closed ↦
      let spelled : raw ≡ field_octets (with_ending f crlf) = has.spelled ∙ ap (λ ending. field_octets (with_ending f ending)) closed in
      absurd (put.1 (field_octets (with_ending f [])) (spelled ∙ sym (joined_ending f crlf)))
]

where_alike : (is : Bool) (body : List ℕ) (IsLater IsOther : Option (List ℕ) → Type 0) (value : Option (List ℕ)) → (IsLater value → IsOther value) → IsValueWhere is body IsLater value
    → IsValueWhere is body IsOther value
where_alike true body IsLater IsOther value later here = here
where_alike false body IsLater IsOther value later here = later here

-- the first value of a name among such fields is that among the others
pub first_back : (name : List ℕ) (raws mades : List (List ℕ)) (value : Option (List ℕ)) → AllZip IsEndedField raws mades → AreRawFields raws → IsFirstValue name mades value → IsFirstValue name raws value
first_back name [] [] value all are first = first
first_back name [] (made ∷ mades) value all are first = absurd all
first_back name (raw ∷ raws) [] value all are first = absurd all
first_back name (raw ∷ raws) (made ∷ mades) value all are first =
    let f : FieldParts = are.0.parts in
    let ended = ended_parts raw made f are.0.has_parts all.0 in
    let same : first.0 ≡ ended.g = HasParts-once made first.0 ended.g first.1 ended.has in
    let here : IsValueWhere (same_name ended.g.name name) ended.g.body (IsFirstValue name mades) value =
    subst (λ (g : FieldParts). IsValueWhere (same_name g.name name) g.body (IsFirstValue name mades) value) same first.2 in
    let named : IsValueWhere (same_name f.name name) ended.g.body (IsFirstValue name mades) value =
    subst (λ n. IsValueWhere (same_name n name) ended.g.body (IsFirstValue name mades) value) ended.name here in
    let bodied : IsValueWhere (same_name f.name name) f.body (IsFirstValue name mades) value =
    subst (λ body. IsValueWhere (same_name f.name name) body (IsFirstValue name mades) value) ended.body named in (
      f,
      are.0.has_parts,
      where_alike (same_name f.name name) f.body (IsFirstValue name mades) (IsFirstValue name raws) value (λ later. first_back name raws mades value all.1 are.1 later) bodied,
    )

-- an entity of such fields is opened as one of the others
pub opens_back : (digest : Bool) (raws mades : List (List ℕ)) (opening : Opening) → AllZip IsEndedField raws mades → AreRawFields raws → Opens digest mades opening → Opens digest raws opening
opens_back digest raws mades opening all are opens = record {
  encoding = opens.encoding;
  is_encoding = first_back (codes "Content-Transfer-Encoding") raws mades opens.encoding all are opens.is_encoding;
  opened = by opens.opened;
}
  where
    by : (IsIdentity opens.encoding × OpensByFields digest mades opening) ⊎ ((¬ IsIdentity opens.encoding) × (opening ≡ Nothing))
        → (IsIdentity opens.encoding × OpensByFields digest raws opening) ⊎ ((¬ IsIdentity opens.encoding) × (opening ≡ Nothing))
    by (inl x) = inl (x.0, (x.1.0, first_back (codes "Content-Type") raws mades x.1.0 all are x.1.1, x.1.2))
    by (inr x) = inr x

-- such fields are ASCII where the others are
pub ascii_ended : (raws mades : List (List ℕ)) → AllZip IsEndedField raws mades → AllByRecursion (λ raw. list_all is_ascii raw ≡ true) raws → AllByRecursion (λ raw. list_all is_ascii raw ≡ true) mades
ascii_ended [] [] all ascii = tt
ascii_ended [] (made ∷ mades) all ascii = absurd all
ascii_ended (raw ∷ raws) [] all ascii = absurd all
ascii_ended (raw ∷ raws) (made ∷ mades) all ascii = (one all.0, ascii_ended raws mades all.1 ascii.1)
  where
    one : IsEndedField raw made → list_all is_ascii made ≡ true
    one (inl same) = ap (list_all is_ascii) same ∙ ascii.0
    one (inr put) = ap (list_all is_ascii) put.0 ∙ pass-append is_ascii raw crlf ascii.0 refl
