-- The whole message of a surrogate is no opened message/global: where the message is one, each of its types is changed.
use Rattle.std.proofs.Common.{◌≡◌, ℕ, List, [], ◌∷◌, Bool, true, false, length, Some, codes, inl, refl, sym, ap, ◌∙◌, subst}
use Rattle.std.specs.Prelude.{if◌then◌else◌}
use Rattle.std.specs.List.{All, AllZip, AllByRecursion, list_all}
use Rattle.std.specs.Str.{bytes_eq}
use Rattle.std.proofs.lemmas.Bool.{both_ways}
use Rattle.std.proofs.lemmas.List.Elements.{All-head}
use Rattle.std.proofs.lemmas.Slice.Eq.{bytes_eq-Decides}
use Rattle.mail_wire.specs.Folds.{unfolded}
use Rattle.mail_wire.specs.Octets.{is_ascii, is_white, same_name}
use Rattle.utf8_fields.specs.Parts.{FieldParts, HasParts, HasValue, field_octets}
use Rattle.utf8_fields.proofs.OneField.{HasParts-once}
use Rattle.utf8_fields.proofs.TrimLemmas.{trimmed}
use Rattle.field_tokens.specs.Comments.{CommentValue}
use Rattle.param_grammar.specs.declared.ParamKind.TheVariants.{Content}
use Rattle.param_grammar.specs.Joining.{ParamValue, SaysParams}
use Rattle.param_2231.specs.GlobalTypes.{NamesGlobal}
use Rattle.param_2231.specs.ParamsReadBack.{served_main}
use Rattle.param_2231.proofs.GlobalLemmas.{main_once, names_global_says}
use Rattle.field_downgrade.specs.declared.kind.Kind.{Kind}
use Rattle.field_downgrade.specs.declared.kind.Kind.TheVariants.{Params}
use Rattle.field_downgrade.specs.Kinds.{kind_named}
use Rattle.field_downgrade.specs.Stands.{Meaning, Parameters, Means, SaysAs, StandsForMeaning, IsMalformed, IsSameMeaning, IsChangedType, with_body, Stands, Same, Renamed, Ascii, StandsSo, SameMeaning, UnderOtherName, StillMalformed}
use Rattle.field_downgrade.proofs.GlobalBodiesPlaces.{ChangesGlobal-some}
use Rattle.field_downgrade.proofs.OneMeaning.{HasValue-once}
use Rattle.field_downgrade.proofs.StructuredFields.{type_is_params}
use Rattle.mime_tree.specs.declared.entity.Entity.{Entity}
use Rattle.mime_tree.specs.Openings.{IsFirstValue, IsValueWhere, AreFieldsWithin}
use Rattle.mime_tree.specs.Rewriting.{AreSame}
use Rattle.mime_tree.specs.Tree.{HasTree, raws_of}
use Rattle.mime_tree.proofs.DecidingOpenings.{AreRawFields, raws_within}
use Rattle.mime_tree.proofs.OneTree.{one_tree}
use Rattle.mime_tree.proofs.TreeFields.{tree_fields}
use Rattle.surrogate_rope.specs.Layout.{IsOpenGlobal, InEntity, StandsInAscii, IsSurrogate, HasSurrogate}
use Rattle.surrogate_rope.proofs.FieldPairs.{pair_of}
use Rattle.surrogate_rope.proofs.NameLemmas.{aside_differs}
use Rattle.surrogate_rope.proofs.SurrogateBlocks.{surrogate_blocks}
use Rattle.utf8_reports.proofs.Roots.{root_block}

-- ---- what stands for a type doesn't name message/global

-- a main part as it is served isn't that, but where it was and isn't to be changed
served_differs : (open_global : Bool) (main : List ℕ) → served_main open_global Content main ≡ codes "message/global" → (main ≡ codes "message/global") × (open_global ≡ false)
served_differs false main is = (is, refl)
served_differs true main is = by (bytes_eq main (codes "message/global")) refl is
  where
    by : (b : Bool) → bytes_eq main (codes "message/global") ≡ b → (if b then codes "message/rfc822" else main) ≡ codes "message/global" → (main ≡ codes "message/global") × (true ≡ false)
    by true e is = let clash : false ≡ true = ap (λ m. bytes_eq m (codes "message/global")) is in cc clash
    by false e is = let clash : false ≡ true = sym e ∙ (bytes_eq-Decides main (codes "message/global")).1 is in cc clash

-- the value of a type says what the field means
said_type : (f : FieldParts) (value : List ℕ) (meaning : Meaning) → kind_named f.name ≡ Params Content → HasValue f.body value → Means f meaning → SaysAs (Params Content) f.name value meaning
said_type f value meaning kind has means =
    subst (λ k. SaysAs k f.name value meaning) kind (subst (λ v. SaysAs (kind_named f.name) f.name v meaning) (HasValue-once f.body means.value value means.has_value has) means.says)

main_of : (main other : List ℕ) (params others : List ParamValue) (comments more : List CommentValue) → Parameters main params comments ≡ Parameters other others more → main ≡ other
main_of main other params others comments more is = cc is

meaning_global : (open_global : Bool) (f g : FieldParts) (original text : List ℕ) (at : ℕ) → kind_named f.name ≡ Params Content → HasValue f.body original → HasValue g.body text → IsSameMeaning open_global f g
    → NamesGlobal text at → ((at : ℕ) × NamesGlobal original at) × (open_global ≡ false)
meaning_global open_global f g original text at kind has made_has same names =
    let says : SaysAs (Params Content) f.name original same.meaning = said_type f original same.meaning kind has same.means in
    let made_says : SaysAs (Params Content) g.name text same.made_meaning = said_type g text same.made_meaning (ap kind_named same.name ∙ kind) made_has same.made_means in
    let stands : same.made_meaning ≡ Parameters (served_main open_global Content says.0) says.1 says.2
    = subst (λ (m : Meaning). StandsForMeaning open_global (Params Content) m same.made_meaning) says.3 (subst (λ (k : Kind). StandsForMeaning open_global k same.meaning same.made_meaning) kind same.stands) in
    let served : served_main open_global Content says.0 ≡ made_says.0 = main_of (served_main open_global Content says.0) made_says.0 says.1 made_says.1 says.2 made_says.2 (sym stands ∙ made_says.3) in
    let main : made_says.0 ≡ codes "message/global" = main_once Content text made_says.0 (codes "message/global") made_says.1 names.params made_says.2 names.comments made_says.4 names.says in
    let differs = served_differs open_global says.0 (served ∙ main) in
    (names_global_says original says.1 says.2 (subst (λ m. SaysParams Content original m says.1 says.2) differs.0 says.4), differs.1)

-- a malformed type names nothing
malformed_none : (g : FieldParts) (text : List ℕ) (at : ℕ) → kind_named g.name ≡ Params Content → HasValue g.body text → IsMalformed g → NamesGlobal text at → ⊥
malformed_none g text at kind has malformed names =
    malformed (Parameters (codes "message/global") names.params names.comments) (record {
      value = text;
      has_value = has;
      says = subst (λ k. SaysAs k g.name text (Parameters (codes "message/global") names.params names.comments)) (sym kind) (codes "message/global", names.params, names.comments, refl, names.says);
    })

-- an ASCII type that names it is changed
changes_type : (raw : List ℕ) (f : FieldParts) (original : List ℕ) (at : ℕ) → list_all is_ascii raw ≡ true → HasParts raw f → kind_named f.name ≡ Params Content → HasValue f.body original → NamesGlobal original at
    → IsChangedType true raw
changes_type raw f original at ascii has kind value names =
    let changed = ChangesGlobal-some f.body original at has.body value names in
    (field_octets (with_body f changed.0), record { f = f; is_field = record { is_field = has; ascii = ascii }; kind = kind; changed = changed.0; changes = changed.1; made_is = refl })

-- what a type stands for where it still names message/global: one that names it, in an entity that isn't opened so
abbrev StillNames : Bool → List ℕ → Type 0
StillNames open_global original = ((at : ℕ) × NamesGlobal original at) × ((open_global ≡ true) → ⊥)

closed_false : (open_global : Bool) → open_global ≡ false → open_global ≡ true → ⊥
closed_false open_global closed opened = both_ways open_global closed opened

so_names : (open_global : Bool) (f g : FieldParts) (original text : List ℕ) (at : ℕ) → same_name f.name (codes "Content-Type") ≡ true → HasValue f.body original → HasValue g.body text → StandsSo open_global f g
    → NamesGlobal text at → StillNames open_global original
so_names open_global f g original text at named has made_has (SameMeaning same) names =
    let found = meaning_global open_global f g original text at (type_is_params f.name named) has made_has same names in (found.0, closed_false open_global found.1)
so_names open_global f g original text at named has made_has (UnderOtherName e) names = absurd (both_ways (same_name f.name (codes "Content-Type")) (aside_differs f (codes "Content-Type") (inl refl) e.aside) named)
so_names open_global f g original text at named has made_has (StillMalformed kept) names =
    absurd (malformed_none g text at (ap kind_named kept.name ∙ type_is_params f.name named) made_has kept.still_malformed names)

still_names : (open_global : Bool) (raw made : List ℕ) (f g : FieldParts) (original text : List ℕ) (at : ℕ) → HasParts raw f → HasParts made g → same_name f.name (codes "Content-Type") ≡ true
    → HasValue f.body original → HasValue g.body text → Stands raw made open_global → NamesGlobal text at → StillNames open_global original
still_names open_global raw made f g original text at has made_has named value made_value (Same ascii unchanged e) names =
    let parts : g ≡ f = HasParts-once raw g f (subst (λ octets. HasParts octets g) e made_has) has in
    let same : text ≡ original = HasValue-once f.body text original (subst (λ (p : FieldParts). HasValue p.body text) parts made_value) value in
    let there = subst (λ v. NamesGlobal v at) same names in
    ((at, there), λ opened. unchanged (subst (λ b. IsChangedType b raw) (sym opened) (changes_type raw f original at ascii has (type_is_params f.name named) value there)))
still_names open_global raw made f g original text at has made_has named value made_value (Renamed p q opened is changed made_is same) names =
    let first : IsSameMeaning open_global f q = subst (λ (x : FieldParts). IsSameMeaning open_global x q) (HasParts-once raw p f is.is_field has) same in
    let both : IsSameMeaning open_global f g = subst (λ (x : FieldParts). IsSameMeaning open_global f x) (HasParts-once made q g made_is.is_field made_has) first in
    so_names open_global f g original text at named value made_value (SameMeaning both) names
still_names open_global raw made f g original text at has made_has named value made_value (Ascii p q high made_is so) names =
    let first : StandsSo open_global f q = subst (λ (x : FieldParts). StandsSo open_global x q) (HasParts-once raw p f high.is_field has) so in
    let both : StandsSo open_global f g = subst (λ (x : FieldParts). StandsSo open_global f x) (HasParts-once made q g made_is.is_field made_has) first in
    so_names open_global f g original text at named value made_value both names

-- ---- the first type of an entity

-- The first type of the entity stands for one that names message/global, in an entity that isn't opened so.
record HasOpenType (msg : List ℕ) (entity : Entity) (raws : List (List ℕ)) : Type 0 where
  original : List ℕ
  first : IsFirstValue (codes "Content-Type") raws (Some original)
  at : ℕ
  names : NamesGlobal original at
  shut : IsOpenGlobal msg entity → ⊥

pass_type : (msg : List ℕ) (entity : Entity) (raw : List ℕ) (raws : List (List ℕ)) (f : FieldParts) → HasParts raw f → same_name f.name (codes "Content-Type") ≡ false → HasOpenType msg entity raws
    → HasOpenType msg entity (raw ∷ raws)
pass_type msg entity raw raws f has other later = record {
  original = later.original;
  first = (f, has, subst (λ b. IsValueWhere b f.body (IsFirstValue (codes "Content-Type") raws) (Some later.original)) (sym other) later.first);
  at = later.at;
  names = later.names;
  shut = later.shut;
}

find_type : (msg : List ℕ) (entity : Entity) (raw made : List ℕ) (raws : List (List ℕ)) (f g : FieldParts) (text : List ℕ) (at : ℕ) → InEntity StandsInAscii msg entity raw made → HasParts raw f → HasParts made g
    → same_name f.name (codes "Content-Type") ≡ true → HasValue g.body text → NamesGlobal text at → HasOpenType msg entity (raw ∷ raws)
find_type msg entity raw made raws f g text at pair has made_has named made_value names =
    let value = trimmed is_white (unfolded f.body) in
    let still = still_names pair.open_global raw made f g value.0 text at has made_has named value.1 made_value pair.holds.0 names in
    record {
      original = value.0;
      first = (f, has, subst (λ b. IsValueWhere b f.body (IsFirstValue (codes "Content-Type") raws) (Some value.0)) (sym named) (value.0, value.1, refl));
      at = still.0.0;
      names = still.0.1;
      shut = λ opened. still.1 (pair.is_open.1 opened);
    }

first_type : (msg : List ℕ) (entity : Entity) (raws mades : List (List ℕ)) (text : List ℕ) (at : ℕ) → AllZip (InEntity StandsInAscii msg entity) raws mades → AreRawFields raws
    → IsFirstValue (codes "Content-Type") mades (Some text) → NamesGlobal text at → HasOpenType msg entity raws
first_type msg entity [] [] text at all are first names = cc first
first_type msg entity [] (made ∷ mades) text at all are first names = absurd all
first_type msg entity (raw ∷ raws) [] text at all are first names = absurd all
first_type msg entity (raw ∷ raws) (made ∷ mades) text at all are first names =
    let f : FieldParts = are.0.parts in
    let pair = pair_of all.0.open_global raw made f are.0.has_parts all.0.holds.0 in
    let same : first.0 ≡ pair.g = HasParts-once made first.0 pair.g first.1 pair.has in
    let named : same_name first.0.name (codes "Content-Type") ≡ same_name f.name (codes "Content-Type") = ap (λ (g : FieldParts). same_name g.name (codes "Content-Type")) same ∙ pair.named (codes "Content-Type") (inl refl) in
    by (same_name f.name (codes "Content-Type")) refl (subst (λ b. IsValueWhere b first.0.body (IsFirstValue (codes "Content-Type") mades) (Some text)) named first.2)
    (λ later. first_type msg entity raws mades text at all.1 are.1 later names)
  where
    same_text : (one : List ℕ) → Some text ≡ Some one → one ≡ text
    same_text one is = cc is

    by : (is : Bool) → same_name are.0.parts.name (codes "Content-Type") ≡ is → IsValueWhere is first.0.body (IsFirstValue (codes "Content-Type") mades) (Some text)
        → (IsFirstValue (codes "Content-Type") mades (Some text) → HasOpenType msg entity raws) → HasOpenType msg entity (raw ∷ raws)
    by true is here later =
        let value : HasValue first.0.body text = subst (λ v. HasValue first.0.body v) (same_text here.0 here.2) here.1 in
        find_type msg entity raw made raws are.0.parts first.0 text at all.0 are.0.has_parts first.1 is value names
    by false is here later = pass_type msg entity raw raws are.0.parts are.0.has_parts is (later here)

-- ---- the whole message

-- The whole message of the surrogate, and what it stands for.
record HasShownRoot (msg shown : List ℕ) (other : Entity) : Type 0 where
  entity : Entity
  shape : other.shape ≡ entity.shape
  are : AreRawFields (raws_of msg entity.block)
  fields : AllZip (InEntity StandsInAscii msg entity) (raws_of msg entity.block) (raws_of shown other.block)

shown_root : (msg shown : List ℕ) (other : Entity) (others : List Entity) → IsSurrogate msg shown → HasTree shown (other ∷ others) → HasShownRoot msg shown other
shown_root msg shown other others is tree =
    let root = root_block msg is.entities is.tree in
    let within = All-head (λ (entity : Entity). AreFieldsWithin msg entity.block.fields) root.entity root.inner
    (subst (All (λ (entity : Entity). AreFieldsWithin msg entity.block.fields)) root.entities_are (tree_fields msg is.entities is.tree)) in
    let same : AreSame (InEntity StandsInAscii msg) msg (length msg) (root.entity ∷ root.inner) shown (length shown) (other ∷ others) =
    subst (λ all. AreSame (InEntity StandsInAscii msg) msg (length msg) (root.entity ∷ root.inner) shown (length shown) all) (one_tree shown is.others (other ∷ others) is.made_tree tree)
    (subst (λ all. AreSame (InEntity StandsInAscii msg) msg (length msg) all shown (length shown) is.others) root.entities_are is.same) in
    record { entity = root.entity; shape = same.0.shape; are = raws_within msg root.entity.block.fields within; fields = same.0.fields }

pub closed_root : (msg shown : List ℕ) (other : Entity) (others : List Entity) → IsSurrogate msg shown → HasTree shown (other ∷ others) → ¬ IsOpenGlobal shown other
closed_root msg shown other others is tree opened =
    let root = shown_root msg shown other others is tree in
    let type = first_type msg root.entity (raws_of msg root.entity.block) (raws_of shown other.block) opened.text opened.at root.fields root.are opened.first opened.names in
    type.shut (record { shape = sym root.shape ∙ opened.shape; text = type.original; first = type.first; at = type.at; names = type.names })

-- its fields are ASCII
pub ascii_root : (msg shown : List ℕ) (other : Entity) (others : List Entity) → HasSurrogate msg shown → HasTree shown (other ∷ others) → AllByRecursion (λ raw. list_all is_ascii raw ≡ true) (raws_of shown other.block)
ascii_root msg shown other others has tree =
    let blocks = surrogate_blocks msg shown has in
    let all = subst (AllByRecursion (λ (entity : Entity). AllByRecursion (λ raw. list_all is_ascii raw ≡ true) (raws_of shown entity.block))) (one_tree shown blocks.entities (other ∷ others) blocks.tree tree) blocks.ascii in
    all.0
