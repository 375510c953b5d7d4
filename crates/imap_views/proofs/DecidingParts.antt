-- A part with these raw fields says something of itself.
use Rattle.std.proofs.Common.{◌≡◌, ◌⊎◌, ℕ, List, [], ◌∷◌, Bool, true, Option, Some, None, inl, inr, refl, sym, ap, ◌∙◌, subst}
use Rattle.std.proofs.lemmas.Bool.{cases_Bool, both_ways}
use Rattle.std.specs.Prelude.{codes}
use Rattle.std.specs.List.{list_all}
use Rattle.mail_wire.specs.Octets.{is_ascii}
use Rattle.field_tokens.specs.declared.Style.TheVariants.{Mime}
use Rattle.field_tokens.specs.Squeezed.{words_of, is_atom_kind}
use Rattle.field_tokens.specs.Tokens.{TokenValue}
use Rattle.field_tokens.proofs.DecideTokens.{decide_tokens}
use Rattle.field_tokens.proofs.TokenLists.{AreTokens-once}
use Rattle.param_grammar.specs.declared.ParamKind.{ParamKind}
use Rattle.param_grammar.specs.declared.ParamKind.TheVariants.{Content, Disposition}
use Rattle.param_grammar.specs.declared.Piece.{Piece}
use Rattle.param_grammar.proofs.DecideParams.{decide_params}
use Rattle.param_2231.proofs.GlobalLemmas.{kind_is}
use Rattle.param_grammar.proofs.SaidTrees.{SaysParams-trees, HasParams-says}
use Rattle.imap_views.specs.Strings.{nil}
use Rattle.imap_views.specs.Parts.{HasPieces, IsNoField, pairs_of, TypeValue, usual_type, plain_text_type, IsTypeBy, disposition_form, IsDispositionBy, IsSoleAtom, IsMechanism, IsEncodingBy, PartValue, IsByFirst, SaysPart}
use Rattle.imap_views.proofs.OnePart.{same_one, high_atom}
use Rattle.imap_views.proofs.RawFields.{HaveFirsts}

-- a text has pieces, or it is malformed
decide_pieces : (kind : ParamKind) (text : List ℕ) → ((main : List ℕ) × (pieces : List Piece) × HasPieces kind text main pieces) ⊎ IsNoField kind text
decide_pieces kind text = elim (decide_params kind text) [
  | inl says ↦
      let trees = SaysParams-trees kind text says.0 says.1 says.2 says.3 in
      let has = trees.1 in
      inl (says.0, has.pieces, record { comments = trees.0; has_body = has.body; params = says.1; are_params = has.are_params })
  | inr none ↦ inr (λ main pieces has.
      let says = HasParams-says kind text main has.params has.comments (record { pieces = pieces; body = has.has_body; are_params = has.are_params }) in
      none main has.params says.0 says.1)
]

some_type : (digest : Bool) (value : Option (List ℕ)) → (said : TypeValue) × IsTypeBy digest value said
some_type digest None = (usual_type digest, refl)
some_type digest (Some text) = elim (decide_pieces Content text) [
  | inl has ↦ (record { main = has.0; params = pairs_of has.1 }, inl (has.1, has.2, refl))
  | inr malformed ↦ (plain_text_type, inr (malformed, refl))
]

some_disposition : (value : Option (List ℕ)) → (form : List ℕ) × IsDispositionBy value form
some_disposition None = (nil, refl)
some_disposition (Some text) = elim (decide_pieces Disposition text) [
  | inl has ↦ (disposition_form has.0 has.1, inl (has.0, has.1, has.2, refl))
  | inr malformed ↦ (nil, inr (malformed, refl))
]

-- words are one atom, or they aren't
record AreOneAtom (words : List TokenValue) : Type 0 where
  atom : TokenValue
  words_are : words ≡ atom ∷ []
  kind : is_atom_kind atom.kind ≡ true

decide_words : (words : List TokenValue) → AreOneAtom words ⊎ ¬ AreOneAtom words
decide_words [] = inr (λ are. let e = are.words_are in cc e)
decide_words (word ∷ next ∷ words) = inr (λ are. let e = are.words_are in cc e)
decide_words (word ∷ []) = elim (cases_Bool (is_atom_kind word.kind)) [
  | inl kind ↦ inl (record { atom = word; words_are = refl; kind = kind })
  | inr other ↦ inr (λ are. both_ways (is_atom_kind word.kind) other (subst (λ (t : TokenValue). is_atom_kind t.kind ≡ true) (same_one are.atom word (sym are.words_are)) are.kind))
]

-- a text is one atom, or it isn't
decide_one_atom : (text : List ℕ) → ((octets : List ℕ) × IsSoleAtom text octets) ⊎ ((octets : List ℕ) → ¬ IsSoleAtom text octets)
decide_one_atom text = elim (decide_tokens Mime text) [
  | inr none ↦ inr (λ octets is. none is.tokens is.has)
  | inl found ↦ elim (decide_words (words_of found.0)) [
    | inl are ↦ inl (are.atom.octets, record { tokens = found.0; has = found.1; atom = are.atom; words = are.words_are; kind = kind_is are.atom.kind are.kind; octets_are = refl })
    | inr other ↦ inr (λ octets is.
        let same : is.tokens ≡ found.0 = AreTokens-once Mime text is.tokens found.0 is.has.are_tokens found.1.are_tokens in
        other (record { atom = is.atom; words_are = ap words_of (sym same) ∙ is.words; kind = ap (λ kind. is_atom_kind kind) is.kind }))
  ]
]

-- a text names a mechanism, or it doesn't
decide_mechanism : (text : List ℕ) → ((octets : List ℕ) × IsMechanism text octets) ⊎ ((octets : List ℕ) → ¬ IsMechanism text octets)
decide_mechanism text = elim (decide_one_atom text) [
  | inr none ↦ inr (λ octets is. none octets is.sole)
  | inl sole ↦ elim (cases_Bool (list_all is_ascii sole.0)) [
    | inl ascii ↦ inl (sole.0, record { sole = sole.1; ascii = ascii })
    | inr high ↦ inr (high_atom text sole.0 sole.1 high)
  ]
]

some_encoding : (value : Option (List ℕ)) → (name : List ℕ) × IsEncodingBy value name
some_encoding None = (codes "7bit", refl)
some_encoding (Some text) = elim (decide_mechanism text) [
  | inl is ↦ (is.0, inl is.1)
  | inr none ↦ (codes "7bit", inr (none, refl))
]

-- something is said by a first value where something is of each value
by_first : {A : Type 0} (name : List ℕ) (IsBy : Option (List ℕ) → A → Type 0) → ((value : Option (List ℕ)) → (a : A) × IsBy value a) → (raws : List (List ℕ)) → HaveFirsts raws
    → (a : A) × IsByFirst name IsBy raws a
by_first name IsBy some raws have =
    let first = have name in
    let said = some first.0 in
    (said.0, (first.0, first.1, said.1))

pub part_given : (digest : Bool) (raws : List (List ℕ)) → HaveFirsts raws → (part : PartValue) × SaysPart digest raws part
part_given digest raws have =
    let typed = by_first (codes "Content-Type") (IsTypeBy digest) (some_type digest) raws have in
    let id = have (codes "Content-ID") in
    let description = have (codes "Content-Description") in
    let encoding = by_first (codes "Content-Transfer-Encoding") IsEncodingBy some_encoding raws have in
    let disposition = by_first (codes "Content-Disposition") IsDispositionBy some_disposition raws have in (
      record { typed = typed.0; id = id.0; description = description.0; encoding = encoding.0; disposition = disposition.0 },
      record { typed = typed.1; id = id.1; description = description.1; encoding = encoding.1; disposition = disposition.1 },
    )
