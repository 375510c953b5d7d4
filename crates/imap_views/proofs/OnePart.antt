-- A part says one thing of itself at most.
use Rattle.std.proofs.Common.{◌≡◌, ℕ, List, [], ◌∷◌, Bool, false, Option, Some, None, inl, inr, sym, ap, ◌∙◌, subst}
use Rattle.std.proofs.lemmas.Bool.{both_ways}
use Rattle.std.specs.Prelude.{codes}
use Rattle.std.specs.List.{list_all}
use Rattle.mail_wire.specs.Octets.{is_ascii}
use Rattle.field_tokens.specs.declared.Style.TheVariants.{Mime}
use Rattle.field_tokens.specs.Squeezed.{words_of}
use Rattle.field_tokens.specs.Tokens.{TokenValue}
use Rattle.field_tokens.proofs.TokenLists.{AreTokens-once}
use Rattle.param_grammar.specs.declared.ParamKind.{ParamKind}
use Rattle.param_grammar.specs.declared.ParamKind.TheVariants.{Content, Disposition}
use Rattle.param_grammar.specs.declared.Piece.{Piece}
use Rattle.param_grammar.proofs.BodyLemmas.{HasBody-once}
use Rattle.mime_tree.proofs.OneOpening.{first_once}
use Rattle.imap_views.specs.Parts.{HasPieces, pairs_of, TypeValue, IsTypeSaid, IsTypeBy, disposition_form, IsDispositionBy, IsSoleAtom, IsMechanism, IsEncodingBy, PartValue, IsByFirst, SaysPart}

-- a text has one main part and one list of pieces
pieces_once : (kind : ParamKind) (text main other : List ℕ) (pieces others : List Piece) → HasPieces kind text main pieces → HasPieces kind text other others → (main ≡ other) × (pieces ≡ others)
pieces_once kind text main other pieces others a b =
    let same = HasBody-once kind text main other pieces others a.comments b.comments a.has_body b.has_body in
    (same.0, same.1)

abbrev type_of : List ℕ → List ℕ → TypeValue
type_of main params = record { main = main; params = params }

same_type : (main other params others : List ℕ) → main ≡ other → params ≡ others → type_of main params ≡ type_of other others
same_type main other params others a b = cc (a, b)

type_said_once : (text : List ℕ) (said other : TypeValue) → IsTypeSaid text said → IsTypeSaid text other → said ≡ other
type_said_once text said other a b =
    let same = pieces_once Content text said.main other.main a.0 b.0 a.1 b.1 in
    same_type said.main other.main said.params other.params same.0 (a.2 ∙ ap (λ pieces. pairs_of pieces) same.1 ∙ sym b.2)

type_once : (digest : Bool) (value : Option (List ℕ)) (said other : TypeValue) → IsTypeBy digest value said → IsTypeBy digest value other → said ≡ other
type_once digest None said other a b = a ∙ sym b
type_once digest (Some text) said other (inl a) (inl b) = type_said_once text said other a b
type_once digest (Some text) said other (inl a) (inr b) = absurd (b.0 said.main a.0 a.1)
type_once digest (Some text) said other (inr a) (inl b) = absurd (a.0 other.main b.0 b.1)
type_once digest (Some text) said other (inr a) (inr b) = a.1 ∙ sym b.1

disposition_once : (value : Option (List ℕ)) (form other : List ℕ) → IsDispositionBy value form → IsDispositionBy value other → form ≡ other
disposition_once None form other a b = a ∙ sym b
disposition_once (Some text) form other (inl a) (inl b) =
    let same = pieces_once Disposition text a.0 b.0 a.1 b.1 a.2 b.2 in
    a.3 ∙ ap (λ main. disposition_form main a.1) same.0 ∙ ap (λ pieces. disposition_form b.0 pieces) same.1 ∙ sym b.3
disposition_once (Some text) form other (inl a) (inr b) = absurd (b.0 a.0 a.1 a.2)
disposition_once (Some text) form other (inr a) (inl b) = absurd (a.0 b.0 b.1 b.2)
disposition_once (Some text) form other (inr a) (inr b) = a.1 ∙ sym b.1

pub same_one : (word other : TokenValue) → word ∷ [] ≡ other ∷ [] → word ≡ other
same_one word other e = cc e

atom_once : (text octets others : List ℕ) → IsSoleAtom text octets → IsSoleAtom text others → octets ≡ others
atom_once text octets others a b =
    let tokens : a.tokens ≡ b.tokens = AreTokens-once Mime text a.tokens b.tokens a.has.are_tokens b.has.are_tokens in
    let atom : a.atom ≡ b.atom = same_one a.atom b.atom (sym a.words ∙ ap words_of tokens ∙ b.words) in
    sym a.octets_are ∙ ap (λ (v : TokenValue). v.octets) atom ∙ b.octets_are

-- a sole atom that isn't ASCII is no mechanism, and there is no other
pub high_atom : (text sole : List ℕ) → IsSoleAtom text sole → list_all is_ascii sole ≡ false → (octets : List ℕ) → ¬ IsMechanism text octets
high_atom text sole is high octets named = both_ways (list_all is_ascii sole) high (rw (atom_once text sole octets is named.sole) named.ascii)

encoding_once : (value : Option (List ℕ)) (name other : List ℕ) → IsEncodingBy value name → IsEncodingBy value other → name ≡ other
encoding_once None name other a b = a ∙ sym b
encoding_once (Some text) name other (inl a) (inl b) = atom_once text name other a.sole b.sole
encoding_once (Some text) name other (inl a) (inr b) = absurd (b.0 name a)
encoding_once (Some text) name other (inr a) (inl b) = absurd (a.0 other b)
encoding_once (Some text) name other (inr a) (inr b) = a.1 ∙ sym b.1

-- what is said by a first value is one where it is one of each value
by_first_once : {A : Type 0} (name : List ℕ) (IsBy : Option (List ℕ) → A → Type 0) → ((value : Option (List ℕ)) (a b : A) → IsBy value a → IsBy value b → a ≡ b)
    → (raws : List (List ℕ)) (a b : A) → IsByFirst name IsBy raws a → IsByFirst name IsBy raws b → a ≡ b
by_first_once name IsBy once raws a b x y =
    let same : x.0 ≡ y.0 = first_once name raws x.0 y.0 x.1 y.1 in
    once y.0 a b (subst (λ value. IsBy value a) same x.2) y.2

abbrev part_of : TypeValue → Option (List ℕ) → Option (List ℕ) → List ℕ → List ℕ → PartValue
part_of typed id description encoding disposition = record { typed = typed; id = id; description = description; encoding = encoding; disposition = disposition }

same_part : (a b : TypeValue) (c d e f : Option (List ℕ)) (g h i j : List ℕ) → a ≡ b → c ≡ d → e ≡ f → g ≡ h → i ≡ j → part_of a c e g i ≡ part_of b d f h j
same_part a b c d e f g h i j p q r s t = cc (p, q, r, s, t)

pub one_part : (digest : Bool) (raws : List (List ℕ)) (part other : PartValue) → SaysPart digest raws part → SaysPart digest raws other → part ≡ other
one_part digest raws part other a b =
    same_part part.typed other.typed part.id other.id part.description other.description part.encoding other.encoding part.disposition other.disposition
    (by_first_once (codes "Content-Type") (IsTypeBy digest) (type_once digest) raws part.typed other.typed a.typed b.typed)
    (first_once (codes "Content-ID") raws part.id other.id a.id b.id)
    (first_once (codes "Content-Description") raws part.description other.description a.description b.description)
    (by_first_once (codes "Content-Transfer-Encoding") IsEncodingBy encoding_once raws part.encoding other.encoding a.encoding b.encoding)
    (by_first_once (codes "Content-Disposition") IsDispositionBy disposition_once raws part.disposition other.disposition a.disposition b.disposition)
