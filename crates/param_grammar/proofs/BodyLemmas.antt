-- A text has one main part, one list of pieces and one list of comments.
use Rattle.std.proofs.Common.{◌≡◌, ℕ, Bool, true, false, List, [], ◌∷◌, Option, filter, sym, ap, ◌∙◌, subst}
use Rattle.std.specs.Str.{str_to_ascii_lowercase}
use Rattle.field_tokens.specs.declared.Style.TheVariants.{Mime}
use Rattle.field_tokens.specs.declared.Token.{Token}
use Rattle.field_tokens.specs.Tokens.{octets_at}
use Rattle.field_tokens.specs.Squeezed.{is_comment, run_octets}
use Rattle.field_tokens.specs.Trees.{Tree}
use Rattle.field_tokens.proofs.TokenLists.{HasTokens-once}
use Rattle.field_tokens.proofs.BodyLemmas.{HasComment-once}
use Rattle.param_grammar.specs.declared.ParamKind.{ParamKind}
use Rattle.param_grammar.specs.declared.Piece.{Piece}
use Rattle.param_grammar.specs.Escapes.{IsEscaped}
use Rattle.param_grammar.specs.Names.{NameParts}
use Rattle.param_grammar.specs.Bodies.{solid, is_filled, value_content, IsParameterOf, is_first, SaysOctets, IsPieceOf, IsPiece, ArePieces, HaveComments, HasBody, IsBody}
use Rattle.param_grammar.specs.Joining.{ParamValue, params_of, HasParams}
use Rattle.param_grammar.proofs.EscapeLemmas.{IsEscaped-once}
use Rattle.param_grammar.proofs.ExtendedLemmas.{IsExtended-once}
use Rattle.param_grammar.proofs.NameLemmas.{HasNameParts-once}

pub IsParameterOf-once : (text : List ℕ) (tokens : List Token) (name other : List ℕ) (value values : List Token) → IsParameterOf text tokens name value → IsParameterOf text tokens other values
    → (name ≡ other) × (value ≡ values)
IsParameterOf-once text tokens name other value values p q =
    let same : p.atom ∷ p.equals ∷ value ≡ q.atom ∷ q.equals ∷ values = sym p.tokens_are ∙ q.tokens_are in
    let atom : p.atom ≡ q.atom = cc same in
    let rest : value ≡ values = cc same in
    (p.name_is ∙ ap (λ (t : Token). octets_at text t.span) atom ∙ sym q.name_is, rest)

pub SaysOctets-once : (extended first : Bool) (content c o d p : List ℕ) → SaysOctets extended first content c o → SaysOctets extended first content d p → (c ≡ d) × (o ≡ p)
SaysOctets-once false first content c o d p a b = (a.0 ∙ sym b.0, a.1 ∙ sym b.1)
SaysOctets-once true false content c o d p a b = (a.0 ∙ sym b.0, IsEscaped-once content o p a.1 b.1)
SaysOctets-once true true content c o d p a b =
    let once = IsExtended-once content c a.0 d b.0 a.1 b.1 in
    (once.0, IsEscaped-once b.0 o p (subst (λ t. IsEscaped t o) once.1 a.2) b.2)

abbrev pub piece : List ℕ → Option (List ℕ) → List ℕ → List ℕ → List ℕ → Piece
piece base number charset octets written = record { base = base; number = number; charset = charset; octets = octets; written = written }

pub piece_made : (a b : List ℕ) (m n : Option (List ℕ)) (c d o p w x : List ℕ) → a ≡ b → m ≡ n → c ≡ d → o ≡ p → w ≡ x → piece a m c o w ≡ piece b n d p x
piece_made a b m n c d o p w x e f g h i = cc

pub IsPieceOf-once : (text name : List ℕ) (value : List Token) (p q : Piece) → IsPieceOf text name value p → IsPieceOf text name value q → p ≡ q
IsPieceOf-once text name value p q a b =
    let parts = HasNameParts-once name a.parts b.parts a.has_parts b.has_parts in
    let moved : SaysOctets b.parts.is_extended (is_first b.parts.number) (value_content text value) p.charset p.octets =
    subst (λ (n : NameParts). SaysOctets n.is_extended (is_first n.number) (value_content text value) p.charset p.octets) parts a.says in
    let says = SaysOctets-once b.parts.is_extended (is_first b.parts.number) (value_content text value) p.charset p.octets q.charset q.octets moved b.says in
    piece_made p.base q.base p.number q.number p.charset q.charset p.octets q.octets p.written q.written
    (a.base_is ∙ ap (λ (n : NameParts). str_to_ascii_lowercase n.base) parts ∙ sym b.base_is) (a.number_is ∙ ap (λ (n : NameParts). n.number) parts ∙ sym b.number_is) says.0 says.1
    (a.written_is ∙ sym b.written_is)

-- a section that is a parameter is the piece of its name and value
pub piece_moved : (text : List ℕ) (section : List Token) (name : List ℕ) (value : List Token) (p : Piece) → IsParameterOf text (solid section) name value → IsPiece text section p
    → IsPieceOf text name value p
piece_moved text section name value p is a =
    let once = IsParameterOf-once text (solid section) a.name name a.value value a.is_parameter is in
    subst (λ n. IsPieceOf text n value p) once.0 (subst (λ v. IsPieceOf text a.name v p) once.1 a.is_piece)

pub IsPiece-once : (text : List ℕ) (section : List Token) (p q : Piece) → IsPiece text section p → IsPiece text section q → p ≡ q
IsPiece-once text section p q a b = IsPieceOf-once text b.name b.value p q (piece_moved text section b.name b.value p b.is_parameter a) b.is_piece

pub ArePieces-once : (text : List ℕ) (sections : List (List Token)) (ps qs : List Piece) → ArePieces text sections ps → ArePieces text sections qs → ps ≡ qs
ArePieces-once text [] ps qs a b = a ∙ sym b
ArePieces-once text (section ∷ sections) ps qs a b =
    let head = IsPiece-once text section a.0 b.0 a.2 b.2 in
    let tail = ArePieces-once text sections a.1 b.1 a.3 b.3 in
    let p = a.4 in
    let q = b.4 in
    cc (head, tail, p, q)

pub HaveComments-once : (text : List ℕ) (tokens : List Token) (ts us : List Tree) → HaveComments text tokens ts → HaveComments text tokens us → ts ≡ us
HaveComments-once text [] ts us a b = a ∙ sym b
HaveComments-once text (token ∷ tokens) ts us a b =
    let head = HasComment-once text token a.0 b.0 a.2 b.2 in
    let tail = HaveComments-once text tokens a.1 b.1 a.3 b.3 in
    let p = a.4 in
    let q = b.4 in
    cc (head, tail, p, q)

pub IsBody-once : (kind : ParamKind) (text : List ℕ) (tokens : List Token) (main others : List ℕ) (ps qs : List Piece) → IsBody kind text tokens main ps → IsBody kind text tokens others qs
    → (main ≡ others) × (ps ≡ qs)
IsBody-once kind text tokens main others ps qs a b =
    let same : a.first ∷ a.others ≡ b.first ∷ b.others = sym a.sections ∙ b.sections in
    let first : a.first ≡ b.first = cc same in
    let rest : a.others ≡ b.others = cc same in (
      a.main_is ∙ ap (λ f. str_to_ascii_lowercase (run_octets text (solid f))) first ∙ sym b.main_is,
      ArePieces-once text (filter is_filled b.others) ps qs (subst (λ r. ArePieces text (filter is_filled r) ps) rest a.are_pieces) b.are_pieces,
    )

pub HasBody-once : (kind : ParamKind) (text main others : List ℕ) (ps qs : List Piece) (ts us : List Tree) → HasBody kind text main ps ts → HasBody kind text others qs us
    → (main ≡ others) × (ps ≡ qs) × (ts ≡ us)
HasBody-once kind text main others ps qs ts us a b =
    let tokens = HasTokens-once Mime text a.tokens b.tokens a.has_tokens b.has_tokens in
    let body = IsBody-once kind text b.tokens main others ps qs (subst (λ r. IsBody kind text r main ps) tokens a.is_body) b.is_body in (
      body.0,
      body.1,
      HaveComments-once text (filter (λ (token : Token). is_comment token.kind) b.tokens) ts us
          (subst (λ r. HaveComments text (filter (λ (token : Token). is_comment token.kind) r) ts) tokens a.have_comments) b.have_comments,
    )

-- and so one list of parameters
pub HasParams-once : (kind : ParamKind) (text main others : List ℕ) (ps qs : List ParamValue) (ts us : List Tree) → HasParams kind text main ps ts → HasParams kind text others qs us
    → (main ≡ others) × (ps ≡ qs) × (ts ≡ us)
HasParams-once kind text main others ps qs ts us a b =
    let once = HasBody-once kind text main others a.pieces b.pieces ts us a.body b.body in
    (once.0, a.are_params.params_are ∙ ap params_of once.1 ∙ sym b.are_params.params_are, once.2)
