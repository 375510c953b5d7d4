-- The values of structured fields, kind by kind: what they say, and their pieces.
use Rattle.std.proofs.Common.{◌≡◌, ◌≢◌, ℕ, Bool, true, false, ◌⊎◌, inl, inr, List, ◌++◌, Option, None, Some, refl, sym, ap, ◌∙◌, subst}
use Rattle.std.proofs.lemmas.Bool.{cases_Bool}
use Rattle.std.specs.List.{AllByRecursion, join_with_byte, list_all}
use Rattle.std.specs.Str.{bytes_eq}
use Rattle.std.proofs.lemmas.Slice.Eq.{bytes_eq-Decides}
use Rattle.mail_wire.specs.Octets.{is_white, is_ascii}
use Rattle.mail_wire.specs.Spans.{Stops, StopsAfter}
use Rattle.encoded_words.proofs.Once.{HasUnits-once}
use Rattle.field_tokens.specs.Squeezed.{squeezed_values, comments_of}
use Rattle.field_tokens.specs.Comments.{CommentValue, IsLinePiece}
use Rattle.field_tokens.proofs.CommentValues.{CommentsPieces-some}
use Rattle.field_tokens.proofs.TokenLines.{comments_are_writable}
use Rattle.address_grammar.specs.declared.Address.{Address}
use Rattle.address_lists.specs.ListPieces.{served_address}
use Rattle.address_lists.specs.PathPieces.{SaysPath, PathPieces}
use Rattle.address_lists.proofs.AddressListTexts.{SaysAddresses-once, AddressesPieces-says}
use Rattle.address_lists.proofs.ListPiecesOnce.{AddressesPieces-once}
use Rattle.address_lists.proofs.ListPiecesSome.{AddressesPieces-some}
use Rattle.address_lists.proofs.DecideAddresses.{decide_addresses}
use Rattle.address_lists.proofs.PlacesAgain.{AddressesPieces-read}
use Rattle.address_lists.proofs.PhraseListLemmas.{SaysPhrases-once, PhrasesPieces-once}
use Rattle.address_lists.proofs.PhraseListTexts.{decide_phrases, PhrasesPieces-says, PhrasesPieces-some}
use Rattle.address_lists.proofs.PhraseListsAgain.{PhrasesPieces-read}
use Rattle.field_downgrade.specs.declared.kind.Kind.{Kind}
use Rattle.field_downgrade.specs.declared.kind.Kind.TheVariants.{Unstructured, Addresses, Phrases, Params, Ids, Path, Typed, Trace, Plain}
use Rattle.field_downgrade.specs.PlainTexts.{style_where, text_piece, SaysPlain, PlainPieces}
use Rattle.field_downgrade.specs.Typed.{utf8_type, SaysTyped, TypedPieces}
use Rattle.field_downgrade.specs.Stands.{Meaning, Units, Keywords, AddressList, Parameters, PathTo, TypedAddress, Clauses, PlainText, SaysAs, PiecesAs, StandsForMeaning, is_encoding_name}
use Rattle.field_downgrade.specs.private.Steps.{HasNoPieces}
use Rattle.field_downgrade.proofs.PlainTextLemmas.{SaysPlain-once, PlainPieces-once, PlainPieces-says, PlainPieces-read, decide_plain}
use Rattle.address_lists.proofs.PathPiecesLemmas.{SaysPath-once, PathPieces-once, PathPieces-says, PathPieces-some, decide_path}
use Rattle.address_lists.proofs.PathPiecesAgain.{PathPieces-read}
use Rattle.field_downgrade.proofs.TypedLemmas.{SaysTyped-once, TypedPieces-once}
use Rattle.field_downgrade.proofs.TypedDecide.{decide_typed}
use Rattle.field_downgrade.proofs.TypedAgain.{TypedPieces-says, TypedPieces-some, TypedPieces-read}
use Rattle.field_downgrade.proofs.ReceivedLemmas.{SaysReceived-once, ReceivedPieces-once, ReceivedPieces-says, ReceivedPieces-some, decide_received}
use Rattle.field_downgrade.proofs.ReceivedAgain.{ReceivedPieces-read}
use Rattle.param_grammar.proofs.SaidParams.{SaysParams-once}
use Rattle.param_2231.proofs.ParamsOnce.{ParamsPieces-once}
use Rattle.param_2231.proofs.ParamsSome.{ParamsPieces-some, ParamsPieces-says}
use Rattle.param_2231.proofs.ParamsAgain.{ParamsPieces-read}
use Rattle.param_grammar.proofs.DecideParams.{decide_params}

-- a value says one thing
pub SaysAs-once : (kind : Kind) (name value : List ℕ) (m n : Meaning) → SaysAs kind name value m → SaysAs kind name value n → m ≡ n
SaysAs-once Unstructured name value m n p q = p.1 ∙ ap Units (HasUnits-once value p.0 q.0 p.2 q.2) ∙ sym q.1
SaysAs-once Phrases name value m n p q =
    let same = SaysPhrases-once value p.0 q.0 p.1 q.1 p.3 q.3 in
    p.2 ∙ rw (same.phrases, same.comments) refl ∙ sym q.2
SaysAs-once Addresses name value m n p q =
    let same = SaysAddresses-once value p.0 q.0 p.1 q.1 p.3 q.3 in
    p.2 ∙ rw (same.elements, same.comments) refl ∙ sym q.2
SaysAs-once (Params kind) name value m n p q =
    let same = SaysParams-once kind value p.0 q.0 p.1 q.1 p.2 q.2 p.4 q.4 in
    p.3 ∙ rw (same.main, same.params, same.comments) refl ∙ sym q.3
SaysAs-once Ids name value m n p q = p ∙ sym q
SaysAs-once Path name value m n p q =
    let same = SaysPath-once value p.0 q.0 p.1 q.1 p.3 q.3 in
    p.2 ∙ rw (same.answer, same.comments) refl ∙ sym q.2
SaysAs-once Typed name value m n p q =
    let same = SaysTyped-once value p.0 q.0 p.1 q.1 p.3 q.3 in
    p.2 ∙ rw (same.0, same.1) refl ∙ sym q.2
SaysAs-once Trace name value m n p q =
    let same = SaysReceived-once value p.0 q.0 p.1 q.1 p.2 q.2 p.4 q.4 in
    p.3 ∙ rw (same.0, same.1, same.2) refl ∙ sym q.3
SaysAs-once Plain name value m n p q =
    let same = SaysPlain-once (is_encoding_name name) value p.0 q.0 p.1 q.1 p.3 q.3 in
    p.2 ∙ rw (same.0, same.1) refl ∙ sym q.2

-- a value has one list of pieces
pub PiecesAs-once : (kind : Kind) (open_global : Bool) (name value : List ℕ) (ps qs : List (List ℕ)) → PiecesAs kind open_global name value ps → PiecesAs kind open_global name value qs → ps ≡ qs
PiecesAs-once Unstructured open_global name value ps qs p q = absurd p
PiecesAs-once Phrases open_global name value ps qs p q = PhrasesPieces-once value ps qs p q
PiecesAs-once Addresses open_global name value ps qs p q = AddressesPieces-once value ps qs p q
PiecesAs-once (Params kind) open_global name value ps qs p q = ParamsPieces-once kind open_global value ps qs p q
PiecesAs-once Ids open_global name value ps qs p q = absurd p
PiecesAs-once Path open_global name value ps qs p q = PathPieces-once value ps qs p q
PiecesAs-once Typed open_global name value ps qs p q = TypedPieces-once value ps qs p q
PiecesAs-once Trace open_global name value ps qs p q = ReceivedPieces-once value ps qs p q
PiecesAs-once Plain open_global name value ps qs p q = PlainPieces-once (is_encoding_name name) value ps qs p q

-- a value with pieces says something
pub PiecesAs-says : (kind : Kind) (open_global : Bool) (name value : List ℕ) (pieces : List (List ℕ)) → PiecesAs kind open_global name value pieces → (meaning : Meaning) × SaysAs kind name value meaning
PiecesAs-says Unstructured open_global name value pieces p = absurd p
PiecesAs-says Phrases open_global name value pieces p = let s = PhrasesPieces-says value pieces p in (Keywords s.0 s.1, (s.0, s.1, refl, s.2))
PiecesAs-says Addresses open_global name value pieces p = let s = AddressesPieces-says value pieces p in (AddressList s.0 s.1, (s.0, s.1, refl, s.2))
PiecesAs-says (Params kind) open_global name value pieces p = let s = ParamsPieces-says kind open_global value pieces p in (Parameters s.0 s.1 s.2, (s.0, s.1, s.2, refl, s.3))
PiecesAs-says Ids open_global name value pieces p = absurd p
PiecesAs-says Path open_global name value pieces p = let s = PathPieces-says value pieces p in (PathTo (Some s.0) s.1, (Some s.0, s.1, refl, s.2))
PiecesAs-says Typed open_global name value pieces p = let s = TypedPieces-says value pieces p in (TypedAddress s.0 s.1, (s.0, s.1, refl, s.2))
PiecesAs-says Trace open_global name value pieces p = let s = ReceivedPieces-says value pieces p in (Clauses s.0 s.1 s.2, (s.0, s.1, s.2, refl, s.3))
PiecesAs-says Plain open_global name value pieces p = let s = PlainPieces-says (is_encoding_name name) value pieces p in (PlainText s.0 s.1, (s.0, s.1, refl, s.2))

-- the pieces of a value are read as what stands for it
pub record AreReadSo (kind : Kind) (open_global : Bool) (name : List ℕ) (meaning : Meaning) (pieces : List (List ℕ)) : Type 0 where
  pub made : Meaning
  pub stands : StandsForMeaning open_global kind meaning made
  pub says : SaysAs kind name (join_with_byte 32 pieces) made
  pub begins : Stops is_white (join_with_byte 32 pieces)
  pub ends : StopsAfter is_white (join_with_byte 32 pieces)
  pub lines : AllByRecursion IsLinePiece pieces

pub PiecesAs-read : (kind : Kind) (open_global : Bool) (name value : List ℕ) (pieces : List (List ℕ)) (meaning : Meaning) → list_all is_ascii value ≡ false → PiecesAs kind open_global name value pieces
    → SaysAs kind name value meaning → AreReadSo kind open_global name meaning pieces
PiecesAs-read Unstructured open_global name value pieces meaning high p says = absurd p
PiecesAs-read Phrases open_global name value pieces meaning high p says =
    let read = PhrasesPieces-read value pieces says.0 says.1 p says.3 in
    record { made = Keywords says.0 says.1; stands = rw (says.2) refl; says = (says.0, says.1, refl, read.says); begins = read.begins; ends = read.ends; lines = read.are_pieces }
PiecesAs-read Addresses open_global name value pieces meaning high p says =
    let read = AddressesPieces-read value pieces says.0 says.1 high p says.3 in
    record { made = AddressList read.made says.1; stands = rw (says.2) (read.made, refl, read.each); says = (read.made, says.1, refl, read.says); begins = read.begins; ends = read.ends; lines = read.are_pieces }
PiecesAs-read (Params kind) open_global name value pieces meaning high p says =
    let read = ParamsPieces-read kind open_global value pieces says.0 says.1 says.2 p says.4 in
    record { made = _; stands = rw (says.3) refl; says = (_, says.1, says.2, refl, read.says); begins = read.begins; ends = read.ends; lines = read.are_pieces }
PiecesAs-read Ids open_global name value pieces meaning high p says = absurd p
PiecesAs-read Path open_global name value pieces meaning high p says =
    let some = PathPieces-says value pieces p in
    let same = SaysPath-once value (Some some.0) says.0 some.1 says.1 some.2 says.3 in
    let read = PathPieces-read value pieces some.0 some.1 p some.2 in
    record {
      made = PathTo (Some read.served) says.1;
      stands = rw (says.2, ← same.answer) (read.served, read.is_served, refl);
      says = (Some read.served, says.1, refl, rw (← same.comments) read.says);
      begins = read.begins;
      ends = read.ends;
      lines = read.are_pieces;
    }
PiecesAs-read Typed open_global name value pieces meaning high p says =
    let read = TypedPieces-read value pieces says.0 says.1 high p says.3 in
    let type = SaysTyped-once value says.0 utf8_type says.1 p.text says.3 p.says in
    record { made = TypedAddress says.0 says.1; stands = rw (says.2) (rw (type.0) refl, refl); says = (says.0, says.1, refl, read.says); begins = read.begins; ends = read.ends; lines = read.are_pieces }
PiecesAs-read Trace open_global name value pieces meaning high p says =
    let read = ReceivedPieces-read value pieces says.0 says.1 says.2 p says.4 in
    record { made = _; stands = rw (says.3) refl; says = (_, says.1, says.2, refl, read.says); begins = read.begins; ends = read.ends; lines = read.are_pieces }
PiecesAs-read Plain open_global name value pieces meaning high p says =
    let read = PlainPieces-read (is_encoding_name name) value says.0 says.1 pieces p says.3 high in
    record { made = PlainText says.0 says.1; stands = rw (says.2) refl; says = (says.0, says.1, refl, read.says); begins = read.begins; ends = read.ends; lines = read.each }

-- ---- values without pieces

-- the value says nothing of its kind
abbrev pub SaysNothing : Kind → List ℕ → List ℕ → Type 0
SaysNothing kind name value = (meaning : Meaning) → ¬ (SaysAs kind name value meaning)

-- why a value has no pieces
pub data HasNoForm (kind : Kind) (name value : List ℕ) : Type 0 where
  Nothing : SaysNothing kind name value → HasNoForm kind name value
  OfIds : kind ≡ Ids → HasNoForm kind name value
  OfNullPath : (comments : List CommentValue) → SaysAs kind name value (PathTo None comments) → kind ≡ Path → HasNoForm kind name value
  OfPath : (address : Address) (comments : List CommentValue) → SaysAs kind name value (PathTo (Some address) comments) → served_address address ≡ None → kind ≡ Path → HasNoForm kind name value
  OfType : (type text : List ℕ) → SaysAs kind name value (TypedAddress type text) → bytes_eq type utf8_type ≡ false → kind ≡ Typed → HasNoForm kind name value

PlainPieces-some : (is_encoding : Bool) (text said : List ℕ) (comments : List CommentValue) → SaysPlain is_encoding text said comments → (pieces : List (List ℕ)) × PlainPieces is_encoding text pieces
PlainPieces-some is_encoding text said comments says =
    let has = says.is_plain.has in
    let written = CommentsPieces-some (comments_of says.tokens) (comments_are_writable (style_where is_encoding) says.tokens text has.are_tokens has.is_line) in (
      text_piece (squeezed_values says.tokens) ++ written.0,
      record { tokens = says.tokens; is_plain = says.is_plain; comments = written.0; comments_are = written.1; pieces_are = refl },
    )

-- a value of an unstructured field says something, and one of another kind has pieces or none of the wanted form
abbrev pub HasPiecesOrNot : Kind → Bool → List ℕ → List ℕ → Type 0
HasPiecesOrNot kind open_global name value = ((pieces : List (List ℕ)) × PiecesAs kind open_global name value pieces) ⊎ HasNoForm kind name value

decide_path_pieces : (open_global : Bool) (name value : List ℕ) (answer : Option Address) (comments : List CommentValue) → SaysPath value answer comments → HasPiecesOrNot Path open_global name value
decide_path_pieces open_global name value None comments says = inr (OfNullPath comments (None, comments, refl, says) refl)
decide_path_pieces open_global name value (Some address) comments says = by (served_address address) refl
  where
    by : (served : Option Address) → served_address address ≡ served → HasPiecesOrNot Path open_global name value
    by None e = inr (OfPath address comments (Some address, comments, refl, says) e refl)
    by (Some served) e = inl (PathPieces-some value address served comments says e)

decide_typed_pieces : (open_global : Bool) (name value type text : List ℕ) → SaysTyped value type text → HasPiecesOrNot Typed open_global name value
decide_typed_pieces open_global name value type text says = elim (cases_Bool (bytes_eq type utf8_type)) [
  | inl t ↦ let e : type ≡ utf8_type = (bytes_eq-Decides type utf8_type).0 t in inl (TypedPieces-some value text (subst (λ x. SaysTyped value x text) e says))
  | inr f ↦ inr (OfType type text (type, text, refl, says) f refl)
]

pub decide_pieces : (kind : Kind) (open_global : Bool) (name value : List ℕ) → kind ≢ Unstructured → HasPiecesOrNot kind open_global name value
decide_pieces Unstructured open_global name value other = absurd (other refl)
decide_pieces Phrases open_global name value other = elim (decide_phrases value) [ inl s ↦ inl (PhrasesPieces-some value s.0 s.1 s.2) | inr none ↦ inr (Nothing (λ m says. none says.0 says.1 says.3)) ]
decide_pieces Addresses open_global name value other = elim (decide_addresses value) [ inl s ↦ inl (AddressesPieces-some value s.0 s.1 s.2) | inr none ↦ inr (Nothing (λ m says. none says.0 says.1 says.3)) ]
decide_pieces (Params kind) open_global name value other = elim (decide_params kind value) [
  | inl s ↦ inl (ParamsPieces-some kind open_global value s.0 s.1 s.2 s.3)
  | inr none ↦ inr (Nothing (λ m says. none says.0 says.1 says.2 says.4))
]
decide_pieces Ids open_global name value other = inr (OfIds refl)
decide_pieces Path open_global name value other = elim (decide_path value) [ inl s ↦ decide_path_pieces open_global name value s.0 s.1 s.2 | inr none ↦ inr (Nothing (λ m says. none says.0 says.1 says.3)) ]
decide_pieces Typed open_global name value other = elim (decide_typed value) [ inl s ↦ decide_typed_pieces open_global name value s.0 s.1 s.2 | inr none ↦ inr (Nothing (λ m says. none says.0 says.1 says.3)) ]
decide_pieces Trace open_global name value other = elim (decide_received value) [
  | inl s ↦ inl (ReceivedPieces-some value s.0 s.1 s.2 s.3)
  | inr none ↦ inr (Nothing (λ m says. none says.0 says.1 says.2 says.4))
]
decide_pieces Plain open_global name value other = elim (decide_plain (is_encoding_name name) value) [
  | inl s ↦ inl (PlainPieces-some (is_encoding_name name) value s.0 s.1 s.2)
  | inr none ↦ inr (Nothing (λ m says. none says.0 says.1 says.3))
]

-- a value without pieces has no form
pub no_pieces_why : (kind : Kind) (open_global : Bool) (name value : List ℕ) → kind ≢ Unstructured → HasNoPieces kind open_global name value → HasNoForm kind name value
no_pieces_why kind open_global name value other none = elim (decide_pieces kind open_global name value other) [ inl p ↦ absurd (none p.0 p.1) | inr why ↦ why ]

-- and the other way round
pub no_form_no_pieces : (kind : Kind) (open_global : Bool) (name value : List ℕ) (pieces : List (List ℕ)) → HasNoForm kind name value → PiecesAs kind open_global name value pieces → ⊥
no_form_no_pieces kind open_global name value pieces (Nothing nothing) p = let s = PiecesAs-says kind open_global name value pieces p in nothing s.0 s.1
no_form_no_pieces kind open_global name value pieces (OfIds e) p = rw e at p
no_form_no_pieces kind open_global name value pieces (OfNullPath comments says e) p = no_null kind e says p
  where
    no_null : (kind : Kind) → kind ≡ Path → SaysAs kind name value (PathTo None comments) → PiecesAs kind open_global name value pieces → ⊥
    no_null kind e says p =
        let s : SaysAs Path name value (PathTo None comments) = subst (λ k. SaysAs k name value (PathTo None comments)) e says in
        let q : PathPieces value pieces = subst (λ k. PiecesAs k open_global name value pieces) e p in
        let t = PathPieces-says value pieces q in
        let same : PathTo None comments ≡ PathTo (Some t.0) t.1 = SaysAs-once Path name value (PathTo None comments) (PathTo (Some t.0) t.1) s (Some t.0, t.1, refl, t.2) in
        cc same
no_form_no_pieces kind open_global name value pieces (OfPath address comments says unserved e) p =
    let s : SaysAs Path name value (PathTo (Some address) comments) = subst (λ k. SaysAs k name value (PathTo (Some address) comments)) e says in
    let q : PathPieces value pieces = subst (λ k. PiecesAs k open_global name value pieces) e p in
    let t = PathPieces-says value pieces q in
    let same : PathTo (Some address) comments ≡ PathTo (Some t.0) t.1 = SaysAs-once Path name value (PathTo (Some address) comments) (PathTo (Some t.0) t.1) s (Some t.0, t.1, refl, t.2) in
    let addresses : address ≡ t.0 = cc same in
    let read = PathPieces-read value pieces t.0 t.1 q t.2 in
    let no : None ≡ Some read.served = sym unserved ∙ ap served_address addresses ∙ read.is_served in
    cc no
no_form_no_pieces kind open_global name value pieces (OfType type text says differs e) p =
    let s : SaysAs Typed name value (TypedAddress type text) = subst (λ k. SaysAs k name value (TypedAddress type text)) e says in
    let q : TypedPieces value pieces = subst (λ k. PiecesAs k open_global name value pieces) e p in
    let same : TypedAddress type text ≡ TypedAddress utf8_type q.text = SaysAs-once Typed name value (TypedAddress type text) (TypedAddress utf8_type q.text) s (utf8_type, q.text, refl, q.says) in
    let types : type ≡ utf8_type = cc same in
    let no : false ≡ true = sym differs ∙ rw types refl in
    cc no
