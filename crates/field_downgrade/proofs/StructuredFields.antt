-- A structured field is made of its pieces, or keeps its value as encoded words.
use Rattle.std.proofs.Common.{◌≡◌, ◌≢◌, ℕ, ◌+◌, ◌<◌, Bool, true, false, not, inl, inr, List, [], ◌∷◌, ◌++◌, Some, length, map, codes, refl, sym, ap, ◌∙◌, subst, arith}
use Rattle.std.proofs.lemmas.Bool.{and_parts, and_from, both_ways, cases_Bool, or_cases, true≢false}
use Rattle.std.proofs.lemmas.Bool.Decides.{nat_tests}
use Rattle.std.proofs.lemmas.List.{append-nil, append_assoc}
use Rattle.std.proofs.lemmas.Str.{IsUtf8-append}
use Rattle.std.specs.List.{AllByRecursion, concat, join_with_byte, list_all, onto_first}
use Rattle.std.proofs.lemmas.Slice.Eq.{bytes_eq-Decides}
use Rattle.std.specs.Str.{IsUtf8, str_to_ascii_lowercase}
use Rattle.mail_wire.specs.Octets.{is_white, is_ascii, is_line_end, same_name}
use Rattle.mail_wire.specs.Tables.{said_by}
use Rattle.mail_wire.specs.Folds.{IsFolded}
use Rattle.mail_wire.specs.Spans.{Stops, StopsAfter}
use Rattle.mail_wire.proofs.Unfolded.{unfolded-nil}
use Rattle.mail_wire.proofs.Folded.{without_ends, unfolded-folded, IsFolded-plain}
use Rattle.mail_wire.proofs.AllLemmas.{pass-append, pass-weaker}
use Rattle.mail_wire.proofs.OctetLemmas.{white_below}
use Rattle.encoded_words.specs.Folding.{made_body, word_pieces}
use Rattle.encoded_words.specs.WrittenWords.{AreWordsOf, written_word}
use Rattle.encoded_words.proofs.WrittenWords.{written_word-first}
use Rattle.encapsulated_fields.proofs.EncapsulatedLemmas.{words_say}
use Rattle.field_tokens.specs.TokenOctets.{is_line_octet}
use Rattle.field_tokens.specs.Comments.{CommentValue, IsLinePiece}
use Rattle.utf8_fields.specs.Parts.{FieldParts, HasParts, HasValue}
use Rattle.encoded_words.proofs.WritableUnits.{all_ascii, following_ascii, before_ascii, BeginsAscii}
use Rattle.field_downgrade.specs.Layout.{made_of, spaced}
use Rattle.field_downgrade.specs.Kinds.{kind_named}
use Rattle.field_downgrade.specs.declared.kind.Kind.TheVariants.{Unstructured, Params, Plain}
use Rattle.param_grammar.specs.declared.ParamKind.TheVariants.{Content}
use Rattle.param_grammar.specs.Joining.{ParamValue, SaysParams}
use Rattle.field_downgrade.specs.PlainTexts.{SaysPlain, IsAtomWhere}
use Rattle.field_downgrade.proofs.OneMeaning.{HasValue-once}
use Rattle.field_tokens.specs.declared.Style.TheVariants.{Mime}
use Rattle.field_tokens.specs.declared.TokenKind.TheVariants.{Atom, Special}
use Rattle.field_tokens.specs.declared.Token.{Token}
use Rattle.field_tokens.specs.Tokens.{TokenValue, AreTokens, IsToken, tokens_from}
use Rattle.param_grammar.specs.Bodies.{is_main, is_mark_at, sections_of, solid}
use Rattle.field_tokens.specs.Squeezed.{words_of}
use Rattle.field_tokens.proofs.TokenLemmas.{class, kind_is}
use Rattle.field_downgrade.specs.Stands.{IsHighField, BeginsHyphen, is_encoding_name, keeps_name, IsSameMeaning, Meaning, SaysAs, PiecesAs, IsMalformed, KeepsValue}
use Rattle.field_downgrade.proofs.Made.{ArePieces, made-folded, made-shows, name_ascii}
use Rattle.field_downgrade.proofs.Pieces.{following, keeps_all}
use Rattle.field_downgrade.proofs.KindValues.{AreReadSo}

-- line octets are no line ends
no_ends : (xs : List ℕ) → list_all is_line_octet xs ≡ true → list_all (λ x. not (is_line_end x)) xs ≡ true
no_ends [] h = refl
no_ends (x ∷ xs) h =
    let parts = and_parts (is_line_octet x) (list_all is_line_octet xs) h in
    and_from (not (is_line_end x)) (list_all (λ x. not (is_line_end x)) xs) (one x parts.0) (no_ends xs parts.1)
  where
    one : (x : ℕ) → is_line_octet x ≡ true → not (is_line_end x) ≡ true
    one x h = (and_parts _ (not (is_line_end x)) h).1

-- pieces of lines may stand on lines of their own
pub ArePieces-spaced : (pieces : List (List ℕ)) → AllByRecursion IsLinePiece pieces → ArePieces (spaced pieces)
ArePieces-spaced [] lines = tt
ArePieces-spaced (p ∷ ps) lines = (record { white = refl; folded = IsFolded-plain p (no_ends p lines.0.line); ascii = lines.0.ascii }, ArePieces-spaced ps lines.1)

following-spaced : (p : List ℕ) (ps : List (List ℕ)) → AllByRecursion IsLinePiece (p ∷ ps) → following (spaced (p ∷ ps)) ≡ 32 ∷ join_with_byte 32 (p ∷ ps)
following-spaced p [] lines = rw (keeps_all p (no_ends p lines.0.line)) (ap (λ r. 32 ∷ r) (append-nil p))
following-spaced p (q ∷ ps) lines = rw (keeps_all p (no_ends p lines.0.line)) (ap (λ r. 32 ∷ (p ++ r)) (following-spaced q ps lines.1))

-- the value of a body of such pieces
pub HasValue-spaced : (pieces : List (List ℕ)) → AllByRecursion IsLinePiece pieces → Stops is_white (join_with_byte 32 pieces) → StopsAfter is_white (join_with_byte 32 pieces)
    → HasValue (made_body (spaced pieces)) (join_with_byte 32 pieces)
HasValue-spaced [] lines begins ends = record { lead = []; trail = []; lead_passes = refl; trail_passes = refl; begins = tt; ends = tt; whole = unfolded-nil }
HasValue-spaced (p ∷ ps) lines begins ends =
    let are = ArePieces-spaced (p ∷ ps) lines in
    record {
      lead = 32 ∷ [];
      trail = [];
      lead_passes = refl;
      trail_passes = refl;
      begins = begins;
      ends = ends;
      whole = unfolded-folded (made_body (spaced (p ∷ ps))) (made-folded (spaced (p ∷ ps)) are) ∙ made-shows (spaced (p ∷ ps)) are ∙ following-spaced p ps lines
          ∙ ap (λ t. 32 ∷ t) (sym (append-nil (join_with_byte 32 (p ∷ ps))));
    }

-- the field of the pieces means what stands for it
pub IsSameMeaning-pieces : (open_global : Bool) (f : FieldParts) (value : List ℕ) (pieces : List (List ℕ)) (meaning : Meaning) → ¬ (BeginsHyphen f.name) → HasValue f.body value
    → SaysAs (kind_named f.name) f.name value meaning → AreReadSo (kind_named f.name) open_global f.name meaning pieces → IsSameMeaning open_global f (made_of f (spaced pieces))
IsSameMeaning-pieces open_global f value pieces meaning no_hyphen has says read = record {
  name = refl;
  no_hyphen = no_hyphen;
  meaning = meaning;
  made_meaning = read.made;
  stands = read.stands;
  means = record { value = value; has_value = has; says = says };
  made_means = record { value = join_with_byte 32 pieces; has_value = HasValue-spaced pieces read.lines read.begins read.ends; says = read.says };
}

-- the field of the encoded words keeps the value
pub KeepsValue-words : (f g : FieldParts) (value : List ℕ) (words : List (List ℕ)) → HasValue f.body value → IsUtf8 value → 0 < length value → AreWordsOf value words
    → g.body ≡ made_body (word_pieces 32 words) → KeepsValue f g
KeepsValue-words f g value words has u some are body =
    let said = words_say value words u some are in
    record {
      value = value;
      has_value = has;
      made_value = join_with_byte 32 words;
      has_made_value = subst (λ b. HasValue b (join_with_byte 32 words)) (sym body) said.trimmed;
      says = said.says;
    }

-- The value of a field with an octet above 127.
white_ascii : (xs : List ℕ) → list_all is_white xs ≡ true → list_all is_ascii xs ≡ true
white_ascii xs h = pass-weaker is_white is_ascii one xs h
  where
    one : (x : ℕ) → is_white x ≡ true → is_ascii x ≡ true
    one x h = grind (arith, nat_tests)

end_ascii : (x : ℕ) → is_line_end x ≡ true → is_ascii x ≡ true
end_ascii x h = grind (arith, nat_tests)

-- what line ends stand between ASCII is ASCII
ends_ascii : (xs : List ℕ) → list_all is_ascii (without_ends xs) ≡ true → list_all is_ascii xs ≡ true
ends_ascii [] h = refl
ends_ascii (x ∷ xs) h = elim (cases_Bool (is_line_end x)) [
  | inl t ↦ and_from (is_ascii x) (list_all is_ascii xs) (end_ascii x t) (ends_ascii xs (rw t at h))
  | inr f ↦ let parts = and_parts (is_ascii x) (list_all is_ascii (without_ends xs)) (rw f at h) in and_from (is_ascii x) (list_all is_ascii xs) parts.0 (ends_ascii xs parts.1)
]

body_ascii : (body value : List ℕ) → IsFolded body → HasValue body value → list_all is_ascii value ≡ true → list_all is_ascii body ≡ true
body_ascii body value folded has h =
    let whole : without_ends body ≡ has.lead ++ (value ++ has.trail) = sym (unfolded-folded body folded) ∙ has.whole in
    ends_ascii body
    (rw whole (pass-append is_ascii has.lead (value ++ has.trail) (white_ascii has.lead has.lead_passes) (pass-append is_ascii value has.trail h (white_ascii has.trail has.trail_passes))))

field_is_ascii : (octets : List ℕ) (f : FieldParts) → HasParts octets f → list_all is_ascii f.body ≡ true → list_all is_ascii octets ≡ true
field_is_ascii octets f is h =
    let ending : list_all is_ascii f.ending ≡ true = elim is.ending [ inl e ↦ rw e refl | inr e ↦ rw e refl ] in
    rw is.spelled
    (pass-append is_ascii f.name (f.white ++ 58 ∷ (f.body ++ f.ending)) (name_ascii f.name is.name)
    (pass-append is_ascii f.white (58 ∷ (f.body ++ f.ending)) (white_ascii f.white is.white) (pass-append is_ascii f.body f.ending h ending)))

-- the value of a body with an octet above 127
pub body_high : (body value : List ℕ) → IsFolded body → list_all is_ascii body ≡ false → HasValue body value → list_all is_ascii value ≡ false
body_high body value folded high has = elim (cases_Bool (list_all is_ascii value)) [ inr f ↦ f | inl t ↦ absurd (both_ways (list_all is_ascii body) high (body_ascii body value folded has t)) ]

pub body_some : (body value : List ℕ) → IsFolded body → list_all is_ascii body ≡ false → HasValue body value → 0 < length value
body_some body [] folded high has = let none : true ≡ false = body_high body [] folded high has in absurd (true≢false none)
body_some body (x ∷ value) folded high has = omega arith

-- a field with an octet above 127 has one in its body
pub field_high : (octets : List ℕ) (f : FieldParts) → IsHighField octets f → list_all is_ascii f.body ≡ false
field_high octets f high = elim (cases_Bool (list_all is_ascii f.body)) [ inr no_ascii ↦ no_ascii | inl t ↦ absurd (both_ways (list_all is_ascii octets) high.high (field_is_ascii octets f high.is_field t)) ]

pub value_high : (octets : List ℕ) (f : FieldParts) (value : List ℕ) → IsHighField octets f → HasValue f.body value → list_all is_ascii value ≡ false
value_high octets f value high has = body_high f.body value high.is_field.body (field_high octets f high) has

pub value_some : (octets : List ℕ) (f : FieldParts) (value : List ℕ) → IsHighField octets f → HasValue f.body value → 0 < length value
value_some octets f value high has = body_some f.body value high.is_field.body (field_high octets f high) has

-- UTF-8 stays so without line ends
ends_utf8 : (front xs : List ℕ) → IsUtf8 (front ++ xs) → IsUtf8 (front ++ without_ends xs)
ends_utf8 front [] u = u
ends_utf8 front (x ∷ xs) u = elim (cases_Bool (is_line_end x)) [
  | inl t ↦
      let small : x < 128 = end_small x t in
      let both = before_ascii front (x ∷ xs) small u in
      rw t (ends_utf8 front xs (IsUtf8-append front xs both.front (following_ascii x xs small both.rest)))
  | inr f ↦ rw f (rw (append_assoc front (x ∷ []) (without_ends xs)) at (ends_utf8 (front ++ x ∷ []) xs (rw (append_assoc front (x ∷ []) xs) u)))
]
  where
    end_small : (x : ℕ) → is_line_end x ≡ true → x < 128
    end_small x h = grind (arith, nat_tests)

begins_white : (xs : List ℕ) → list_all is_white xs ≡ true → BeginsAscii xs
begins_white [] h = tt
begins_white (x ∷ xs) h = white_below x (and_parts (is_white x) (list_all is_white xs) h).0

pub body_utf8 : (body value : List ℕ) → IsFolded body → IsUtf8 body → HasValue body value → IsUtf8 value
body_utf8 body value folded utf8 has =
    let whole : without_ends body ≡ has.lead ++ (value ++ has.trail) = sym (unfolded-folded body folded) ∙ has.whole in
    let u : IsUtf8 (has.lead ++ (value ++ has.trail)) = subst IsUtf8 whole (ends_utf8 [] body utf8) in
    let following = all_ascii is_white white_below has.lead (value ++ has.trail) has.lead_passes u in
    (before_ascii value has.trail (begins_white has.trail has.trail_passes) following.rest).front

pub value_utf8 : (octets : List ℕ) (f : FieldParts) (value : List ℕ) → IsHighField octets f → HasValue f.body value → IsUtf8 value
value_utf8 octets f value high has = body_utf8 f.body value high.is_field.body high.is_field.utf8 has

-- a name is one of a type or of an encoding whatever its case, and so its kind is known
pub type_is_params : (name : List ℕ) → same_name name (codes "Content-Type") ≡ true → kind_named name ≡ Params Content
unfolding kind_named said_by same_name
type_is_params name is = let e : str_to_ascii_lowercase name ≡ codes "content-type" = (bytes_eq-Decides (str_to_ascii_lowercase name) (codes "content-type")).0 is in rw e refl

pub encoding_is_plain : (name : List ℕ) → is_encoding_name name ≡ true → kind_named name ≡ Plain
unfolding is_encoding_name kind_named said_by same_name
encoding_is_plain name is = let e : str_to_ascii_lowercase name ≡ codes "content-transfer-encoding" = (bytes_eq-Decides (str_to_ascii_lowercase name) (codes "content-transfer-encoding")).0 is in rw e refl

-- the kind of a name that is kept
pub data KeptKind (name : List ℕ) : Type 0 where
  KeptType : kind_named name ≡ Params Content → KeptKind name
  KeptEncoding : kind_named name ≡ Plain → is_encoding_name name ≡ true → KeptKind name

pub kept_kind : (name : List ℕ) → keeps_name name ≡ true → KeptKind name
unfolding keeps_name
kept_kind name is = elim (or_cases (same_name name (codes "Content-Type")) (is_encoding_name name) is) [ inl t ↦ KeptType (type_is_params name t) | inr e ↦ KeptEncoding (encoding_is_plain name e) e ]

-- such a name doesn't begin with `-`, and neither does one of a structured field
pub structured_no_hyphen : (name : List ℕ) → kind_named name ≢ Unstructured → ¬ (BeginsHyphen name)
unfolding kind_named said_by same_name
structured_no_hyphen [] other begins = begins
structured_no_hyphen (x ∷ name) other begins = other (rw begins refl)

-- a field with pieces is structured
pub not_unstructured : (open_global : Bool) (name value : List ℕ) (pieces : List (List ℕ)) → PiecesAs (kind_named name) open_global name value pieces → kind_named name ≡ Unstructured → ⊥
not_unstructured open_global name value pieces p unstructured = rw unstructured at p

pub pieces_no_hyphen : (open_global : Bool) (name value : List ℕ) (pieces : List (List ℕ)) → PiecesAs (kind_named name) open_global name value pieces → ¬ (BeginsHyphen name)
pieces_no_hyphen open_global name value pieces p = structured_no_hyphen name (not_unstructured open_global name value pieces p)

pub kept_structured : (name : List ℕ) → keeps_name name ≡ true → kind_named name ≢ Unstructured
kept_structured name is e = by (kept_kind name is)
  where
    by : KeptKind name → ⊥
    by (KeptType kind) = let no = sym kind ∙ e in cc no
    by (KeptEncoding kind encoding) = let no = sym kind ∙ e in cc no

-- encoded words begin with `=`
words_begin : (value : List ℕ) (words : List (List ℕ)) → 0 < length value → AreWordsOf value words → (rest : List ℕ) × (join_with_byte 32 words ≡ 61 ∷ rest)
words_begin value words some are = by are.chunks are.spelled (are.whole ∙ append-nil (concat are.chunks))
  where
    by : (chunks : List (List ℕ)) → words ≡ map written_word chunks → value ≡ concat chunks → (rest : List ℕ) × (join_with_byte 32 words ≡ 61 ∷ rest)
    by [] e whole = absurd (omega (arith, some, ap length whole))
    by (c ∷ []) e whole = let f = written_word-first c in (f.0, rw (e, f.1) refl)
    by (c ∷ d ∷ cs) e whole = let f = written_word-first c in (f.0 ++ (32 ∷ join_with_byte 32 (map written_word (d ∷ cs))), rw (e, f.1) refl)

-- the first token of a text that begins with `=` is that special
equals_first : (text rest : List ℕ) (t : TokenValue) (ts : List TokenValue) → text ≡ 61 ∷ rest → AreTokens Mime (t ∷ ts) text → t.kind ≡ Special
equals_first text rest t ts e are =
    let kind : class Mime 61 ≡ Some t.kind = kind_is Mime t.kind 61 text rest are.0 e (record { octets = t.octets; whole = are.1; is_token = are.2 }) in
    let special : Special ≡ t.kind = cc kind in
    sym special

-- an encoding doesn't begin with `=`, which is no atom
no_atom : (text rest said : List ℕ) (comments : List CommentValue) → text ≡ 61 ∷ rest → SaysPlain true text said comments → ⊥
no_atom text rest said comments e says = by says.tokens says.is_plain.has.are_tokens says.is_plain.atom
  where
    by : (tokens : List TokenValue) → AreTokens Mime tokens text → IsAtomWhere true tokens → ⊥
    by [] are atom = let no : 61 ∷ rest ≡ [] = sym e ∙ are in cc no
    by (t ∷ ts) are atom =
        let special : t.kind ≡ Special = equals_first text rest t ts e are in
        let words : words_of (t ∷ ts) ≡ t ∷ words_of ts = rw special refl in
        let same : t ∷ words_of ts ≡ atom.0 ∷ [] = sym words ∙ atom.1 in
        let one : t ≡ atom.0 = cc same in
        let no : Special ≡ Atom = sym special ∙ ap (λ (u : TokenValue). u.kind) one ∙ atom.2 in
        cc no

-- and neither does a type: its first section begins with that special
onto_first_begins : (token first : Token) (rest : List Token) (sections others : List (List Token)) → onto_first token sections ≡ (first ∷ rest) ∷ others → token ≡ first
onto_first_begins token first rest [] others e = cc e
onto_first_begins token first rest (s ∷ ss) others e = cc e

onto_first_some : (token : Token) (sections others : List (List Token)) → onto_first token sections ≡ [] ∷ others → ⊥
onto_first_some token [] others e = cc e
onto_first_some token (s ∷ ss) others e = cc e

special_no_main : (text : List ℕ) (token : Token) (more : List Token) → token.kind ≡ Special → is_main Content text (token ∷ more) ≡ false
special_no_main text token [] e = refl
special_no_main text token (a ∷ []) e = refl
special_no_main text token (a ∷ b ∷ []) e = rw e refl
special_no_main text token (a ∷ b ∷ c ∷ more) e = refl

special_first : (text : List ℕ) (token : Token) (tokens first : List Token) (others : List (List Token)) → token.kind ≡ Special → is_mark_at text 59 token ≡ false
    → sections_of text (token ∷ tokens) ≡ first ∷ others → is_main Content text (solid first) ≡ false
special_first text token tokens [] others e no_mark are = absurd (onto_first_some token (sections_of text tokens) others (rw no_mark at are))
special_first text token tokens (t ∷ first) others e no_mark are =
    let same : token ≡ t = onto_first_begins token t first (sections_of text tokens) others (rw no_mark at are) in
    let kind : t.kind ≡ Special = ap (λ (u : Token). u.kind) (sym same) ∙ e in
    let solid_is : solid (t ∷ first) ≡ t ∷ solid first = rw kind refl in
    ap (is_main Content text) solid_is ∙ special_no_main text t (solid first) kind

equals_octets : (text rest octets following : List ℕ) → text ≡ 61 ∷ rest → text ≡ octets ++ following → IsToken Mime Special octets following → octets ≡ 61 ∷ []
equals_octets text rest octets following e whole is =
    let same : 61 ∷ rest ≡ is.0 ∷ following = sym e ∙ whole ∙ ap (λ o. o ++ following) is.1 in
    let first : 61 ≡ is.0 = cc same in
    is.1 ∙ ap (λ x. x ∷ []) (sym first)

no_type : (text rest main : List ℕ) (params : List ParamValue) (comments : List CommentValue) → text ≡ 61 ∷ rest → SaysParams Content text main params comments → ⊥
no_type text rest main params comments e says = by says.body.has_tokens.values says.body.has_tokens.are_tokens says.body.has_tokens.placed
  where
    by : (values : List TokenValue) → AreTokens Mime values text → says.body.tokens ≡ tokens_from 0 values → ⊥
    by [] are placed = let no : 61 ∷ rest ≡ [] = sym e ∙ are in cc no
    by (t ∷ ts) are placed =
        let special : t.kind ≡ Special = equals_first text rest t ts e are in
        let octets : t.octets ≡ 61 ∷ [] = equals_octets text rest t.octets are.0 e are.1 (subst (λ k. IsToken Mime k t.octets are.0) special are.2) in
        let token : Token = record { kind = t.kind; span = record { at = 0; len = length t.octets } } in
        let others : List Token = tokens_from (0 + length t.octets) ts in
        let no_mark : is_mark_at text 59 token ≡ false = rw (octets, e) refl in
        let body = says.body.is_body in
        let sections : sections_of text (token ∷ others) ≡ body.first ∷ body.others = ap (sections_of text) (sym placed) ∙ body.sections in
        both_ways (is_main Content text (solid body.first)) (special_first text token others body.first body.others special no_mark sections) body.is_main_part

-- the encoded words of a value that is kept under its name are malformed too
pub still_malformed : (f : FieldParts) (value : List ℕ) (words : List (List ℕ)) → HasValue f.body value → IsUtf8 value → 0 < length value → AreWordsOf value words → keeps_name f.name ≡ true
    → IsMalformed (made_of f (word_pieces 32 words))
still_malformed f value words has u some are keeps meaning means =
    let said = words_say value words u some are in
    let same : means.value ≡ join_with_byte 32 words = HasValue-once (made_body (word_pieces 32 words)) means.value (join_with_byte 32 words) means.has_value said.trimmed in
    let says : SaysAs (kind_named f.name) f.name (join_with_byte 32 words) meaning = subst (λ v. SaysAs (kind_named f.name) f.name v meaning) same means.says in
    let begins = words_begin value words some are in
    by (kept_kind f.name keeps) says begins.0 begins.1
  where
    by : KeptKind f.name → SaysAs (kind_named f.name) f.name (join_with_byte 32 words) meaning → (rest : List ℕ) → join_with_byte 32 words ≡ 61 ∷ rest → ⊥
    by (KeptType kind) says rest e =
        let s : SaysAs (Params Content) f.name (join_with_byte 32 words) meaning = subst (λ k. SaysAs k f.name (join_with_byte 32 words) meaning) kind says in
        no_type (join_with_byte 32 words) rest s.0 s.1 s.2 e s.4
    by (KeptEncoding kind encoding) says rest e =
        let s : SaysAs Plain f.name (join_with_byte 32 words) meaning = subst (λ k. SaysAs k f.name (join_with_byte 32 words) meaning) kind says in
        no_atom (join_with_byte 32 words) rest s.0 s.1 e (subst (λ b. SaysPlain b (join_with_byte 32 words) s.0 s.1) encoding s.3)
