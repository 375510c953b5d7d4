-- Lists are written place by place.
use Rattle.std.proofs.Common.{◌≡◌, ◌≢◌, ℕ, Bool, true, false, not, ◌&&◌, ◌||◌, cond, inl, inr, List, [], ◌∷◌, ◌++◌, length, take, Option, Some, None, refl, sym, ap, ◌∙◌, subst}
use Rattle.std.proofs.lemmas.Bool.{cases_Bool, and_parts, not-true, or_right}
use Rattle.std.proofs.lemmas.List.{append_assoc, append-nil, take_at}
use Rattle.std.proofs.lemmas.List.Folds.{list_any-append}
use Rattle.std.specs.List.{list_all, list_any}
use Rattle.mail_wire.specs.Octets.{is_ascii}
use Rattle.encoded_words.specs.Folding.{AddsLines}
use Rattle.encoded_words.proofs.LineLemmas.{adds_both, adds_as}
use Rattle.field_tokens.specs.declared.TokenKind.{TokenKind}
use Rattle.field_tokens.specs.declared.TokenKind.TheVariants.{Atom, Quoted, Literal, Special, Gap, Comment}
use Rattle.field_tokens.specs.Tokens.{TokenValue}
use Rattle.field_tokens.specs.Squeezed.{octets_of, comments_of, is_special_kind}
use Rattle.field_tokens.specs.Comments.{CommentsPieces}
use Rattle.address_grammar.specs.private.Lexemes.{HasMailTokens, is_special_of, is_blank_token, are_blank}
use Rattle.address_grammar.specs.AddressLists.{Divided, SayParts, AreDivided, ElementValue, One, Group, IsElement, SaysPlace}
use Rattle.address_grammar.specs.private.ListSteps.{SplitsName}
use Rattle.address_grammar.specs.private.Walks.{awaited_after, and_then, walk, SplitsPlace, IsLastPlace}
use Rattle.address_lists.specs.ListPieces.{GroupPieces, with_comma, MemberPieces, ElementPieces, PlaceOfListPieces, comma_followed, PlacesPieces, AddressesPieces}
use Rattle.address_lists.specs.private.ListWriting.{CanBeWritten, AsciiPieces, is_element_token, IsServedGroupBy, IsServedGroup, GivesMember, GivesElement, GivesPlace, GivesFollowed, GivesPlaces}
use Rattle.address_grammar.proofs.LexemeLemmas.{no_mark}
use Rattle.address_grammar.proofs.DividedLemmas.{ReadsParts, parts_start, parts_turn, parts_stuck, parts_stuck_last}
use Rattle.address_grammar.proofs.ListLemmas.{place_walked, element_not_blank}
use Rattle.address_lists.proofs.AddedPieces.{adds_comma, some_after}
use Rattle.address_lists.proofs.WritableTokens.{following_can}
use Rattle.address_lists.proofs.ServedMailboxes.{mailbox_some}
use Rattle.address_lists.proofs.KeptGroups.{false_where, group_some}

-- ---- elements

pub element_blank : (ts : List TokenValue) (e : ElementValue) → IsElement ts e → are_blank ts ≡ false
element_blank ts e is = false_where (are_blank ts) (element_not_blank ts e is)

pub ascii_element : (ts : List TokenValue) (e : ElementValue) (old new : List ℕ) → IsElement ts e → list_all is_ascii (octets_of ts) ≡ true → AddsLines (AsciiPieces ts) old new → AddsLines (GivesElement ts) old new
ascii_element ts e old new is h a = adds_as (λ ps g. record { element = e; is_element = is; gives = rw (h) g }) a

pub group_element : (ts : List TokenValue) (served : Bool) (old new : List ℕ) → IsServedGroup ts served → list_all is_ascii (octets_of ts) ≡ false → AddsLines (GroupPieces ts) old new → AddsLines (GivesElement ts) old new
group_element ts served old new g h a = adds_as (λ ps p. record { element = Group g.name g.members; is_element = g.group; gives = rw (h) (inr p) }) a

pub single_gives : (ts : List TokenValue) (old new : List ℕ) → AddsLines (GivesMember ts) old new → AddsLines (GivesElement ts) old new
single_gives ts old new a = adds_as (λ ps g. record { element = One g.member; is_element = g.says; gives = by (list_all is_ascii (octets_of ts)) ps g.gives }) a
  where
    by : (b : Bool) (ps : List (List ℕ)) → MemberPieces b ts ps → ElementPieces b ts ps
    by true ps p = p
    by false ps p = inl p

-- the group that was read
pub group_read : (ts before following : List TokenValue) (served : Bool) → SplitsName ts before following → IsServedGroupBy before following served → IsServedGroup ts served
group_read ts before following served s g = record {
  name = g.name;
  members = g.members;
  group = record { before = before; colon = s.splits.at; following = following; whole = s.splits.whole; is_colon = s.splits.is_at; group = g.group };
  served = g.served;
}

element_some : (b : Bool) (ts : List TokenValue) (ps : List (List ℕ)) → ElementPieces b ts ps → ps ≢ []
element_some true ts ps is = λ none. some_after [] [] _ (sym is.2 ∙ none)
element_some false ts ps (inl is) = mailbox_some ts ps is
element_some false ts ps (inr is) = group_some ts ps is

-- ---- places

pub blank_place : (ts : List TokenValue) (old new : List ℕ) → are_blank ts ≡ true → AddsLines (CommentsPieces (comments_of ts)) old new → AddsLines (GivesPlace ts) old new
blank_place ts old new h a = adds_as (λ ps p. record { elements = []; says = h; gives = rw (h) p }) a

pub element_place : (ts : List TokenValue) (old new : List ℕ) → are_blank ts ≡ false → AddsLines (GivesElement ts) old new → AddsLines (GivesPlace ts) old new
element_place ts old new h a = adds_as (λ ps g. record { elements = g.element ∷ []; says = g.is_element; gives = rw (h) g.gives }) a

place_some : (ts : List TokenValue) (ps : List (List ℕ)) → are_blank ts ≡ false → PlaceOfListPieces (are_blank ts) ts ps → ps ≢ []
place_some ts ps h is = element_some (list_all is_ascii (octets_of ts)) ts ps (rw (h) at is)

pub not_followed : (place following : List TokenValue) (old new : List ℕ) → (not (are_blank place) && list_any is_element_token following) ≡ false → AddsLines (GivesPlace place) old new
    → AddsLines (GivesFollowed place following) old new
not_followed place following old new h a = adds_as (λ ps g. record { elements = g.elements; says = g.says; first = ps; gives = g.gives; pieces_are = rw (h) refl }) a

pub is_followed : (place following : List TokenValue) (old mid new : List ℕ) → (not (are_blank place) && list_any is_element_token following) ≡ true → AddsLines (GivesPlace place) old mid → new ≡ mid ++ 44 ∷ []
    → AddsLines (GivesFollowed place following) old new
is_followed place following old mid new h a e =
    let word : are_blank place ≡ false = not-true (are_blank place) (and_parts (not (are_blank place)) (list_any is_element_token following) h).0 in
    adds_comma (λ ps g. place_some place ps word g.gives) (λ ps g. record { elements = g.elements; says = g.says; first = ps; gives = g.gives; pieces_are = rw (h) refl }) a e

-- ---- whether an element follows

blank_special : (k : TokenKind) (octets : List ℕ) → is_blank_token (record { kind = k; octets = octets }) ≡ true → is_special_kind k ≡ false
blank_special Gap octets h = refl
blank_special Comment octets h = refl
blank_special Atom octets h = refl
blank_special Quoted octets h = refl
blank_special Literal octets h = refl
blank_special Special octets h = sym h

stopped : (o : Option (Option ℕ)) (ts : List TokenValue) → o ≡ None → and_then o (λ n. walk n ts) ≡ Some None → ⊥
stopped o ts e w = cc (rw (e) at w)

-- an empty place has gaps and comments only, and no other place is made of them and commas
one_part : (ts : List TokenValue) → walk None ts ≡ Some None → not (are_blank ts) ≡ list_any is_element_token ts
one_part [] w = refl
one_part (t ∷ ts) w = elim (cases_Bool (is_blank_token t)) [
  | inl blank ↦
      let special = blank_special t.kind t.octets blank in
      rw (blank) (one_part ts (rw (no_mark 44 t special, no_mark 60 t special, no_mark 58 t special) at w))
  | inr word ↦ elim (cases_Bool (is_special_of 44 t)) [
    | inl comma ↦ absurd (stopped (awaited_after None t) ts (rw (comma) refl) w)
    | inr other ↦ rw (word, other) refl
  ]
]

comma_token : (t : TokenValue) → is_special_of 44 t ≡ true → is_element_token t ≡ false
comma_token t h = rw (h, or_right (is_blank_token t) true refl) refl

later : (parts : List (List TokenValue)) (ts : List TokenValue) (es : List ElementValue) → Divided 44 parts ts → SayParts SaysPlace parts es → list_any (λ p. not (are_blank p)) parts ≡ list_any is_element_token ts
later [] ts es d say = absurd d
later (p ∷ []) ts es d say = rw (d) (by (not (are_blank p)) (list_any is_element_token p) (one_part p (place_walked p say.0 say.3)))
  where
    by : (a b : Bool) → a ≡ b → (a || false) ≡ b
    by true b e = e
    by false b e = e
later (p ∷ n ∷ parts) ts es d say =
    let one = one_part p (place_walked p say.0 say.3) in
    let more = later (n ∷ parts) d.1 say.1 d.4 say.4 in
    ap (λ r. r || list_any (λ q. not (are_blank q)) (n ∷ parts)) one ∙ ap (λ r. list_any is_element_token p || r) more
    ∙ ap (λ r. list_any is_element_token p || (r || list_any is_element_token d.1)) (sym (comma_token d.0 d.3)) ∙ sym (list_any-append is_element_token p (d.0 ∷ d.1)) ∙ ap (list_any is_element_token) (sym d.2)

-- ---- whether an element stands after

pub any_turn : (all rest following : List TokenValue) (t : TokenValue) → list_any is_element_token all ≡ list_any is_element_token rest → rest ≡ t ∷ following → is_element_token t ≡ false
    → list_any is_element_token all ≡ list_any is_element_token following
any_turn all rest following t so e other = so ∙ ap (list_any is_element_token) e ∙ ap (λ r. r || list_any is_element_token following) other

pub any_stop : (all rest following : List TokenValue) (t : TokenValue) → list_any is_element_token all ≡ list_any is_element_token rest → rest ≡ t ∷ following → is_element_token t ≡ true → true ≡ list_any is_element_token all
any_stop all rest following t so e is = sym (so ∙ ap (list_any is_element_token) e ∙ ap (λ r. r || list_any is_element_token following) is)

pub any_end : (all rest : List TokenValue) → list_any is_element_token all ≡ list_any is_element_token rest → rest ≡ [] → false ≡ list_any is_element_token all
any_end all rest so e = sym (so ∙ ap (list_any is_element_token) e)

-- ---- a loop over the places

-- some places were written, and rest is left
pub record WritesPlaces (ts rest : List TokenValue) (pieces : List (List ℕ)) : Type 0 where
  pub onward : (es : List ElementValue) (d : AreDivided SaysPlace rest es) (more : List (List ℕ)) → PlacesPieces d.parts more → GivesPlaces ts (pieces ++ more)
  pub done : List ElementValue
  pub reads : ReadsParts SaysPlace ts done rest
  pub can : CanBeWritten rest

pub places_start : (ts : List TokenValue) → CanBeWritten ts → WritesPlaces ts ts []
places_start ts can = record {
  onward = λ es d more p. record { elements = es; are_elements = d; pieces_are = p };
  done = [];
  reads = parts_start SaysPlace ts [] refl;
  can = can;
}

places_onward : (ts rest place after : List TokenValue) (mid put : List (List ℕ)) → WritesPlaces ts rest mid → SplitsPlace rest place after → GivesFollowed place after put
    → (parts : List (List TokenValue)) (es : List ElementValue) (more : List (List ℕ)) → Divided 44 parts after → SayParts SaysPlace parts es → PlacesPieces parts more → GivesPlaces ts (mid ++ (put ++ more))
places_onward ts rest place after mid put w s g [] es more d say p = absurd d
places_onward ts rest place after mid put w s g (q ∷ parts) es more d say p =
    let whole : AreDivided SaysPlace rest (g.elements ++ es)
    = record { parts = place ∷ q ∷ parts; divided = (s.comma, after, s.whole, s.is_comma, d); say = (g.elements, es, refl, g.says, say) } in
    let pieces : put ++ more ≡ comma_followed place (q ∷ parts) g.first ++ more
    = ap (λ r. r ++ more) (g.pieces_are ∙ ap (λ b. cond (not (are_blank place) && b) (with_comma g.first) g.first) (sym (later (q ∷ parts) after es d say))) in
    w.onward (g.elements ++ es) whole (put ++ more) (g.first, more, g.gives, p, pieces)

places_turn : (ts rest place after : List TokenValue) (mid put : List (List ℕ)) → SplitsPlace rest place after → WritesPlaces ts rest mid → GivesFollowed place after put → WritesPlaces ts after (mid ++ put)
places_turn ts rest place after mid put s w g = record {
  onward = λ es d more p. subst (GivesPlaces ts) (sym (append_assoc mid put more)) (places_onward ts rest place after mid put w s g d.parts es more d.divided d.say p);
  done = w.done ++ g.elements;
  reads = parts_turn SaysPlace place_walked ts rest place after w.done g.elements (w.done ++ g.elements) w.reads s g.says refl;
  can = following_can rest place after s.comma s.whole w.can;
}

pub places_adds : (ts rest place after : List TokenValue) (old mid new : List ℕ) → SplitsPlace rest place after → AddsLines (WritesPlaces ts rest) old mid → AddsLines (GivesFollowed place after) mid new → AddsLines (WritesPlaces ts after) old new
places_adds ts rest place after old mid new s w a = adds_both (λ xs ys p q. places_turn ts rest place after xs ys s p q) w a

places_end : (ts rest : List TokenValue) (mid put : List (List ℕ)) → WritesPlaces ts rest mid → GivesPlace rest put → GivesPlaces ts (mid ++ put)
places_end ts rest mid put w g =
    let last : AreDivided SaysPlace rest g.elements = record { parts = rest ∷ []; divided = refl; say = (g.elements, [], sym (append-nil g.elements), g.says, refl) } in
    w.onward g.elements last put (put, [], g.gives, refl, by (not (are_blank rest)))
  where
    by : (b : Bool) → put ≡ cond (b && false) (with_comma put) put ++ []
    by true = sym (append-nil put)
    by false = sym (append-nil put)

pub places_all : (ts rest : List TokenValue) (old mid new : List ℕ) → AddsLines (WritesPlaces ts rest) old mid → AddsLines (GivesPlace rest) mid new → AddsLines (GivesPlaces ts) old new
places_all ts rest old mid new w a = adds_both (λ xs ys p q. places_end ts rest xs ys p q) w a

pub places_stuck : (ts rest place after : List TokenValue) (pieces : List (List ℕ)) → WritesPlaces ts rest pieces → SplitsPlace rest place after → ((es : List ElementValue) → SaysPlace place es → ⊥)
    → (es : List ElementValue) → AreDivided SaysPlace ts es → ⊥
places_stuck ts rest place after pieces w s none = parts_stuck SaysPlace place_walked ts rest place after w.done w.reads s none

pub places_stuck_last : (ts rest : List TokenValue) (pieces : List (List ℕ)) → WritesPlaces ts rest pieces → IsLastPlace rest → ((es : List ElementValue) → SaysPlace rest es → ⊥)
    → (es : List ElementValue) → AreDivided SaysPlace ts es → ⊥
places_stuck_last ts rest pieces w last none = parts_stuck_last SaysPlace place_walked ts rest w.done w.reads last none

-- what was put is taken away
pub front_kept : (old new more : List ℕ) → new ≡ old ++ more → take (length old) new ≡ old
front_kept old new more e = ap (take (length old)) e ∙ take_at old more (length old) refl

-- ---- whole texts

pub list_pieces : (text : List ℕ) (ts : List TokenValue) (ps : List (List ℕ)) → HasMailTokens text ts → GivesPlaces ts ps → AddressesPieces text ps
list_pieces text ts ps has g = record { tokens = ts; has = has; elements = g.elements; are_elements = g.are_elements; pieces_are = g.pieces_are }
