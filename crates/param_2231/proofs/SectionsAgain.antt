-- A text that is made of parameters has them in its sections.
use Rattle.std.proofs.Common.{◌≡◌, ℕ, ◌+◌, ◌<◌, Bool, true, false, not, inl, inr, List, [], ◌∷◌, ◌++◌, length, map, filter, All, refl, sym, ap, ◌∙◌, subst, arith, add-zero}
use Rattle.std.proofs.lemmas.Bool.{cases_Bool, true≢false, cond-true}
use Rattle.std.proofs.lemmas.Bool.Decides.{Decides-eqb}
use Rattle.std.proofs.lemmas.List.{append_assoc, append-nil, length-append}
use Rattle.std.proofs.lemmas.List.Elements.{All-nil, All-cons}
use Rattle.std.proofs.lemmas.List.Splits.{slice_split_at, slice_split_none}
use Rattle.std.specs.List.{AllByRecursion, list_any, join_with_byte}
use Rattle.std.specs.Str.{str_to_ascii_lowercase}
use Rattle.mail_wire.specs.Spans.{Stops}
use Rattle.field_tokens.specs.declared.Style.TheVariants.{Mime}
use Rattle.field_tokens.specs.declared.Token.{Token}
use Rattle.field_tokens.specs.declared.TokenKind.TheVariants.{Special, Comment}
use Rattle.field_tokens.specs.Groups.{IsEnclosed}
use Rattle.field_tokens.specs.TokenOctets.{is_atom_octet}
use Rattle.field_tokens.specs.Tokens.{comment_marks, TokenValue, AreTokens, tokens_from}
use Rattle.field_tokens.specs.Squeezed.{is_blank, octets_of, comments_of, space}
use Rattle.field_tokens.proofs.Parts.{BeginsNoGap, EndsNoGap, EndsNoGap-append, AreTokens-append, AreTokens-space, comments_of-append, octets_of-append}
use Rattle.field_tokens.proofs.SqueezedValues.{value_at, AreKept, kept_no_gap, kept_comments, kept_ends}
use Rattle.field_tokens.proofs.PieceLemmas.{join_more, spaced, spaced_comments}
use Rattle.field_tokens.proofs.TokenLists.{token_at}
use Rattle.param_grammar.specs.declared.ParamKind.{ParamKind}
use Rattle.param_grammar.specs.declared.Piece.{Piece}
use Rattle.param_grammar.specs.Bodies.{is_mark_at, sections_of, solid, is_filled, touch, ArePieces, IsBody}
use Rattle.param_2231.specs.Layout.{with_semicolons}
use Rattle.param_2231.proofs.CoresAgain.{is_mark, are_main, are_main-at, octets-at, CanStand, HasCore, core-IsPiece}
use Rattle.param_2231.proofs.ChangedTokens.{tokens_from-append}
use Rattle.param_2231.proofs.GlobalLemmas.{solid_append}

abbrev pub semicolon : TokenValue
semicolon = record { kind = Special; octets = 59 ∷ [] }

-- parameters after others, each after a semicolon and a space, and what stands after the last
abbrev pub following : List (List TokenValue) → List TokenValue → List TokenValue
following [] tail = tail
following (core ∷ cores) tail = semicolon ∷ space ∷ (core ++ following cores tail)

abbrev pub AreBlank : List TokenValue → Type 0
AreBlank ts = AllByRecursion (λ (t : TokenValue). is_blank t.kind ≡ true) ts

abbrev pub HaveNoSemicolon : List TokenValue → Type 0
HaveNoSemicolon ts = AllByRecursion (λ (t : TokenValue). is_mark 59 t ≡ false) ts

-- ---- the tokens

pub record IsTail (tail : List TokenValue) : Type 0 where
  pub are_tokens : AreTokens Mime tail (octets_of tail)
  pub stops : Stops (is_atom_octet Mime) (octets_of tail)
  pub blank : AreBlank tail
  pub no_semicolon : HaveNoSemicolon tail
  pub ends : EndsNoGap tail

tail_ends : (c : List ℕ) (cs : List (List ℕ)) → EndsNoGap (record { kind = Comment; octets = c } ∷ spaced cs)
tail_ends c [] = refl
tail_ends c (d ∷ cs) = tail_ends d cs

comment_no_semicolon : (c : List ℕ) → IsEnclosed comment_marks c → is_mark 59 (record { kind = Comment; octets = c }) ≡ false
comment_no_semicolon c is = rw (is.spelled) refl

pub tail_is : (cs : List (List ℕ)) → AllByRecursion (IsEnclosed comment_marks) cs → IsTail (spaced cs)
tail_is [] all = record { are_tokens = refl; stops = tt; blank = tt; no_semicolon = tt; ends = tt }
tail_is (c ∷ cs) all =
    let more = tail_is cs all.1 in
    let comment : TokenValue = record { kind = Comment; octets = c } in
    let first : AreTokens Mime (comment ∷ spaced cs) (c ++ octets_of (spaced cs)) = (octets_of (spaced cs), refl, all.0, more.are_tokens) in
    record {
      are_tokens = AreTokens-space Mime [] (comment ∷ spaced cs) [] (c ++ octets_of (spaced cs)) refl tt first refl;
      stops = refl;
      blank = (refl, (refl, more.blank));
      no_semicolon = (refl, (comment_no_semicolon c all.0, more.no_semicolon));
      ends = tail_ends c cs;
    }

pub kept_begins : (ts more : List TokenValue) → 0 < length ts → AreKept ts → BeginsNoGap (ts ++ more)
kept_begins [] more some kept = absurd (omega (arith, some))
kept_begins (t ∷ ts) more some kept = kept_no_gap t.kind kept.0

after_stops : (cores : List (List TokenValue)) (tail : List TokenValue) → IsTail tail → Stops (is_atom_octet Mime) (octets_of (following cores tail))
after_stops [] tail is = is.stops
after_stops (core ∷ cores) tail is = refl

pub core_tokens : (core : List TokenValue) (cores : List (List TokenValue)) (tail : List TokenValue) → CanStand core → IsTail tail → AreTokens Mime (following cores tail) (octets_of (following cores tail))
    → AreTokens Mime (core ++ following cores tail) (octets_of (core ++ following cores tail))
core_tokens core cores tail stands is more =
    subst (AreTokens Mime (core ++ following cores tail)) (sym (octets_of-append core (following cores tail)))
    (AreTokens-append Mime core (following cores tail) (octets_of core) (octets_of (following cores tail)) stands.are_tokens (kept_ends core stands.kept) (after_stops cores tail is) more)

pub after_tokens : (cores : List (List TokenValue)) (tail : List TokenValue) → AllByRecursion CanStand cores → IsTail tail → AreTokens Mime (following cores tail) (octets_of (following cores tail))
after_tokens [] tail all is = is.are_tokens
after_tokens (core ∷ cores) tail all is =
    let more = core_tokens core cores tail all.0 is (after_tokens cores tail all.1 is) in
    AreTokens-space Mime (semicolon ∷ []) (core ++ following cores tail) (59 ∷ []) (octets_of (core ++ following cores tail)) ([], refl, (59, refl, refl), refl) refl more
    (kept_begins core (following cores tail) all.0.some all.0.kept)

pub made_ends : (core : List TokenValue) (cores : List (List TokenValue)) (tail : List TokenValue) → CanStand core → AllByRecursion CanStand cores → IsTail tail → EndsNoGap (core ++ following cores tail)
made_ends core [] [] stands all is = rw (append-nil core) (kept_ends core stands.kept)
made_ends core [] (t ∷ tail) stands all is = EndsNoGap-append core (t ∷ tail) (omega arith) is.ends
made_ends core (next ∷ cores) tail stands all is =
    EndsNoGap-append core (following (next ∷ cores) tail) (omega arith)
    (EndsNoGap-append (semicolon ∷ space ∷ []) (next ++ following cores tail) (omega (arith, all.0.some, length-append next (following cores tail))) (made_ends next cores tail all.0 all.1 is))

-- ---- the comments

pub made_comments : (core : List TokenValue) (cores : List (List TokenValue)) (cs : List (List ℕ)) → CanStand core → AllByRecursion CanStand cores → comments_of (core ++ following cores (spaced cs)) ≡ cs
made_comments core [] cs stands all = comments_of-append core (spaced cs) ∙ rw (kept_comments core stands.kept) (spaced_comments cs)
made_comments core (next ∷ cores) cs stands all =
    comments_of-append core (following (next ∷ cores) (spaced cs)) ∙ rw (kept_comments core stands.kept) (made_comments next cores cs all.0 all.1)

-- ---- the sections

-- the tokens stand here in the text
abbrev pub StandAt : List ℕ → ℕ → List TokenValue → Type 0
StandAt text at ts = map (value_at text) (tokens_from at ts) ≡ ts

stand_cut : (text : List ℕ) (at : ℕ) (ts us : List TokenValue) → StandAt text at (ts ++ us) → StandAt text at ts × StandAt text (at + length (octets_of ts)) us
stand_cut text at [] us e = (refl, rw (add-zero) e)
stand_cut text at (t ∷ ts) us e =
    let head : value_at text (token_at at t) ≡ t = cc e in
    let rest : StandAt text (at + length t.octets) (ts ++ us) = cc e in
    let more = stand_cut text (at + length t.octets) ts us rest in
    let same : (at + length t.octets) + length (octets_of ts) ≡ at + length (octets_of (t ∷ ts)) = omega (arith, length-append t.octets (octets_of ts)) in
    let tail : map (value_at text) (tokens_from (at + length t.octets) ts) ≡ ts = more.0 in
    (cc (head, tail), subst (λ n. StandAt text n us) same more.1)

unmarked : (text : List ℕ) (at : ℕ) (ts : List TokenValue) → StandAt text at ts → HaveNoSemicolon ts → All (λ t. is_mark_at text 59 t ≡ false) (tokens_from at ts)
unmarked text at [] e none = All-nil (λ t. is_mark_at text 59 t ≡ false)
unmarked text at (t ∷ ts) e none =
    let head : value_at text (token_at at t) ≡ t = cc e in
    let rest : StandAt text (at + length t.octets) ts = cc e in
    All-cons (λ t. is_mark_at text 59 t ≡ false) (token_at at t) (tokens_from (at + length t.octets) ts) (ap (is_mark 59) head ∙ none.0) (unmarked text (at + length t.octets) ts rest none.1)

no_semicolon_append : (ts us : List TokenValue) → HaveNoSemicolon ts → HaveNoSemicolon us → HaveNoSemicolon (ts ++ us)
no_semicolon_append [] us a b = b
no_semicolon_append (t ∷ ts) us a b = (a.0, no_semicolon_append ts us a.1 b)

touch_from : (at : ℕ) (ts : List TokenValue) → touch (tokens_from at ts) ≡ true
touch_from at [] = refl
touch_from at (t ∷ []) = refl
touch_from at (t ∷ u ∷ ts) = rw ((Decides-eqb (at + length t.octets) (at + length t.octets)).1 refl) (touch_from (at + length t.octets) (u ∷ ts))

solid_blank : (at : ℕ) (ts : List TokenValue) → AreBlank ts → solid (tokens_from at ts) ≡ []
solid_blank at [] all = refl
solid_blank at (t ∷ ts) all = rw (all.0) (solid_blank (at + length t.octets) ts all.1)

solid_kept : (at : ℕ) (ts : List TokenValue) → AreKept ts → solid (tokens_from at ts) ≡ tokens_from at ts
solid_kept at [] all = refl
solid_kept at (t ∷ ts) all = rw (all.0) (ap (λ r. token_at at t ∷ r) (solid_kept (at + length t.octets) ts all.1))

-- the section is this parameter, with blanks around it
record IsSectionOf (text : List ℕ) (core : List TokenValue) (section : List Token) : Type 0 where
  solids : List Token
  solid_is : solid section ≡ solids
  values : map (value_at text) solids ≡ core
  touches : touch solids ≡ true

section_of : (text : List ℕ) (at : ℕ) (lead core trail : List TokenValue) → AreBlank lead → AreKept core → AreBlank trail → StandAt text at (lead ++ (core ++ trail))
    → IsSectionOf text core (tokens_from at (lead ++ (core ++ trail)))
section_of text at lead core trail l k t e =
    let at_core : ℕ = at + length (octets_of lead) in
    let at_trail : ℕ = at_core + length (octets_of core) in
    record {
      solids = tokens_from at_core core;
      solid_is = ap solid (tokens_from-append at lead (core ++ trail)) ∙ solid_append (tokens_from at lead) (tokens_from at_core (core ++ trail)) ∙ ap (λ r. r ++ solid (tokens_from at_core (core ++ trail))) (solid_blank at lead l)
          ∙ ap solid (tokens_from-append at_core core trail) ∙ solid_append (tokens_from at_core core) (tokens_from at_trail trail) ∙ rw (solid_kept at_core core k, solid_blank at_trail trail t) (append-nil (tokens_from at_core core));
      values = (stand_cut text at_core core trail (stand_cut text at lead (core ++ trail) e).1).0;
      touches = touch_from at_core core;
    }

abbrev AreSectionsOf : List ℕ → List (List TokenValue) → List (List Token) → Type 0
AreSectionsOf text [] sections = sections ≡ []
AreSectionsOf text (core ∷ cores) sections = (section : List Token) × (others : List (List Token)) × (sections ≡ section ∷ others) × IsSectionOf text core section × AreSectionsOf text cores others

marked : (text : List ℕ) (at : ℕ) → StandAt text at (semicolon ∷ []) → is_mark_at text 59 (token_at at semicolon) ≡ true
marked text at e = let head : value_at text (token_at at semicolon) ≡ semicolon = cc e in ap (is_mark 59) head

sections_made : (text : List ℕ) (at : ℕ) (lead core : List TokenValue) (cores : List (List TokenValue)) (tail : List TokenValue) → AreBlank lead → HaveNoSemicolon lead → CanStand core
    → AllByRecursion CanStand cores → IsTail tail → StandAt text at (lead ++ (core ++ following cores tail))
    → AreSectionsOf text (core ∷ cores) (sections_of text (tokens_from at (lead ++ (core ++ following cores tail))))
sections_made text at lead core [] tail blank free stands all is e =
    let ts : List TokenValue = lead ++ (core ++ tail) in
    let none : HaveNoSemicolon ts = no_semicolon_append lead (core ++ tail) free (no_semicolon_append core tail stands.no_semicolon is.no_semicolon) in
    (tokens_from at ts, [], slice_split_none (is_mark_at text 59) (tokens_from at ts) (unmarked text at ts e none), section_of text at lead core tail blank stands.kept is.blank e, refl)
sections_made text at lead core (next ∷ cores) tail blank free stands all is e =
    let front : List TokenValue = lead ++ core in
    let rest : List TokenValue = space ∷ (next ++ following cores tail) in
    let end : ℕ = at + length (octets_of front) in
    let whole : lead ++ (core ++ following (next ∷ cores) tail) ≡ front ++ semicolon ∷ rest = sym (append_assoc lead core (semicolon ∷ rest)) in
    let cut = stand_cut text at front (semicolon ∷ rest) (subst (StandAt text at) whole e) in
    let mark = stand_cut text end (semicolon ∷ []) rest cut.1 in
    let none : HaveNoSemicolon front = no_semicolon_append lead core free stands.no_semicolon in
    let is_mark_there : is_mark_at text 59 (token_at end semicolon) ≡ true = marked text end mark.0 in
    let split = slice_split_at (is_mark_at text 59) (tokens_from at front) (token_at end semicolon) (tokens_from (end + 1) rest) (unmarked text at front cut.0 none) is_mark_there in
    let as_placed : tokens_from at (lead ++ (core ++ following (next ∷ cores) tail)) ≡ tokens_from at front ++ token_at end semicolon ∷ tokens_from (end + 1) rest =
    ap (tokens_from at) whole ∙ tokens_from-append at front (semicolon ∷ rest) in
    let bare : lead ++ (core ++ []) ≡ front = ap (λ r. lead ++ r) (append-nil core) in
    let first : IsSectionOf text core (tokens_from at front) =
    subst (λ ts. IsSectionOf text core (tokens_from at ts)) bare (section_of text at lead core [] blank stands.kept tt (subst (StandAt text at) (sym bare) cut.0)) in
    let more = sections_made text (end + 1) (space ∷ []) next cores tail (refl, tt) (refl, tt) all.0 all.1 is mark.1 in
    (tokens_from at front, sections_of text (tokens_from (end + 1) rest), ap (sections_of text) as_placed ∙ split, first, more)

-- ---- the body

abbrev pub cores_of : (pieces : List Piece) → AllByRecursion HasCore pieces → List (List TokenValue)
cores_of [] all = []
cores_of (piece ∷ pieces) all = all.0.core ∷ cores_of pieces all.1

pub cores_stand : (pieces : List Piece) (all : AllByRecursion HasCore pieces) → AllByRecursion CanStand (cores_of pieces all)
cores_stand [] all = tt
cores_stand (piece ∷ pieces) all = (all.0.stands, cores_stand pieces all.1)

not_any : (p : Token → Bool) (ts : List Token) → list_any p ts ≡ false → filter p ts ≡ []
not_any p [] h = refl
not_any p (t ∷ ts) h = elim (cases_Bool (p t)) [
  | inl y ↦ absurd (true≢false (sym (rw (y) refl) ∙ h))
  | inr n ↦ rw (n) (not_any p ts (rw (n) at h))
]

section_filled : (text : List ℕ) (core : List TokenValue) (section : List Token) → IsSectionOf text core section → CanStand core → is_filled section ≡ true
section_filled text core section is stands = elim (cases_Bool (is_filled section)) [
  | inl y ↦ y
  | inr n ↦
      let none : is.solids ≡ [] = sym is.solid_is ∙ not_any (λ (t : Token). not (is_blank t.kind)) section n in
      let empty : core ≡ [] = sym is.values ∙ ap (map (value_at text)) none in
      absurd (omega (arith, stands.some, ap length empty))
]

pieces_made : (text : List ℕ) (pieces : List Piece) (all : AllByRecursion HasCore pieces) (sections : List (List Token)) → AreSectionsOf text (cores_of pieces all) sections
    → ArePieces text (filter is_filled sections) pieces
pieces_made text [] all sections s = rw (s) refl
pieces_made text (piece ∷ pieces) all sections s =
    let filled : filter is_filled sections ≡ s.0 ∷ filter is_filled s.1 = ap (filter is_filled) s.2 ∙ cond-true _ _ _ (section_filled text all.0.core s.0 s.3 all.0.stands) in
    subst (λ r. ArePieces text r (piece ∷ pieces)) (sym filled)
    (piece, pieces, core-IsPiece text s.0 s.3.solids all.0.core piece s.3.solid_is s.3.values s.3.touches all.0.is_core, pieces_made text pieces all.1 s.1 s.4, refl)

-- the tokens are this main part
pub record IsMainCore (kind : ParamKind) (core : List TokenValue) (main : List ℕ) : Type 0 where
  pub is_main_part : are_main kind core ≡ true
  pub main_is : main ≡ str_to_ascii_lowercase (octets_of core)

pub body_made : (kind : ParamKind) (text main : List ℕ) (core : List TokenValue) (pieces : List Piece) (all : AllByRecursion HasCore pieces) (tail : List TokenValue) → IsMainCore kind core main
    → CanStand core → IsTail tail → StandAt text 0 (core ++ following (cores_of pieces all) tail) → IsBody kind text (tokens_from 0 (core ++ following (cores_of pieces all) tail)) main pieces
body_made kind text main core pieces all tail is stands tail_is e =
    let s = sections_made text 0 [] core (cores_of pieces all) tail tt tt stands (cores_stand pieces all) tail_is e in
    let same : map (value_at text) (solid s.0) ≡ core = ap (map (value_at text)) s.3.solid_is ∙ s.3.values in
    record {
      first = s.0;
      others = s.1;
      sections = s.2;
      is_main_part = are_main-at kind text (solid s.0) ∙ ap (are_main kind) same ∙ is.is_main_part;
      main_is = is.main_is ∙ ap str_to_ascii_lowercase (ap octets_of (sym same) ∙ octets-at text (solid s.0));
      are_pieces = pieces_made text pieces all s.1 s.4;
    }

-- ---- the text

join_tail : (w : List ℕ) (cs : List (List ℕ)) → w ++ octets_of (spaced cs) ≡ join_with_byte 32 (w ∷ cs)
join_tail w [] = append-nil w
join_tail w (c ∷ cs) = ap (λ r. w ++ 32 ∷ r) (join_tail c cs)

pub semicolons_some : (w : List ℕ) (ws cs : List (List ℕ)) → 0 < length (with_semicolons (w ∷ ws) ++ cs)
semicolons_some w [] cs = omega arith
semicolons_some w (v ∷ ws) cs = omega arith

pub made_octets : (w : List ℕ) (core : List TokenValue) (pieces : List Piece) (all : AllByRecursion HasCore pieces) (cs : List (List ℕ)) → octets_of core ≡ w
    → octets_of (core ++ following (cores_of pieces all) (spaced cs)) ≡ join_with_byte 32 (with_semicolons (w ∷ map (λ (p : Piece). p.written) pieces) ++ cs)
made_octets w core [] all cs e = octets_of-append core (spaced cs) ∙ ap (λ r. r ++ octets_of (spaced cs)) e ∙ join_tail w cs
made_octets w core (p ∷ pieces) all cs e =
    let tail : List TokenValue = spaced cs in
    let ws : List (List ℕ) = map (λ (p : Piece). p.written) pieces in
    let more = made_octets p.written all.0.core pieces all.1 cs (sym all.0.is_core.written_is) in
    octets_of-append core (following (cores_of (p ∷ pieces) all) tail) ∙ ap (λ r. r ++ octets_of (following (cores_of (p ∷ pieces) all) tail)) e ∙ ap (λ r. w ++ 59 ∷ 32 ∷ r) more
    ∙ sym (append_assoc w (59 ∷ []) (32 ∷ join_with_byte 32 (with_semicolons (p.written ∷ ws) ++ cs)))
    ∙ sym (join_more (w ++ 59 ∷ []) (with_semicolons (p.written ∷ ws) ++ cs) (semicolons_some p.written ws cs))
