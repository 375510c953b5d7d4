-- The parts of UTF-8 text and comments are UTF-8.
use Rattle.std.proofs.Common.{◌≡◌, ℕ, ◌<◌, ◌≤◌, true, inl, inr, List, [], ◌∷◌, ◌++◌, subst, refl, ap, ◌∙◌, sym, arith}
use Rattle.std.proofs.lemmas.Bool.{and_parts, and_from, cases_lt}
use Rattle.std.proofs.lemmas.List.{append_assoc, append-nil}
use Rattle.std.specs.List.{list_all}
use Rattle.std.specs.Str.{IsUtf8}
use Rattle.mail_wire.specs.Octets.{is_white}
use Rattle.mail_wire.proofs.OctetLemmas.{white_below}
use Rattle.encoded_words.specs.CommentUnits.{TextItem, Plain, Pair, is_white_item}
use Rattle.encoded_words.proofs.WritableUnits.{ends_ascii, following_ascii, before_ascii, BeginsAscii, BothUtf8}
use Rattle.field_tokens.specs.Trees.{spelling, Body, Before, body_octets}
use Rattle.field_tokens.specs.private.Bodies.{BeginsNoItem}
use Rattle.field_tokens.specs.Comments.{HasRunOf, comment_of}
use Rattle.field_tokens.proofs.Texts.{spelling-append}

-- what follows white
pub following_white : (white rest : List ℕ) → list_all is_white white ≡ true → IsUtf8 (white ++ rest) → IsUtf8 rest
following_white [] rest all u = u
following_white (x ∷ white) rest all u =
    let parts = and_parts (is_white x) (list_all is_white white) all in
    following_white white rest parts.1 (following_ascii x (white ++ rest) (white_below x parts.0) u)

-- text ends before an ASCII octet, or where all ends
stops_ascii : (after : List ℕ) → BeginsNoItem after → BeginsAscii after
stops_ascii [] stops = tt
stops_ascii (x ∷ after) stops = elim (cases_lt x 128) [
  | inl small ↦ small
  | inr high ↦ absurd (stops (Plain x) after (other 40 high (omega arith), other 41 high (omega arith), other 92 high (omega arith)) refl)
]
  where
    other : (y : ℕ) → 128 ≤ x → y < 128 → x ≡ y → ⊥
    other y high low e = omega (arith, high, low, e)

white_begins : (trail : List TextItem) (after : List ℕ) → list_all is_white_item trail ≡ true → BeginsAscii after → BeginsAscii (spelling trail ++ after)
white_begins [] after all begins = begins
white_begins (Plain x ∷ trail) after all begins = white_below x (and_parts (is_white x) (list_all is_white_item trail) all).0
white_begins (Pair x ∷ trail) after all begins = cc all

-- what follows text
pub after_text : (text : List TextItem) (octets after : List ℕ) → octets ≡ spelling text ++ after → BeginsNoItem after → IsUtf8 octets → IsUtf8 after
after_text text octets after whole stops u = (before_ascii (spelling text) after (stops_ascii after stops) (subst IsUtf8 whole u)).rest

-- what stands before the white at a text's end
pub before_white : (run trail : List TextItem) (octets after : List ℕ) → octets ≡ spelling (run ++ trail) ++ after → list_all is_white_item trail ≡ true → BeginsNoItem after → IsUtf8 octets → IsUtf8 (spelling run)
before_white run trail octets after whole white stops u =
    let grouped : octets ≡ spelling run ++ (spelling trail ++ after) = whole ∙ ap (λ r. r ++ after) (spelling-append run trail) ∙ append_assoc (spelling run) (spelling trail) after in
    (before_ascii (spelling run) (spelling trail ++ after) (white_begins trail after white (stops_ascii after stops)) (subst IsUtf8 grouped u)).front

-- a comment and what follows it
pub comment_utf8 : (body : Body) (rest : List ℕ) → IsUtf8 (comment_of body ++ rest) → BothUtf8 (comment_of body) rest
comment_utf8 body rest u = ends_ascii (40 ∷ body_octets body) 41 rest (omega arith) u

-- the parts of a body
pub record PartsUtf8 (text : List TextItem) (inner more : Body) : Type 0 where
  pub of_text : IsUtf8 (spelling text)
  pub of_inner : IsUtf8 (body_octets inner)
  pub of_more : IsUtf8 (body_octets more)

pub body_utf8 : (text : List TextItem) (inner more : Body) → IsUtf8 (body_octets (Before text inner more)) → PartsUtf8 text inner more
body_utf8 text inner more u =
    let following : List ℕ = body_octets inner ++ 41 ∷ body_octets more in
    let first = before_ascii (spelling text) (40 ∷ following) (omega arith) u in
    let second = before_ascii (body_octets inner) (41 ∷ body_octets more) (omega arith) (following_ascii 40 following (omega arith) first.rest) in
    record { of_text = first.front; of_inner = second.front; of_more = following_ascii 41 (body_octets more) (omega arith) second.rest }

pub white_spelling : (white : List TextItem) → list_all is_white_item white ≡ true → list_all is_white (spelling white) ≡ true
white_spelling [] all = refl
white_spelling (Plain x ∷ white) all =
    let parts = and_parts (is_white x) (list_all is_white_item white) all in
    and_from (is_white x) (list_all is_white (spelling white)) parts.0 (white_spelling white parts.1)
white_spelling (Pair x ∷ white) all = cc all

nothing_stops : BeginsNoItem []
nothing_stops (Plain x) rest stands e = cc e
nothing_stops (Pair x) rest stands e = cc e

-- the run of a text
pub run_of_utf8 : (text run : List TextItem) → HasRunOf text run → IsUtf8 (spelling text) → IsUtf8 (spelling run)
run_of_utf8 text run h u =
    let whole : spelling text ≡ spelling h.lead ++ spelling (run ++ h.trail) = ap spelling h.whole ∙ spelling-append h.lead (run ++ h.trail) in
    let rest = following_white (spelling h.lead) (spelling (run ++ h.trail)) (white_spelling h.lead h.lead_white) (subst IsUtf8 whole u) in
    before_white run h.trail (spelling (run ++ h.trail)) [] (sym (append-nil (spelling (run ++ h.trail)))) h.trail_white nothing_stops rest

-- what stands between a comment's parentheses
pub inside_utf8 : (body : Body) → IsUtf8 (comment_of body) → IsUtf8 (body_octets body)
inside_utf8 body u = (before_ascii (body_octets body) (41 ∷ []) (omega arith) (following_ascii 40 (body_octets body ++ 41 ∷ []) (omega arith) u)).front
