-- Lines of replies, as they are put together.
use Rattle.std.proofs.Common.{◌≡◌, ℕ, ◌+◌, ◌<◌, ◌≤◌, List, [], ◌∷◌, ◌++◌, true, false, refl, sym, ap, ◌∙◌, append_assoc, append-nil, length, take, drop, get_or, arith, codes}
use Rattle.std.specs.Prelude.{decimal, map}
use Rattle.std.proofs.lemmas.List.{drop_more, drop_all, length-map, length-take-le, map_more}
use Rattle.kept_mail.specs.declared.kept.Listed.{Listed}
use Rattle.session_core.specs.Oracles.{Oracles}
use Rattle.imap_session.specs.Machine.{closing_up, is_deleted, spaced, tagged}
use Rattle.imap_session.specs.Replies.{reply_octets}
use Rattle.imap_session.specs.private.Lines.{tagged_octets}

-- the line that ends the replies of a command
pub tagged_reply : (oracles : Oracles) (tag words : List ℕ) → reply_octets oracles (tagged tag words ∷ []) ≡ tagged_octets tag words
tagged_reply oracles tag words = simp (append_assoc, append-nil)

-- ---- EXPUNGE

-- a message that goes has its line
pub closing-gone : (oracles : Oracles) (messages : List Listed) (place number : ℕ) (d : Listed) (lines new text whole : List ℕ) → place < length messages → is_deleted (get_or messages place d) ≡ true
    → text ≡ codes "* " ++ (decimal number ++ codes " EXPUNGE\r\n") → new ≡ lines ++ text
    → lines ++ reply_octets oracles (closing_up number (drop place messages)) ≡ whole
    → new ++ reply_octets oracles (closing_up number (drop (place + 1) messages)) ≡ whole
closing-gone oracles messages place number d lines new text whole inside gone text_is new_is so_far =
    let now = rw (drop_more messages place d inside, gone) at so_far in
    rw (new_is, text_is) (simp append_assoc (simp append_assoc at now))

-- any other leaves the next one its number after its own
pub closing-left : (oracles : Oracles) (messages : List Listed) (place number : ℕ) (d : Listed) (lines new whole : List ℕ) → place < length messages → is_deleted (get_or messages place d) ≡ false → new ≡ lines
    → lines ++ reply_octets oracles (closing_up number (drop place messages)) ≡ whole
    → new ++ reply_octets oracles (closing_up (number + 1) (drop (place + 1) messages)) ≡ whole
closing-left oracles messages place number d lines new whole inside stays new_is so_far =
    let now = rw (drop_more messages place d inside, stays) at so_far in
    rw new_is now

pub closing-end : (oracles : Oracles) (messages : List Listed) (place number : ℕ) (lines whole : List ℕ) → length messages ≤ place
    → lines ++ reply_octets oracles (closing_up number (drop place messages)) ≡ whole → lines ≡ whole
closing-end oracles messages place number lines whole past so_far =
    let end : drop place messages ≡ [] = drop_all place messages past in
    sym (append-nil lines) ∙ (rw end at so_far)

-- ---- texts with a space between any two

spaced_push : (texts : List (List ℕ)) (text : List ℕ) → 0 < length texts → spaced (texts ++ text ∷ []) ≡ spaced texts ++ (codes " " ++ text)
spaced_push [] text some = absurd (omega arith)
spaced_push (one ∷ []) text some = refl
spaced_push (one ∷ next ∷ texts) text some =
    ap (λ rest. one ++ (codes " " ++ rest)) (spaced_push (next ∷ texts) text (omega arith)) ∙ sym (append_assoc one (codes " " ++ spaced (next ∷ texts)) (codes " " ++ text))

-- the first text has none before it
pub spaced-first : {X : Type 0} (text : X → List ℕ) (items : List X) (place : ℕ) (d : X) (texts more new : List ℕ) → place < length items → place ≡ 0 → more ≡ text (get_or items place d)
    → texts ≡ spaced (map text (take place items)) → new ≡ texts ++ more → new ≡ spaced (map text (take (place + 1) items))
spaced-first text items place d texts more new inside first more_is texts_are new_is = rw (map_more text items place d inside, new_is, texts_are, more_is, first) refl

-- each other has one
pub spaced-more : {X : Type 0} (text : X → List ℕ) (items : List X) (place : ℕ) (d : X) (texts before more new : List ℕ) → place < length items → 0 < place → more ≡ text (get_or items place d)
    → texts ≡ spaced (map text (take place items)) → before ≡ texts ++ 32 ∷ [] → new ≡ before ++ more → new ≡ spaced (map text (take (place + 1) items))
spaced-more text items place d texts before more new inside later more_is texts_are before_is new_is =
    let size = length-map (take place items) text in
    let whole = length-take-le place items (omega arith) in
    let now = spaced_push (map text (take place items)) (text (get_or items place d)) (omega arith) in
    rw (map_more text items place d inside, now, new_is, before_is, texts_are, more_is) (append_assoc (spaced (map text (take place items))) (32 ∷ []) (text (get_or items place d)))
