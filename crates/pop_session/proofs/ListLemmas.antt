-- The lines of a listing.
use Rattle.std.proofs.Common.{◌≡◌, ℕ, ◌+◌, ◌<◌, ◌≤◌, List, [], ◌∷◌, ◌++◌, length, drop, get_or, true, false, Result, Ok, Err, refl, sym, ◌∙◌, append_assoc, append-nil, codes}
use Rattle.std.specs.Prelude.{IfOk}
use Rattle.std.proofs.lemmas.Grind.{flat_map-append}
use Rattle.std.proofs.lemmas.List.{drop_more, drop_all}
use Rattle.mail_wire.specs.Lines.{crlf}
use Rattle.mail_wire.specs.declared.values.Memory.{Memory}
use Rattle.kept_mail.specs.declared.kept.Listed.{Listed}
use Rattle.session_core.specs.Oracles.{Oracles, WithOracles}
use Rattle.pop_session.specs.declared.states.MaildropMessage.{MaildropMessage}
use Rattle.pop_session.specs.Machine.{line, two_numbers, listing_from, listing_reply}
use Rattle.pop_session.specs.Replies.{reply_octets, part_octets}

-- one more line
pub listing_turn : (oracles : Oracles) (row : Listed → ℕ) (maildrop : List MaildropMessage) (d : MaildropMessage) (place value : ℕ) (text more new whole : List ℕ) → place < length maildrop
    → (get_or maildrop place d).deleted ≡ false → value ≡ row (get_or maildrop place d).listed → more ≡ two_numbers [] (place + 1) value ++ crlf → new ≡ text ++ more
    → text ++ reply_octets oracles (listing_from row (place + 1) (drop place maildrop)) ≡ whole
    → new ++ reply_octets oracles (listing_from row (place + 1 + 1) (drop (place + 1) maildrop)) ≡ whole
listing_turn oracles row maildrop d place value text more new whole inside kept value_is more_is new_is so_far =
    let now = rw (drop_more maildrop place d inside, kept, ← value_is, ← more_is) at so_far in
    rw (new_is, append_assoc) now

-- a message that is marked has no line
pub listing_over : (oracles : Oracles) (row : Listed → ℕ) (maildrop : List MaildropMessage) (d : MaildropMessage) (place : ℕ) (text new whole : List ℕ) → place < length maildrop
    → (get_or maildrop place d).deleted ≡ true → new ≡ text
    → text ++ reply_octets oracles (listing_from row (place + 1) (drop place maildrop)) ≡ whole
    → new ++ reply_octets oracles (listing_from row (place + 1 + 1) (drop (place + 1) maildrop)) ≡ whole
listing_over oracles row maildrop d place text new whole inside marked new_is so_far =
    let now = rw (drop_more maildrop place d inside, marked) at so_far in
    rw new_is now

-- the last line
pub listing_end : (oracles : Oracles) (row : Listed → ℕ) (maildrop : List MaildropMessage) (place : ℕ) (text new : List ℕ) → length maildrop ≤ place → new ≡ text ++ codes ".\r\n"
    → text ++ reply_octets oracles (listing_from row (place + 1) (drop place maildrop)) ≡ codes "+OK" ++ crlf ++ reply_octets oracles (listing_from row 1 maildrop)
    → new ≡ reply_octets oracles (listing_reply row maildrop)
listing_end oracles row maildrop place text new past new_is so_far =
    let end : drop place maildrop ≡ [] = drop_all place maildrop past in
    let all : text ≡ codes "+OK" ++ crlf ++ reply_octets oracles (listing_from row 1 maildrop) = sym (append-nil text) ∙ (rw end at so_far) in
    rw (new_is, all, flat_map-append (part_octets oracles) (listing_from row 1 maildrop) (line (codes ".") ∷ [])) refl

-- the same of a text to which it may have been put
pub listing_ended : {T : Type 0} (bytes : T → List ℕ) (result : Result T Memory) (row : Oracles → Listed → ℕ) (maildrop : List MaildropMessage) (place : ℕ) (text : List ℕ) → length maildrop ≤ place
    → IfOk result (λ whole. bytes whole ≡ text ++ codes ".\r\n")
    → WithOracles (λ oracles. text ++ reply_octets oracles (listing_from (row oracles) (place + 1) (drop place maildrop)) ≡ codes "+OK" ++ crlf ++ reply_octets oracles (listing_from (row oracles) 1 maildrop))
    → IfOk result (λ whole. WithOracles (λ oracles. bytes whole ≡ reply_octets oracles (listing_reply (row oracles) maildrop)))
listing_ended bytes (Ok whole) row maildrop place text past is so_far = λ oracles are. listing_end oracles (row oracles) maildrop place text (bytes whole) past is (so_far oracles are)
listing_ended bytes (Err memory) row maildrop place text past is so_far = tt
