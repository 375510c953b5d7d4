-- How many octets a run still takes.
use Rattle.std.proofs.Common.{◌≡◌, ℕ, ◌+◌, ◌-◌, ◌*◌, ◌<◌, ◌≤◌, List, [], ◌∷◌, ◌++◌, length, drop, refl, ap, ◌∙◌, arith}
use Rattle.std.proofs.lemmas.List.{length-append, length-drop}
use Rattle.relay_choice.specs.Pieces.{HasBegunReply}
use Rattle.relay_choice.specs.Relay.{sent_after, sent_to}
use Rattle.relay_choice.specs.Replies.{AreFurtherLines, IsBegun, IsReply}
use Rattle.relay_choice.specs.Standing.{ClientState, first_left, mail_object_left, replies_by, replies_left, standing_of}
use Rattle.relay_choice.specs.Within.{HasItsMailObject}
use Rattle.relay_choice.specs.declared.mail_objects.MailObject.{MailObject}
use Rattle.relay_choice.specs.declared.reader.ReplyReader.{ReplyReader}
use Rattle.relay_choice.specs.declared.replies.Reply.{Reply}
use Rattle.relay_choice.specs.declared.replies.TheConstants.{REPLY_LINES, REPLY_LINE_MAX}
use Rattle.relay_choice.specs.declared.states.Awaited.{Awaited}
use Rattle.relay_choice.specs.declared.states.Awaited.TheVariants as awaited
use Rattle.relay_choice.specs.declared.states.Client.{Client}

-- ---- a reply

further_few : (code : List ℕ) (texts : List (List ℕ)) (octets : List ℕ) → AreFurtherLines code texts octets → length octets ≤ length texts * REPLY_LINE_MAX
further_few code [] octets are =
    let none : length octets ≡ 0 = ap (λ (l : List ℕ). length l) are in
    omega (arith, none)
further_few code (text ∷ texts) octets (line, others, whole, is, are) =
    let more = further_few code texts others are in
    let short = is.is_line.short in
    let long : length octets ≡ length (line ++ others) = ap (λ (l : List ℕ). length l) whole in
    let parts = length-append line others in
    omega (arith, more, short, long, parts)

-- it has no more octets than so many lines may have
pub reply_few : (octets : List ℕ) (reply : Reply) → IsReply octets reply → length octets ≤ REPLY_LINES * REPLY_LINE_MAX
reply_few octets reply is =
    let more = further_few is.code is.texts is.further is.are_further in
    let short = is.is_last.is_line.short in
    let long : length octets ≡ length (is.further ++ is.last) = ap (λ (l : List ℕ). length l) is.whole in
    let parts = length-append is.further is.last in
    omega (arith, more, short, long, parts, is.few)

pub begun_few : (octets : List ℕ) → IsBegun octets → length octets ≤ REPLY_LINES * REPLY_LINE_MAX
begun_few octets (x, more, (reply, is)) =
    let all = reply_few (octets ++ x ∷ more) reply is in
    let parts = length-append octets (x ∷ more) in
    omega (arith, all, parts)

-- ---- a client that awaits a reply

first_some : (count : MailObject → ℕ) → ((mail_object : MailObject) → 0 < count mail_object) → (mail_objects : List MailObject) → 0 < length mail_objects → 0 < first_left count mail_objects
first_some count some [] at = absurd (omega (arith, at))
first_some count some (mail_object ∷ mail_objects) at = let here = some mail_object in omega (arith, here)

mail_object_some : (client : ClientState) (count : MailObject → ℕ) → client.at < length client.mail_objects → ((mail_object : MailObject) → 0 < count mail_object) → 0 < mail_object_left client count
mail_object_some client count at some =
    let left = length-drop client.at client.mail_objects in
    first_some count some (drop client.at client.mail_objects) (omega (arith, left, at))

some_by : (awaited : Awaited) (client : ClientState) → HasItsMailObject awaited client.at client.mail_objects → 0 < replies_by awaited client
some_by awaited.Greeting client within = omega arith
some_by awaited.Ehlo client within = omega arith
some_by awaited.Mail client within = mail_object_some client (λ mail_object. length (sent_to client.offer mail_object) + 3) (within refl) (λ mail_object. omega arith)
some_by (awaited.Rcpt following) client within = mail_object_some client (λ mail_object. length (sent_after client.offer mail_object following) + 3) (within refl) (λ mail_object. omega arith)
some_by awaited.Data client within = mail_object_some client (λ mail_object. 2) (within refl) (λ mail_object. omega arith)
some_by awaited.End client within = mail_object_some client (λ mail_object. 1) (within refl) (λ mail_object. omega arith)
some_by awaited.Reset client within = mail_object_some client (λ mail_object. 1) (within refl) (λ mail_object. omega arith)

-- it takes one more
pub some_replies : (client : Client) → 0 < replies_left (standing_of client)
some_replies client = some_by client.awaited (standing_of client) client.within

-- ---- what is left

fewer_left : (m n r q t : ℕ) → n < m → t ≤ REPLY_LINES * REPLY_LINE_MAX → q ≡ 0 → n * (REPLY_LINES * REPLY_LINE_MAX) - r + t ≤ m * (REPLY_LINES * REPLY_LINE_MAX) - q
fewer_left m n r q t less few none = omega (arith, less, few, none)

-- after a reply, of which a reader had nothing yet
pub reply_short : (client next : Client) (reader : ReplyReader) (octets : List ℕ) (reply : Reply) → replies_left (standing_of next) < replies_left (standing_of client) → reader.octets ≡ [] → IsReply octets reply
    → replies_left (standing_of next) * (REPLY_LINES * REPLY_LINE_MAX) - length reader.octets + length octets ≤ replies_left (standing_of client) * (REPLY_LINES * REPLY_LINE_MAX) - length reader.octets
reply_short client next reader octets reply less anew is =
    fewer_left (replies_left (standing_of client)) (replies_left (standing_of next)) (length reader.octets) (length reader.octets) (length octets) less (reply_few octets reply is)
    (ap (λ (l : List ℕ). length l) anew)

front_left : (m r p q : ℕ) → 0 < m → r ≤ REPLY_LINES * REPLY_LINE_MAX → r ≡ q + p → m * (REPLY_LINES * REPLY_LINE_MAX) - r + p ≤ m * (REPLY_LINES * REPLY_LINE_MAX) - q
front_left m r p q some few parts = omega (arith, some, few, parts)

-- after a piece that belongs to one reply
pub front_short : (client : Client) (reader next : ReplyReader) (piece : List ℕ) → next.octets ≡ reader.octets ++ piece → HasBegunReply next
    → replies_left (standing_of client) * (REPLY_LINES * REPLY_LINE_MAX) - length next.octets + length piece ≤ replies_left (standing_of client) * (REPLY_LINES * REPLY_LINE_MAX) - length reader.octets
front_short client reader next piece is begun =
    front_left (replies_left (standing_of client)) (length next.octets) (length piece) (length reader.octets) (some_replies client) (begun_few next.octets begun.begun)
    (ap (λ (l : List ℕ). length l) is ∙ length-append reader.octets piece)
