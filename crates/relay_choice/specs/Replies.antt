-- Replies of an SMTP server (RFC 5321, 4.2). How many lines they have is a limit of this project; RFC 5321, 4.5.3.1.5 asks for lines of 512 octets.
use Rattle.std.specs.Prelude.{◌≡◌, ℕ, ◌≤◌, ◌<◌, ◌-◌, ◌⊎◌, List, [], ◌∷◌, ◌++◌, Bool, true, false, ◌&&◌, nat_le, length, take, Some}
use Rattle.mail_wire.specs.Characters.{space, dash}
use Rattle.mail_wire.specs.Numbers.{is_digit, number_written}
use Rattle.mail_wire.specs.Lines.{crlf, first_line}
use Rattle.relay_choice.specs.declared.replies.TheConstants.{REPLY_LINES, REPLY_LINE_MAX}
use Rattle.relay_choice.specs.declared.replies.Reply.{Reply}
use Rattle.relay_choice.specs.declared.replies.ReplyRead.{ReplyRead}
use Rattle.relay_choice.specs.declared.replies.ReplyRead.TheVariants as read

-- three digits, the first of which is 2 to 5 (RFC 5321, 4.2, Reply-code)
abbrev pub is_code : List ℕ → Bool
is_code [] = false
is_code (x ∷ []) = false
is_code (x ∷ y ∷ []) = false
is_code (x ∷ y ∷ z ∷ []) = nat_le 50 x && nat_le x 53 && is_digit y && is_digit z
is_code (x ∷ y ∷ z ∷ w ∷ more) = false

-- a line that ends with its first CRLF, and is no longer than a line may be
pub record IsReplyLine (line : List ℕ) : Type 0 where
  pub whole : first_line line ≡ Some (record { line = line; rest = [] })
  pub short : length line ≤ REPLY_LINE_MAX

-- a line that another one follows: the code, a hyphen and a text
pub record IsFurtherLine (code text line : List ℕ) : Type 0 where
  pub is_line : IsReplyLine line
  pub spelled : line ≡ code ++ dash ∷ (text ++ crlf)

-- the last line: the code, and a space and a text or nothing
pub record IsLastLine (code text line : List ℕ) : Type 0 where
  pub is_line : IsReplyLine line
  pub spelled : (line ≡ code ++ space ∷ (text ++ crlf)) ⊎ ((text ≡ []) × (line ≡ code ++ crlf))

-- lines with these texts, each of which another one follows
abbrev pub AreFurtherLines : (code : List ℕ) → (texts : List (List ℕ)) → (octets : List ℕ) → Type 0
AreFurtherLines code [] octets = octets ≡ []
AreFurtherLines code (text ∷ texts) octets =
    (line : List ℕ) × (others : List ℕ) × (octets ≡ line ++ others) × IsFurtherLine code text line × AreFurtherLines code texts others

-- A reply: lines with the same code, and what they say.
pub record IsReply (octets : List ℕ) (reply : Reply) : Type 0 where
  pub code : List ℕ
  pub is_code_of : is_code code ≡ true
  pub says_code : reply.code ≡ number_written code
  pub texts : List (List ℕ)
  pub text : List ℕ
  pub says_texts : reply.lines ≡ texts ++ text ∷ []
  pub few : length texts < REPLY_LINES
  pub further : List ℕ
  pub last : List ℕ
  pub whole : octets ≡ further ++ last
  pub are_further : AreFurtherLines code texts further
  pub is_last : IsLastLine code text last

-- the octets are a reply
abbrev pub AreReply : List ℕ → Type 0
AreReply octets = (reply : Reply) × IsReply octets reply

-- more octets make a reply of them
abbrev pub IsBegun : List ℕ → Type 0
IsBegun octets = (x : ℕ) × (more : List ℕ) × AreReply (octets ++ x ∷ more)

-- The octets are a reply, or the front of one.
abbrev pub IsFront : List ℕ → Type 0
IsFront octets = AreReply octets ⊎ IsBegun octets

-- no reply begins with them, and without the last octet one does
pub record IsNoFront (octets : List ℕ) : Type 0 where
  pub not_front : ¬ IsFront octets
  pub some : 0 < length octets
  pub front : IsBegun (take (length octets - 1) octets)

-- What the octets begin with: a reply; the front of one, which they all are; or octets that begin no reply, the least number of them.
abbrev pub IsReplyRead : List ℕ → ReplyRead → Type 0
IsReplyRead octets (read.Whole reply used) = (used ≤ length octets) × IsReply (take used octets) reply
IsReplyRead octets read.More = IsBegun octets
IsReplyRead octets (read.NotReply used) = (used ≤ length octets) × IsNoFront (take used octets)

-- what stands there is known by its last octet: a reply, or octets in its place that begin none
abbrev pub IsDecided : List ℕ → Type 0
IsDecided octets = AreReply octets ⊎ IsNoFront octets
