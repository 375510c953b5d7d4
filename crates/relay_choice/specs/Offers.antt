-- What a reply means (RFC 5321, 4.2.1), and what one to EHLO offers (RFC 5321, 4.1.1.1).
use Rattle.std.specs.Prelude.{ℕ, List, Bool, ◌&&◌, nat_le, nat_lt, drop, codes}
use Rattle.std.specs.List.{before_first, list_any}
use Rattle.mail_wire.specs.Octets.{is_white, same_name}
use Rattle.smtp_grammar.specs.Commands.{after_white}
use Rattle.relay_choice.specs.declared.replies.Reply.{Reply}
use Rattle.relay_choice.specs.declared.plans.Offer.{Offer}

-- Positive Completion, 2yz
abbrev pub is_completed : (code : ℕ) → Bool
is_completed code = nat_le 200 code && nat_lt code 300

-- Positive Intermediate, 3yz
abbrev pub is_intermediate : (code : ℕ) → Bool
is_intermediate code = nat_le 300 code && nat_lt code 400

-- Permanent Negative Completion, 5yz
abbrev pub is_permanent : (code : ℕ) → Bool
is_permanent code = nat_le 500 code && nat_lt code 600

-- the first word of a text
abbrev pub keyword_of : List ℕ → List ℕ
keyword_of text = before_first is_white (after_white text)

-- one of the texts begins with this keyword, in any case
abbrev pub offers : (keyword : List ℕ) → List (List ℕ) → Bool
offers keyword texts = list_any (λ text. same_name (keyword_of text) keyword) texts

-- The keywords are those of all lines but the first. SMTPUTF8 counts only with 8BITMIME (RFC 6531, 3.1, item 8).
abbrev pub offer_of : Reply → Offer
offer_of reply = record {
  smtputf8 = offers (codes "smtputf8") (drop 1 reply.lines) && offers (codes "8bitmime") (drop 1 reply.lines);
  eight = offers (codes "8bitmime") (drop 1 reply.lines);
}
