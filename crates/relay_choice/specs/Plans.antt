-- Which form a queued message is sent in (RFC 6531, 3.2 and 3.6; RFC 6152, 3; RFC 5890, 2.3.2.1; RFC 5891, 4). Which of several reasons is told is this
-- project's choice.
use Rattle.std.specs.Prelude.{ℕ, ◌/◌, ◌%◌, ◌==◌, Bool, true, false, ◌&&◌, ◌||◌, not, is_some, if◌then◌else◌}
use Rattle.mail_wire.specs.Octets.{is_high}
use Rattle.ace_domains.specs.Domains.{normal_form}
use Rattle.address_grammar.specs.declared.Address.{Address}
use Rattle.relay_choice.specs.declared.plans.Form.{Form}
use Rattle.relay_choice.specs.declared.plans.Form.TheVariants as form
use Rattle.relay_choice.specs.declared.plans.Demands.{Demands}
use Rattle.relay_choice.specs.declared.plans.Offer.{Offer}
use Rattle.relay_choice.specs.declared.plans.Plan.{Plan}
use Rattle.relay_choice.specs.declared.plans.Plan.TheVariants as plan

-- ---- the form of an address

-- the local part is ASCII, and the domain has a form in A-labels (RFC 6531, 3.2)
abbrev pub has_normal : Address → Bool
has_normal address = not (is_high address.local) && is_some (normal_form address.domain)

-- all octets of the address are ASCII
abbrev pub is_plain : Address → Bool
is_plain address = not (is_high address.local) && not (is_high address.domain)

-- Whether an address is ASCII, has a normal form that is, or needs UTF-8 (RFC 5891, 4; RFC 6531, 3.2).
abbrev pub form_of : Address → Form
form_of address = if is_plain address then form.Ascii else (if has_normal address then form.Normal else form.Utf8)

-- The address isn't ASCII, and has a normal form that is.
abbrev pub is_normal : Form → Bool
is_normal form.Ascii = false
is_normal form.Normal = true
is_normal form.Utf8 = false

-- The address needs UTF-8.
abbrev pub is_utf8 : Form → Bool
is_utf8 form.Ascii = false
is_utf8 form.Normal = false
is_utf8 form.Utf8 = true

-- ---- marks

-- the bit of this value is in the mark
abbrev pub has_bit : (value mark : ℕ) → Bool
has_bit value mark = mark / value % 2 == 1

-- ---- the choice

-- A server that offers SMTPUTF8 is sent all as it is (RFC 6531, 3.2). Another is sent no header in UTF-8 (5.6.9), no address that has no ASCII
-- form (5.6.7), and no octet above 127 unless it offers 8BITMIME (5.6.3); domains go to it in A-labels.
abbrev pub plan_for : Demands → (recipient : Form) → Offer → Plan
plan_for demands recipient offer =
    if offer.smtputf8 then plan.Send
    else (if demands.header then plan.Report5 9
    else (if is_utf8 demands.path || is_utf8 recipient then plan.Report5 7
    else (if demands.eight && not offer.eight then plan.Report5 3
    else (if is_normal demands.path || is_normal recipient then plan.SendNormal else plan.Send))))

-- the message goes to this recipient
abbrev pub is_sent : Plan → Bool
is_sent plan.Send = true
is_sent plan.SendNormal = true
is_sent (plan.Report5 detail) = false
