-- What is sent to a server that doesn't offer SMTPUTF8 or 8BITMIME.
use Rattle.std.proofs.Common.{◌≡◌, ℕ, suc, List, [], ◌∷◌, ◌++◌, Bool, true, false, ◌&&◌, ◌||◌, ◌==◌, not, if◌then◌else◌, Option, None, Some, is_some, arith, refl, ap, ◌∙◌, IsAscii, drop, codes}
use Rattle.std.specs.List.{list_all, flat_map}
use Rattle.std.proofs.lemmas.Bool.{and_from, and_parts}
use Rattle.std.proofs.lemmas.Bool.Decides.{nat_tests}
use Rattle.std.proofs.lemmas.List.Folds.{list_all-append}
use Rattle.mail_wire.specs.Octets.{is_ascii, is_high}
use Rattle.mime_tree.specs.declared.entity.Entity.{Entity}
use Rattle.mime_tree.specs.Tree.{has_high_block}
use Rattle.ace_domains.specs.Domains.{normal_form}
use Rattle.ace_domains.proofs.FormLemmas.{form_ascii}
use Rattle.address_grammar.specs.declared.Address.{Address}
use Rattle.address_grammar.specs.Addresses.{is_dot_atom, local_text, quoted_octet}
use Rattle.relay_choice.specs.declared.plans.Demands.{Demands}
use Rattle.relay_choice.specs.declared.plans.Form.{Form}
use Rattle.relay_choice.specs.declared.plans.Offer.{Offer}
use Rattle.relay_choice.specs.declared.plans.Plan.{Plan}
use Rattle.relay_choice.specs.declared.plans.Plan.TheVariants as plan
use Rattle.relay_choice.specs.declared.replies.Reply.{Reply}
use Rattle.relay_choice.specs.Offers.{offer_of, offers}
use Rattle.relay_choice.specs.Plans.{form_of, is_normal, is_sent, is_utf8, plan_for}
use Rattle.relay_choice.specs.Said.{said_address, said_domain, said_path}
use Rattle.relay_choice.specs.MailObjects.{demands_of, path_form}

-- ---- the choice

-- what isn't so of a message that is sent without SMTPUTF8
record IsSentAscii (demands : Demands) (recipient : Form) (offer : Offer) : Type 0 where
  header : demands.header ≡ false
  path : is_utf8 demands.path ≡ false
  recipient_form : is_utf8 recipient ≡ false
  eight : (demands.eight && not offer.eight) ≡ false

sent_by : (header path recipient eight : Bool) (last : Plan)
    → is_sent (if header then plan.Report5 9 else (if path || recipient then plan.Report5 7 else (if eight then plan.Report5 3 else last))) ≡ true
    → (header ≡ false) × (path ≡ false) × (recipient ≡ false) × (eight ≡ false)
sent_by true path recipient eight last sent = cc
sent_by false true recipient eight last sent = cc
sent_by false false true eight last sent = cc
sent_by false false false true last sent = cc
sent_by false false false false last sent = (refl, refl, refl, refl)

sent_ascii : (demands : Demands) (recipient : Form) (offer : Offer) → offer.smtputf8 ≡ false → is_sent (plan_for demands recipient offer) ≡ true → IsSentAscii demands recipient offer
sent_ascii demands recipient offer none sent =
    let parts = sent_by demands.header (is_utf8 demands.path) (is_utf8 recipient) (demands.eight && not offer.eight)
    (if is_normal demands.path || is_normal recipient then plan.SendNormal else plan.Send) (rw none at sent) in
    record { header = parts.0; path = parts.1; recipient_form = parts.2; eight = parts.3 }

-- ---- addresses

abbrev AreLow : List ℕ → Type 0
AreLow octets = list_all is_ascii octets ≡ true

low_append : (front back : List ℕ) → AreLow front → AreLow back → AreLow (front ++ back)
low_append front back low also = list_all-append is_ascii front back ∙ and_from (list_all is_ascii front) (list_all is_ascii back) low also

low_quoted : (octets : List ℕ) → AreLow octets → AreLow (flat_map quoted_octet octets)
low_quoted [] low = refl
low_quoted (x ∷ rest) low =
    let parts = and_parts (is_ascii x) (list_all is_ascii rest) low in
    low_append (quoted_octet x) (flat_map quoted_octet rest) (quoted_by ((x == 34) || (x == 92)) refl parts.0) (low_quoted rest parts.1)
  where
    quoted_by : (b : Bool) → ((x == 34) || (x == 92)) ≡ b → is_ascii x ≡ true → AreLow (quoted_octet x)
    quoted_by true is small = rw (is, small) refl
    quoted_by false is small = rw (is, small) refl

low_local : (local : List ℕ) → AreLow local → AreLow (local_text local)
low_local local low = by (is_dot_atom local) refl
  where
    by : (b : Bool) → is_dot_atom local ≡ b → AreLow (local_text local)
    by true is = rw is low
    by false is = rw is (low_append (flat_map quoted_octet local) (34 ∷ []) (low_quoted local low) refl)

low_all : (octets : List ℕ) → IsAscii octets → AreLow octets
low_all [] small = refl
low_all (x ∷ rest) small = let first = small 0 in and_from (is_ascii x) (list_all is_ascii rest) (grind (arith, nat_tests)) (low_all rest (λ i. small (suc i)))

-- the domain stays, as it is ASCII, or its form in A-labels is told
low_domain : (offer : Offer) (domain : List ℕ) → offer.smtputf8 ≡ false → (not (is_high domain) || is_some (normal_form domain)) ≡ true → AreLow (said_domain offer domain)
low_domain offer domain none written = by (list_all is_ascii domain) (normal_form domain) refl refl
  where
    by : (b : Bool) (form : Option (List ℕ)) → list_all is_ascii domain ≡ b → normal_form domain ≡ form → AreLow (said_domain offer domain)
    by true form low is = rw (none, low) low
    by false None high is = absurd (let lacks = rw (high, is) at written in (cc lacks))
    by false (Some form) high is = rw (none, high, is) (low_all form (form_ascii domain form is))

-- what an address is that needs no UTF-8
record IsWritable (address : Address) : Type 0 where
  local : AreLow address.local
  domain : (not (is_high address.domain) || is_some (normal_form address.domain)) ≡ true

writable : (address : Address) → is_utf8 (form_of address) ≡ false → IsWritable address
writable address no_utf8 = by (list_all is_ascii address.local) (list_all is_ascii address.domain) (is_some (normal_form address.domain)) refl refl refl
  where
    by : (low also some : Bool) → list_all is_ascii address.local ≡ low → list_all is_ascii address.domain ≡ also → is_some (normal_form address.domain) ≡ some → IsWritable address
    by true true some p q r = record { local = p; domain = rw q refl }
    by true false true p q r = record { local = p; domain = rw (q, r) refl }
    by true false false p q r = absurd (let needs = rw (p, q, r) at no_utf8 in (cc needs))
    by false also some p q r = absurd (let needs = rw p at no_utf8 in (cc needs))

low_address : (offer : Offer) (address : Address) → offer.smtputf8 ≡ false → is_utf8 (form_of address) ≡ false → AreLow (said_address offer address)
low_address offer address none no_utf8 =
    let is = writable address no_utf8 in
    low_append (local_text address.local) (64 ∷ said_domain offer address.domain) (low_local address.local is.local) (low_domain offer address.domain none is.domain)

low_path : (offer : Offer) (path : Option Address) → offer.smtputf8 ≡ false → is_utf8 (path_form path) ≡ false → is_high (said_path offer path) ≡ false
low_path offer None none no_utf8 = refl
low_path offer (Some address) none no_utf8 = ap not (low_append (said_address offer address) (62 ∷ []) (low_address offer address none no_utf8) refl)

-- ---- the law

-- What is sent to a recipient without SMTPUTF8.
pub record IsAsciiSent (path : Option Address) (octets : List ℕ) (entities : List Entity) (address : Address) (offer : Offer) : Type 0 where
  pub header : has_high_block octets entities ≡ false
  pub path_said : is_high (said_path offer path) ≡ false
  pub recipient_said : is_high (said_path offer (Some address)) ≡ false
  pub eight : offer.eight ≡ false → is_high octets ≡ false

pub ascii_sent : (path : Option Address) (octets : List ℕ) (entities : List Entity) (address : Address) (offer : Offer) → offer.smtputf8 ≡ false
    → is_sent (plan_for (demands_of path octets entities) (form_of address) offer) ≡ true → IsAsciiSent path octets entities address offer
ascii_sent path octets entities address offer none sent =
    let is = sent_ascii (demands_of path octets entities) (form_of address) offer none sent in
    record {
      header = is.header;
      path_said = low_path offer path none is.path;
      recipient_said = low_path offer (Some address) none is.recipient_form;
      eight = λ lacks. low_by (is_high octets) refl (rw lacks at is.eight);
    }
  where
    low_by : (b : Bool) → is_high octets ≡ b → (b && true) ≡ false → is_high octets ≡ false
    low_by true is high = cc
    low_by false is high = is

-- a server that doesn't offer 8BITMIME doesn't offer SMTPUTF8 either
pub seven_sent : (path : Option Address) (octets : List ℕ) (entities : List Entity) (address : Address) (reply : Reply) → (offer_of reply).eight ≡ false
    → is_sent (plan_for (demands_of path octets entities) (form_of address) (offer_of reply)) ≡ true → is_high octets ≡ false
seven_sent path octets entities address reply none sent = (ascii_sent path octets entities address (offer_of reply) without sent).eight none
  where
    and_none : (a b : Bool) → b ≡ false → (a && b) ≡ false
    and_none true b is = is
    and_none false b is = refl

    without : (offer_of reply).smtputf8 ≡ false
    without = and_none (offers (codes "smtputf8") (drop 1 reply.lines)) (offers (codes "8bitmime") (drop 1 reply.lines)) none
