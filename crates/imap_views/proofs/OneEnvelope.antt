-- A header has one envelope at most, and its chosen fields are one text.
use Rattle.std.proofs.Common.{◌≡◌, ℕ, Bool, List, ◌++◌, filter, Option, Some, None, sym, ap, ◌∙◌, subst}
use Rattle.std.specs.Prelude.{codes}
use Rattle.std.specs.List.{flat_map}
use Rattle.mail_wire.specs.Lines.{crlf}
use Rattle.utf8_fields.specs.Block.{raw_of, name_of}
use Rattle.mime_tree.proofs.OneOpening.{first_once}
use Rattle.imap_views.specs.Strings.{nstring}
use Rattle.imap_views.specs.Addresses.{IsAddressesForm}
use Rattle.imap_views.specs.Envelopes.{IsStringOf, AreAddressesOf, IsAddressesFormOr, AreAddressesOr, IsEnvelope, HasEnvelope}
use Rattle.imap_views.specs.Chosen.{is_chosen, AreChosen}
use Rattle.imap_views.proofs.OneForm.{addresses_form_once}
use Rattle.imap_views.proofs.RawFields.{fields_once, raws_once}

-- ---- fields by name

string_once : (name : List ℕ) (raws : List (List ℕ)) (a b : List ℕ) → IsStringOf name raws a → IsStringOf name raws b → a ≡ b
string_once name raws a b p q = p.2 ∙ ap nstring (first_once name raws p.0 q.0 p.1 q.1) ∙ sym q.2

addresses_once : (name : List ℕ) (raws : List (List ℕ)) (a b : List ℕ) → AreAddressesOf name raws a → AreAddressesOf name raws b → a ≡ b
addresses_once name raws a b p q =
    let same : p.0 ≡ q.0 = first_once name raws p.0 q.0 p.1 q.1 in
    addresses_form_once p.0 a b p.2 (subst (λ value. IsAddressesForm value b) (sym same) q.2)

form_or_once : (from : List ℕ) (value : Option (List ℕ)) (a b : List ℕ) → IsAddressesFormOr from value a → IsAddressesFormOr from value b → a ≡ b
form_or_once from None a b p q = p ∙ sym q
form_or_once from (Some value) a b p q = addresses_form_once (Some value) a b p q

addresses_or_once : (from other name : List ℕ) (raws : List (List ℕ)) (a b : List ℕ) → from ≡ other → AreAddressesOr from name raws a → AreAddressesOr other name raws b → a ≡ b
addresses_or_once from other name raws a b one p q =
    let same : p.0 ≡ q.0 = first_once name raws p.0 q.0 p.1 q.1 in
    form_or_once from p.0 a b p.2 (subst (λ value. IsAddressesFormOr from value b) (sym same) (subst (λ from. IsAddressesFormOr from q.0 b) (sym one) q.2))

-- ---- envelopes

envelope_once : (raws : List (List ℕ)) (a b : List ℕ) → IsEnvelope raws a → IsEnvelope raws b → a ≡ b
envelope_once raws a b p q =
    let date = string_once (codes "Date") raws p.date q.date p.is_date q.is_date in
    let subject = string_once (codes "Subject") raws p.subject q.subject p.is_subject q.is_subject in
    let from = addresses_once (codes "From") raws p.from q.from p.is_from q.is_from in
    let sender = addresses_or_once p.from q.from (codes "Sender") raws p.sender q.sender from p.is_sender q.is_sender in
    let reply_to = addresses_or_once p.from q.from (codes "Reply-To") raws p.reply_to q.reply_to from p.is_reply_to q.is_reply_to in
    let to = addresses_once (codes "To") raws p.to q.to p.is_to q.is_to in
    let cc_is = addresses_once (codes "Cc") raws p.cc q.cc p.is_cc q.is_cc in
    let bcc = addresses_once (codes "Bcc") raws p.bcc q.bcc p.is_bcc q.is_bcc in
    let in_reply_to = string_once (codes "In-Reply-To") raws p.in_reply_to q.in_reply_to p.is_in_reply_to q.is_in_reply_to in
    let message_id = string_once (codes "Message-ID") raws p.message_id q.message_id p.is_message_id q.is_message_id in
    p.text_is ∙ rw (date, subject, from, sender, reply_to, to, cc_is, bcc, in_reply_to, message_id) (sym q.text_is)

pub one_envelope : (header text other : List ℕ) → HasEnvelope header text → HasEnvelope header other → text ≡ other
one_envelope header text other p q =
    let same : p.0 ≡ q.0 = raws_once header p.0 q.0 p.1 q.1 in
    envelope_once p.0 text other p.2 (subst (λ raws. IsEnvelope raws other) (sym same) q.2)

-- ---- chosen fields

pub one_chosen : (header : List ℕ) (names : List (List ℕ)) (negated : Bool) (text other : List ℕ) → AreChosen header names negated text → AreChosen header names negated other → text ≡ other
one_chosen header names negated text other p q =
    p.text_is ∙ ap (λ fields. flat_map (raw_of header) (filter (λ field. is_chosen names negated (name_of header field)) fields) ++ crlf)
    (fields_once header p.fields q.fields p.end q.end p.has_block q.has_block) ∙ sym q.text_is
