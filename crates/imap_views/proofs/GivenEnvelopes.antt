-- A header with a block has an envelope and chosen fields, and one without a block has none.
use Rattle.std.proofs.Common.{◌≡◌, ℕ, inl, inr, Bool, List, [], ◌∷◌, ◌++◌, filter, Option, Some, None, refl}
use Rattle.std.specs.Prelude.{codes}
use Rattle.std.specs.List.{flat_map}
use Rattle.mail_wire.specs.Lines.{crlf}
use Rattle.utf8_fields.specs.Block.{raw_of, name_of}
use Rattle.utf8_fields.proofs.DecidingBlocks.{Decided, decide_block}
use Rattle.address_grammar.proofs.DecidePaths.{Found}
use Rattle.imap_views.specs.Strings.{nstring, in_parentheses, spaced}
use Rattle.imap_views.specs.Fields.{HasSomeBlock}
use Rattle.imap_views.specs.Envelopes.{IsStringOf, AreAddressesOf, IsAddressesFormOr, AreAddressesOr, IsEnvelope, HasEnvelope}
use Rattle.imap_views.specs.Chosen.{is_chosen, AreChosen}
use Rattle.imap_views.proofs.DecidingForms.{addresses_form_given}
use Rattle.imap_views.proofs.OneEnvelope.{one_envelope, one_chosen}
use Rattle.imap_views.proofs.RawFields.{some_raws, HaveFirsts, have_firsts}

-- ---- fields by name

string_given : (name : List ℕ) (raws : List (List ℕ)) → HaveFirsts raws → (text : List ℕ) × IsStringOf name raws text
string_given name raws have = let value = have name in (nstring value.0, (value.0, value.1, refl))

addresses_given : (name : List ℕ) (raws : List (List ℕ)) → HaveFirsts raws → (text : List ℕ) × AreAddressesOf name raws text
addresses_given name raws have =
    let value = have name in
    let form = addresses_form_given value.0 in
    (form.0, (value.0, value.1, form.1))

form_or_given : (from : List ℕ) (value : Option (List ℕ)) → (text : List ℕ) × IsAddressesFormOr from value text
form_or_given from None = (from, refl)
form_or_given from (Some value) = addresses_form_given (Some value)

addresses_or_given : (from name : List ℕ) (raws : List (List ℕ)) → HaveFirsts raws → (text : List ℕ) × AreAddressesOr from name raws text
addresses_or_given from name raws have =
    let value = have name in
    let form = form_or_given from value.0 in
    (form.0, (value.0, value.1, form.1))

-- ---- envelopes and chosen fields

raws_envelope : (raws : List (List ℕ)) → HaveFirsts raws → (text : List ℕ) × IsEnvelope raws text
raws_envelope raws have =
    let date = string_given (codes "Date") raws have in
    let subject = string_given (codes "Subject") raws have in
    let from = addresses_given (codes "From") raws have in
    let sender = addresses_or_given from.0 (codes "Sender") raws have in
    let reply_to = addresses_or_given from.0 (codes "Reply-To") raws have in
    let to = addresses_given (codes "To") raws have in
    let copies = addresses_given (codes "Cc") raws have in
    let blind = addresses_given (codes "Bcc") raws have in
    let in_reply_to = string_given (codes "In-Reply-To") raws have in
    let message_id = string_given (codes "Message-ID") raws have in (
      in_parentheses (spaced (date.0 ∷ subject.0 ∷ from.0 ∷ sender.0 ∷ reply_to.0 ∷ to.0 ∷ copies.0 ∷ blind.0 ∷ in_reply_to.0 ∷ message_id.0 ∷ [])),
      record {
        date = date.0;
        is_date = date.1;
        subject = subject.0;
        is_subject = subject.1;
        from = from.0;
        is_from = from.1;
        sender = sender.0;
        is_sender = sender.1;
        reply_to = reply_to.0;
        is_reply_to = reply_to.1;
        to = to.0;
        is_to = to.1;
        cc = copies.0;
        is_cc = copies.1;
        bcc = blind.0;
        is_bcc = blind.1;
        in_reply_to = in_reply_to.0;
        is_in_reply_to = in_reply_to.1;
        message_id = message_id.0;
        is_message_id = message_id.1;
        text_is = refl;
      },
    )

pub envelope_given : (header : List ℕ) → HasSomeBlock header → (text : List ℕ) × HasEnvelope header text
envelope_given header block =
    let raws = some_raws header block in
    let envelope = raws_envelope raws.0 (have_firsts header raws.0 raws.1) in
    (envelope.0, (raws.0, raws.1, envelope.1))

pub chosen_given : (header : List ℕ) (names : List (List ℕ)) (negated : Bool) → HasSomeBlock header → (text : List ℕ) × AreChosen header names negated text
chosen_given header names negated block = (
  flat_map (raw_of header) (filter (λ field. is_chosen names negated (name_of header field)) block.fields) ++ crlf,
  record { fields = block.fields; end = block.end; has_block = block.has_block; text_is = refl },
)

-- ---- whether there are any

pub decide_header : (header : List ℕ) → Decided (HasSomeBlock header)
decide_header header = elim (decide_block header) [
  | inl found ↦ inl (record { fields = found.0; end = found.1; has_block = found.2 })
  | inr none ↦ inr (λ block. none block.fields block.end block.has_block)
]

pub decide_envelope : (header : List ℕ) → Found (HasEnvelope header)
decide_envelope header = elim (decide_header header) [
  | inl block ↦ inl (envelope_given header block)
  | inr none ↦ inr (λ text has. none (record { fields = has.1.fields; end = has.1.end; has_block = has.1.has_block }))
]

pub decide_chosen : (header : List ℕ) (names : List (List ℕ)) (negated : Bool) → Found (AreChosen header names negated)
decide_chosen header names negated = elim (decide_header header) [
  | inl block ↦ inl (chosen_given header names negated block)
  | inr none ↦ inr (λ text are. none (record { fields = are.fields; end = are.end; has_block = are.has_block }))
]

-- ---- what is given of any octets

-- a text that is whatever one is right
abbrev pub Given : (List ℕ → Type 0) → Type 0
Given IsRight = (given : List ℕ) × ((text : List ℕ) → IsRight text → text ≡ given)

-- of what is decided and one at most, one text may be given
pub given_of : (IsRight : List ℕ → Type 0) → ((text other : List ℕ) → IsRight text → IsRight other → text ≡ other) → Found IsRight → Given IsRight
given_of IsRight once (inl found) = (found.0, λ text is. once text found.0 is found.1)
given_of IsRight once (inr none) = ([], λ text is. absurd (none text is))

pub given_envelope : (header : List ℕ) → Given (HasEnvelope header)
given_envelope header = given_of (HasEnvelope header) (one_envelope header) (decide_envelope header)

pub given_chosen : (header : List ℕ) (names : List (List ℕ)) (negated : Bool) → Given (AreChosen header names negated)
given_chosen header names negated = given_of (AreChosen header names negated) (one_chosen header names negated) (decide_chosen header names negated)
