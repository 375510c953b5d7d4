-- The envelope of an ASCII header, and fields chosen from one.
use Rattle.std.proofs.Common.{ℕ, Bool, List, [], ◌∷◌, Option, Some, None, IfSome, filter, refl}
use Rattle.std.specs.List.{flat_map}
use Rattle.mail_wire.specs.Lines.{crlf}
use Rattle.mail_wire.specs.Octets.{is_ascii}
use Rattle.mail_wire.proofs.AllLemmas.{pass-append}
use Rattle.utf8_fields.specs.declared.block.Field.{Field}
use Rattle.utf8_fields.specs.Block.{raw_of, name_of}
use Rattle.imap_views.specs.Chosen.{AreChosen, is_chosen}
use Rattle.imap_views.specs.Envelopes.{IsStringOf, AreAddressesOf, IsAddressesFormOr, AreAddressesOr, IsEnvelope, HasEnvelope}
use Rattle.imap_views.proofs.AsciiTexts.{AreAscii, AreAllAscii, nstring_ascii, form_ascii}
use Rattle.imap_views.proofs.AsciiFields.{raws_ascii, joined_ascii, all_raws_ascii, first_ascii}
use Rattle.imap_views.proofs.AsciiAddresses.{addresses_ascii}

string_ascii : (name : List ℕ) (raws : List (List ℕ)) (text : List ℕ) → AreAllAscii raws → IsStringOf name raws text → AreAscii text
string_ascii name raws text h is = rw (is.2) (nstring_ascii is.0 (first_ascii name raws is.0 h is.1))

of_ascii : (name : List ℕ) (raws : List (List ℕ)) (text : List ℕ) → AreAllAscii raws → AreAddressesOf name raws text → AreAscii text
of_ascii name raws text h is = addresses_ascii is.0 text is.2 (first_ascii name raws is.0 h is.1)

form_or_ascii : (from : List ℕ) (value : Option (List ℕ)) (text : List ℕ) → AreAscii from → IfSome value AreAscii → IsAddressesFormOr from value text → AreAscii text
form_or_ascii from None text f h is = rw (is) f
form_or_ascii from (Some value) text f h is = addresses_ascii (Some value) text is h

or_ascii : (from name : List ℕ) (raws : List (List ℕ)) (text : List ℕ) → AreAscii from → AreAllAscii raws → AreAddressesOr from name raws text → AreAscii text
or_ascii from name raws text f h is = form_or_ascii from is.0 text f (first_ascii name raws is.0 h is.1) is.2

envelope_ascii : (raws : List (List ℕ)) (text : List ℕ) → AreAllAscii raws → IsEnvelope raws text → AreAscii text
envelope_ascii raws text h is =
    let from = of_ascii _ raws is.from h is.is_from in
    rw (is.text_is) (form_ascii (is.date ∷ is.subject ∷ is.from ∷ is.sender ∷ is.reply_to ∷ is.to ∷ is.cc ∷ is.bcc ∷ is.in_reply_to ∷ is.message_id ∷ []) (
      string_ascii _ raws is.date h is.is_date,
      (
        string_ascii _ raws is.subject h is.is_subject,
        (
          from,
          (
            or_ascii is.from _ raws is.sender from h is.is_sender,
            (
              or_ascii is.from _ raws is.reply_to from h is.is_reply_to,
              (
                of_ascii _ raws is.to h is.is_to,
                (
                  of_ascii _ raws is.cc h is.is_cc,
                  (
                    of_ascii _ raws is.bcc h is.is_bcc,
                    (
                      string_ascii _ raws is.in_reply_to h is.is_in_reply_to,
                      (string_ascii _ raws is.message_id h is.is_message_id, tt),
                    ),
                  ),
                ),
              ),
            ),
          ),
        ),
      ),
    ))

pub has_envelope_ascii : (header text : List ℕ) → HasEnvelope header text → AreAscii header → AreAscii text
has_envelope_ascii header text has h = envelope_ascii has.0 text (all_raws_ascii header has.0 has.1 h) has.2

pub chosen_ascii : (header : List ℕ) (names : List (List ℕ)) (negated : Bool) (text : List ℕ) → AreChosen header names negated text → AreAscii header → AreAscii text
chosen_ascii header names negated text has h =
    let chosen = filter (λ (field : Field). is_chosen names negated (name_of header field)) has.fields in
    rw (has.text_is) (pass-append is_ascii (flat_map (raw_of header) chosen) crlf (joined_ascii header chosen (raws_ascii header chosen h)) refl)
