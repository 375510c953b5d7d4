-- Envelopes (RFC 3501, 7.4.2).
use Rattle.std.specs.Prelude.{◌≡◌, ℕ, List, [], ◌∷◌, codes, Option, Some, None}
use Rattle.mime_tree.specs.Openings.{IsFirstValue}
use Rattle.imap_views.specs.Strings.{nstring, in_parentheses, spaced}
use Rattle.imap_views.specs.Fields.{HasRaws}
use Rattle.imap_views.specs.Addresses.{IsAddressesForm}

-- the value of the first field of this name as a string, or NIL
abbrev pub IsStringOf : List ℕ → List (List ℕ) → List ℕ → Type 0
IsStringOf name raws text = (value : Option (List ℕ)) × IsFirstValue name raws value × (text ≡ nstring value)

-- the addresses of the first field of this name
abbrev pub AreAddressesOf : List ℕ → List (List ℕ) → List ℕ → Type 0
AreAddressesOf name raws text = (value : Option (List ℕ)) × IsFirstValue name raws value × IsAddressesForm value text

-- the addresses of a value; where there is none, those of the sender's field, From
abbrev pub IsAddressesFormOr : List ℕ → Option (List ℕ) → List ℕ → Type 0
IsAddressesFormOr from None text = text ≡ from
IsAddressesFormOr from (Some value) text = IsAddressesForm (Some value) text

-- The addresses of the first field of this name, or those of From where there is none (RFC 3501, 7.4.2).
abbrev pub AreAddressesOr : List ℕ → List ℕ → List (List ℕ) → List ℕ → Type 0
AreAddressesOr from name raws text = (value : Option (List ℕ)) × IsFirstValue name raws value × IsAddressesFormOr from value text

-- The envelope of these raw fields: ten of them, each by the first field of its name. Sender and Reply-To are From where they are absent.
pub record IsEnvelope (raws : List (List ℕ)) (text : List ℕ) : Type 0 where
  pub date : List ℕ
  pub is_date : IsStringOf (codes "Date") raws date
  pub subject : List ℕ
  pub is_subject : IsStringOf (codes "Subject") raws subject
  pub from : List ℕ
  pub is_from : AreAddressesOf (codes "From") raws from
  pub sender : List ℕ
  pub is_sender : AreAddressesOr from (codes "Sender") raws sender
  pub reply_to : List ℕ
  pub is_reply_to : AreAddressesOr from (codes "Reply-To") raws reply_to
  pub to : List ℕ
  pub is_to : AreAddressesOf (codes "To") raws to
  pub cc : List ℕ
  pub is_cc : AreAddressesOf (codes "Cc") raws cc
  pub bcc : List ℕ
  pub is_bcc : AreAddressesOf (codes "Bcc") raws bcc
  pub in_reply_to : List ℕ
  pub is_in_reply_to : IsStringOf (codes "In-Reply-To") raws in_reply_to
  pub message_id : List ℕ
  pub is_message_id : IsStringOf (codes "Message-ID") raws message_id
  pub text_is : text ≡ in_parentheses (spaced (date ∷ subject ∷ from ∷ sender ∷ reply_to ∷ to ∷ cc ∷ bcc ∷ in_reply_to ∷ message_id ∷ []))

-- the envelope of a header
abbrev pub HasEnvelope : List ℕ → List ℕ → Type 0
HasEnvelope header text = (raws : List (List ℕ)) × HasRaws header raws × IsEnvelope raws text
