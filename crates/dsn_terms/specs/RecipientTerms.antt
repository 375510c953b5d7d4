-- What a sender asks for a recipient: NOTIFY and ORCPT (RFC 3461, 4.1 and 4.2; RFC 6533, 3).
use Rattle.std.specs.Prelude.{◌≡◌, ◌⊎◌, ℕ, ◌+◌, ◌*◌, ◌≤◌, ◌==◌, Bool, true, ◌||◌, List, [], ◌++◌, length, codes, count_by, Option, None, Some}
use Rattle.std.specs.List.{list_all, slice_split}
use Rattle.mail_wire.specs.Characters.{comma}
use Rattle.mail_wire.specs.Octets.{is_ascii, same_name}
use Rattle.encapsulated_fields.specs.AddressForms.{xtext_form}
use Rattle.encapsulated_fields.specs.Xtext.{ReadsAs}
use Rattle.dsn_terms.specs.Xtexts.{IsPrintableXtext}
use Rattle.dsn_terms.specs.Parameters.{are_parameters, behind, value_under}
use Rattle.dsn_terms.specs.declared.Asked.{Asked}

-- ---- NOTIFY

-- the words that commas divide
abbrev pub comma_words : List ℕ → List (List ℕ)
comma_words value = slice_split (λ x. x == comma) value

-- how often this word stands among those that commas divide
abbrev pub times : List ℕ → List ℕ → ℕ
times name value = count_by (λ word. same_name word name) (comma_words value)

-- SUCCESS, FAILURE or DELAY, in any case (RFC 3461, 4.1, notify-list-element).
abbrev pub is_report_word : List ℕ → Bool
is_report_word word = same_name word (codes "SUCCESS") || (same_name word (codes "FAILURE") || same_name word (codes "DELAY"))

-- The value is SUCCESS, FAILURE and DELAY, one or more of them, each at most once, divided by commas; 1, 2 and 4 stand for them (RFC 3461, 4.1).
pub record IsReportList (value : List ℕ) (notify : ℕ) : Type 0 where
  pub words : list_all is_report_word (comma_words value) ≡ true
  pub success : times (codes "SUCCESS") value ≤ 1
  pub failure : times (codes "FAILURE") value ≤ 1
  pub delay : times (codes "DELAY") value ≤ 1
  pub notify_is : notify ≡ times (codes "SUCCESS") value + 2 * times (codes "FAILURE") value + 4 * times (codes "DELAY") value

-- NEVER alone, for which 0 stands, or a list of reports (RFC 3461, 4.1).
abbrev pub IsNotify : List ℕ → ℕ → Type 0
IsNotify value notify = ((same_name value (codes "NEVER") ≡ true) × (notify ≡ 0)) ⊎ IsReportList value notify

-- the reports that NOTIFY says; without it a report of a failure (RFC 3461, 4.1)
abbrev pub NotifySays : Option (List ℕ) → ℕ → Type 0
NotifySays None notify = notify ≡ 2
NotifySays (Some value) notify = IsNotify value notify

-- ---- ORCPT

-- The text after `rfc822;` is xtext of an address, in at most 500 octets; kept are the type and the address (RFC 3461, 4.2).
pub record IsRfc822Recipient (text orcpt : List ℕ) : Type 0 where
  pub address : List ℕ
  pub reads : IsPrintableXtext text address
  pub most : length text ≤ 500
  pub orcpt_is : orcpt ≡ codes "rfc822;" ++ address

-- The text after `utf-8;` is a form of an address whose ASCII form has at most 500 octets; it is ASCII where UTF-8 isn't asked for
-- (RFC 6533, 3).
pub record IsUtf8Recipient (utf8 : Bool) (text orcpt : List ℕ) : Type 0 where
  pub address : List ℕ
  pub reads : ReadsAs text address
  pub ascii : (utf8 || list_all is_ascii text) ≡ true
  pub most : length (xtext_form address) ≤ 500
  pub orcpt_is : orcpt ≡ codes "utf-8;" ++ address

-- something holds of what follows this front, with which the text begins
pub record HoldsBehind (front : List ℕ) (P : List ℕ → Type 0) (text : List ℕ) : Type 0 where
  pub rest : List ℕ
  pub rest_is : behind front text ≡ Some rest
  pub holds : P rest

-- An address of type `rfc822` or `utf-8`, in any case of the type (RFC 3461, 4.2; RFC 6533, 3).
abbrev pub IsOrcpt : Bool → List ℕ → List ℕ → Type 0
IsOrcpt utf8 value orcpt =
    HoldsBehind (codes "rfc822;") (λ text. IsRfc822Recipient text orcpt) value
    ⊎ HoldsBehind (codes "utf-8;") (λ text. IsUtf8Recipient utf8 text orcpt) value

-- the original recipient that ORCPT says, and none without it
abbrev pub OrcptSays : Bool → Option (List ℕ) → List ℕ → Type 0
OrcptSays utf8 None orcpt = orcpt ≡ []
OrcptSays utf8 (Some value) orcpt = IsOrcpt utf8 value orcpt

-- ---- both

-- The words are NOTIFY and ORCPT, each at most once and in any order, and say this (RFC 3461, 4).
pub record HasRecipientTerms (utf8 : Bool) (words : List (List ℕ)) (asked : Asked) : Type 0 where
  pub parameters : are_parameters (codes "NOTIFY=") (codes "ORCPT=") words ≡ true
  pub notify : NotifySays (value_under (codes "NOTIFY=") words) asked.notify
  pub orcpt : OrcptSays utf8 (value_under (codes "ORCPT=") words) asked.orcpt
