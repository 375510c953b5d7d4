-- Terms as a client writes them after the path of MAIL or RCPT (RFC 3461, 4; RFC 5321, 4.1.2).
use Rattle.std.specs.Prelude.{◌≡◌, ℕ, ◌%◌, ◌==◌, Bool, true, ◌&&◌, nat_lt, if◌then◌else◌, List, [], ◌∷◌, ◌++◌, length, codes, Option, None, Some}
use Rattle.std.specs.List.{flat_map, list_all, join_with_byte}
use Rattle.mail_wire.specs.Characters.{space, comma}
use Rattle.encapsulated_fields.specs.AddressForms.{xtext_form}
use Rattle.dsn_terms.specs.Xtexts.{shortest_xtext}
use Rattle.dsn_terms.specs.Parameters.{behind}
use Rattle.dsn_terms.specs.MailTerms.{HasMailTerms}
use Rattle.dsn_terms.specs.RecipientTerms.{HasRecipientTerms}
use Rattle.dsn_terms.specs.Outcomes.{asks}
use Rattle.dsn_terms.specs.declared.Terms.{Terms}
use Rattle.dsn_terms.specs.declared.Asked.{Asked}

-- ---- words

-- a visible ASCII character
abbrev pub is_visible : ℕ → Bool
is_visible x = nat_lt 32 x && nat_lt x 127

-- words of visible ASCII characters, each after a space
pub record AreSpaced (words : List (List ℕ)) (text : List ℕ) : Type 0 where
  pub spelled : text ≡ flat_map (λ word. space ∷ word) words
  pub visible : list_all (λ word. nat_lt 0 (length word) && list_all is_visible word) words ≡ true

-- ---- RET and ENVID

-- RET, which is always there (RFC 3461, 4.3).
abbrev pub ret_text : Bool → List ℕ
ret_text full = if full then codes " RET=FULL" else codes " RET=HDRS"

-- ENVID with the shortest xtext, where there is an identifier (RFC 3461, 4.4).
abbrev pub envid_text : List ℕ → List ℕ
envid_text envid = if length envid == 0 then [] else codes " ENVID=" ++ shortest_xtext envid

-- RET and then ENVID, each with a space before it.
abbrev pub mail_terms_text : Terms → List ℕ
mail_terms_text terms = ret_text terms.full ++ envid_text terms.envid

-- The text is words that say these terms.
pub record IsMailTermsText (terms : Terms) (text : List ℕ) : Type 0 where
  pub words : List (List ℕ)
  pub spaced : AreSpaced words text
  pub says : HasMailTerms words terms

-- ---- NOTIFY and ORCPT

-- the word of a report where its bit is set
abbrev pub report_word : (notify bit : ℕ) → List ℕ → List (List ℕ)
report_word notify bit word = if asks notify bit then word ∷ [] else []

-- the words of the reports that are asked for
abbrev pub report_words : ℕ → List (List ℕ)
report_words notify = report_word notify 1 (codes "SUCCESS") ++ (report_word notify 2 (codes "FAILURE") ++ report_word notify 4 (codes "DELAY"))

-- The value of NOTIFY: NEVER where no report is asked for, else their words with a comma between any two (RFC 3461, 4.1).
abbrev pub notify_value : ℕ → List ℕ
notify_value notify = if notify == 0 then codes "NEVER" else join_with_byte comma (report_words notify)

-- an original recipient of type `utf-8`: the ASCII form of its address
abbrev pub utf8_orcpt_value : Option (List ℕ) → List ℕ
utf8_orcpt_value None = []
utf8_orcpt_value (Some address) = codes "utf-8;" ++ xtext_form address

-- an original recipient: the shortest xtext of an address of type `rfc822`, and the ASCII form of one of type `utf-8`
abbrev pub orcpt_value : Option (List ℕ) → Option (List ℕ) → List ℕ
orcpt_value None utf8 = utf8_orcpt_value utf8
orcpt_value (Some address) utf8 = codes "rfc822;" ++ shortest_xtext address

-- ORCPT, where there is an original recipient (RFC 3461, 4.2; RFC 6533, 3).
abbrev pub orcpt_text : List ℕ → List ℕ
orcpt_text orcpt =
    if length orcpt == 0 then []
    else codes " ORCPT=" ++ orcpt_value (behind (codes "rfc822;") orcpt) (behind (codes "utf-8;") orcpt)

-- NOTIFY with the bits 1, 2 and 4, and then ORCPT, each with a space before it.
abbrev pub recipient_terms_text : Asked → List ℕ
recipient_terms_text asked = codes " NOTIFY=" ++ notify_value (asked.notify % 8) ++ orcpt_text asked.orcpt

-- The text is words that say this, without the bit 8, whether or not UTF-8 may stand in them.
pub record IsRecipientTermsText (asked : Asked) (text : List ℕ) : Type 0 where
  pub words : List (List ℕ)
  pub spaced : AreSpaced words text
  pub says : (utf8 : Bool) → HasRecipientTerms utf8 words (record { notify = asked.notify % 8; orcpt = asked.orcpt })
