-- Whether a text names a mailbox: in modified UTF-7, or as UTF-8.
use Rattle.std.proofs.Common.{ℕ, Bool, true, false, List, Option, Some, None, inl, inr, refl, ap, ◌∙◌}
use Rattle.std.proofs.lemmas.Bool.{both_ways, cases_Bool}
use Rattle.std.proofs.lemmas.Str.{IsUtf8-from_is_utf8, is_utf8-from_IsUtf8}
use Rattle.std.specs.Str.{is_utf8}
use Rattle.imap_grammar.specs.MailboxNames.{IsNameOf}
use Rattle.imap_grammar.proofs.DecidingMailboxes.{names_read}
use Rattle.imap_mailboxes.specs.Names.{NamesMailbox, ReadsMailboxes}

legacy : (text : List ℕ) (name : Option (List ℕ)) → IsNameOf text name → NamesMailbox false text name
legacy text None is = is
legacy text (Some name) is = is

named : (enabled : Bool) (text : List ℕ) → (name : Option (List ℕ)) × NamesMailbox enabled text name
named false text = (names_read.0 text, legacy text (names_read.0 text) (names_read.1 text))
named true text = elim (cases_Bool (is_utf8 text)) [
  | inl is ↦ (Some text, (IsUtf8-from_is_utf8 text is, refl))
  | inr other ↦ (None, λ name utf8 e. both_ways (is_utf8 text) other (ap is_utf8 e ∙ is_utf8-from_IsUtf8 name utf8))
]

pub mailboxes_read : (name_of : Bool → List ℕ → Option (List ℕ)) × ReadsMailboxes name_of
mailboxes_read = (λ enabled text. (named enabled text).0, λ enabled text. (named enabled text).1)
