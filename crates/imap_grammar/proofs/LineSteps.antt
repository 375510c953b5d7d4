-- The steps of reading a command's first line.
use Rattle.std.proofs.Common.{◌≡◌, ℕ, Bool, false, List, [], ◌∷◌, ◌++◌, refl, sym, ap, ◌∙◌, subst, append_assoc}
use Rattle.imap_words.specs.Languages.{Then, After, Is, IsOctet, IsViable}
use Rattle.imap_words.specs.Reading.{always, never, Reads}
use Rattle.imap_words.specs.Going.{Leaves}
use Rattle.imap_words.specs.declared.stop.Stop.TheVariants.{More}
use Rattle.imap_words.specs.declared.tokens.Kind.TheVariants.{Tag}
use Rattle.imap_words.specs.Tokens.{IsTag, IsSpace, is_tag_char}
use Rattle.imap_words.specs.Keywords.{IsTable, IsWordOf}
use Rattle.imap_words.proofs.TokenSteps.{octet_viable}
use Rattle.imap_words.proofs.Going.{never_avoids, then_viable, is_viable}
use Rattle.imap_words.proofs.Leaving.{here, leaves_all, leaves_then}
use Rattle.imap_words.proofs.KeywordSteps.{word_viable}
use Rattle.imap_words.proofs.TableSteps.{is_table}
use Rattle.imap_grammar.specs.Commands.{IsAtoms, IsCommand, IsAfterName, command_names}
use Rattle.imap_grammar.specs.Events.{BeginsWithTag}
use Rattle.imap_grammar.specs.Awaiting.{Comes}
use Rattle.imap_grammar.specs.Standing.{HasHeader, LineComes}
use Rattle.imap_grammar.specs.declared.awaited.Next.{Next}
use Rattle.imap_grammar.specs.declared.awaited.Next.TheVariants.{Whole, Awaits}
use Rattle.imap_grammar.specs.declared.words.Name.{Name}
use Rattle.imap_grammar.specs.declared.words.Name.TheVariants as name
use Rattle.imap_grammar.proofs.CommandSteps.{bare_viable, after_user_viable, after_reference_viable, after_status_viable, atoms_viable, astring_viable, spaced_avoids}
use Rattle.imap_grammar.proofs.AppendSteps.{append_begins, after_append_viable}
use Rattle.imap_grammar.proofs.StoreSteps.{store_viable}
use Rattle.imap_grammar.proofs.UidSteps.{fetch_viable, uid_viable}
use Rattle.imap_grammar.proofs.NotHereSteps.{line_open}
use Rattle.imap_grammar.proofs.StageLaws.{tagged}
use Rattle.imap_grammar.proofs.TurnLaws.{tagged_comes, header_of}
use Rattle.imap_words.proofs.InLine.{none_here}

command_table : IsTable command_names
command_table = is_table _ _ refl refl

spaced_viable : {V : Type 0} (Q : List ℕ → V → Type 0) → IsViable Q [] → IsViable (After IsSpace Q) []
spaced_viable Q some = then_viable IsSpace (λ _. Q) (octet_viable 32) (λ _. some)

name_viable : (utf8 : Bool) (n : Name) → IsViable (IsAfterName utf8 n) []
name_viable utf8 name.Capability = bare_viable _
name_viable utf8 name.Noop = bare_viable _
name_viable utf8 name.Check = bare_viable _
name_viable utf8 name.Logout = bare_viable _
name_viable utf8 name.Login = spaced_viable _ (astring_viable utf8 _ (after_user_viable utf8))
name_viable utf8 name.Enable = spaced_viable _ (then_viable IsAtoms _ atoms_viable (λ words. is_viable _))
name_viable utf8 name.Select = spaced_viable _ (astring_viable utf8 _ (λ v. bare_viable _))
name_viable utf8 name.Examine = spaced_viable _ (astring_viable utf8 _ (λ v. bare_viable _))
name_viable utf8 name.Create = spaced_viable _ (astring_viable utf8 _ (λ v. bare_viable _))
name_viable utf8 name.List = spaced_viable _ (astring_viable utf8 _ (after_reference_viable utf8))
name_viable utf8 name.Status = spaced_viable _ (astring_viable utf8 _ after_status_viable)
name_viable utf8 name.Append = (here (append_begins utf8 [])).stops never More (spaced_viable _ (astring_viable utf8 _ after_append_viable))
name_viable utf8 name.Fetch = fetch_viable utf8 false
name_viable utf8 name.Store = spaced_viable _ (store_viable false)
name_viable utf8 name.Uid = spaced_viable _ (uid_viable utf8)
name_viable utf8 name.Expunge = bare_viable _
name_viable utf8 name.Close = bare_viable _
name_viable utf8 name.NotHere = line_open [] none_here

module _ (utf8 : Bool) where
  pub arguments_viable : (tag : List ℕ) (n : Name) → IsViable (Then (IsAfterName utf8 n) (λ c. Is (tagged tag c))) []
  arguments_viable tag n = then_viable (IsAfterName utf8 n) _ (name_viable utf8 n) (λ c. is_viable _)

  pub names_viable : (tag : List ℕ) → IsViable (Then (IsWordOf command_names) (λ n. Then (IsAfterName utf8 n) (λ c. Is (tagged tag c)))) []
  names_viable tag = then_viable (IsWordOf command_names) _ (word_viable command_names command_table) (arguments_viable tag)

  pub space_viable : (tag : List ℕ) → IsViable (After IsSpace (Then (IsWordOf command_names) (λ n. Then (IsAfterName utf8 n) (λ c. Is (tagged tag c))))) []
  space_viable tag = spaced_viable _ (names_viable tag)

  pub tag_leaves : (line tag following : List ℕ) → Reads IsTag (always is_tag_char) line tag following → Leaves (IsCommand utf8) line (After IsSpace (Then (IsWordOf command_names) (λ n. Then (IsAfterName utf8 n) (λ c. Is (tagged tag c))))) following
  tag_leaves line tag following r = leaves_then (leaves_all (IsCommand utf8) line) r (λ u. spaced_avoids Tag _)

-- a tag and a space were read
pub begins_with : (line tag following others : List ℕ) → Reads IsTag (always is_tag_char) line tag following → following ≡ 32 ∷ others → BeginsWithTag line tag
begins_with line tag following others r e = record {
  rest = others;
  whole = r.whole ∙ (ap (λ z. z ++ following) (sym r.is_word.value_is) ∙ ap (λ z. tag ++ z) e);
  is_tag = subst (λ z. IsTag z tag) (sym r.is_word.value_is) r.is_word;
}

header_up : (text front mid : List ℕ) (next : Next) (rest : List ℕ) → text ≡ front ++ mid → HasHeader mid next rest → HasHeader text next rest
header_up text front mid (Whole c) rest e h = tt
header_up text front mid (Awaits size a) rest e h = record {
  front = front ++ h.front;
  header = h.header;
  whole = e ∙ (ap (λ z. front ++ z) h.whole ∙ sym (append_assoc front h.front (h.header ++ rest)));
  is_header = h.is_header;
}

pub line_comes : (utf8 : Bool) (line tag after_tag after_space arguments : List ℕ) (n : Name) (next : Next) (rest : List ℕ) → Reads IsTag (always is_tag_char) line tag after_tag
    → Reads (IsOctet 32) never after_tag 32 after_space → Reads (IsWordOf command_names) never after_space n arguments → Comes utf8 (IsAfterName utf8 n) arguments next rest → LineComes utf8 line next
line_comes utf8 line tag after_tag after_space arguments n next rest first space word comes =
    let names = leaves_then (tag_leaves utf8 line tag after_tag first) space (λ _. never_avoids _) in
    let l = leaves_then names word (λ _. never_avoids _) in (
      tag,
      rest,
      begins_with line tag after_tag after_space first (space.whole ∙ ap (λ z. z ++ after_space) space.is_word.0),
      header_up line l.front arguments next rest l.whole (header_of utf8 (IsAfterName utf8 n) arguments next rest comes),
      tagged_comes utf8 tag (IsCommand utf8) (IsAfterName utf8 n) line arguments next rest l comes,
    )
