-- The steps of reading what stands after UID.
use Rattle.std.proofs.Common.{◌≡◌, ℕ, Bool, true, List, [], refl, sym, subst, Bor}
use Rattle.std.specs.Prelude.{Result, MatchResult}
use Rattle.imap_words.specs.Languages.{Then, IsViable}
use Rattle.imap_words.specs.Reading.{never, StopsReading}
use Rattle.imap_words.specs.Going.{Leaves}
use Rattle.imap_words.specs.declared.stop.Stop.{Stop}
use Rattle.imap_words.specs.Tokens.{IsSpace}
use Rattle.imap_words.specs.Keywords.{IsTable, IsWordOf}
use Rattle.imap_words.proofs.TokenSteps.{octet_viable}
use Rattle.imap_words.proofs.Going.{then_viable}
use Rattle.imap_words.proofs.KeywordSteps.{word_viable}
use Rattle.imap_words.proofs.TableSteps.{is_table}
use Rattle.imap_grammar.specs.declared.words.UidName.{UidName}
use Rattle.imap_grammar.specs.declared.words.UidName.TheVariants as uid
use Rattle.imap_grammar.specs.declared.command.Command.{Command}
use Rattle.imap_grammar.specs.Commands.{IsFetch, IsAfterUid, IsAfterName, uid_names}
use Rattle.imap_grammar.specs.declared.awaited.Next.{Next}
use Rattle.imap_grammar.specs.declared.words.Name.{Name}
use Rattle.imap_grammar.specs.Awaiting.{Comes}
use Rattle.imap_words.proofs.Leaving.{leaves_all}
use Rattle.imap_grammar.proofs.CommandSteps.{hands_any}
use Rattle.imap_grammar.proofs.StoreSteps.{store_viable}
use Rattle.imap_grammar.proofs.ItemSteps.{after_fetch_viable}
use Rattle.imap_grammar.proofs.NotHereSteps.{line_open}
use Rattle.imap_words.proofs.InLine.{none_here}

pub fetch_viable : (utf8 by_uid : Bool) → IsViable (IsFetch utf8 by_uid) []
fetch_viable utf8 by_uid = then_viable IsSpace _ (octet_viable 32) (λ _. after_fetch_viable utf8 by_uid)

pub after_uid_viable : (utf8 : Bool) (name : UidName) → IsViable (IsAfterUid utf8 name) []
after_uid_viable utf8 uid.Fetch = fetch_viable utf8 true
after_uid_viable utf8 uid.Store = then_viable IsSpace _ (octet_viable 32) (λ _. store_viable true)
after_uid_viable utf8 uid.NotHere = line_open [] none_here

uid_table : IsTable uid_names
uid_table = is_table _ _ refl refl

pub uid_viable : (utf8 : Bool) → IsViable (Then (IsWordOf uid_names) (IsAfterUid utf8)) []
uid_viable utf8 = then_viable (IsWordOf uid_names) (IsAfterUid utf8) (word_viable uid_names uid_table) (after_uid_viable utf8)

-- the name is this one
pub uid_is : {P : List ℕ → Command → Type 0} {text rest : List ℕ} (utf8 : Bool) {name value : UidName} → name ≡ value → Leaves P text (IsAfterUid utf8 name) rest → Leaves P text (IsAfterUid utf8 value) rest
uid_is {P} {text} {rest} utf8 e l = subst (λ n. Leaves P text (IsAfterUid utf8 n) rest) e l

-- ---- what follows a command's name

-- the name is this one, and what follows it was read
pub name_is : (utf8 : Bool) (text : List ℕ) (r : Result (Next × Bor (List ℕ)) Stop) {name value : Name} → name ≡ value
    → MatchResult r (λ x. Comes utf8 (IsAfterName utf8 value) text x.0 x.1.now) (λ stop. StopsReading (IsAfterName utf8 value) never text stop)
    → MatchResult r (λ x. Comes utf8 (IsAfterName utf8 name) text x.0 x.1.now) (λ stop. StopsReading (IsAfterName utf8 name) never text stop)
name_is utf8 text r e h = subst (λ n. MatchResult r (λ x. Comes utf8 (IsAfterName utf8 n) text x.0 x.1.now) (λ stop. StopsReading (IsAfterName utf8 n) never text stop)) (sym e) h

-- the same where what follows doesn't go by the mode
pub name_is_any : (utf8 : Bool) (text : List ℕ) (r : Result (Next × Bor (List ℕ)) Stop) {name value : Name} → name ≡ value
    → MatchResult r (λ x. (mode : Bool) → Comes mode (IsAfterName utf8 value) text x.0 x.1.now) (λ stop. StopsReading (IsAfterName utf8 value) never text stop)
    → MatchResult r (λ x. Comes utf8 (IsAfterName utf8 name) text x.0 x.1.now) (λ stop. StopsReading (IsAfterName utf8 name) never text stop)
name_is_any utf8 text r {name} {value} e h = name_is utf8 text r e (hands_any utf8 r (leaves_all (IsAfterName utf8 value) text) h)
