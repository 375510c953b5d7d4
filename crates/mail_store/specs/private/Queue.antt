-- What putting an entry last and telling of a recipient does; words of the private calls.
use Rattle.std.specs.Prelude.{◌≡◌, ℕ, ◌+◌, List, [], ◌∷◌, ◌++◌, true, false, Option, Some, None, if◌then◌else◌}
use Rattle.std.specs.BTreeMap.{is_at}
use Rattle.std.specs.Map.{lookup}
use Rattle.std.specs.Ordering.{nat_cmp}
use Rattle.journal_records.specs.Addresses.{IsTextOfAddress}
use Rattle.kept_mail.specs.declared.kept.Entry.{Entry}
use Rattle.kept_mail.specs.declared.kept.Recipient.{Recipient}
use Rattle.mail_store.specs.Queue.{is_open, waiting_count}
use Rattle.mail_store.specs.declared.queue.Unsettled.{Unsettled}

-- how many recipients of the entry wait, where there is one
abbrev pub awaited : Option Entry → ℕ
awaited None = 0
awaited (Some entry) = waiting_count entry

-- its number and how many wait, where one does
abbrev pub opened : ℕ → Option Entry → List (ℕ × ℕ)
opened number None = []
opened number (Some entry) = if is_open entry then (number, waiting_count entry) ∷ [] else []

-- how many wait of the entry of this number
abbrev pub count_at : ℕ → List (ℕ × ℕ) → Option ℕ
count_at number counts = lookup (is_at (nat_cmp number)) counts

-- some recipient of the entry of this number waits
pub record IsAwaited (counts : List (ℕ × ℕ)) (number : ℕ) : Type 0 where
  pub others : ℕ
  pub there : count_at number counts ≡ Some (others + 1)

-- the recipient of this place was told
pub record TellsOf (old new : List Unsettled) (index : ℕ) (recipient : Recipient) : Type 0 where
  pub one : Unsettled
  pub put : new ≡ old ++ one ∷ []
  pub index_is : one.index ≡ index
  pub address_is : IsTextOfAddress recipient.address one.address

-- the recipient was told exactly where one waits
pub record PutsUnsettled (old new : List Unsettled) (index : ℕ) (recipient : Recipient) : Type 0 where
  pub waiting : recipient.waits ≡ true → TellsOf old new index recipient
  pub settled : recipient.waits ≡ false → new ≡ old
