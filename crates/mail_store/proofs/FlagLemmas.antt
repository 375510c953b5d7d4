-- A message that gets other flags.
use Rattle.journal_records.specs.declared.versions.Version.TheVariants as versions
use Rattle.std.proofs.Common.{◌≡◌, ℕ, ◌<◌, ◌≤◌, Bool, true, false, [], ◌∷◌, length, Option, Some, None, refl, arith}
use Rattle.std.specs.Prelude.{slice_get}
use Rattle.std.specs.Option.{option_map_or}
use Rattle.journal_records.specs.declared.records.Record.TheVariants as records
use Rattle.mail_store.specs.declared.changing.StoreFault.TheVariants as faults
use Rattle.kept_mail.specs.declared.kept.Message.{Message}
use Rattle.kept_mail.specs.declared.limits.TheConstants.{THINGS_MAX}
use Rattle.mail_store.specs.Changing.{flags_refusal}
use Rattle.kept_mail.specs.Kept.{Kept}
use Rattle.kept_mail.specs.Records.{IsLive, AreRecords}
use Rattle.mail_store.proofs.ExpungeLemmas.{live_within}

lives_is : (o : Option Message) → IsLive o → option_map_or (λ (message : Message). message.live) o false ≡ true
lives_is None h = absurd h
lives_is (Some message) h = h

dead_is : (o : Option Message) → (IsLive o → ⊥) → option_map_or (λ (message : Message). message.live) o false ≡ false
dead_is None h = refl
dead_is (Some message) h = by message.live h
  where
    by : (b : Bool) → (b ≡ true → ⊥) → b ≡ false
    by true n = absurd (n refl)
    by false n = refl

pub flags_free : (kept : Kept) (id : ℕ) → IsLive (slice_get kept.messages id) → flags_refusal kept id ≡ None
flags_free kept id live = rw (lives_is (slice_get kept.messages id) live) refl

pub flags_refused : (kept : Kept) (id : ℕ) → (IsLive (slice_get kept.messages id) → ⊥) → flags_refusal kept id ≡ Some faults.NoSuch
flags_refused kept id dead = rw (dead_is (slice_get kept.messages id) dead) refl

pub AreRecords-flags : (kept : Kept) (id flags : ℕ) → IsLive (slice_get kept.messages id) → length kept.messages ≤ THINGS_MAX → flags < 32 → AreRecords versions.Two kept (records.Flags id flags ∷ [])
AreRecords-flags kept id flags live few small =
    let within = live_within kept id (lives_is (slice_get kept.messages id) live) in
    (record { fits = omega (arith, within, few); short = omega arith; of_version = tt; in_order = (live, small) }, tt)
