-- What a machine's store is after its turns: that of the changes that they make.
use Rattle.std.proofs.Common.{◌≡◌, ℕ, zero, suc, List, length, Option, Some, None, refl, sym, ap, ◌∙◌}
use Rattle.mail_store.specs.Following.{records_of}
use Rattle.mail_store.specs.StoreState.{StoreState, with_records}
use Rattle.mail_store.proofs.FollowLemmas.{with_records-append}
use Rattle.session_core.specs.Acts.{Act, changes_in}
use Rattle.session_core.specs.Turns.{Turn, turns, all_turns}
use Rattle.session_core.proofs.DoneLemmas.{records_in-append}
use Rattle.session_core.proofs.TurnsLemmas.{turns-zero, turns-stop, turns-go}

-- the store after a turn is that of its changes
abbrev pub Tracks : {S P : Type 0} → (S → StoreState) → S → Turn S (Act P) → Type 0
Tracks store_in s turn = store_in turn.after ≡ with_records (store_in s) (records_of (changes_in turn.parts))

-- so each turn is
abbrev pub EachTracks : {S P : Type 0} → (S → List ℕ → Option (Turn S (Act P))) → (S → StoreState) → Type 0
EachTracks {S} {P} next store_in = (s : S) (octets : List ℕ) (turn : Turn S (Act P)) → next s octets ≡ Some turn → Tracks store_in s turn

tracks_by : {S P : Type 0} (next : S → List ℕ → Option (Turn S (Act P))) (store_in : S → StoreState) → EachTracks next store_in
    → (n : ℕ) (s : S) (octets : List ℕ) (found : Option (Turn S (Act P))) → next s octets ≡ found → Tracks store_in s (turns next n s octets)
tracks_by next store_in each zero s octets found is = rw (turns-zero next s octets) refl
tracks_by next store_in each (suc n) s octets None is = rw (turns-stop next (suc n) s octets is) refl
tracks_by next store_in each (suc n) s octets (Some turn) is =
    let more = turns next n turn.after turn.rest in
    let later = tracks_by next store_in each n turn.after turn.rest (next turn.after turn.rest) refl in
    rw (turns-go next n s octets turn is)
    (later ∙ ap (λ (store : StoreState). with_records store (records_of (changes_in more.parts))) (each s octets turn is)
    ∙ with_records-append (store_in s) (records_of (changes_in turn.parts)) (records_of (changes_in more.parts))
    ∙ ap (with_records (store_in s)) (sym (records_in-append turn.parts more.parts)))

-- all turns
pub all_track : {S P : Type 0} (next : S → List ℕ → Option (Turn S (Act P))) (store_in : S → StoreState) → EachTracks next store_in → (s : S) (octets : List ℕ) → Tracks store_in s (all_turns next s octets)
all_track next store_in each s octets = tracks_by next store_in each (length octets) s octets (next s octets) refl
