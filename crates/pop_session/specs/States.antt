-- What a value of each state (RFC 1939, 4 to 6) stands for.
use Rattle.std.specs.Prelude.{◌≡◌, ◌==◌, ℕ, List, map, slice_get, Option, None, Some}
use Rattle.std.specs.List.{AllByRecursion, IsDistinct}
use Rattle.pop_session.specs.declared.states.MaildropMessage.{MaildropMessage}
use Rattle.kept_mail.specs.Kept.{logged_in}
use Rattle.kept_mail.specs.Records.{IsLive}
use Rattle.mail_store.specs.StoreState.{StoreState}
use Rattle.surrogate_cache.specs.Served.{legacy, enabled}
use Rattle.session_core.specs.Oracles.{Oracles}
use Rattle.pop_session.specs.declared.states.PopState.{PopState}
use Rattle.pop_session.specs.declared.states.PopState.TheVariants as pop
use Rattle.pop_session.specs.declared.states.Login.{Login}
use Rattle.pop_session.specs.declared.states.Login.TheVariants.{OutOfOrder, Refused, Open}
use Rattle.pop_session.specs.Machine.{State, greeted, authorization, transaction, ended, maildrop_of}

-- the machine's state
abbrev pub state_of : PopState → State
state_of pop.Greeted = greeted
state_of (pop.Authorization session) = authorization legacy session.state.user
state_of (pop.EnabledAuthorization session) = authorization enabled session.state.user
state_of (pop.Transaction session) = transaction legacy session.state.maildrop.items
state_of (pop.EnabledTransaction session) = transaction enabled session.state.maildrop.items

-- the machine's state, also where no session is left
abbrev pub state_or_ended : Option PopState → State
state_or_ended None = ended
state_or_ended (Some session) = state_of session

-- The store has these messages, none of them expunged and none of them twice.
pub record Knows (store : StoreState) (maildrop : List MaildropMessage) : Type 0 where
  pub live : AllByRecursion (λ one. IsLive (slice_get store.kept.messages one.listed.id)) maildrop
  pub distinct : IsDistinct (λ a b. a == b) (map (λ (one : MaildropMessage). one.listed.id) maildrop)

-- the store has the messages that the state names
abbrev pub KnowsState : StoreState → State → Type 0
KnowsState store greeted = Unit {0}
KnowsState store (authorization mode user) = Unit {0}
KnowsState store (transaction mode maildrop) = Knows store maildrop
KnowsState store ended = Unit {0}

-- the login found this account
pub record IsAdmitted (oracles : Oracles) (store : StoreState) (user : Option (List ℕ)) (password : List ℕ) (maildrop : List MaildropMessage) : Type 0 where
  pub name : List ℕ
  pub account : ℕ
  pub user_is : user ≡ Some name
  pub found : logged_in oracles.path_of store.kept name password ≡ Some account
  pub maildrop_is : maildrop ≡ maildrop_of store.kept account

-- what PASS leads to, by the name that USER gave
abbrev pub IsLogin : {V : Type 0} → Oracles → Login V → Option (List ℕ) → List ℕ → StoreState → Type 0
IsLogin oracles (OutOfOrder session) user password store = (user ≡ None) × (session.state.user ≡ None)
IsLogin oracles (Refused session) user password store = (name : List ℕ) × (user ≡ Some name) × (logged_in oracles.path_of store.kept name password ≡ None) × (session.state.user ≡ None)
IsLogin oracles (Open session) user password store = IsAdmitted oracles store user password session.state.maildrop.items

-- the store has the messages of the session that PASS leads to
abbrev pub KnowsLogin : {V : Type 0} → StoreState → Login V → Type 0
KnowsLogin store (OutOfOrder session) = Unit {0}
KnowsLogin store (Refused session) = Unit {0}
KnowsLogin store (Open session) = Knows store session.state.maildrop.items
