-- The first line of a session, and HTTP requests.
use Rattle.std.proofs.Common.{◌≡◌, ◌≢◌, ℕ, List, [], ◌∷◌, Bool, true, false, not, refl, inl, inr, Some, None, Option}
use Rattle.std.specs.Prelude.{unwrap_or}
use Rattle.std.specs.List.{list_all}
use Rattle.std.proofs.lemmas.Bool.{cases_Bool, and_parts}
use Rattle.http_lines.specs.Requests.{is_http_request}
use Rattle.mail_wire.specs.Framing.{whole, next_line}
use Rattle.mail_wire.specs.Octets.{same_name}
use Rattle.mail_wire.specs.Tables.{Named, said_by}
use Rattle.mail_store.specs.StoreState.{StoreState}
use Rattle.surrogate_cache.specs.Served.{legacy}
use Rattle.session_core.specs.Oracles.{Oracles}
use Rattle.pop_session.specs.declared.command.Keyword.{Keyword}
use Rattle.pop_session.specs.declared.command.Keyword.TheVariants as keyword
use Rattle.pop_session.specs.Commands.{command_of, keyword_of, keywords}
use Rattle.pop_session.specs.Machine.{State, greeted, authorization, transaction, ended, acts_in, answers, asked_of, is_http, step, syntax_error}
use Rattle.pop_session.specs.Session.{after_step, pop_protocol, start_of}

-- ---- a first line that begins an HTTP request

pub first_refused : (oracles : Oracles) (store : StoreState) (text rest octets : List ℕ) → next_line octets ≡ whole text rest → is_http_request text ≡ true
    → pop_protocol.next oracles (start_of store) octets
    ≡ Some (record { parts = acts_in (answers syntax_error ended); after = after_step store (answers syntax_error ended); rest = rest })
unfolding step asked_of
first_refused oracles store text rest octets line http = rw (line, http) refl

-- ---- any other first line

-- no entry of a table says that a line is one
abbrev none_http : List (Named Keyword) → Bool
none_http entries = list_all (λ (entry : Named Keyword). not (is_http entry.says)) entries

not_true : (b : Bool) → not b ≡ true → b ≡ false
not_true true is = cc
not_true false is = refl

word_not_http : (entries : List (Named Keyword)) (word : List ℕ) → none_http entries ≡ true → is_http (unwrap_or (said_by entries word) keyword.Other) ≡ false
unfolding said_by
word_not_http [] word none = refl
word_not_http (entry ∷ entries) word none = elim (cases_Bool (same_name word entry.word)) [
  | inl same ↦ rw (same) (not_true (is_http entry.says) (and_parts (not (is_http entry.says)) (none_http entries) none).0)
  | inr other ↦ rw (other) (word_not_http entries word (and_parts (not (is_http entry.says)) (none_http entries) none).1)
]

named_not_http : (word : List ℕ) → is_http (keyword_of word) ≡ false
named_not_http word = word_not_http keywords word refl

pub first_as_others : (oracles : Oracles) (store : StoreState) (text : List ℕ) → is_http_request text ≡ false
    → step oracles greeted store (command_of text) ≡ step oracles (authorization legacy None) store (command_of text)
unfolding step
first_as_others oracles store text other = rw (other, named_not_http _) refl

-- ---- a later line that begins such a request

pub later_unknown : (oracles : Oracles) (state : State) (store : StoreState) (argument : Option (List ℕ)) → state ≢ greeted
    → step oracles state store (record { keyword = keyword.Http; argument = argument }) ≡ step oracles state store (record { keyword = keyword.Other; argument = argument })
unfolding step
later_unknown oracles greeted store argument later = absurd (later refl)
later_unknown oracles (authorization mode user) store argument later = refl
later_unknown oracles (transaction mode maildrop) store argument later = refl
later_unknown oracles ended store argument later = refl
