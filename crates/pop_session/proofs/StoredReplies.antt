-- RETR in an enabled session.
use Rattle.std.proofs.Common.{◌≡◌, ℕ, ◌++◌, List, length, true, sym, ap, codes, arith}
use Rattle.std.proofs.lemmas.List.{take_all}
use Rattle.kept_mail.specs.declared.kept.Listed.{Listed}
use Rattle.mail_store.specs.StoreState.{StoreState}
use Rattle.surrogate_cache.specs.Served.{Mode, legacy, enabled, is_enabled}
use Rattle.session_core.specs.Oracles.{Oracles}
use Rattle.pop_session.specs.Machine.{listed_octets, retr_reply}
use Rattle.pop_session.specs.Replies.{ended_lines, reply_octets}

-- it is told the message as it is stored
pub retr_stored : (oracles : Oracles) (mode : Mode) (store : StoreState) (number : ℕ) (one : Listed) → is_enabled mode ≡ true
    → codes "+OK\r\n" ++ ended_lines (listed_octets store one) ≡ reply_octets oracles (retr_reply oracles mode store number one)
retr_stored oracles legacy store number one is = cc
retr_stored oracles enabled store number one is =
    let octets = listed_octets store one in
    ap (λ (shown : List ℕ). codes "+OK\r\n" ++ ended_lines shown) (sym (take_all (length octets) octets (omega arith)))
