use Rattle.std.proofs.Common.{rules}
use Rattle.pop_session.proofs.session.answer_authorization.Goals.{then-is_of_transaction, else-is_of_transaction+in-Capa-None, else-is_of_transaction+in-Utf8-None, else-is_of_transaction+in-User-Some+in_ok-user-in-User-Some, else-is_of_transaction+in-Pass-Some+in_ok-pop-in-Pass-Some+in-OutOfOrder, else-is_of_transaction+in-Pass-Some+in_ok-pop-in-Pass-Some+in-Refused, else-is_of_transaction+in-Pass-Some+in_ok-pop-in-Pass-Some+in-Open, else-is_of_transaction+in-Quit-None, in-Some-1, in-None-1, else-is_of_transaction+in_default-2, in_default-2-via-in-Capa+in_default, in_default-2-via-in-Utf8+in_default, in_default-2-via-in-User-Some+else-not-is_empty, in_default-2-via-in-User+in_default, in_default-2-via-in-Pass+in_default, in_default-2-via-in-Quit+in_default, in_default-2-via-in_default}
use Rattle.pop_session.proofs.session.answer_authorization.Goals as goal

pub returns-clause-reply : goal.returns-clause-reply
returns-clause-reply g c oracles are = elim c.if-is_of_transaction.branch [
  | then-is_of_transaction w ↦ search rules
  | else-is_of_transaction+in-Capa-None w ↦ search rules
  | else-is_of_transaction+in-Utf8-None w ↦ search rules
  | else-is_of_transaction+in-User-Some+in_ok-user-in-User-Some w ↦ search rules
  | else-is_of_transaction+in-Pass-Some+in_ok-pop-in-Pass-Some+in-OutOfOrder w ↦ let login = w.in_ok-pop-in-Pass-Some.ensures.login oracles are in search (rules, login)
  | else-is_of_transaction+in-Pass-Some+in_ok-pop-in-Pass-Some+in-Refused w ↦ let login = w.in_ok-pop-in-Pass-Some.ensures.login oracles are in search (rules, login)
  | else-is_of_transaction+in-Pass-Some+in_ok-pop-in-Pass-Some+in-Open w ↦ let login = w.in_ok-pop-in-Pass-Some.ensures.login oracles are in search (rules, login)
  | else-is_of_transaction+in-Quit-None w ↦ search rules
  | else-is_of_transaction+in_default-2 w ↦ search rules
]

pub returns-clause-next : goal.returns-clause-next
returns-clause-next g c oracles are = elim c.if-is_of_transaction.branch [
  | then-is_of_transaction w ↦ search rules
  | else-is_of_transaction+in-Capa-None w ↦ search rules
  | else-is_of_transaction+in-Utf8-None w ↦ search rules
  | else-is_of_transaction+in-User-Some+in_ok-user-in-User-Some w ↦ search rules
  | else-is_of_transaction+in-Pass-Some+in_ok-pop-in-Pass-Some+in-OutOfOrder w ↦ let login = w.in_ok-pop-in-Pass-Some.ensures.login oracles are in search (rules, login)
  | else-is_of_transaction+in-Pass-Some+in_ok-pop-in-Pass-Some+in-Refused w ↦ let login = w.in_ok-pop-in-Pass-Some.ensures.login oracles are in search (rules, login)
  | else-is_of_transaction+in-Pass-Some+in_ok-pop-in-Pass-Some+in-Open w ↦ let login = w.in_ok-pop-in-Pass-Some.ensures.login oracles are in search (rules, login)
  | else-is_of_transaction+in-Quit-None w ↦ search rules
  | else-is_of_transaction+in_default-2 w ↦ search rules
]
