use Rattle.std.proofs.Common.{◌≡◌, ◌≤◌, ◌*◌, ◌^◌, take, sum_by, length, None}
use Rattle.session_core.specs.Doing.{Asks}
use Rattle.session_core.specs.Keeps.{Keeps}
use Rattle.session_core.specs.Oracles.{WithOracles}
use Rattle.pop_session.specs.Machine.{asked_for_left, size_of, left_of}
use Rattle.pop_session.proofs.replies.stat.Given as goal

abbrev pub invariant-loop-one : goal.invariant-loop-one
invariant-loop-one g l = record {
  counted : l.count ≡ length (left_of (take l.one-index l.maildrop));
  few : l.count ≤ l.one-index;
  summed : WithOracles (λ oracles. l.total ≡ sum_by (size_of oracles g.V.View.mode l.fn.outside.desk.store) (left_of (take l.one-index l.maildrop)));
  fits : l.total ≤ l.one-index * 2 ^ 64;
  asks : Asks l.fn.outside l.outside None (asked_for_left g.V.View.mode l.fn.outside.desk.store (take l.one-index l.maildrop));
  keeps : Keeps l.fn.outside l.outside None;
}
