use Rattle.std.proofs.Common.{◌≡◌, ◌≤◌, ◌+◌, drop}
use Rattle.pop_session.specs.private.Top.{all_after, count_from}
use Rattle.pop_session.proofs.top.Scan.read_piece.Given as goal

abbrev pub invariant-loop-octet : goal.invariant-loop-octet
invariant-loop-octet l = record {
  scan : all_after l.self (drop l.octet-index l.piece) ≡ all_after l.initial.self l.piece;
  count : l.count + count_from l.self (drop l.octet-index l.piece) ≡ count_from l.initial.self l.piece;
  low : l.count ≤ l.octet-index;
}
