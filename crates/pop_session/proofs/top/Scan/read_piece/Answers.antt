use Rattle.std.proofs.Common.{drop, arith, sym, ◌∙◌}
use Rattle.pop_session.proofs.TopLemmas.{after_ended, count_ended}
use Rattle.pop_session.proofs.top.Scan.read_piece.Goals as goal

pub returns-then-is_ended-clause-scan : goal.returns-then-is_ended-clause-scan
returns-then-is_ended-clause-scan c = sym (after_ended c.loop-octet.self (drop c.loop-octet.octet-index c.args.piece.now) (sym c.if-is_ended.ensures)) ∙ c.loop-octet.invariant.scan

pub returns-then-is_ended-clause-count : goal.returns-then-is_ended-clause-count
returns-then-is_ended-clause-count c = omega (arith, c.loop-octet.invariant.count, count_ended c.loop-octet.self (drop c.loop-octet.octet-index c.args.piece.now) (sym c.if-is_ended.ensures))
