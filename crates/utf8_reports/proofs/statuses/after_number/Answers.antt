use Rattle.std.proofs.Common.{◌≡◌, length, arith}
use Rattle.std.proofs.lemmas.Bool.Decides.{nat_tests}
use Rattle.utf8_reports.proofs.DigitLemmas.{no_digits, no_dot}
use Rattle.utf8_reports.proofs.Prefixes.{none_if}
use Rattle.utf8_reports.proofs.statuses.after_number.Goals as goal

pub returns-then-is_empty-clause-none : goal.returns-then-is_empty-clause-none
returns-then-is_empty-clause-none c rest =
    let is = c.is_empty.ensures in
    let empty = c.if-is_empty.true in
    let none : length c.split_digits.result.0.now ≡ 0 = grind (arith, nat_tests) in
    no_digits _ _ _ rest c.split_digits.ensures none

pub returns-clause-none : goal.returns-clause-none
returns-clause-none c = none_if _ _ c.following.result (λ none rest. no_dot _ _ _ rest c.split_digits.ensures (none rest)) c.following.ensures.none
