use Rattle.std.proofs.Common.{◌≡◌, ◌<◌, length, arith, take, true, false, rules}
use Rattle.std.specs.List.{list_all}
use Rattle.std.proofs.lemmas.Bool.Decides.{nat_tests}
use Rattle.std.proofs.lemmas.List.{take_all}
use Rattle.mail_wire.specs.Numbers.{is_digit}
use Rattle.mail_wire.proofs.NumberLemmas.{number_of-not, number_of-nil, no_number, a_number}
use Rattle.mail_wire.proofs.numbers.read_number.Goals as goal

pub returns-then-is_empty : goal.returns-then-is_empty
returns-then-is_empty c = let empty : length c.args.text.now ≡ 0 = grind (arith, nat_tests) in no_number _ (number_of-nil _ empty)

pub returns-then-not-are_digits : goal.returns-then-not-are_digits
returns-then-not-are_digits c =
    let tested = c.are_digits.ensures in
    let some = c.if-not-are_digits.true in
    let none : list_all is_digit c.args.text.now ≡ false = search rules in
    no_number _ (number_of-not _ none)

pub returns : goal.returns
returns c =
    let tested = c.are_digits.ensures in
    let none = c.if-not-are_digits.false in
    let digits : list_all is_digit c.args.text.now ≡ true = search rules in
    let some : 0 < length c.args.text.now = grind (arith, nat_tests) in
    let all : take c.loop-octet.octet-index c.args.text.now ≡ c.args.text.now = take_all c.loop-octet.octet-index c.args.text.now c.loop-octet-test.false in
    a_number c.args.text.now c.loop-octet.number digits some (rw all at c.loop-octet.invariant)
