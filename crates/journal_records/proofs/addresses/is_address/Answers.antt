use Rattle.std.proofs.Common.{◌≤◌, length, arith}
use Rattle.journal_records.specs.declared.limits.TheConstants.{TEXT_MAX}
use Rattle.journal_records.proofs.AddressTexts.{address_there, address_missing}
use Rattle.journal_records.proofs.addresses.is_address.Goals as goal
use Rattle.journal_records.proofs.addresses.is_address.Goals.{in-Some, in-None}

pub returns : goal.returns
returns c =
    let short : length c.args.text.now ≤ TEXT_MAX = omega arith in
    elim c.match-branch-2.branch [
      | in-Some w ↦ rw w.result-is (address_there c.args.text.now c.in_ok-read_text.field-0 w.in-Some.field-0 w.in-Some.is c.in_ok-read_text.ensures.some short)
      | in-None w ↦ rw w.result-is (address_missing c.args.text.now c.in_ok-read_text.field-0 w.in-None.is c.in_ok-read_text.ensures.none)
    ]
