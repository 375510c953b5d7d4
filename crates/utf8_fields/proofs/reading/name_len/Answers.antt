use Rattle.std.proofs.Common.{arith, ◌≡◌, ◌<◌, length, true, false}
use Rattle.std.proofs.lemmas.Bool.Decides.{nat_tests}
use Rattle.utf8_fields.proofs.Names.{name_stands, name_passes}
use Rattle.utf8_fields.proofs.reading.name_len.Goals.{else-not-is_empty-via-then-not-is_empty+else-begins_colon, else-not-is_empty-via-else-not-is_empty}
use Rattle.utf8_fields.proofs.reading.name_len.Goals as goal

pub returns-then-begins_colon-clause-some : goal.returns-then-begins_colon-clause-some
returns-then-begins_colon-clause-some c =
    let some : 0 < length c.split_name.result.0.now = grind (arith, nat_tests, c.is_empty.ensures, c.if-not-is_empty.true) in
    name_stands c.args.line.now _ _ _ _ c.split_name.ensures c.split_white.ensures some (c.begins_colon.ensures.0 c.if-begins_colon.true)

pub returns-else-not-is_empty-clause-none : goal.returns-else-not-is_empty-clause-none
returns-else-not-is_empty-clause-none c none name begins =
    let passes = name_passes c.args.line.now _ _ _ _ c.split_name.ensures c.split_white.ensures name begins in
    elim c.else-not-is_empty.branch [
      | else-not-is_empty-via-then-not-is_empty+else-begins_colon w ↦
          let clash : w.begins_colon.result ≡ true = w.begins_colon.ensures.1 passes.1 in
          let other : w.begins_colon.result ≡ false = w.if-begins_colon.false in cc
      | else-not-is_empty-via-else-not-is_empty w ↦
          let some : 0 < length c.split_name.result.0.now = passes.0 in
          absurd (grind (arith, nat_tests, c.is_empty.ensures, w.if-not-is_empty.false, some))
    ]
