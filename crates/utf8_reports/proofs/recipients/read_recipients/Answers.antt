use Rattle.std.proofs.Common.{◌≡◌, ℕ, List, ◌∷◌, length, slice_get, ap, ◌∙◌, arith}
use Rattle.std.proofs.lemmas.Bool.Decides.{nat_tests}
use Rattle.utf8_reports.proofs.RecipientLists.{next_there, read_next, recipient_shortens, all_read}
use Rattle.utf8_reports.proofs.recipients.read_recipients.Goals as goal
use Rattle.utf8_reports.proofs.recipients.read_recipients.Goals.{then-is_empty-via-then-is_empty, then-is_empty-via-else-is_empty+then-not-begins_hyphen}

pub returns-in_default-clause-exact : goal.returns-in_default-clause-exact
returns-in_default-clause-exact c failed rest begins =
    let empty = c.begins_empty.ensures.0 c.loop-alloc-test.true in
    let next = (next_there c.args.global c.args.octets.now c.loop-alloc.rest.now rest empty.0 c.loop-alloc.failed failed c.loop-alloc.invariant empty.1 begins).1 in
    let found = c.in_ok-one.ensures.exact next.one next.following next.begins next.ends in
    rw c.in_default.is at found

pub loop-alloc-smaller : goal.loop-alloc-smaller
loop-alloc-smaller c =
    let found = c.in_ok-one.ensures.found in
    recipient_shortens c.args.global c.loop-alloc.rest.now c.in-Some.after.now c.in-Some.one (rw c.in-Some.is at found)

pub loop-alloc-preserved : goal.loop-alloc-preserved
loop-alloc-preserved c =
    let empty = c.begins_empty.ensures.0 c.loop-alloc-test.true in
    let found = c.in_ok-one.ensures.found in
    read_next c.args.global c.args.octets.now c.loop-alloc.rest.now c.in-Some.after.now empty.0 c.loop-alloc.failed c.push.new.self c.in-Some.one c.loop-alloc.invariant empty.1
    (rw c.in-Some.is at found) (λ other following b e. let same = c.in_ok-one.ensures.exact other following b e in rw c.in-Some.is at same) c.in_ok-push.ensures.ok

pub returns-then-is_empty-clause-exact : goal.returns-then-is_empty-clause-exact
returns-then-is_empty-clause-exact c failed rest begins =
    let none : (tail : List ℕ) → c.loop-alloc.rest.now ≡ 13 ∷ 10 ∷ tail → ⊥ = λ tail e. let is = c.begins_empty.ensures.1 (tail, e) in let other = c.loop-alloc-test.false in cc in
    let all = all_read c.args.global c.args.octets.now c.loop-alloc.rest.now rest c.loop-alloc.failed failed c.loop-alloc.invariant none begins in
    elim c.then-is_empty.branch [
      | then-is_empty-via-then-is_empty w ↦
          let some = begins.some in
          let same = ap length all.0 in
          let is = c.is_empty.ensures in
          let empty = w.if-is_empty in
          absurd (grind (arith, nat_tests))
      | then-is_empty-via-else-is_empty+then-not-begins_hyphen w ↦
          let hyphen = w.begins_hyphen.ensures.1 (ap (λ l. slice_get l 0) all.1 ∙ begins.ends) in
          let other = w.if-not-begins_hyphen in
          cc
    ]

pub returns-clause-exact : goal.returns-clause-exact
returns-clause-exact c failed rest begins =
    let none : (tail : List ℕ) → c.loop-alloc.rest.now ≡ 13 ∷ 10 ∷ tail → ⊥ = λ tail e. let is = c.begins_empty.ensures.1 (tail, e) in let other = c.loop-alloc-test.false in cc in
    all_read c.args.global c.args.octets.now c.loop-alloc.rest.now rest c.loop-alloc.failed failed c.loop-alloc.invariant none begins
