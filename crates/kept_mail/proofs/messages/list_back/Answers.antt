use Rattle.std.proofs.Common.{◌≡◌, ◌+◌, ◌-◌, ℕ, suc, Option, subst, arith}
use Rattle.kept_mail.specs.private.Chains.{chain}
use Rattle.kept_mail.proofs.ListingLemmas.{IsBack, IsBack-within, IsBack-push, IsBack-skip, IsBack-none, IsBack-zero, listed_back, listed_from_back}
use Rattle.kept_mail.proofs.messages.list_back.Goals.{in-Some-listed_one+in_ok-push, in_default-listed_one, else-loop-back-test, then-loop-back-test+in_default}
use Rattle.kept_mail.proofs.messages.list_back.Goals as goal

pub bounds-previous-id : goal.bounds-previous-id
bounds-previous-id c =
    let left = c.args.content.count - c.loop-back.back in
    let less = c.args.content.count - (c.loop-back.back + 1) in
    let whole = listed_back c.args.messages.now 1 (chain c.args.content.count c.args.previous.now c.args.content.last) in
    let e : left ≡ suc less = omega arith in
    let b = subst (λ (p : Option ℕ). IsBack c.args.messages.now c.args.previous.now left p c.loop-back.listing.items whole) c.in-Some.is c.loop-back.invariant in
    omega (arith, c.requires.len, IsBack-within c.args.messages.now c.args.previous.now left less c.in-Some.id c.loop-back.listing.items whole e b)

pub loop-back-preserved : goal.loop-back-preserved
loop-back-preserved c =
    let left = c.args.content.count - c.loop-back.back in
    let less = c.args.content.count - (c.loop-back.back + 1) in
    let whole = listed_back c.args.messages.now 1 (chain c.args.content.count c.args.previous.now c.args.content.last) in
    let e : left ≡ suc less = omega arith in
    let b = subst (λ (p : Option ℕ). IsBack c.args.messages.now c.args.previous.now left p c.loop-back.listing.items whole) c.in-Some.is c.loop-back.invariant in
    elim c.match-listed_one.branch [
      | in-Some-listed_one+in_ok-push w ↦
          rw (w.listing-is, w.in_ok-push.ensures.items) (IsBack-push c.args.messages.now c.args.previous.now left less c.in-Some.id c.loop-back.listing.items whole w.in-Some-listed_one.one e b w.in-Some-listed_one.ensures.listed w.in-Some-listed_one.ensures.known)
      | in_default-listed_one w ↦
          rw w.listing-is (IsBack-skip c.args.messages.now c.args.previous.now left less c.in-Some.id c.loop-back.listing.items whole e b w.in_default-listed_one.ensures.listed)
    ]

pub returns-clause-listing : goal.returns-clause-listing
returns-clause-listing c =
    let left = c.args.content.count - c.loop-back.back in
    let ids = chain c.args.content.count c.args.previous.now c.args.content.last in
    let whole = listed_back c.args.messages.now 1 ids in
    let is : c.loop-back.listing.items ≡ whole = elim c.loop-back-test.branch [
      | else-loop-back-test w ↦
          let none : left ≡ 0 = omega (arith, w.loop-back-test.false) in
          IsBack-zero c.args.messages.now c.args.previous.now left c.loop-back.place c.loop-back.listing.items whole none c.loop-back.invariant
      | then-loop-back-test+in_default w ↦
          IsBack-none c.args.messages.now c.args.previous.now left c.loop-back.listing.items whole (subst (λ (p : Option ℕ). IsBack c.args.messages.now c.args.previous.now left p c.loop-back.listing.items whole) w.in_default.is c.loop-back.invariant)
    ] in
    λ folder e. listed_from_back c.args.messages.now ids c.loop-back.listing.items folder is e
