use Rattle.std.proofs.Common.{◌<◌, ◌++◌, ◌∷◌, length, refl, sym, ◌∙◌, arith}
use Rattle.param_grammar.specs.Places.{piece_in}
use Rattle.param_grammar.proofs.SlotLemmas.{AreSlots-skip, HoldBelow-put, twice, self, full_at}
use Rattle.param_grammar.proofs.joining.put_part.Goals as goal

pub returns-in_default-clause-put : goal.returns-in_default-clause-put
returns-in_default-clause-put c pieces parts placed below are e =
    AreSlots-skip (piece_in pieces) (length c.args.slots.now.items) parts (piece_in pieces c.args.part) c.args.slots.now.items are
    (λ n l. c.in_default.ensures.number pieces placed below n (omega (arith, l, c.len.ensures, c.args.slots.now.ok)))

pub returns-then-is_some-clause-taken : goal.returns-then-is_some-clause-taken
returns-then-is_some-clause-taken c pieces parts following placed below are count e =
    let number = c.in-Some.number in
    let small : number < length c.args.slots.now.items = omega (arith, c.in-Some.ensures.below, c.len.ensures, c.args.slots.now.ok) in
    twice (piece_in pieces) (parts ++ piece_in pieces c.args.part ∷ following) parts following (piece_in pieces c.args.part) c.args.slots.now.items number (length c.args.slots.now.items) count refl are small
    (full_at (piece_in pieces) c.args.slots.now.items number c.index.result.now small c.index.ensures (sym c.is_some.ensures ∙ c.if-is_some.true))
    (c.in-Some.ensures.number pieces placed below number c.in-Some.ensures.below ∙ self (piece_in pieces) number)

pub returns-clause-within : goal.returns-clause-within
returns-clause-within c bound below small =
    HoldBelow-put bound c.in-Some.number c.args.part c.args.slots.now.items below small (omega (arith, c.in-Some.ensures.below, c.len.ensures, c.args.slots.now.ok))
