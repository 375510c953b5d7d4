use Rattle.std.proofs.Common.{sym, ◌∙◌}
use Rattle.utf8_fields.proofs.TrimLemmas.{TrimsEnd-stop}
use Rattle.utf8_fields.proofs.values.trim_end.Goals as goal

pub returns-then-not-is_white : goal.returns-then-not-is_white
returns-then-not-is_white c =
    TrimsEnd-stop c.args.octets.now c.loop-last.rest.now c.in-Some.front.now c.in-Some.last.now c.loop-last.invariant c.in-Some.ensures.cases.0 (sym c.is_white.ensures ∙ c.if-not-is_white.true)
