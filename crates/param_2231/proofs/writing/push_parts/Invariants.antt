use Rattle.std.proofs.Common.{length}
use Rattle.encoded_words.specs.private.Values.{value_of}
use Rattle.param_2231.proofs.ParamWriting.{WritesParts}
use Rattle.param_2231.proofs.writing.push_parts.Given as goal

-- the pieces so far are those of the parts before rest
abbrev pub invariant-loop-rest : goal.invariant-loop-rest
invariant-loop-rest l = WritesParts l.lead l.fn.name (value_of l.fn.unit) l.fn.made l.made l.number l.rest

abbrev pub decreases-loop-rest : goal.decreases-loop-rest
decreases-loop-rest l = length l.rest
