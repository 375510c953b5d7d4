use Rattle.std.proofs.Common.{length}
use denote.Text.{Utf8}
use denote.Shadow.{shadow}
use Rattle.encoded_words.proofs.Chunks.{AddsFirstLines}
use Rattle.encoded_words.proofs.written_words.push_words.Given as goal

-- each `&str` that the loop changes is text, and the lines so far are those of the text before rest
abbrev pub invariant-loop-rest : goal.invariant-loop-rest
invariant-loop-rest l = shadow (Utf8 l.rest) × AddsFirstLines l.text l.fn.white l.initial.made l.made l.before l.rest

abbrev pub decreases-loop-rest : goal.decreases-loop-rest
decreases-loop-rest l = length l.rest
