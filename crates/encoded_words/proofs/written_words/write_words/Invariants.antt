use Rattle.std.proofs.Common.{length}
use denote.Text.{Utf8}
use denote.Shadow.{shadow}
use Rattle.encoded_words.specs.WrittenWords.{AddsWords}
use Rattle.encoded_words.proofs.written_words.write_words.Given as goal

-- each `&str` that the loop changes is text, and the words so far are those of the text before rest
abbrev pub invariant-loop-rest : goal.invariant-loop-rest
invariant-loop-rest l = shadow (Utf8 l.rest) × AddsWords l.text l.initial.pieces.items l.pieces.items l.rest

abbrev pub decreases-loop-rest : goal.decreases-loop-rest
decreases-loop-rest l = length l.rest
