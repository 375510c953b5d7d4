use Rattle.std.proofs.Common.{length}
use denote.Text.{Utf8}
use denote.Shadow.{shadow}
use Rattle.encapsulated_fields.proofs.XtextLemmas.{ReadsTo}
use Rattle.encapsulated_fields.proofs.xtext.read_xtext.Given as goal

-- each `&str` that the loop changes is text, and the address so far is that of the text before rest
abbrev pub invariant-loop-rest : goal.invariant-loop-rest
invariant-loop-rest l = shadow (Utf8 l.rest) × ReadsTo l.text l.address l.rest

abbrev pub decreases-loop-rest : goal.decreases-loop-rest
decreases-loop-rest l = length l.rest
