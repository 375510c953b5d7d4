use Rattle.field_downgrade.proofs.ReceivedReading.{WalksClauses-start, clause_turn, WalksClauses-end}
use Rattle.field_downgrade.proofs.received.put_clauses.Goals as goal

pub loop-word-init : goal.loop-word-init
loop-word-init c = WalksClauses-start _ _ c.requires.read c.requires.begins c.requires.head

pub put_clause-requires : goal.put_clause-requires
put_clause-requires c = (clause_turn _ _ _ _ _ _ _ _ c.in-Some.ensures.found c.loop-word.invariant c.split_clause.ensures).read

pub loop-word-preserved : goal.loop-word-preserved
loop-word-preserved c = (clause_turn _ _ _ _ _ _ _ _ c.in-Some.ensures.found c.loop-word.invariant c.split_clause.ensures).next _ c.in_ok-put_clause.ensures

pub returns : goal.returns
returns c = WalksClauses-end _ _ _ _ c.loop-word.invariant c.in_default.ensures.none
