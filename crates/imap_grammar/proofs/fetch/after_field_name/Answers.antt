use Rattle.std.proofs.Common.{[], ◌∷◌, ◌++◌}
use Rattle.imap_words.proofs.Going.{passes_on}
use Rattle.imap_grammar.specs.Awaiting.{IsAfterNames}
use Rattle.imap_grammar.proofs.FetchEnds.{memory_on, step_comes}
use Rattle.imap_grammar.proofs.NameListSteps.{made_left, made_stops}
use Rattle.imap_grammar.proofs.fetch.after_field_name.Goals as goal

pub returns-in_err-made-clause-reads : goal.returns-in_err-made-clause-reads
returns-in_err-made-clause-reads c = memory_on _ _ c.from_residual.result _ c.from_residual.ensures.1 c.in_err-made.ensures tt

pub returns-in_err-step-clause-reads : goal.returns-in_err-step-clause-reads
returns-in_err-step-clause-reads c = passes_on _ _ c.from_residual-in_err-step.result _ c.from_residual-in_err-step.ensures.1 (made_stops c.args.utf8 c.args.so_far c.args.name c.args.text.now _ c.in_ok-made.ensures (c.in_err-step.ensures.reads c.args.utf8))

pub returns-clause-reads : goal.returns-clause-reads
returns-clause-reads c =
    let names = c.args.so_far.names ++ c.args.name ∷ [] in
    let goes = made_left c.args.utf8 c.args.so_far c.args.name c.args.text.now c.in_ok-step.step c.in_ok-step.rest.now c.in_ok-made.ensures (c.in_ok-step.ensures.reads c.args.utf8) in
    step_comes c.args.utf8 (IsAfterNames c.args.utf8 c.args.so_far names) c.args.text.now c.in_ok-step.rest.now c.in_ok-step.step c.following_step.result goes (c.following_step.ensures.reads c.args.utf8)
