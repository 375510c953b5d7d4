use Rattle.std.proofs.Common.{Some, sym, ap, ◌∙◌}
use Rattle.imap_words.proofs.RunSteps.{run_more, run_fails, run_reads}
use Rattle.imap_words.proofs.tokens.run.Goals as goal

pub returns-in-None : goal.returns-in-None
returns-in-None c = run_more c.args.kind c.args.text.now (sym c.find_end.ensures ∙ c.in-None.is)

pub returns-in-Some-eq0 : goal.returns-in-Some-eq0
returns-in-Some-eq0 c = run_fails c.args.kind c.args.text.now (sym c.find_end.ensures ∙ (c.in-Some-eq0.is ∙ ap Some c.in-Some-eq0.field-0-test))

pub returns-in-Some : goal.returns-in-Some
returns-in-Some c = run_reads c.args.kind c.args.text.now _ _ c.in-Some.end (sym c.find_end.ensures ∙ c.in-Some.is) c.in-Some.end-test.1 c.split_at.ensures.front c.split_at.ensures.back
