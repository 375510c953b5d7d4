use Rattle.std.proofs.Common.{sym, ap, ◌∙◌}
use Rattle.imap_views.specs.Strings.{before_mark, after_mark}
use Rattle.imap_views.proofs.Marks.{before_found, after_found, before_missing, after_missing}
use Rattle.imap_views.proofs.strings.split_mark.Goals as goal

pub returns-in-Some-clause-before : goal.returns-in-Some-clause-before
returns-in-Some-clause-before c = sym (ap (before_mark c.args.mark) c.in-Some.ensures.found.0 ∙ before_found c.args.mark _ _ c.in-Some.ensures.found.1)

pub returns-in-Some-clause-following : goal.returns-in-Some-clause-following
returns-in-Some-clause-following c = sym (ap (after_mark c.args.mark) c.in-Some.ensures.found.0 ∙ after_found c.args.mark _ _ c.in-Some.ensures.found.1)

pub returns-in-None-clause-before : goal.returns-in-None-clause-before
returns-in-None-clause-before c = sym (before_missing c.args.mark c.args.octets.now c.in-None.ensures.none)

pub returns-in-None-clause-following : goal.returns-in-None-clause-following
returns-in-None-clause-following c = sym (after_missing c.args.mark c.args.octets.now c.in-None.ensures.none)
