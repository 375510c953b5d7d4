use Rattle.encapsulated_fields.proofs.XtextLemmas.{not-BeginsEscape-brace, not-BeginsEscape-digits}
use Rattle.encapsulated_fields.proofs.xtext.first_escape.Goals as goal

pub returns-in_default-after_brace-clause-none : goal.returns-in_default-after_brace-clause-none
returns-in_default-after_brace-clause-none c =
    not-BeginsEscape-brace _ c.in-Some.after.now _ _ c.in-Some.ensures.found c.split_digits.ensures c.in_default-after_brace.ensures.none

pub returns-in-None-clause-none : goal.returns-in-None-clause-none
returns-in-None-clause-none c =
    not-BeginsEscape-digits _ c.in-Some.after.now _ _ c.in-Some.ensures.found c.split_digits.ensures c.in-None.ensures.none
