use Rattle.std.proofs.lemmas.Str.{IsUtf8-past_char}
use Rattle.encapsulated_fields.proofs.XtextLemmas.{not-BeginsWith-nil, BeginsWith-plain, not-BeginsWith-escape, escape_cut, BeginsWith-escape}
use Rattle.encapsulated_fields.proofs.xtext.first_item.Goals as goal

pub returns-in_default-clause-none : goal.returns-in_default-clause-none
returns-in_default-clause-none c = not-BeginsWith-nil c.args.text.now c.in_default.ensures.none

pub returns-then-first-ne92-clause-found : goal.returns-then-first-ne92-clause-found
returns-then-first-ne92-clause-found c = BeginsWith-plain _ _ _ c.in-Some.ensures.first c.if-first-ne92.true

pub returns-in_default-first_escape-clause-none : goal.returns-in_default-first_escape-clause-none
returns-in_default-first_escape-clause-none c =
    not-BeginsWith-escape _ c.in-Some.after.now _ _ c.in-Some.ensures.first.1 c.if-first-ne92.false c.as_bytes.ensures.value c.in_default-first_escape.ensures.none

pub split_at-requires : goal.split_at-requires
split_at-requires c =
    escape_cut c.in-Some.after.now _ _ _ (IsUtf8-past_char _ _ _ c.utf8.text c.in-Some.ensures.first.1) c.as_bytes.ensures.value c.in-Some-first_escape.ensures.found

pub returns-clause-found : goal.returns-clause-found
returns-clause-found c =
    BeginsWith-escape _ c.in-Some.after.now _ _ _ _ _ c.in-Some.ensures.first.1 c.if-first-ne92.false c.as_bytes.ensures.value c.in-Some-first_escape.ensures.found c.split_at.ensures.back
