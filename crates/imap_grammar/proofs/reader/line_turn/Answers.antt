use Rattle.std.proofs.Common.{[], ◌++◌, ap, sym, ◌∙◌, subst}
use Rattle.std.specs.Prelude.{Err}
use Rattle.imap_words.specs.Going.{Leaves}
use Rattle.imap_grammar.specs.Commands.{IsCommand}
use Rattle.imap_grammar.specs.Events.{HasTag}
use Rattle.imap_grammar.specs.Standing.{left_of, Reached, TurnTells, size_of}
use Rattle.imap_grammar.proofs.TurnSteps.{first_tells, first_stops, is_sized, after_tells, after_stops}
use Rattle.imap_grammar.proofs.reader.line_turn.Goals as goal

pub unreachable-requires : goal.unreachable-requires
unreachable-requires c = subst (HasTag c.args.line.now) c.in_default.is c.in_ok-tag-in-Begin.ensures c.in-Ok.ensures.reads.0 c.in-Ok.ensures.reads.2

pub returns-in-Ok : goal.returns-in-Ok
returns-in-Ok c = λ front l reached alone sized is_line.
    subst (TurnTells c.args.utf8 (front ++ (c.args.literal ++ c.args.line.now))) (sym c.went.ensures)
    (first_tells c.args.utf8 front c.args.literal c.args.line.now c.in-Some.tag c.in-Ok.next (subst (λ z. Reached c.args.utf8 z front) c.in-Begin.is reached) alone (sized ∙ ap size_of c.in-Begin.is) is_line
    (subst (HasTag c.args.line.now) c.in-Some.is c.in_ok-tag-in-Begin.ensures) c.in-Ok.ensures.reads)

pub stopped-requires : goal.stopped-requires
stopped-requires c = λ e. c.requires (c.in-Err.ensures.more (ap Err e))

pub stopped-requires-in-Err-following_literal : goal.stopped-requires-in-Err-following_literal
stopped-requires-in-Err-following_literal c = λ e. c.requires (c.in-Err-following_literal.ensures.more (ap Err e))

pub returns-in-Begin : goal.returns-in-Begin
returns-in-Begin c = λ front l reached alone sized is_line.
    first_stops c.args.utf8 front c.args.literal c.args.line.now c.in_ok-tag-in-Begin.tag c.in-Err.stop c.stopped.result (subst (λ z. Reached c.args.utf8 z front) c.in-Begin.is reached) (sized ∙ ap size_of c.in-Begin.is) c.in-Err.ensures.reads
    c.in_ok-tag-in-Begin.ensures c.stopped.ensures

pub returns-in-Ok-following_literal : goal.returns-in-Ok-following_literal
returns-in-Ok-following_literal c = λ front l reached alone sized is_line.
    let left = subst (λ z. Leaves (IsCommand c.args.utf8) front (left_of c.args.utf8 z) []) c.in-AfterLiteral.is l in
    let there = subst (λ z. Reached c.args.utf8 z front) c.in-AfterLiteral.is reached in
    let same = sized ∙ ap size_of c.in-AfterLiteral.is in
    let comes = c.in-Ok-following_literal.ensures.reads (is_sized c.args.utf8 c.in-AfterLiteral.tag c.in-AfterLiteral.size c.in-AfterLiteral.awaited front c.args.literal c.args.line.now left there same) in
    subst (TurnTells c.args.utf8 (front ++ (c.args.literal ++ c.args.line.now))) (sym c.went-in-Ok-following_literal.ensures)
    (after_tells c.args.utf8 c.in-AfterLiteral.tag c.in-AfterLiteral.size c.in-AfterLiteral.awaited front c.args.literal c.args.line.now left there same alone is_line _ _ comes.0 comes.1)

pub returns : goal.returns
returns c = λ front l reached alone sized is_line.
    let left = subst (λ z. Leaves (IsCommand c.args.utf8) front (left_of c.args.utf8 z) []) c.in-AfterLiteral.is l in
    let there = subst (λ z. Reached c.args.utf8 z front) c.in-AfterLiteral.is reached in
    let same = sized ∙ ap size_of c.in-AfterLiteral.is in
    after_stops c.args.utf8 c.in-AfterLiteral.tag c.in-AfterLiteral.size c.in-AfterLiteral.awaited front c.args.literal c.args.line.now left there same c.stopped-in-Err-following_literal.result c.in-Err-following_literal.stop
    (c.in-Err-following_literal.ensures.reads (is_sized c.args.utf8 c.in-AfterLiteral.tag c.in-AfterLiteral.size c.in-AfterLiteral.awaited front c.args.literal c.args.line.now left there same)) c.stopped-in-Err-following_literal.ensures
