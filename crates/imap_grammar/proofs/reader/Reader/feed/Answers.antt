use Rattle.std.proofs.Common.{refl, sym, ap, subst, ◌∙◌}
use Rattle.imap_grammar.specs.Standing.{HasLineEnd, line_with}
use Rattle.imap_grammar.proofs.FeedLaws.{stands_put, at_found, tells_due, stands_due}
use Rattle.imap_grammar.proofs.reader.Reader.feed.Goals as goal

pub returns-in-TooLong-clause-observed : goal.returns-in-TooLong-clause-observed
returns-in-TooLong-clause-observed c = λ seen s.
    let f = c.in-TooLong.ensures.finds c.args.utf8 seen s in
    (f.0, c.in-TooLong.ensures.bound, f.1, f.2)

pub returns-in_ok-put-in-Waiting-clause-observed : goal.returns-in_ok-put-in-Waiting-clause-observed
returns-in_ok-put-in-Waiting-clause-observed c = λ seen s. (refl, (c.in-Waiting.ensures.finds c.args.utf8 seen s).0)

pub returns-in_ok-put-in-Waiting-clause-stands : goal.returns-in_ok-put-in-Waiting-clause-stands
returns-in_ok-put-in-Waiting-clause-stands c = λ seen s.
    let f = c.in-Waiting.ensures.finds c.args.utf8 seen s in
    stands_put c.args.utf8 c.args.self.now seen s c.args.piece.now _ c.in_ok-put-in-Waiting.ensures f.2 f.1

pub whole_line-requires : goal.whole_line-requires
whole_line-requires c = subst HasLineEnd (sym (c.in_ok-put-in-Whole.ensures.line ∙ ap (line_with c.args.self.now) c.split_at.ensures.front)) c.in-Whole.ensures.ends

pub returns-in_ok-event-in-Whole-clause-observed : goal.returns-in_ok-event-in-Whole-clause-observed
returns-in_ok-event-in-Whole-clause-observed c = λ seen s.
    let f = c.in-Whole.ensures.finds c.args.utf8 seen s in
    let at = at_found c.args.utf8 c.args.self.now seen c.args.piece.now s _ c.in-Whole.ensures.bound f _ c.split_at.ensures.front _ c.in_ok-put-in-Whole.ensures in
    tells_due c.args.utf8 seen c.args.piece.now _ _ f.0 c.in-Whole.ensures.bound f.1 (c.in_ok-event-in-Whole.ensures _ at).0

pub returns-in_ok-event-in-Whole-clause-stands : goal.returns-in_ok-event-in-Whole-clause-stands
returns-in_ok-event-in-Whole-clause-stands c = λ seen s.
    let f = c.in-Whole.ensures.finds c.args.utf8 seen s in
    let at = at_found c.args.utf8 c.args.self.now seen c.args.piece.now s _ c.in-Whole.ensures.bound f _ c.split_at.ensures.front _ c.in_ok-put-in-Whole.ensures in
    let due = c.in_ok-event-in-Whole.ensures _ at in
    stands_due c.args.utf8 seen c.args.piece.now _ _ _ due.0 due.1
