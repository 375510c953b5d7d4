use Rattle.imap_grammar.proofs.LineEnds.{set_joins}
use Rattle.imap_words.proofs.InLine.{exit_more, octet_joins, first_joins}
use Rattle.std.specs.Prelude.{Err}
use Rattle.std.proofs.Common.{refl, ap}
use Rattle.imap_words.specs.Reading.{never}
use Rattle.imap_words.proofs.Going.{begins, ends_at, passes_on, never_avoids}
use Rattle.imap_words.proofs.Leaving.{here, leaves_all, leaves_then}
use Rattle.imap_grammar.specs.Commands.{IsFetch}
use Rattle.imap_grammar.proofs.FetchEnds.{goes_on, step_comes}
use Rattle.imap_grammar.proofs.ItemSteps.{after_fetch_viable, all_viable, all_stops, at_list, at_alone}
use Rattle.imap_grammar.proofs.fetch.fetch.Goals as goal

pub returns-in_err-after_space-clause-reads : goal.returns-in_err-after_space-clause-reads
returns-in_err-after_space-clause-reads c =
    passes_on _ _ c.from_residual.result _ c.from_residual.ensures.1
    (ends_at never never _ (begins (IsFetch c.args.utf8 c.args.uid) c.args.text.now) c.in_err-after_space.ensures (λ _. never_avoids _) (λ _. after_fetch_viable c.args.utf8 c.args.uid))

pub returns-in_err-ranges-clause-reads : goal.returns-in_err-ranges-clause-reads
returns-in_err-ranges-clause-reads c =
    let at = leaves_then (leaves_all (IsFetch c.args.utf8 c.args.uid) c.args.text.now) c.in_ok-after_space.ensures (λ _. never_avoids _) in
    passes_on _ _ c.from_residual-in_err-ranges.result _ c.from_residual-in_err-ranges.ensures.1 (ends_at never never _ (here at) c.in_err-ranges.ensures (λ _. never_avoids _) (all_viable c.args.utf8 c.args.uid))

pub returns-in_default-clause-reads : goal.returns-in_default-clause-reads
returns-in_default-clause-reads c =
    let at = leaves_then (leaves_all (IsFetch c.args.utf8 c.args.uid) c.args.text.now) c.in_ok-after_space.ensures (λ _. never_avoids _) in
    let following = leaves_then at c.in_ok-ranges.ensures (λ _. never_avoids _) in
    all_stops c.args.utf8 c.args.uid _ following (c.in_default.ensures.cases)

pub returns-in_err-step-clause-reads : goal.returns-in_err-step-clause-reads
returns-in_err-step-clause-reads c =
    let at = leaves_then (leaves_all (IsFetch c.args.utf8 c.args.uid) c.args.text.now) c.in_ok-after_space.ensures (λ _. never_avoids _) in
    let following = leaves_then at c.in_ok-ranges.ensures (λ _. never_avoids _) in
    let list = at_list c.args.utf8 c.args.uid _ following _ _ c.in-Some.ensures.cases.0 _ c.new.ensures c.if-first-eq40.true in
    passes_on _ _ c.from_residual-in_err-step.result _ c.from_residual-in_err-step.ensures.1 ((here list).stops never _ (c.in_err-step.ensures.reads c.args.utf8))

pub returns-then-first-eq40-clause-reads : goal.returns-then-first-eq40-clause-reads
returns-then-first-eq40-clause-reads c =
    let at = leaves_then (leaves_all (IsFetch c.args.utf8 c.args.uid) c.args.text.now) c.in_ok-after_space.ensures (λ _. never_avoids _) in
    let following = leaves_then at c.in_ok-ranges.ensures (λ _. never_avoids _) in
    let list = at_list c.args.utf8 c.args.uid _ following _ _ c.in-Some.ensures.cases.0 _ c.new.ensures c.if-first-eq40.true in
    step_comes c.args.utf8 (IsFetch c.args.utf8 c.args.uid) c.args.text.now c.in_ok-step.rest.now c.in_ok-step.step c.following_step.result
    (goes_on c.args.utf8 c.in_ok-step.step c.in_ok-step.rest.now list (c.in_ok-step.ensures.reads c.args.utf8)) (c.following_step.ensures.reads c.args.utf8)

pub returns-in_err-step-2-clause-reads : goal.returns-in_err-step-2-clause-reads
returns-in_err-step-2-clause-reads c =
    let at = leaves_then (leaves_all (IsFetch c.args.utf8 c.args.uid) c.args.text.now) c.in_ok-after_space.ensures (λ _. never_avoids _) in
    let following = leaves_then at c.in_ok-ranges.ensures (λ _. never_avoids _) in
    let alone = at_alone c.args.utf8 c.args.uid _ following _ _ c.in-Some.ensures.cases.0 _ c.new-2.ensures c.if-first-eq40.false in
    passes_on _ _ c.from_residual-in_err-step-2.result _ c.from_residual-in_err-step-2.ensures.1 ((here alone).stops never _ (c.in_err-step-2.ensures.reads c.args.utf8))

pub returns-clause-reads : goal.returns-clause-reads
returns-clause-reads c =
    let at = leaves_then (leaves_all (IsFetch c.args.utf8 c.args.uid) c.args.text.now) c.in_ok-after_space.ensures (λ _. never_avoids _) in
    let following = leaves_then at c.in_ok-ranges.ensures (λ _. never_avoids _) in
    let alone = at_alone c.args.utf8 c.args.uid _ following _ _ c.in-Some.ensures.cases.0 _ c.new-2.ensures c.if-first-eq40.false in
    step_comes c.args.utf8 (IsFetch c.args.utf8 c.args.uid) c.args.text.now c.in_ok-step-2.rest.now c.in_ok-step-2.step c.following_step-2.result
    (goes_on c.args.utf8 c.in_ok-step-2.step c.in_ok-step-2.rest.now alone (c.in_ok-step-2.ensures.reads c.args.utf8)) (c.following_step-2.ensures.reads c.args.utf8)

pub returns-in_err-step-clause-more : goal.returns-in_err-step-clause-more
returns-in_err-step-clause-more c = λ e.
    let more = exit_more c.from_residual-in_err-step.result _ c.from_residual-in_err-step.ensures.1 e in
    octet_joins 32 _ _ c.in_ok-after_space.ensures refl (set_joins _ _ _ c.in_ok-ranges.ensures (first_joins 40 _ _ _ c.in-Some.ensures.cases.0 c.if-first-eq40.true refl (c.in_err-step.ensures.more (ap Err more))))

pub returns-then-first-eq40-clause-more : goal.returns-then-first-eq40-clause-more
returns-then-first-eq40-clause-more c = λ e.
    octet_joins 32 _ _ c.in_ok-after_space.ensures refl
    (set_joins _ _ _ c.in_ok-ranges.ensures (first_joins 40 _ _ _ c.in-Some.ensures.cases.0 c.if-first-eq40.true refl (c.in_ok-step.ensures.passes (c.following_step.ensures.read e) (c.following_step.ensures.more e))))

pub returns-clause-more : goal.returns-clause-more
returns-clause-more c = λ e.
    octet_joins 32 _ _ c.in_ok-after_space.ensures refl (set_joins _ _ _ c.in_ok-ranges.ensures (c.in_ok-step-2.ensures.passes (c.following_step-2.ensures.read e) (c.following_step-2.ensures.more e)))
