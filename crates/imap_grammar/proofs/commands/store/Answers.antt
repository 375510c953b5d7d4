use Rattle.imap_words.specs.Reading.{never}
use Rattle.imap_words.proofs.Going.{begins, onwards, and_then, ends_at, passes_on, never_avoids, is_viable, is_reads}
use Rattle.imap_grammar.specs.Flags.{after_storing}
use Rattle.imap_grammar.specs.Commands.{IsStore}
use Rattle.imap_grammar.proofs.StoreSteps.{word_avoids, flags_viable, after_word_viable, after_set_viable, told_by_bits, store_viable}
use Rattle.imap_grammar.proofs.commands.store.Goals as goal

pub returns-in_err-after_space-clause-reads : goal.returns-in_err-after_space-clause-reads
returns-in_err-after_space-clause-reads c =
    passes_on _ _ c.from_residual.result _ c.from_residual.ensures.1 (ends_at never never _ (begins (IsStore c.args.uid) c.args.text.now) c.in_err-after_space.ensures (λ _. never_avoids _) (λ _. store_viable c.args.uid))

pub returns-in_err-ranges-clause-reads : goal.returns-in_err-ranges-clause-reads
returns-in_err-ranges-clause-reads c =
    let spaced = onwards (begins (IsStore c.args.uid) c.args.text.now) c.in_ok-after_space.ensures (λ _. never_avoids _) in
    passes_on _ _ c.from_residual-in_err-ranges.result _ c.from_residual-in_err-ranges.ensures.1 (ends_at never never _ spaced c.in_err-ranges.ensures (λ _. never_avoids _) (after_set_viable c.args.uid))

pub returns-in_err-op-clause-reads : goal.returns-in_err-op-clause-reads
returns-in_err-op-clause-reads c =
    let spaced = onwards (begins (IsStore c.args.uid) c.args.text.now) c.in_ok-after_space.ensures (λ _. never_avoids _) in
    let set = onwards spaced c.in_ok-ranges.ensures (λ _. never_avoids _) in
    passes_on _ _ c.from_residual-in_err-op.result _ c.from_residual-in_err-op.ensures.1 (ends_at after_storing never _ set c.in_err-op.ensures (word_avoids c.args.uid c.in_ok-ranges.ranges) (after_word_viable c.args.uid c.in_ok-ranges.ranges))

pub returns-in_err-following-clause-reads : goal.returns-in_err-following-clause-reads
returns-in_err-following-clause-reads c =
    let spaced = onwards (begins (IsStore c.args.uid) c.args.text.now) c.in_ok-after_space.ensures (λ _. never_avoids _) in
    let set = onwards spaced c.in_ok-ranges.ensures (λ _. never_avoids _) in
    let word = onwards set c.in_ok-op.ensures (word_avoids c.args.uid c.in_ok-ranges.ranges) in
    passes_on _ _ c.from_residual-in_err-following.result _ c.from_residual-in_err-following.ensures.1 (ends_at never never _ word c.in_err-following.ensures (λ _. never_avoids _) (λ _. flags_viable c.args.uid c.in_ok-ranges.ranges _))

pub returns-in_err-flags-clause-reads : goal.returns-in_err-flags-clause-reads
returns-in_err-flags-clause-reads c =
    let spaced = onwards (begins (IsStore c.args.uid) c.args.text.now) c.in_ok-after_space.ensures (λ _. never_avoids _) in
    let set = onwards spaced c.in_ok-ranges.ensures (λ _. never_avoids _) in
    let word = onwards set c.in_ok-op.ensures (word_avoids c.args.uid c.in_ok-ranges.ranges) in
    let following = onwards word c.in_ok-following.ensures (λ _. never_avoids _) in
    passes_on _ _ c.from_residual-in_err-flags.result _ c.from_residual-in_err-flags.ensures.1
    (ends_at never never _ (and_then _ _ _ _ _ _ following (told_by_bits c.args.uid c.in_ok-ranges.ranges _ _)) c.in_err-flags.ensures.reads (λ _. never_avoids _) (λ n. is_viable _))

pub returns-clause-reads : goal.returns-clause-reads
returns-clause-reads c =
    let spaced = onwards (begins (IsStore c.args.uid) c.args.text.now) c.in_ok-after_space.ensures (λ _. never_avoids _) in
    let set = onwards spaced c.in_ok-ranges.ensures (λ _. never_avoids _) in
    let word = onwards set c.in_ok-op.ensures (word_avoids c.args.uid c.in_ok-ranges.ranges) in
    let following = onwards word c.in_ok-following.ensures (λ _. never_avoids _) in
    let told = and_then _ _ _ _ _ _ following (told_by_bits c.args.uid c.in_ok-ranges.ranges _ _) in
    λ utf8. (onwards told c.in_ok-flags.ensures.reads (λ _. never_avoids _)).reads never _ _ (is_reads _ _)
