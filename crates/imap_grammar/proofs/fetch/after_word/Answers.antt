use Rattle.imap_grammar.specs.declared.command.FetchItem.TheVariants as item
use Rattle.imap_grammar.specs.declared.words.ItemWord.TheVariants as word
use Rattle.imap_grammar.specs.Fetching.{macro_items}
use Rattle.imap_grammar.proofs.FetchEnds.{memory_on, steps_on, items_read}
use Rattle.imap_grammar.proofs.Sames.{same_self}
use Rattle.imap_grammar.proofs.ItemSteps.{rest_left, plain_rest, macro_rest, peek_rest}
use Rattle.imap_grammar.proofs.fetch.after_word.Goals as goal

pub returns-in-Flags-clause-reads : goal.returns-in-Flags-clause-reads
returns-in-Flags-clause-reads c = λ utf8. steps_on utf8 _ (rest_left utf8 c.args.fetching c.args.text.now c.in-Flags.is (plain_rest utf8 c.args.fetching item.Flags)) (c.read_item.ensures.reads utf8)

pub returns-in-Uid-clause-reads : goal.returns-in-Uid-clause-reads
returns-in-Uid-clause-reads c = λ utf8. steps_on utf8 _ (rest_left utf8 c.args.fetching c.args.text.now c.in-Uid.is (plain_rest utf8 c.args.fetching item.Uid)) (c.read_item-in-Uid.ensures.reads utf8)

pub returns-in-InternalDate-clause-reads : goal.returns-in-InternalDate-clause-reads
returns-in-InternalDate-clause-reads c = λ utf8. steps_on utf8 _ (rest_left utf8 c.args.fetching c.args.text.now c.in-InternalDate.is (plain_rest utf8 c.args.fetching item.InternalDate)) (c.read_item-in-InternalDate.ensures.reads utf8)

pub returns-in-Size-clause-reads : goal.returns-in-Size-clause-reads
returns-in-Size-clause-reads c = λ utf8. steps_on utf8 _ (rest_left utf8 c.args.fetching c.args.text.now c.in-Size.is (plain_rest utf8 c.args.fetching item.Size)) (c.read_item-in-Size.ensures.reads utf8)

pub returns-in-Rfc822-clause-reads : goal.returns-in-Rfc822-clause-reads
returns-in-Rfc822-clause-reads c = λ utf8. steps_on utf8 _ (rest_left utf8 c.args.fetching c.args.text.now c.in-Rfc822.is (plain_rest utf8 c.args.fetching item.Rfc822)) (c.read_item-in-Rfc822.ensures.reads utf8)

pub returns-in-Rfc822Header-clause-reads : goal.returns-in-Rfc822Header-clause-reads
returns-in-Rfc822Header-clause-reads c = λ utf8. steps_on utf8 _ (rest_left utf8 c.args.fetching c.args.text.now c.in-Rfc822Header.is (plain_rest utf8 c.args.fetching item.Rfc822Header)) (c.read_item-in-Rfc822Header.ensures.reads utf8)

pub returns-in-Rfc822Text-clause-reads : goal.returns-in-Rfc822Text-clause-reads
returns-in-Rfc822Text-clause-reads c = λ utf8. steps_on utf8 _ (rest_left utf8 c.args.fetching c.args.text.now c.in-Rfc822Text.is (plain_rest utf8 c.args.fetching item.Rfc822Text)) (c.read_item-in-Rfc822Text.ensures.reads utf8)

pub returns-in-Envelope-clause-reads : goal.returns-in-Envelope-clause-reads
returns-in-Envelope-clause-reads c = λ utf8. steps_on utf8 _ (rest_left utf8 c.args.fetching c.args.text.now c.in-Envelope.is (plain_rest utf8 c.args.fetching item.Envelope)) (c.read_item-in-Envelope.ensures.reads utf8)

pub returns-in-BodyStructure-clause-reads : goal.returns-in-BodyStructure-clause-reads
returns-in-BodyStructure-clause-reads c = λ utf8. steps_on utf8 _ (rest_left utf8 c.args.fetching c.args.text.now c.in-BodyStructure.is (plain_rest utf8 c.args.fetching item.BodyStructure)) (c.read_item-in-BodyStructure.ensures.reads utf8)

pub returns-in-Body-clause-reads : goal.returns-in-Body-clause-reads
returns-in-Body-clause-reads c = λ utf8. steps_on utf8 _ (rest_left utf8 c.args.fetching c.args.text.now c.in-Body.is (same_self _)) (c.after_body.ensures.reads utf8)

pub returns-in-BodyPeek-clause-reads : goal.returns-in-BodyPeek-clause-reads
returns-in-BodyPeek-clause-reads c = λ utf8. steps_on utf8 _ (rest_left utf8 c.args.fetching c.args.text.now c.in-BodyPeek.is (peek_rest utf8 c.args.fetching)) (c.section.ensures.reads utf8)

pub returns-in_err-made-in-All-clause-reads : goal.returns-in_err-made-in-All-clause-reads
returns-in_err-made-in-All-clause-reads c = λ utf8. memory_on _ _ c.from_residual.result _ c.from_residual.ensures.1 c.in_err-made-in-All.ensures tt

pub returns-in_ok-made-in-All-clause-reads : goal.returns-in_ok-made-in-All-clause-reads
returns-in_ok-made-in-All-clause-reads c = λ utf8. items_read utf8 c.args.fetching (macro_items word.All) c.in_ok-made-in-All.ensures (rest_left utf8 c.args.fetching c.args.text.now c.in-All.is (macro_rest utf8 c.args.fetching (macro_items word.All)))

pub returns-in_err-made-in-Fast-clause-reads : goal.returns-in_err-made-in-Fast-clause-reads
returns-in_err-made-in-Fast-clause-reads c = λ utf8. memory_on _ _ c.from_residual-in_err-made-in-Fast.result _ c.from_residual-in_err-made-in-Fast.ensures.1 c.in_err-made-in-Fast.ensures tt

pub returns-in_ok-made-in-Fast-clause-reads : goal.returns-in_ok-made-in-Fast-clause-reads
returns-in_ok-made-in-Fast-clause-reads c = λ utf8. items_read utf8 c.args.fetching (macro_items word.Fast) c.in_ok-made-in-Fast.ensures (rest_left utf8 c.args.fetching c.args.text.now c.in-Fast.is (macro_rest utf8 c.args.fetching (macro_items word.Fast)))

pub returns-in_err-made-in-Full-clause-reads : goal.returns-in_err-made-in-Full-clause-reads
returns-in_err-made-in-Full-clause-reads c = λ utf8. memory_on _ _ c.from_residual-in_err-made-in-Full.result _ c.from_residual-in_err-made-in-Full.ensures.1 c.in_err-made-in-Full.ensures tt

pub returns-in_ok-made-in-Full-clause-reads : goal.returns-in_ok-made-in-Full-clause-reads
returns-in_ok-made-in-Full-clause-reads c = λ utf8. items_read utf8 c.args.fetching (macro_items word.Full) c.in_ok-made-in-Full.ensures (rest_left utf8 c.args.fetching c.args.text.now c.in-Full.is (macro_rest utf8 c.args.fetching (macro_items word.Full)))
