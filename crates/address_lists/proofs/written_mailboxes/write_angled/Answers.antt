use Rattle.std.proofs.lemmas.Result.{on_ok_weaker}
use Rattle.address_grammar.specs.Found.{found_value}
use Rattle.encoded_words.proofs.LineLemmas.{adds_as}
use Rattle.address_lists.proofs.WritableTokens.{before_can, following_can}
use Rattle.address_grammar.proofs.MailboxLemmas.{not_open, named_phrase}
use Rattle.address_lists.proofs.ServedMailboxes.{in_brackets, angled_adds, named_pieces}
use Rattle.address_lists.proofs.written_mailboxes.write_angled.Goals as goal

pub unreachable-requires : goal.unreachable-requires
unreachable-requires c =
    let m = found_value c.args.mailbox.now c.requires.mailbox.0 in
    not_open _ m (in_brackets _ m c.requires.angle c.requires.mailbox.1) c.in_default.ensures.none

pub write_named-requires-clause-phrase : goal.write_named-requires-clause-phrase
write_named-requires-clause-phrase c =
    let m = found_value c.args.mailbox.now c.requires.mailbox.0 in
    (named_phrase _ _ _ m c.in-Some.ensures.found (in_brackets _ m c.requires.angle c.requires.mailbox.1) c.if-mailbox.true).0

pub write_named-requires-clause-before : goal.write_named-requires-clause-before
write_named-requires-clause-before c = let s = c.in-Some.ensures.found in before_can _ _ _ s.at s.whole c.requires.writable

pub write_named-requires-clause-following : goal.write_named-requires-clause-following
write_named-requires-clause-following c = let s = c.in-Some.ensures.found in following_can _ _ _ s.at s.whole c.requires.writable

pub returns-then-mailbox : goal.returns-then-mailbox
returns-then-mailbox c =
    let m = found_value c.args.mailbox.now c.requires.mailbox.0 in
    on_ok_weaker c.write_named.result
    (λ a. adds_as (λ ps n. named_pieces _ _ _ m _ ps c.in-Some.ensures.found (in_brackets _ m c.requires.angle c.requires.mailbox.1) c.if-mailbox.true c.requires.served n) a) c.write_named.ensures

pub write_comments-requires : goal.write_comments-requires
write_comments-requires c = c.requires.writable.comments

pub returns : goal.returns
returns c =
    let m = found_value c.args.mailbox.now c.requires.mailbox.0 in
    on_ok_weaker c.write_comments.result
    (λ a. angled_adds _ m _ _ _ _ (in_brackets _ m c.requires.angle c.requires.mailbox.1) c.if-mailbox.false c.requires.served c.in_ok-push_angled.ensures a) c.write_comments.ensures
