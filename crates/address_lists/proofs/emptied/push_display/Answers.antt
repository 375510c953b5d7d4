use Rattle.std.proofs.lemmas.Result.{on_ok_weaker}
use Rattle.address_grammar.specs.Found.{found_value}
use Rattle.address_lists.proofs.WritableTokens.{before_can}
use Rattle.address_grammar.proofs.MailboxLemmas.{is_named, not_open, named_phrase}
use Rattle.address_lists.proofs.UnitsOnto.{display_taken}
use Rattle.address_lists.proofs.emptied.push_display.Goals as goal

pub unreachable-requires : goal.unreachable-requires
unreachable-requires c =
    let m = found_value c.args.mailbox.now c.requires.mailbox.0 in
    not_open _ m (is_named _ m c.requires.phrase c.requires.mailbox.1) c.in_default.ensures.none

pub push_phrase-requires-clause-phrase : goal.push_phrase-requires-clause-phrase
push_phrase-requires-clause-phrase c =
    let m = found_value c.args.mailbox.now c.requires.mailbox.0 in
    (named_phrase _ _ _ m c.in-Some.ensures.found (is_named _ m c.requires.phrase c.requires.mailbox.1) c.requires.phrase).0

pub push_phrase-requires-clause-writable : goal.push_phrase-requires-clause-writable
push_phrase-requires-clause-writable c = let s = c.in-Some.ensures.found in before_can _ _ _ s.at s.whole c.requires.writable

pub returns : goal.returns
returns c = on_ok_weaker c.push_phrase.result (λ t. display_taken _ _ _ _ c.requires.mailbox.0 _ _ _ _ c.in-Some.ensures.found c.requires.phrase c.requires.mailbox.1 t) c.push_phrase.ensures
