use Rattle.std.proofs.Common.{refl}
use Rattle.address_grammar.specs.Found.{found_value}
use Rattle.address_grammar.proofs.MailboxLemmas.{is_named, not_open, named_phrase, display_read, display_none}
use Rattle.address_grammar.proofs.mailboxes.read_display.Goals as goal

pub returns-then-not-found : goal.returns-then-not-found
returns-then-not-found c = display_none _ _ c.requires.0 _ c.if-not-found.true (rw (c.from_vec.ensures, c.new.ensures.items) refl) c.requires.1

pub unreachable-requires : goal.unreachable-requires
unreachable-requires c =
    let m = found_value c.args.found.now c.requires.0 in
    not_open _ m (is_named _ m c.if-not-found.false c.requires.1) c.in_default.ensures.none

pub read_phrase-requires : goal.read_phrase-requires
read_phrase-requires c =
    let m = found_value c.args.found.now c.requires.0 in
    (named_phrase _ _ _ m c.in-Some.ensures.found (is_named _ m c.if-not-found.false c.requires.1) c.if-not-found.false).0

pub returns : goal.returns
returns c = rw (c.from_vec-2.ensures) (display_read _ _ _ _ c.requires.0 _ c.in-Some.ensures.found c.if-not-found.false c.requires.1 c.in_ok-units.ensures)
