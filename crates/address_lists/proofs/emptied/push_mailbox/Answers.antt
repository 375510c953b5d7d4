use Rattle.std.proofs.lemmas.Result.{on_ok_weaker}
use Rattle.address_lists.proofs.UnitsOnto.{member_bare, member_named}
use Rattle.address_lists.proofs.emptied.push_mailbox.Goals as goal

pub returns-then-not-mailbox : goal.returns-then-not-mailbox
returns-then-not-mailbox c = on_ok_weaker c.push_address_text.result (λ t. member_bare _ _ c.requires.mailbox.0 _ _ _ c.if-not-mailbox.true c.requires.mailbox.1 t) c.push_address_text.ensures

pub returns : goal.returns
returns c = on_ok_weaker c.push_text-2.result
    (λ t. member_named _ _ _ _ _ _ _ _ _ c.if-not-mailbox.false c.in_ok-push_display.ensures c.in_ok-push_text.ensures c.in_ok-push_address_text.ensures t) c.push_text-2.ensures
