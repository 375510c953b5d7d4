use Rattle.std.proofs.lemmas.Result.{on_ok_weaker}
use Rattle.address_lists.proofs.UnitsOnto.{bare_not_served, named_not_served}
use Rattle.address_lists.proofs.emptied.push_not_served.Goals as goal

pub returns-then-not-mailbox : goal.returns-then-not-mailbox
returns-then-not-mailbox c = on_ok_weaker c.push_address_text.result (λ t. bare_not_served _ _ c.requires.mailbox.0 _ _ _ c.if-not-mailbox.true c.requires.mailbox.1 t) c.push_address_text.ensures

pub returns : goal.returns
returns c = on_ok_weaker c.push_address_text-2.result (λ t. named_not_served _ _ _ _ _ _ _ _ c.if-not-mailbox.false c.in_ok-push_display.ensures c.in_ok-push_text.ensures t) c.push_address_text-2.ensures
