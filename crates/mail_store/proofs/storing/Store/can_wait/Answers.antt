use Rattle.std.proofs.Common.{◌+◌, ◌<◌, ◌≤◌, true, length, refl, subst, arith}
use Rattle.std.specs.Prelude.{IsTrue, ◌↔◌}
use Rattle.kept_mail.specs.declared.limits.TheConstants.{THINGS_MAX}
use Rattle.kept_mail.specs.Records.{recipient_count}
use Rattle.mail_store.specs.StoreState.{StoreState}
use Rattle.mail_store.specs.private.Adding.{CanWait}
use Rattle.kept_mail.proofs.QueueLemmas.{few_enough}
use Rattle.mail_store.proofs.storing.Store.can_wait.Goals as goal

pub returns : goal.returns
returns c =
    let is_path = c.in_ok-is_path_text.ensures.0 c.if-not-branch.false in
    let are = c.in_ok-are_addresses.ensures.0 c.if-not-branch-2.false in
    let has = c.has_room.ensures.0 c.if-not-has_room.false in
    let room : length c.self.inside.entries.items < THINGS_MAX = omega (arith, has, c.len.ensures) in
    let few : recipient_count c.self.inside.entries.items + length c.args.addresses.now ≤ THINGS_MAX =
    omega (arith, few_enough c.are_too_many.result c.self.inside.recipients (length c.args.addresses.now) c.are_too_many.ensures c.if-are_too_many.false, c.self.invariant.indexes.recipients_is) in
    subst (λ (s : StoreState). IsTrue true ↔ CanWait s.kept c.args.path.now c.args.addresses.now) c.self.view_is ((λ t. (is_path, are, room, few)), (λ h. refl))
