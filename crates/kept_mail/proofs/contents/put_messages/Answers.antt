use Rattle.std.proofs.Common.{◌+◌, ◌++◌, ◌≤◌, List, length, length-append, ap, ◌∙◌, arith, sym, ◌<◌}
use Rattle.kept_mail.specs.declared.kept.Message.{Message}
use Rattle.kept_mail.proofs.ChainLemmas.{all_middle, lengths_left}
use Rattle.kept_mail.proofs.contents.put_messages.Goals as goal

pub put_message-requires-clause-few : goal.put_message-requires-clause-few
put_message-requires-clause-few c =
    let i = c.loop-message.invariant in
    let left = ap (λ (l : List Message). c.loop-message.yielded ++ l) (sym c.in-Some.ensures.steps.0) ∙ i.left ∙ c.into_iter-message-iterator.ensures.into_iter_gives.0 in
    let some : length c.loop-message.yielded + 1 ≤ length c.args.more.items = lengths_left c.loop-message.yielded c.in-Some.message c.next.new.self.rest.items c.args.more.items left in
    omega (arith, some, c.requires.few, ap length i.messages_is, length-append c.args.messages.now.items c.loop-message.yielded)

pub put_message-requires-clause-known : goal.put_message-requires-clause-known
put_message-requires-clause-known c =
    let i = c.loop-message.invariant in
    let left = ap (λ (l : List Message). c.loop-message.yielded ++ l) (sym c.in-Some.ensures.steps.0) ∙ i.left ∙ c.into_iter-message-iterator.ensures.into_iter_gives.0 in
    let within = λ (message : Message). message.folder < length c.args.contents.now.items in
    let known = all_middle within c.loop-message.yielded c.in-Some.message c.next.new.self.rest.items (rw left c.requires.known) in
    omega (arith, known, i.count)

pub put_message-requires-clause-room : goal.put_message-requires-clause-room
put_message-requires-clause-room c =
    let i = c.loop-message.invariant in
    let left = ap (λ (l : List Message). c.loop-message.yielded ++ l) (sym c.in-Some.ensures.steps.0) ∙ i.left ∙ c.into_iter-message-iterator.ensures.into_iter_gives.0 in
    let some : length c.loop-message.yielded + 1 ≤ length c.args.more.items = lengths_left c.loop-message.yielded c.in-Some.message c.next.new.self.rest.items c.args.more.items left in
    omega (arith, some, c.requires.room, i.room, ap length i.messages_is, length-append c.args.messages.now.items c.loop-message.yielded)

pub put_message-requires-clause-room_before : goal.put_message-requires-clause-room_before
put_message-requires-clause-room_before c =
    let i = c.loop-message.invariant in
    let left = ap (λ (l : List Message). c.loop-message.yielded ++ l) (sym c.in-Some.ensures.steps.0) ∙ i.left ∙ c.into_iter-message-iterator.ensures.into_iter_gives.0 in
    let some : length c.loop-message.yielded + 1 ≤ length c.args.more.items = lengths_left c.loop-message.yielded c.in-Some.message c.next.new.self.rest.items c.args.more.items left in
    omega (arith, some, c.requires.room_before, i.room_before, i.chained.len, c.requires.chained.len, ap length i.messages_is, length-append c.args.messages.now.items c.loop-message.yielded)
