use Rattle.std.proofs.Common.{◌≡◌, ◌++◌, ◌≤◌, length, vec_capacity}
use Rattle.kept_mail.specs.private.Chains.{AreChained}
use Rattle.kept_mail.proofs.contents.put_messages.Given as goal

abbrev pub invariant-loop-message : goal.invariant-loop-message
invariant-loop-message l = record {
  can_next : (goal.iterator-loop-message).can_next l.message-iterator;
  finite : (goal.iterator-loop-message).is_finite l.message-iterator;
  left : l.yielded ++ l.message-iterator.rest.items ≡ l.initial.message-iterator.rest.items;
  messages_is : l.messages.items ≡ l.initial.messages.items ++ l.yielded;
  chained : AreChained l.messages.items l.contents.items l.previous.items;
  count : length l.contents.items ≡ length l.initial.contents.items;
  room : vec_capacity l.initial.messages ≤ vec_capacity l.messages;
  room_before : vec_capacity l.initial.previous ≤ vec_capacity l.previous;
}
