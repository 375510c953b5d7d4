use Rattle.std.proofs.Common.{◌≡◌, length, None, ◌≤◌, ◌*◌, ◌^◌}
use Rattle.session_core.specs.Keeps.{Keeps}
use Rattle.mail_command.specs.Generating.{AreTotals}
use Rattle.mail_command.proofs.generating.put_messages.Given as goal

abbrev pub invariant-loop-message : goal.invariant-loop-message
invariant-loop-message l = record {
  keeps : Keeps l.initial.outside l.outside None;
  count : length l.outside.desk.store.kept.messages ≡ l.message;
  folders : l.outside.desk.store.kept.folders ≡ l.initial.outside.desk.store.kept.folders;
  totals : AreTotals l.message (record { stored = l.stored; served = l.served });
  few_stored : l.stored ≤ l.message * 2 ^ 64;
  few_served : l.served ≤ l.message * 2 ^ 64;
}
