use Rattle.std.proofs.Common.{◌≡◌, ◌++◌, false, take}
use Rattle.std.specs.Prelude.{map}
use Rattle.std.specs.List.{join_with_byte}
use Rattle.imap_session.specs.Items.{field_name}
use Rattle.imap_session.proofs.FetchLemmas.{stands_after}
use Rattle.imap_session.proofs.sections.push_field_names.Given as goal

abbrev pub invariant-loop-field : goal.invariant-loop-field
invariant-loop-field l = record {
  is_separated : l.is_separated ≡ stands_after false (take l.field-index l.fields);
  joined : l.name ≡ l.fn.name ++ join_with_byte 32 (map field_name (take l.field-index l.fields));
}
