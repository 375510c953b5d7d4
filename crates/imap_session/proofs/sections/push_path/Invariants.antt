use Rattle.std.proofs.Common.{◌≡◌, ◌++◌, false, take}
use Rattle.std.specs.Prelude.{map}
use Rattle.std.specs.Fmt.{decimal}
use Rattle.std.specs.List.{join_with_byte}
use Rattle.imap_session.proofs.FetchLemmas.{stands_after}
use Rattle.imap_session.proofs.sections.push_path.Given as goal

abbrev pub invariant-loop-number : goal.invariant-loop-number
invariant-loop-number l = record {
  is_separated : l.is_separated ≡ stands_after false (take l.number-index l.path);
  joined : l.name ≡ l.fn.name ++ join_with_byte 46 (map decimal (take l.number-index l.path));
}
