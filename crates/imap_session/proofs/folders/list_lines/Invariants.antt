use Rattle.std.proofs.Common.{◌≡◌, ◌++◌, drop}
use Rattle.std.specs.List.{flat_map}
use Rattle.session_core.specs.Oracles.{Oracles}
use Rattle.imap_session.specs.Machine.{list_line}
use Rattle.imap_session.specs.Replies.{reply_octets}
use Rattle.imap_session.proofs.folders.list_lines.Given as goal

abbrev pub invariant-loop-name : goal.invariant-loop-name
invariant-loop-name g l =
    (oracles : Oracles) → l.lines ++ reply_octets oracles (flat_map (list_line g.V.View.mode (l.reference ++ l.pattern)) (drop l.name-index l.name-items))
    ≡ reply_octets oracles (flat_map (list_line g.V.View.mode (l.reference ++ l.pattern)) l.name-items)
