use Rattle.mime_tree.proofs.OneTree.{one_tree}
use Rattle.mime_tree.proofs.NoFaults.{no_tree_fault}
use Rattle.mime_tree.proofs.OneTreeFault.{found_or_memory}
use Rattle.mime_tree.proofs.Whole.{whole_tree, whole_fault}
use Rattle.mime_tree.proofs.reading.read_sound_tree.Goals as goal

pub returns-in-Ok-clause-tree : goal.returns-in-Ok-clause-tree
returns-in-Ok-clause-tree c =
    let read = rw (c.new-boundaries.ensures.items, c.new-entities.ensures) at c.in-Ok.ensures.read in
    whole_tree c.args.octets.now c.read_entity.new.entities _ c.requires read

pub returns-in-Ok-clause-exact : goal.returns-in-Ok-clause-exact
returns-in-Ok-clause-exact c entities tree =
    let read = rw (c.new-boundaries.ensures.items, c.new-entities.ensures) at c.in-Ok.ensures.read in
    one_tree c.args.octets.now c.read_entity.new.entities entities (whole_tree c.args.octets.now c.read_entity.new.entities _ c.requires read) tree

pub returns-in-Err-clause-fault : goal.returns-in-Err-clause-fault
returns-in-Err-clause-fault c =
    let fault = rw c.new-boundaries.ensures.items at c.in-Err.ensures.fault in
    rw c.told.ensures (whole_fault c.args.octets.now c.in-Err.fault c.requires fault)

pub returns-in-Err-clause-exact : goal.returns-in-Err-clause-exact
returns-in-Err-clause-exact c entities tree =
    let fault = rw c.new-boundaries.ensures.items at c.in-Err.ensures.fault in
    no_tree_fault c.args.octets.now entities c.told.result tree (rw c.told.ensures (whole_fault c.args.octets.now c.in-Err.fault c.requires fault))

pub returns-in-Ok-clause-exact_fault : goal.returns-in-Ok-clause-exact_fault
returns-in-Ok-clause-exact_fault c fault is some =
    let read = rw (c.new-boundaries.ensures.items, c.new-entities.ensures) at c.in-Ok.ensures.read in
    absurd (some (no_tree_fault c.args.octets.now c.read_entity.new.entities fault (whole_tree c.args.octets.now c.read_entity.new.entities _ c.requires read) is))

pub returns-in-Err-clause-exact_fault : goal.returns-in-Err-clause-exact_fault
returns-in-Err-clause-exact_fault c fault is some =
    let found = rw c.new-boundaries.ensures.items at c.in-Err.ensures.fault in
    found_or_memory c.args.octets.now c.told.result fault (rw c.told.ensures (whole_fault c.args.octets.now c.in-Err.fault c.requires found)) is some
