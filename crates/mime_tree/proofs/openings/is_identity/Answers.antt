use Rattle.mime_tree.proofs.openings.is_identity.Goals as goal

pub returns-in-Some : goal.returns-in-Some
returns-in-Some c = rw c.in-Some.is (rw c.as_slice.ensures at c.keeps_octets.ensures)
