use Rattle.mime_tree.proofs.openings.opening_by_type.Goals as goal

pub returns-in-Some : goal.returns-in-Some
returns-in-Some c = rw c.in-Some.is (rw c.as_slice.ensures at c.opening_by_text.ensures)
