use Rattle.imap_views.proofs.addresses.addresses_form.Goals as goal

pub returns-in-Some : goal.returns-in-Some
returns-in-Some c = rw (c.in-Some.is) (rw (c.as_slice.ensures) at c.list_form.ensures)
