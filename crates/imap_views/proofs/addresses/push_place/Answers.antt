use Rattle.std.proofs.Common.{sym, ◌∙◌}
use Rattle.imap_views.proofs.AddressForms.{place_malformed_named, place_malformed_unnamed}
use Rattle.imap_views.proofs.addresses.push_place.Goals as goal

pub returns-in-Some-clause-malformed : goal.returns-in-Some-clause-malformed
returns-in-Some-clause-malformed c = λ e.
    place_malformed_named _ _ _ (sym c.are_blank.ensures ∙ c.if-are_blank.false) c.in-Some.ensures.found (λ text is. c.push_group.ensures.malformed e _ text c.in-Some.ensures.found.splits is)

pub returns-in-None-clause-malformed : goal.returns-in-None-clause-malformed
returns-in-None-clause-malformed c = λ e. place_malformed_unnamed _ (sym c.are_blank.ensures ∙ c.if-are_blank.false) c.in-None.ensures.none (c.push_mailbox.ensures.malformed e)
