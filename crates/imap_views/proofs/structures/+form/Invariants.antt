use Rattle.std.proofs.Common.{◌+◌, ◌-◌, ◌*◌}
use Rattle.imap_views.specs.private.Reading.{seen_by}
use Rattle.imap_views.proofs.Forms.{AddsForms}
use Rattle.imap_views.proofs.structures.+form.Given as goal

abbrev pub decreases-push_form : goal.decreases-push_form
decreases-push_form l = 2 * l.place.levels + 1

abbrev pub decreases-push_message : goal.decreases-push_message
decreases-push_message l = 2 * l.place.levels

abbrev pub decreases-push_multipart : goal.decreases-push_multipart
decreases-push_multipart l = 2 * l.place.levels

abbrev pub invariant-push_multipart-loop-number : goal.invariant-push_multipart-loop-number
invariant-push_multipart-loop-number l = AddsForms (l.place.levels - 1) (seen_by l.seeing) l.digest l.number-items l.number-index l.initial.made l.made
