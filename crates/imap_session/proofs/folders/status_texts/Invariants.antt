use Rattle.std.proofs.Common.{◌≡◌, take}
use Rattle.std.specs.Prelude.{map}
use Rattle.imap_session.specs.Machine.{spaced, status_among}
use Rattle.imap_session.proofs.folders.status_texts.Given as goal

abbrev pub invariant-loop-place : goal.invariant-loop-place
invariant-loop-place l = l.texts ≡ spaced (map (λ item. status_among item l.messages l.next) (take l.place l.items))
