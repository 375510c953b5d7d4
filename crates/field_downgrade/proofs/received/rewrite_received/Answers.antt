use Rattle.std.proofs.Common.{refl}
use Rattle.field_downgrade.proofs.ReceivedRewriting.{no_received_tokens}
use Rattle.field_downgrade.proofs.received.rewrite_received.Goals as goal

pub put_pieces-requires : goal.put_pieces-requires
put_pieces-requires c = rw (c.deref.ensures.value) (rw (c.in-Some.is) at c.in_ok-marks.ensures.some)

pub returns-in-None : goal.returns-in-None
returns-in-None c = (no_received_tokens c.args.text.now (rw (c.in-None.is) at c.in_ok-marks.ensures.none), refl)
