use Rattle.std.proofs.Common.{Err, ap}
use Rattle.imap_views.proofs.ParamLemmas.{HasPieces-read, IsNoField-read}
use Rattle.imap_views.proofs.params.read_pieces.Goals as goal

pub returns-in-Ok-clause-found : goal.returns-in-Ok-clause-found
returns-in-Ok-clause-found c = let has = c.in-Ok.ensures.ok in (has.pieces, HasPieces-read c.args.kind c.args.text.now c.in-Ok.body has, has.has_placed)

pub returns-in-Err-Malformed-clause-none : goal.returns-in-Err-Malformed-clause-none
returns-in-Err-Malformed-clause-none c = IsNoField-read c.args.kind c.args.text.now (c.in-Err-Malformed.ensures.malformed (ap Err c.in-Err-Malformed.field-0-is))
