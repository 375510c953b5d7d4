use Rattle.std.proofs.Common.{[]}
use Rattle.std.proofs.lemmas.Result.{on_ok_weaker}
use Rattle.field_tokens.specs.Lexemes.{values_of}
use Rattle.field_tokens.specs.Squeezed.{octets_of}
use Rattle.address_lists.proofs.AddedPieces.{adds_piece, line_grows}
use Rattle.address_lists.proofs.writing.push_joined.Goals as goal

pub returns : goal.returns
returns c =
    let piece = octets_of (values_of c.args.lexemes) in
    on_ok_weaker c.push_octets.result (λ e. adds_piece piece _ _ (line_grows [] piece c.args.made.now _ _ c.in_ok-push_line.ensures e)) c.push_octets.ensures
