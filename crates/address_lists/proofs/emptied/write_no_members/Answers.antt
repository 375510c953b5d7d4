use Rattle.std.proofs.lemmas.Result.{on_ok_weaker}
use Rattle.field_tokens.specs.Lexemes.{values_of}
use Rattle.address_lists.proofs.AddedPieces.{no_members_adds}
use Rattle.address_lists.proofs.emptied.write_no_members.Goals as goal

pub returns : goal.returns
returns c = on_ok_weaker c.write_comments.result (λ a. no_members_adds (values_of c.args.lexemes) _ _ _ c.in_ok-push_line.ensures a) c.write_comments.ensures
