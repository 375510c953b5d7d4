use Rattle.std.proofs.Common.{[], ◌∷◌}
use Rattle.std.proofs.lemmas.Result.{on_ok_weaker}
use Rattle.address_grammar.specs.Addresses.{address_text}
use Rattle.address_lists.proofs.AddedPieces.{line_grows}
use Rattle.address_lists.proofs.written_mailboxes.push_angled.Goals as goal

pub returns : goal.returns
returns c =
    let address = address_text c.args.address.now in
    on_ok_weaker c.push.result (λ e. line_grows (60 ∷ address) (62 ∷ []) c.args.made.now _ _ (line_grows (60 ∷ []) address c.args.made.now _ _ c.in_ok-push_slice.ensures.ok c.in_ok-push_address.ensures) e) c.push.ensures.ok
