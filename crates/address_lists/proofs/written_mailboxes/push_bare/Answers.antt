use Rattle.std.proofs.Common.{[]}
use Rattle.std.proofs.lemmas.Result.{on_ok_weaker}
use Rattle.address_grammar.specs.Addresses.{address_text}
use Rattle.address_lists.proofs.AddedPieces.{line_grows}
use Rattle.address_lists.proofs.written_mailboxes.push_bare.Goals as goal

pub returns : goal.returns
returns c = on_ok_weaker c.push_address.result (λ e. line_grows [] (address_text c.args.address.now) c.args.made.now _ _ c.in_ok-push_line.ensures e) c.push_address.ensures
