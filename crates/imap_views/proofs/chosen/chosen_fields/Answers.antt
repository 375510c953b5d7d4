use Rattle.std.proofs.Common.{◌++◌, ap, ◌∙◌}
use Rattle.std.proofs.lemmas.Result.{on_ok_weaker}
use Rattle.imap_views.proofs.ChosenLemmas.{chosen_made}
use Rattle.imap_views.proofs.chosen.chosen_fields.Goals as goal

pub returns-clause-ok : goal.returns-clause-ok
returns-clause-ok c =
    on_ok_weaker c.push_slice-2.result
    (λ put. (
      c.push_slice.new.self,
      chosen_made c.args.header.now c.in_ok-header.header.octets.now _ _ c.args.names.now c.args.negated c.in_ok-made.made _ c.in_ok-header.ensures.same c.in_ok-header.ensures.read
          (c.in_ok-made.ensures c.args.names.now c.in_ok-names.ensures) c.in_ok-push_slice.ensures.ok,
      put ∙ ap (λ t. c.args.out.now ++ t) c.as_slice.ensures,
    )) c.push_slice-2.ensures.ok
