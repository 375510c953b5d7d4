use Rattle.std.proofs.Common.{[], ◌∷◌}
use Rattle.std.proofs.lemmas.Result.{on_ok_weaker}
use Rattle.address_grammar.specs.Addresses.{quoted_string}
use Rattle.imap_views.specs.Strings.{nstring}
use Rattle.imap_views.proofs.SpacedLemmas.{spaced_one, spaced_more, spaced_put, spaced_put-apart}
use Rattle.imap_views.proofs.parts.push_basic_words.Goals as goal

pub returns : goal.returns
returns c =
    let old = c.args.made.now in
    let main = spaced_one old _ _ (rw (c.as_slice.ensures) at c.in_ok-push_main_type.ensures) in
    let sub = spaced_put-apart old _ _ _ _ _ _ main c.in_ok-push.ensures.ok (rw (c.as_slice-2.ensures) at c.in_ok-push_sub_type.ensures) in
    let params = spaced_put old _ _ _ _ _ sub (rw (c.as_slice-3.ensures) at c.in_ok-push_after_space.ensures) in
    let part = c.args.part.now in
    let others = spaced_more old _ _ (nstring part.id ∷ nstring part.description ∷ quoted_string part.encoding ∷ []) _ _ params c.in_ok-push_other_words.ensures in
    on_ok_weaker c.push_number.result (λ put. spaced_put-apart old _ _ _ _ _ _ others c.in_ok-push-2.ensures.ok put) c.push_number.ensures
