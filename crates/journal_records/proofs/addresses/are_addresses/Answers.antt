use Rattle.std.proofs.Common.{All, arith, refl, subst, ◌∙◌}
use Rattle.std.proofs.lemmas.List.{take_all}
use Rattle.std.proofs.lemmas.List.Elements.{All-more}
use Rattle.journal_records.specs.Addresses.{IsKeptAddress}
use Rattle.journal_records.proofs.addresses.are_addresses.Goals as goal

pub loop-text-preserved : goal.loop-text-preserved
loop-text-preserved c =
    All-more IsKeptAddress c.args.texts.now c.loop-text.text-index c.text-item.result c.loop-text-test.true c.loop-text.invariant (subst IsKeptAddress (c.as_slice.ensures ∙ c.text-item.is) (c.in_ok-is_address.ensures.0 c.if-not-branch.false))

pub returns : goal.returns
returns c = (λ t. subst (All IsKeptAddress) (take_all c.loop-text.text-index c.args.texts.now (omega arith)) c.loop-text.invariant, λ h. refl)
