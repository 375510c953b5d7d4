use Rattle.std.proofs.Common.{refl, sym, ◌∙◌}
use Rattle.field_downgrade.proofs.SqueezedTokens.{Squeezes-blank, Squeezes-kept, Squeezes-end}
use Rattle.field_downgrade.proofs.squeezing.squeezed.Goals as goal

pub loop-token-init : goal.loop-token-init
loop-token-init c = rw (c.new-made.ensures) (refl, refl)

pub loop-token-preserved-then-is_blank : goal.loop-token-preserved-then-is_blank
loop-token-preserved-then-is_blank c =
    Squeezes-blank _ c.loop-token.made c.loop-token.is_after c.loop-token.has_space_before _ _ (rw (c.in-Some.ensures.found) at c.loop-token.invariant) (sym c.is_blank.ensures ∙ c.if-is_blank.true)

pub loop-token-preserved : goal.loop-token-preserved
loop-token-preserved c =
    Squeezes-kept _ c.loop-token.made c.push_token.new.made c.loop-token.is_after c.loop-token.has_space_before _ _ (rw (c.in-Some.ensures.found) at c.loop-token.invariant) (sym c.is_blank.ensures ∙ c.if-is_blank.false)
    c.in_ok-push_token.ensures

pub returns : goal.returns
returns c = Squeezes-end _ _ c.loop-token.is_after c.loop-token.has_space_before _ c.loop-token.invariant c.in_default.ensures.none
