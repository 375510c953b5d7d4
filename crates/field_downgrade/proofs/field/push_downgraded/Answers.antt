use Rattle.std.proofs.Common.{false, refl, sym, subst, ◌∙◌}
use Rattle.field_downgrade.specs.Message.{IsServedField}
use Rattle.field_downgrade.proofs.NamingLemmas.{named_served}
use Rattle.field_downgrade.proofs.Rewriting.{IsServed-kept, puts_high}
use Rattle.field_downgrade.proofs.field.push_downgraded.Goals as goal

pub returns-then-not-is_ascii : goal.returns-then-not-is_ascii
returns-then-not-is_ascii c = puts_high c.args.open_global c.args.raw.now c.args.made.now c.push_high.new.made (sym c.is_ascii.ensures ∙ c.if-not-is_ascii.true) c.in_ok-push_high.ensures

pub returns-then-not-open_global : goal.returns-then-not-open_global
returns-then-not-open_global c = (
  subst (λ o. IsServedField o c.args.raw.now c.args.raw.now) (sym c.if-not-open_global.true) (IsServed-kept false c.args.raw.now c.requires (sym c.is_ascii.ensures ∙ c.if-not-is_ascii.false) (λ changed. changed)),
  refl,
)

pub returns : goal.returns
returns c =
    named_served c.args.open_global c.args.raw.now c.args.made.now c.push_named.new.made c.push_named.result c.requires (sym c.is_ascii.ensures ∙ c.if-not-is_ascii.false) c.if-not-open_global.false c.push_named.ensures
