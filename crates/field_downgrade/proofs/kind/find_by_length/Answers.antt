use Rattle.std.proofs.Common.{◌∙◌, subst, length}
use Rattle.std.specs.Slice.{IsItemAt}
use Rattle.field_downgrade.proofs.KindLemmas.{in_part, in_none}
use Rattle.field_downgrade.proofs.kind.find_by_length.Goals as goal

pub returns-in-Some : goal.returns-in-Some
returns-in-Some c = λ table is. c.find_word.ensures
    ∙ in_part c.args.parts.now table c.args.name.now c.in-Some.part is (subst (IsItemAt c.args.parts.now (length c.args.name.now)) c.in-Some.is c.get.ensures.lookup)

pub returns-in-None : goal.returns-in-None
returns-in-None c = λ table is. in_none c.args.parts.now table c.args.name.now is (subst (IsItemAt c.args.parts.now (length c.args.name.now)) c.in-None.is c.get.ensures.lookup)
