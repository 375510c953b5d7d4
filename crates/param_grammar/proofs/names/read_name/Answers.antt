use Rattle.std.proofs.lemmas.Bool.{iff_false}
use Rattle.param_grammar.proofs.NameLemmas.{not-HasNameParts-base, not-HasNameParts-following}
use Rattle.param_grammar.proofs.names.read_name.Goals as goal

pub returns-then-not-is_base-clause-none : goal.returns-then-not-is_base-clause-none
returns-then-not-is_base-clause-none c =
    not-HasNameParts-base c.args.name.now _ _ c.cut_name.ensures.spelled c.cut_name.ensures.first (iff_false c.is_base.ensures c.if-not-is_base.true)

pub returns-in_default-clause-none : goal.returns-in_default-clause-none
returns-in_default-clause-none c =
    not-HasNameParts-following c.args.name.now _ _ c.cut_name.ensures.spelled c.cut_name.ensures.first c.in_default.ensures.none
