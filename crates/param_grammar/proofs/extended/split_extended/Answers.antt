use Rattle.std.proofs.Common.{sym, ◌∙◌}
use Rattle.param_grammar.proofs.ExtendedLemmas.{not-IsExtended-first, not-IsExtended-second, not-IsExtended-charset}
use Rattle.param_grammar.proofs.extended.split_extended.Goals as goal

pub returns-in_default-clause-none : goal.returns-in_default-clause-none
returns-in_default-clause-none c = not-IsExtended-first _ c.in_default.ensures.none

pub returns-in_default-split_at_byte-clause-none : goal.returns-in_default-split_at_byte-clause-none
returns-in_default-split_at_byte-clause-none c =
    let cut = c.in-Some.ensures.found in
    not-IsExtended-second _ _ _ cut.0 cut.1 c.in_default-split_at_byte.ensures.none

pub returns-then-not-are_name_octets-clause-none : goal.returns-then-not-are_name_octets-clause-none
returns-then-not-are_name_octets-clause-none c =
    let cut = c.in-Some.ensures.found in
    not-IsExtended-charset _ _ _ cut.0 cut.1 (sym c.are_name_octets.ensures ∙ c.if-not-are_name_octets.true)
