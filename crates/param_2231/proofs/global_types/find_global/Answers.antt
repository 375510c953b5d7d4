use Rattle.std.proofs.Common.{sym}
use Rattle.param_grammar.specs.private.Marked.{tokens_of}
use Rattle.param_2231.proofs.GivenLemmas.{tokens_told}
use Rattle.param_2231.proofs.GlobalLemmas.{not-NamesGlobal-says, not-NamesGlobal-main, global_found, global_not_found}
use Rattle.param_2231.proofs.global_types.find_global.Goals as goal

pub returns-in_default-clause-none : goal.returns-in_default-clause-none
returns-in_default-clause-none c = not-NamesGlobal-says c.args.text.now (rw (c.in_default.is) at c.in_ok-main.ensures.none)

pub returns-then-not-is_global-clause-none : goal.returns-then-not-is_global-clause-none
returns-then-not-is_global-clause-none c =
    let found = rw (c.in-Some.is) at c.in_ok-main.ensures.found in
    not-NamesGlobal-main c.args.text.now c.in-Some.main found.0 found.1 found.2 (sym (rw (c.as_slice.ensures) at c.if-not-is_global.ensures))

pub returns-clause-found : goal.returns-clause-found
returns-clause-found c =
    let found = rw (c.in-Some.is) at c.in_ok-main.ensures.found in
    let has = tokens_told c.args.text.now c.in-Some-2.marks.items _ c.new.result (rw (c.in-Some-2.is) at c.in_ok-marks.ensures.some) c.new.ensures c.deref.ensures.value in
    global_found c.args.text.now c.in-Some.main found.0 found.1 (tokens_of c.new.result) c.third_place.result found.2 (sym (rw (c.as_slice.ensures) at c.if-not-is_global.ensures)) has
    c.third_place.ensures.found

pub returns-clause-none : goal.returns-clause-none
returns-clause-none c =
    let has = tokens_told c.args.text.now c.in-Some-2.marks.items _ c.new.result (rw (c.in-Some-2.is) at c.in_ok-marks.ensures.some) c.new.ensures c.deref.ensures.value in
    global_not_found c.args.text.now (tokens_of c.new.result) c.third_place.result has c.third_place.ensures.none
