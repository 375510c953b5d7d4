use Rattle.param_grammar.specs.private.Marked.{tokens_of}
use Rattle.param_2231.proofs.GivenLemmas.{tokens_told}
use Rattle.param_2231.proofs.WrittenBody.{no_body, no_params}
use Rattle.param_2231.proofs.rewriting.read_placed.Goals as goal

pub returns-in_default-2-clause-none : goal.returns-in_default-2-clause-none
returns-in_default-2-clause-none c =
    let has = tokens_told c.args.text.now c.in-Some.marks.items _ c.new.result (rw (c.in-Some.is) at c.in_ok-marks.ensures.some) c.new.ensures c.deref.ensures.value in
    no_body c.args.kind c.args.text.now (tokens_of c.new.result) has (rw (c.in_default-2.is) at c.in_ok-main.ensures.none)

pub returns-in-None-clause-none : goal.returns-in-None-clause-none
returns-in-None-clause-none c =
    let has = tokens_told c.args.text.now c.in-Some.marks.items _ c.new.result (rw (c.in-Some.is) at c.in_ok-marks.ensures.some) c.new.ensures c.deref.ensures.value in
    let found = rw (c.in-Some-2.is) at c.in_ok-main.ensures.found in
    no_params c.args.kind c.args.text.now _ (tokens_of c.new.result) found.0 has found.1 (rw (c.in-None.is) at (c.in_ok-placed.ensures.none found.0 found.2))

pub returns-in-Some-3-clause-found : goal.returns-in-Some-3-clause-found
returns-in-Some-3-clause-found c =
    let has = tokens_told c.args.text.now c.in-Some.marks.items _ c.new.result (rw (c.in-Some.is) at c.in_ok-marks.ensures.some) c.new.ensures c.deref.ensures.value in
    let found = rw (c.in-Some-2.is) at c.in_ok-main.ensures.found in
    record {
      tokens = tokens_of c.new.result;
      has_tokens = has;
      pieces = found.0;
      writes = found.1;
      has_placed = rw (c.in-Some-3.is) at (c.in_ok-placed.ensures.found found.0 found.2);
    }
