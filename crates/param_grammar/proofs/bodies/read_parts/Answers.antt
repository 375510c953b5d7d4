use Rattle.std.proofs.Common.{sym}
use Rattle.param_grammar.specs.private.Marked.{tokens_of}
use Rattle.param_grammar.proofs.ReadLemmas.{no_main, not-IsBody-pieces, WritesBody-few}
use Rattle.param_grammar.proofs.bodies.read_parts.Goals as goal

pub returns-then-not-is_main-clause-none : goal.returns-then-not-is_main-clause-none
returns-then-not-is_main-clause-none c =
    no_main c.args.kind c.args.text.now (tokens_of c.args.tokens) _ _ c.in_ok-first.first.items c.split_section.ensures c.in_ok-first.ensures (sym (rw (c.deref.ensures.value) at c.if-not-is_main.ensures))

pub returns-in_default-clause-none : goal.returns-in_default-clause-none
returns-in_default-clause-none c =
    not-IsBody-pieces c.args.kind c.args.text.now (tokens_of c.args.tokens) _ _ c.split_section.ensures (rw (c.in_default.is) at c.in_ok-places.ensures.none)

pub returns-clause-found : goal.returns-clause-found
returns-clause-found c =
    let found = rw (c.in-Some.is) at c.in_ok-places.ensures.found in (
      found.0,
      WritesBody-few c.args.kind c.args.text.now (tokens_of c.args.tokens) _ _ c.in_ok-first.first.items _ found.0 c.split_section.ensures c.in_ok-first.ensures
          (sym (rw (c.deref.ensures.value) at c.if-not-is_main.ensures)) found.1 (rw (c.deref-2.ensures.value) at c.in_ok-written.ensures),
      found.2,
    )
