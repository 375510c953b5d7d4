use Rattle.std.proofs.Common.{length, sym, ap, ◌∙◌, subst}
use Rattle.std.specs.Str.{str_to_ascii_lowercase}
use Rattle.field_tokens.specs.declared.Style.TheVariants.{Mime}
use Rattle.field_tokens.specs.Tokens.{HasTokens}
use Rattle.param_grammar.specs.private.Marked.{tokens_in, tokens_of}
use Rattle.param_grammar.proofs.MarkedLemmas.{HasTokens-marks}
use Rattle.param_grammar.proofs.ParamLemmas.{HasBodyAt-read, not-HasSaidBody-parts, not-HasSaidBody-params}
use Rattle.param_grammar.proofs.bodies.body_of.Goals as goal

pub returns-in_default-2-clause-none : goal.returns-in_default-2-clause-none
returns-in_default-2-clause-none c =
    let has = HasTokens-marks c.args.text.now c.in-Some.marks.items (rw (c.in-Some.is) at c.in_ok-marks.ensures.some) in
    let tokens = subst (HasTokens Mime c.args.text.now) (sym (c.new.ensures ∙ ap (tokens_in (length c.args.text.now) 0) c.deref.ensures.value)) has in
    not-HasSaidBody-parts c.args.kind c.args.text.now (tokens_of c.new.result) tokens (rw (c.in_default-2.is) at c.in_ok-written.ensures.none)

pub returns-in_default-3-clause-none : goal.returns-in_default-3-clause-none
returns-in_default-3-clause-none c =
    let has = HasTokens-marks c.args.text.now c.in-Some.marks.items (rw (c.in-Some.is) at c.in_ok-marks.ensures.some) in
    let tokens = subst (HasTokens Mime c.args.text.now) (sym (c.new.ensures ∙ ap (tokens_in (length c.args.text.now) 0) c.deref.ensures.value)) has in
    let found = rw (c.in-Some-2.is) at c.in_ok-written.ensures.found in
    not-HasSaidBody-params c.args.kind c.args.text.now c.in-Some-2.written (tokens_of c.new.result) found.0 tokens found.1 (rw (c.in_default-3.is) at (c.in_ok-placed.ensures.none found.0 found.2))

pub returns-clause-found : goal.returns-clause-found
returns-clause-found c =
    let has = HasTokens-marks c.args.text.now c.in-Some.marks.items (rw (c.in-Some.is) at c.in_ok-marks.ensures.some) in
    let tokens = subst (HasTokens Mime c.args.text.now) (sym (c.new.ensures ∙ ap (tokens_in (length c.args.text.now) 0) c.deref.ensures.value)) has in
    let found = rw (c.in-Some-2.is) at c.in_ok-written.ensures.found in
    HasBodyAt-read c.args.kind c.args.text.now c.in-Some-2.written _ (tokens_of c.new.result) found.0 tokens found.1 (c.in_ok-main.ensures ∙ ap str_to_ascii_lowercase c.as_slice.ensures)
    (rw (c.in-Some-3.is) at (c.in_ok-placed.ensures.found found.0 found.2))
