use Rattle.std.proofs.Common.{ap, ◌∙◌, sym, subst, length}
use Rattle.field_tokens.specs.declared.Style.TheVariants.{Mime}
use Rattle.field_tokens.specs.Tokens.{HasTokens}
use Rattle.param_grammar.specs.private.Marked.{tokens_in, tokens_of}
use Rattle.param_grammar.proofs.MarkedLemmas.{HasTokens-marks, no_tokens}
use Rattle.param_grammar.proofs.bodies.comments_of.Goals as goal

pub returns-in_default-clause-none : goal.returns-in_default-clause-none
returns-in_default-clause-none c = no_tokens c.args.text.now (rw (c.in_default.is) at c.in_ok-marks.ensures.none)

pub read_comments-requires : goal.read_comments-requires
read_comments-requires c =
    let has = HasTokens-marks c.args.text.now c.in-Some.marks.items (rw (c.in-Some.is) at c.in_ok-marks.ensures.some) in
    subst (HasTokens Mime c.args.text.now) (sym (c.new.ensures ∙ ap (tokens_in (length c.args.text.now) 0) c.deref.ensures.value)) has

pub returns-clause-found : goal.returns-clause-found
returns-clause-found c =
    let has = HasTokens-marks c.args.text.now c.in-Some.marks.items (rw (c.in-Some.is) at c.in_ok-marks.ensures.some) in (
      tokens_of c.new.result,
      subst (HasTokens Mime c.args.text.now) (sym (c.new.ensures ∙ ap (tokens_in (length c.args.text.now) 0) c.deref.ensures.value)) has,
      c.in_ok-comments.ensures,
    )
