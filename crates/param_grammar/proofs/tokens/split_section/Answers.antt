use Rattle.std.proofs.Common.{◌≡◌, ◌-◌, length, take, refl, sym, ap, ◌∙◌, arith}
use Rattle.param_grammar.specs.private.Marked.{tokens_of}
use Rattle.param_grammar.proofs.MarkedLemmas.{PassesTo-start, PassesTo-more, PassesTo-within, SplitsSection-cut, SplitsSection-whole}
use Rattle.param_grammar.proofs.tokens.split_section.Goals as goal

pub loop-token-init : goal.loop-token-init
loop-token-init c = PassesTo-start c.args.text.now (tokens_of c.args.tokens)

pub overflow_sub-len : goal.overflow_sub-len
overflow_sub-len c =
    let within = PassesTo-within c.args.text.now (tokens_of c.args.tokens) (tokens_of c.loop-token.rest) c.loop-token.invariant in
    let all = c.len.ensures in
    let left = c.len-then-is_mark.ensures in
    omega (arith, within, all, left)

pub front-requires : goal.front-requires
front-requires c = let all = c.len.ensures in omega (arith, all)

pub returns-then-is_mark : goal.returns-then-is_mark
returns-then-is_mark c =
    let count : c.len.result - c.len-then-is_mark.result ≡ length (tokens_of c.args.tokens) - length (tokens_of c.loop-token.rest) = rw (c.len.ensures, c.len-then-is_mark.ensures) refl in
    SplitsSection-cut c.args.text.now (tokens_of c.args.tokens) (tokens_of c.loop-token.rest) (tokens_of c.in-Some.following) (tokens_of c.front.result) c.in-Some.token c.loop-token.invariant
    c.in-Some.ensures.found (sym c.is_mark.ensures ∙ c.if-is_mark.true) (c.front.ensures ∙ ap (λ n. take n (tokens_of c.args.tokens)) count)

pub loop-token-preserved : goal.loop-token-preserved
loop-token-preserved c =
    PassesTo-more c.args.text.now (tokens_of c.args.tokens) (tokens_of c.loop-token.rest) (tokens_of c.in-Some.following) c.in-Some.token c.loop-token.invariant c.in-Some.ensures.found
    (sym c.is_mark.ensures ∙ c.if-is_mark.false)

pub returns : goal.returns
returns c = SplitsSection-whole c.args.text.now (tokens_of c.args.tokens) (tokens_of c.loop-token.rest) c.loop-token.invariant c.in_default.ensures.none
