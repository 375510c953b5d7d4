use Rattle.std.proofs.Common.{◌<◌, ◌++◌, length, drop, get_or, not, ◌+◌, arith, refl, sym, ap, ◌∙◌}
use Rattle.std.proofs.lemmas.List.{drop_all}
use Rattle.field_tokens.proofs.SqueezedLemmas.{Nothing, Squeezes-blank, Squeezes-kept, Squeezes-all, Squeezes-at, neighbour_stands, not_empty, no_token, space}
use Rattle.field_tokens.proofs.squeezing.squeezed.Goals.{then-is_blank, else-is_blank+in_ok-push_token}
use Rattle.field_tokens.proofs.squeezing.squeezed.Goals as goal

pub loop-token-init : goal.loop-token-init
loop-token-init c = Nothing c.new-made.ensures refl refl

pub octets_of-requires : goal.octets_of-requires
octets_of-requires c = (neighbour_stands c.args.text.now c.args.tokens.now c.loop-token.token-index no_token c.requires c.loop-token-test.true).within

pub loop-token-preserved : goal.loop-token-preserved
loop-token-preserved c =
    let below : c.loop-token.token-index < length c.args.tokens.now = omega arith in
    let text = c.args.text.now in
    let tokens = c.args.tokens.now in
    let token = get_or tokens c.loop-token.token-index no_token in
    let rest = drop (c.loop-token.token-index + 1) tokens in
    let next = Squeezes-at text tokens c.loop-token.made c.loop-token.has_space_before c.loop-token.token-index no_token c.loop-token.invariant below in
    elim c.if-is_blank.branch [
      | then-is_blank w ↦
          let blank = Squeezes-blank text tokens c.loop-token.made c.loop-token.has_space_before (not w.is_empty-has_space_before.result) token rest next (sym c.is_blank.ensures ∙ w.if-is_blank.true)
          (λ none. ap not (w.is_empty-has_space_before.ensures.1 none)) (not_empty c.loop-token.made w.is_empty-has_space_before.result w.is_empty-has_space_before.ensures.0) in
          rw (w.made-is, w.has_space_before-is) blank
      | else-is_blank+in_ok-push_token w ↦
          let stands = neighbour_stands text tokens c.loop-token.token-index no_token c.requires below in
          let kept = Squeezes-kept text tokens c.loop-token.made _ c.loop-token.has_space_before token rest next (sym c.is_blank.ensures ∙ w.if-is_blank.false) stands.some
          (w.in_ok-push_token.ensures ∙ ap (λ r. c.loop-token.made ++ (space c.loop-token.has_space_before ++ r)) w.octets_of.ensures) in
          rw (w.made-is, w.has_space_before-is) kept
    ]

pub returns : goal.returns
returns c = Squeezes-all c.args.text.now c.args.tokens.now c.loop-token.made c.loop-token.has_space_before _ c.loop-token.invariant (drop_all c.loop-token.token-index c.args.tokens.now (omega arith))
