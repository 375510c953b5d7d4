use Rattle.std.proofs.Common.{◌≡◌, ℕ, Bool, List, length, ap, ◌∙◌, subst, arith, rules}
use Rattle.std.specs.Cmp.Lexicographic.{slice_cmp, nat_list_cmp_total}
use Rattle.std.specs.List.Sorted.{IsPermutation, IsStableBy}
use Rattle.std.specs.Ordering.{nat_cmp, is_lt}
use Rattle.std.proofs.lemmas.List.Sorted.{ranks_by}
use Rattle.std.proofs.lemmas.Fn.{always_returns_same}
use Rattle.param_grammar.specs.private.Ordered.{name_in, numbers_below}
use Rattle.param_grammar.proofs.names_order.in_name_order.Goals as goal

pub returns : goal.returns
returns c =
    let name : ℕ → List ℕ = name_in c.args.named.lower.now c.args.named.places.now in
    let less : ℕ → ℕ → Bool = λ x y. is_lt (slice_cmp nat_cmp (name x) (name y)) in
    let weak = ranks_by nat_list_cmp_total name in
    let number_is : c.loop-number.number ≡ length c.args.named.places.now = let most = c.loop-number.auto.number-end in omega (arith, most, c.loop-number-test.false) in
    let all : c.loop-number.order.items ≡ numbers_below (length c.args.named.places.now) = c.loop-number.invariant ∙ ap numbers_below number_is in
    record {
      few = omega (arith, c.if-named.false);
      permutation = subst (λ xs. IsPermutation xs c.sort_by.new.self.items) all c.in_ok-sort_by.ensures.permutation;
      sorted = c.in_ok-sort_by.ensures.sorted less weak (always_returns_same _ _ _ (λ a r q k. search rules));
      stable = subst (λ xs. IsStableBy less xs c.sort_by.new.self.items) all (c.in_ok-sort_by.ensures.stable less weak (always_returns_same _ _ _ (λ a r q k. search rules)));
    }
