use Rattle.std.proofs.Common.{ℕ, Bool, List, length, subst, rules}
use Rattle.std.specs.Cmp.Lexicographic.{slice_cmp}
use Rattle.std.specs.Ordering.{nat_cmp, is_lt}
use Rattle.std.specs.Str.{bytes_eq}
use Rattle.std.proofs.lemmas.Fn.{always_returns_same}
use Rattle.mail_wire.specs.Spans.{IsSpan}
use Rattle.param_grammar.specs.private.Ordered.{name_in}
use Rattle.param_grammar.proofs.OrderLemmas.{parted_by, run_parted}
use Rattle.param_grammar.proofs.names_order.run_of.Goals as goal

pub returns : goal.returns
returns c =
    let name : ℕ → List ℕ = name_in c.args.named.lower.now c.args.named.places.now in
    let below : ℕ → Bool = λ y. is_lt (slice_cmp nat_cmp (name y) (name c.args.number)) in
    run_parted name (length c.args.named.places.now) c.args.order.now _ _ c.args.number c.partition_point-at.result c.requires c.partition_point-at.ensures.bound
    (c.partition_point-at.ensures.partitioned below (always_returns_same _ _ _ (λ a r q k. search rules)) (parted_by name c.args.order.now c.args.number c.requires.sorted))
    (subst (λ rest. IsSpan (λ number. bytes_eq (name c.args.number) (name number)) rest c.split_run.result.0.now c.split_run.result.1.now) c.split_at.ensures.back c.split_run.ensures)
