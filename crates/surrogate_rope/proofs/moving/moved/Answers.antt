use Rattle.std.proofs.Common.{◌≡◌, ◌+◌, ◌-◌, true, false, nat_le, sym, ◌∙◌, subst, arith, rules}
use Rattle.std.specs.List.Sorted.{IsPartitionPoint}
use Rattle.std.proofs.lemmas.List.Sorted.{IsPartitionPoint-from_clause, IsPartitionedBy-leb}
use Rattle.surrogate_rope.specs.declared.moving.End.{End}
use Rattle.surrogate_rope.proofs.EndLemmas.{moved_before, moved_last, last_before, last_fits}
use Rattle.surrogate_rope.proofs.moving.moved.Goals as goal

pub returns-then-following-eq0 : goal.returns-then-following-eq0
returns-then-following-eq0 c =
    let point = IsPartitionPoint-from_clause (λ (y : End). nat_le y.at c.args.place) c.args.ends.now c.partition_point-following.result c.partition_point-following.ensures.partitioned
    (IsPartitionedBy-leb (λ (y : End). y.at) c.args.ends.now c.args.place c.requires.rise) (λ a r q k. search rules) in
    let none = subst (λ n. IsPartitionPoint (λ (y : End). nat_le y.at c.args.place ≡ true) (λ (y : End). nat_le y.at c.args.place ≡ false) c.args.ends.now n) c.if-following-eq0.true point in
    sym (moved_before 0 0 c.args.ends.now c.args.place none ∙ (let same : 0 + (c.args.place - 0) ≡ c.args.place = omega arith in same))

pub overflow_sub-result : goal.overflow_sub-result
overflow_sub-result c =
    let point = IsPartitionPoint-from_clause (λ (y : End). nat_le y.at c.args.place) c.args.ends.now c.partition_point-following.result c.partition_point-following.ensures.partitioned
    (IsPartitionedBy-leb (λ (y : End). y.at) c.args.ends.now c.args.place c.requires.rise) (λ a r q k. search rules) in
    last_before c.args.ends.now c.args.place c.partition_point-following.result (record { at = 0; made = 0 }) point c.if-following-eq0.false

pub overflow_add-result : goal.overflow_add-result
overflow_add-result c =
    let point = IsPartitionPoint-from_clause (λ (y : End). nat_le y.at c.args.place) c.args.ends.now c.partition_point-following.result c.partition_point-following.ensures.partitioned
    (IsPartitionedBy-leb (λ (y : End). y.at) c.args.ends.now c.args.place c.requires.rise) (λ a r q k. search rules) in
    omega (arith, last_fits c.args.ends.now c.args.place c.partition_point-following.result (record { at = 0; made = 0 }) point c.if-following-eq0.false c.partition_point-following.ensures.bound c.requires.near c.requires.place)

pub returns : goal.returns
returns c =
    let point = IsPartitionPoint-from_clause (λ (y : End). nat_le y.at c.args.place) c.args.ends.now c.partition_point-following.result c.partition_point-following.ensures.partitioned
    (IsPartitionedBy-leb (λ (y : End). y.at) c.args.ends.now c.args.place c.requires.rise) (λ a r q k. search rules) in
    sym (moved_last c.args.ends.now c.args.place c.partition_point-following.result (record { at = 0; made = 0 }) point c.if-following-eq0.false c.partition_point-following.ensures.bound)
