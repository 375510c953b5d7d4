use Rattle.std.proofs.Common.{◌≡◌, length, ◌∙◌, arith}
use Rattle.std.proofs.lemmas.List.{with_items_is}
use Rattle.block_pool.proofs.PutLemmas.{put_done}
use Rattle.block_pool.proofs.pool.Pool.put.Goals as goal

pub invariant_of-self : goal.invariant_of-self
invariant_of-self c =
    let written = rw (c.deref_mut.ensures.value, c.deref.ensures.value) at c.fill-self-inside.ensures.filled in
    let following = rw c.deref.ensures.value at c.fill-self-inside.ensures.following in
    let size : length c.fill-self-inside.new.region ≡ c.self.inside.region.len = omega (arith, c.fill-self-inside.auto.region, c.deref_mut.ensures.len, c.deref_mut.ensures.value, c.self.inside.region.ok) in
    let now = with_items_is c.self.inside.region c.fill-self-inside.new.region size ∙ written in
    (put_done _ _ _ _ _ c.self.invariant _ c.self.view_is c.args.octets.now _ c.needed-blocks.ensures (omega (arith, c.if-self-blocks.false)) _ now _ following).sound

pub returns-clause-fresh : goal.returns-clause-fresh
returns-clause-fresh c =
    let written = rw (c.deref_mut.ensures.value, c.deref.ensures.value) at c.fill-self-inside.ensures.filled in
    let following = rw c.deref.ensures.value at c.fill-self-inside.ensures.following in
    (put_done _ _ _ _ _ c.self.invariant _ c.self.view_is c.args.octets.now _ c.needed-blocks.ensures (omega (arith, c.if-self-blocks.false)) _ written _ following).fresh

pub returns-clause-puts : goal.returns-clause-puts
returns-clause-puts c =
    let written = rw (c.deref_mut.ensures.value, c.deref.ensures.value) at c.fill-self-inside.ensures.filled in
    let following = rw c.deref.ensures.value at c.fill-self-inside.ensures.following in
    let size : length c.fill-self-inside.new.region ≡ c.self.inside.region.len = omega (arith, c.fill-self-inside.auto.region, c.deref_mut.ensures.len, c.deref_mut.ensures.value, c.self.inside.region.ok) in
    let now = with_items_is c.self.inside.region c.fill-self-inside.new.region size ∙ written in
    (put_done _ _ _ _ _ c.self.invariant _ c.self.view_is c.args.octets.now _ c.needed-blocks.ensures (omega (arith, c.if-self-blocks.false)) _ now _ following).puts
