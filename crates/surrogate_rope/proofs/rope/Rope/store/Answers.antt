use Rattle.std.proofs.Common.{map, arith}
use Rattle.std.proofs.lemmas.List.{length-map}
use Rattle.mime_tree.specs.Outlines.{seen_outline}
use Rattle.surrogate_rope.proofs.StoredLemmas.{all_stored, stored_small}
use Rattle.surrogate_rope.proofs.rope.Rope.store.Goals as goal

pub store_entities-requires : goal.store_entities-requires
store_entities-requires c = rw c.deref.ensures.value c.self.invariant.1

pub returns-clause-stored : goal.returns-clause-stored
returns-clause-stored c = rw (← c.self.view_is)
    (all_stored (record { pieces = c.self.inside.pieces; entities = map seen_outline c.self.inside.outlines.items; rewritten = c.self.inside.rewritten }) c.len.result c.len-2.result c.push_slice.new.self c.store.new.stored c.store_entities.new.stored c.len.ensures
    (omega (arith, c.len-2.ensures, c.self.inside.outlines.ok.0, length-map c.self.inside.outlines.items seen_outline)) (rw (c.in_ok-stored.ensures, c.counts_form-counts.ensures.form) at c.in_ok-push_slice.ensures.ok) c.in_ok-store.ensures
    (rw c.deref.ensures.value at c.in_ok-store_entities.ensures) c.self.invariant.0 c.counts_form-counts.ensures.small.0 c.counts_form-counts.ensures.small.1 c.counts_form-counts.ensures.small.2)

pub returns-clause-few : goal.returns-clause-few
returns-clause-few c = rw (← c.self.view_is)
    (stored_small c.store_entities.new.stored (record { pieces = c.self.inside.pieces; entities = map seen_outline c.self.inside.outlines.items; rewritten = c.self.inside.rewritten })
    (all_stored (record { pieces = c.self.inside.pieces; entities = map seen_outline c.self.inside.outlines.items; rewritten = c.self.inside.rewritten }) c.len.result c.len-2.result c.push_slice.new.self c.store.new.stored c.store_entities.new.stored c.len.ensures
    (omega (arith, c.len-2.ensures, c.self.inside.outlines.ok.0, length-map c.self.inside.outlines.items seen_outline)) (rw (c.in_ok-stored.ensures, c.counts_form-counts.ensures.form) at c.in_ok-push_slice.ensures.ok) c.in_ok-store.ensures
    (rw c.deref.ensures.value at c.in_ok-store_entities.ensures) c.self.invariant.0 c.counts_form-counts.ensures.small.0 c.counts_form-counts.ensures.small.1 c.counts_form-counts.ensures.small.2))
