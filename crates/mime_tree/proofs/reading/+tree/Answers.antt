use Rattle.std.proofs.Common.{◌≡◌, [], ◌∷◌, ◌++◌, length, arith, refl, sym, ap, ◌∙◌, length-append}
use Rattle.std.proofs.lemmas.Result.{err_from_is_err_and}
use Rattle.mime_tree.specs.Parts.{parts_of}
use Rattle.mime_tree.specs.private.Reading.{region_at}
use Rattle.mime_tree.proofs.Dividing.{Dividing-none, Dividing-more, Dividing-end, Dividing-fault, memory_fault, IsStart-with, last_once}
use Rattle.mime_tree.proofs.EntityLemmas.{has_end, stop_from, entity_read, fault_head, fault_memory, fault_inside, stop_none}
use Rattle.mime_tree.proofs.reading.+tree.Goals as goal

pub read_entity-returns-in_err-head-clause-fault : goal.read_entity-returns-in_err-head-clause-fault
read_entity-returns-in_err-head-clause-fault t c =
    let p = err_from_is_err_and c.from_residual.result c.from_residual.ensures.1 in
    rw (p.1, p.2) (fault_head c.args.place.levels c.args.octets.now c.args.place.digest c.args.place.start.at (region_at c.args.boundaries.now.items c.args.octets.now c.args.place.start.from) _ (rw c.as_slice.ensures.value at c.in_err-head.ensures.fault))

pub read_entity-returns-in_err-push-clause-fault : goal.read_entity-returns-in_err-push-clause-fault
read_entity-returns-in_err-push-clause-fault t c =
    let p = err_from_is_err_and c.from_residual-in_err-push.result c.from_residual-in_err-push.ensures.1 in
    rw (p.1, p.2) (fault_memory c.args.place.levels c.args.octets.now c.args.place.digest c.args.place.start.at (region_at c.args.boundaries.now.items c.args.octets.now c.args.place.start.from) _ c.in_err-push.ensures.fault)

pub read_entity-returns-in_err-opened-clause-fault : goal.read_entity-returns-in_err-opened-clause-fault
read_entity-returns-in_err-opened-clause-fault t c =
    let p = err_from_is_err_and c.from_residual-in_err-opened.result c.from_residual-in_err-opened.ensures.1 in
    let head = rw c.as_slice.ensures.value at c.in_ok-head.ensures.head in
    let opens = rw c.as_slice-2.ensures at c.in-Ok.ensures in
    rw (p.1, p.2) (fault_inside c.args.place.levels c.args.boundaries.now.items c.args.octets.now c.args.place.digest c.args.place.start c.in_ok-head.head c.in-Ok.opening _ head opens c.in_err-opened.ensures.fault)

pub read_entity-end_of-requires : goal.read_entity-end_of-requires
read_entity-end_of-requires t c =
    let head = rw c.as_slice.ensures.value at c.in_ok-head.ensures.head in
    (has_end c.args.boundaries.now.items c.args.octets.now c.args.place.start c.in_ok-opened.opened.stop c.requires.start (stop_from c.args.boundaries.now.items c.args.octets.now c.args.place.start c.in_ok-head.head c.in_ok-opened.opened.stop head c.in_ok-opened.ensures.read.stop_is)).apart

pub read_entity-returns-clause-read : goal.read_entity-returns-clause-read
read_entity-returns-clause-read t c =
    let head = rw c.as_slice.ensures.value at c.in_ok-head.ensures.head in
    let opens = rw c.as_slice-2.ensures at c.in-Ok.ensures in
    let inside = rw (c.len-number.ensures, c.in_ok-push.ensures.ok) at c.in_ok-opened.ensures.read in
    entity_read c.args.place.levels c.args.boundaries.now.items c.args.octets.now c.args.place.parent c.args.place.digest c.args.place.start c.in_ok-head.head c.args.entities.now c.read_inside.new.entities c.settle.new.self c.in-Ok.opening c.in_ok-opened.opened c.end_of.result c.requires.levels c.requires.start head opens inside
    c.end_of.ensures (λ before rest entity is len. c.settle.ensures before rest entity is (len ∙ sym c.len-number.ensures))

pub read_parts-parts-init : goal.read_parts-parts-init
read_parts-parts-init t c =
    (Dividing-none c.args.division.levels c.args.boundaries.now.items c.args.boundary c.args.octets.now c.args.division.digest c.args.division.number (parts_of c.args.boundary c.args.division.start.at (region_at c.args.boundaries.now.items c.args.octets.now c.args.division.start.from)) c.args.division.start.from c.args.entities.now c.first_part-next.result (rw (c.as_slice.ensures.value, c.as_slice-2.ensures) at c.first_part-next.ensures), refl, refl)

pub read_parts-returns-in-End-clause-read : goal.read_parts-returns-in-End-clause-read
read_parts-returns-in-End-clause-read t c =
    let so = rw c.in-End.is at c.parts.invariant.0 in
    Dividing-end c.args.division.levels c.args.boundaries.now.items c.args.boundary c.args.octets.now c.args.division.digest c.args.division.number (parts_of c.args.boundary c.args.division.start.at (region_at c.args.boundaries.now.items c.args.octets.now c.args.division.start.from)) c.args.division.start.from c.args.entities.now c.parts.entities c.parts.shape c.in-End.stop so

pub read_parts-returns-in-End-clause-restored : goal.read_parts-returns-in-End-clause-restored
read_parts-returns-in-End-clause-restored t c = c.parts.invariant.1

pub read_parts-returns-in_err-push-in-Part-clause-fault : goal.read_parts-returns-in_err-push-in-Part-clause-fault
read_parts-returns-in_err-push-in-Part-clause-fault t c =
    let so = rw c.in-Part.is at c.parts.invariant.0 in
    let p = err_from_is_err_and c.from_residual.result c.from_residual.ensures.1 in
    rw (p.1, p.2) (Dividing-fault c.args.division.levels c.args.boundaries.now.items c.args.boundary c.args.octets.now c.args.division.digest c.args.division.number (parts_of c.args.boundary c.args.division.start.at (region_at c.args.boundaries.now.items c.args.octets.now c.args.division.start.from)) c.args.division.start.from c.args.entities.now c.parts.entities c.parts.shape c.in-Part.start _ so (memory_fault c.args.division.levels c.args.octets.now c.args.division.digest c.in-Part.start.at _))

pub read_parts-read_entity-requires : goal.read_parts-read_entity-requires
read_parts-read_entity-requires t c =
    let so = rw c.in-Part.is at c.parts.invariant.0 in
    let pushed : c.push.new.self.items ≡ c.args.boundaries.now.items ++ c.args.boundary ∷ [] = c.in_ok-push-in-Part.ensures.items ∙ rw (c.parts.invariant.1, c.parts.invariant.2) refl in
    (omega arith, (rw pushed (IsStart-with c.args.boundaries.now.items c.args.boundary c.args.octets.now c.in-Part.start so.next_is.1), c.requires.levels))

pub read_parts-returns-in_err-stop-in-Part-clause-fault : goal.read_parts-returns-in_err-stop-in-Part-clause-fault
read_parts-returns-in_err-stop-in-Part-clause-fault t c =
    let so = rw c.in-Part.is at c.parts.invariant.0 in
    let pushed : c.push.new.self.items ≡ c.args.boundaries.now.items ++ c.args.boundary ∷ [] = c.in_ok-push-in-Part.ensures.items ∙ rw (c.parts.invariant.1, c.parts.invariant.2) refl in
    let p = err_from_is_err_and c.from_residual-in_err-stop-in-Part.result c.from_residual-in_err-stop-in-Part.ensures.1 in
    rw (p.1, p.2) (Dividing-fault c.args.division.levels c.args.boundaries.now.items c.args.boundary c.args.octets.now c.args.division.digest c.args.division.number (parts_of c.args.boundary c.args.division.start.at (region_at c.args.boundaries.now.items c.args.octets.now c.args.division.start.from)) c.args.division.start.from c.args.entities.now c.parts.entities c.parts.shape c.in-Part.start _ so (rw pushed at c.in_err-stop-in-Part.ensures.fault))

pub read_parts-take_last-own-requires : goal.read_parts-take_last-own-requires
read_parts-take_last-own-requires t c =
    let pushed : c.push.new.self.items ≡ c.args.boundaries.now.items ++ c.args.boundary ∷ [] = c.in_ok-push-in-Part.ensures.items ∙ rw (c.parts.invariant.1, c.parts.invariant.2) refl in
    let count = ap length (c.in_ok-stop-in-Part.ensures.restored ∙ pushed) in
    omega (arith, count, length-append c.args.boundaries.now.items (c.args.boundary ∷ []))

pub read_parts-next_part-next-requires-clause-marked : goal.read_parts-next_part-next-requires-clause-marked
read_parts-next_part-next-requires-clause-marked t c =
    let pushed : c.push.new.self.items ≡ c.args.boundaries.now.items ++ c.args.boundary ∷ [] = c.in_ok-push-in-Part.ensures.items ∙ rw (c.parts.invariant.1, c.parts.invariant.2) refl in
    let taken = last_once c.take_last-own.new.boundaries.items c.args.boundaries.now.items c.take_last-own.result c.args.boundary (sym c.take_last-own.ensures ∙ c.in_ok-stop-in-Part.ensures.restored ∙ pushed) in
    let slice : c.as_slice-in-Part.result.now ≡ c.args.boundaries.now.items = c.as_slice-in-Part.ensures.value ∙ taken.0 in
    let own : c.as_slice-in-Part-2.result.now ≡ c.args.boundary = c.as_slice-in-Part-2.ensures ∙ taken.1 in
    let read = rw pushed at c.in_ok-stop-in-Part.ensures.read in
    rw (slice, own) read.stop_is.marked

pub read_parts-next_part-next-requires-clause-at_end : goal.read_parts-next_part-next-requires-clause-at_end
read_parts-next_part-next-requires-clause-at_end t c =
    let pushed : c.push.new.self.items ≡ c.args.boundaries.now.items ++ c.args.boundary ∷ [] = c.in_ok-push-in-Part.ensures.items ∙ rw (c.parts.invariant.1, c.parts.invariant.2) refl in
    let read = rw pushed at c.in_ok-stop-in-Part.ensures.read in
    λ other. stop_none (c.args.boundaries.now.items ++ c.args.boundary ∷ []) c.args.octets.now c.in-Part.start.from c.in_ok-stop-in-Part.stop read.stop_is other

pub read_parts-parts-preserved : goal.read_parts-parts-preserved
read_parts-parts-preserved t c =
    let so = rw c.in-Part.is at c.parts.invariant.0 in
    let pushed : c.push.new.self.items ≡ c.args.boundaries.now.items ++ c.args.boundary ∷ [] = c.in_ok-push-in-Part.ensures.items ∙ rw (c.parts.invariant.1, c.parts.invariant.2) refl in
    let taken = last_once c.take_last-own.new.boundaries.items c.args.boundaries.now.items c.take_last-own.result c.args.boundary (sym c.take_last-own.ensures ∙ c.in_ok-stop-in-Part.ensures.restored ∙ pushed) in
    let slice : c.as_slice-in-Part.result.now ≡ c.args.boundaries.now.items = c.as_slice-in-Part.ensures.value ∙ taken.0 in
    let own : c.as_slice-in-Part-2.result.now ≡ c.args.boundary = c.as_slice-in-Part-2.ensures ∙ taken.1 in
    let read = rw pushed at c.in_ok-stop-in-Part.ensures.read in
    let next = rw (slice, own) at c.next_part-next.ensures in (
      Dividing-more c.args.division.levels c.args.boundaries.now.items c.args.boundary c.args.octets.now c.args.division.digest c.args.division.number (parts_of c.args.boundary c.args.division.start.at (region_at c.args.boundaries.now.items c.args.octets.now c.args.division.start.from)) c.args.division.start.from c.args.entities.now c.parts.entities c.read_entity.new.entities c.parts.shape c.in-Part.start c.in_ok-stop-in-Part.stop c.next_part-next.result
          so c.requires.number read next,
      taken.0,
      taken.1,
    )

pub read_entity-returns-in_default-clause-fault : goal.read_entity-returns-in_default-clause-fault
read_entity-returns-in_default-clause-fault t c = memory_fault c.args.place.levels c.args.octets.now c.args.place.digest c.args.place.start.at (region_at c.args.boundaries.now.items c.args.octets.now c.args.place.start.from)
