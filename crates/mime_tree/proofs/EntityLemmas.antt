-- An entity, read.
use Rattle.std.proofs.Common.{◌≡◌, ◌≢◌, ℕ, zero, suc, ◌+◌, ◌-◌, ◌<◌, ◌≤◌, List, [], ◌∷◌, ◌++◌, length, drop, Bool, true, false, arith, refl, sym, ap, ◌∙◌, ◌⊎◌, inl, inr, Option, append_assoc}
use Rattle.std.specs.Prelude.{◌==◌, IsTrue}
use Rattle.std.proofs.lemmas.Bool.Decides.{nat_tests}
use Rattle.utf8_fields.specs.declared.block.FieldFault.{FieldFault}
use Rattle.utf8_fields.specs.declared.block.FieldFault.TheVariants.{Memory}
use Rattle.utf8_fields.specs.Faults.{IsFaultIn}
use Rattle.mime_tree.specs.declared.entity.Entity.{Entity}
use Rattle.mime_tree.specs.declared.entity.Shape.TheVariants.{Leaf}
use Rattle.mime_tree.specs.declared.reading.Stop.{Stop}
use Rattle.mime_tree.specs.declared.reading.Start.{Start}
use Rattle.mime_tree.specs.declared.reading.Head.{Head}
use Rattle.mime_tree.specs.declared.reading.Opened.{Opened}
use Rattle.mime_tree.specs.Parts.{size}
use Rattle.mime_tree.specs.declared.openings.Opening.{Opening}
use Rattle.mime_tree.specs.Openings.{Opens}
use Rattle.mime_tree.specs.private.Open.{begins_marked, region, after, lines_at, IsStop, IsStart, end_place}
use Rattle.mime_tree.specs.Tree.{IsWithInner, IsEntity, raws_of}
use Rattle.mime_tree.specs.Faults.{IsFaultOf}
use Rattle.mime_tree.specs.private.Reading.{region_at, IsHeadRead, IsWithinEntity, IsFaultWithin, IsInsideRead, IsEntityRead}
use Rattle.mime_tree.proofs.Texts.{lines_of-are}
use Rattle.mime_tree.proofs.Regions.{region-begins, region-end, region-all, after-begins, after-none}
use Rattle.mime_tree.proofs.LinesAt.{size_at}

-- where an entity ends
pub record HasEnd (s : List (List ℕ)) (octets : List ℕ) (start : Start) (stop : Stop) : Type 0 where
  pub end_is : end_place start.from start.at stop ≡ start.at + size (region s (lines_at octets start.from))
  pub apart : IsTrue stop.marked → stop.at ≢ start.from → 2 ≤ stop.at

nat_refl : (n : ℕ) → (n == n) ≡ true
nat_refl n = grind (arith, nat_tests)

apart_test : (a b : ℕ) → b < a → (a == b) ≡ false
apart_test a b lt = grind (arith, nat_tests)

end_begins : (s : List (List ℕ)) (octets : List ℕ) (start : Start) (stop : Stop) → IsStart s octets start → IsStop s octets start.from stop → begins_marked s (lines_at octets start.from) ≡ true → HasEnd s octets start stop
end_begins s octets start stop is stops begins =
    let same : lines_at octets stop.at ≡ lines_at octets start.from = stops.lines ∙ after-begins s (lines_at octets start.from) begins in
    let sizes = ap size same in
    let here = size_at octets start.from is.fits in
    let there = size_at octets stop.at stops.fits in
    let place : stop.at ≡ start.from = omega arith in
    let marked : stop.marked ≡ true = stops.marked ∙ ap (begins_marked s) same ∙ begins in
    let eq : (stop.at == start.from) ≡ true = rw place (nat_refl start.from) in
    let end : end_place start.from start.at stop ≡ start.at = rw (marked, eq) refl in
    record { end_is = end ∙ rw (region-begins s (lines_at octets start.from) begins) (omega arith); apart = λ marked other. absurd (other place) }

end_other : (s : List (List ℕ)) (octets : List ℕ) (start : Start) (stop : Stop) (m : Bool) → stop.marked ≡ m → IsStart s octets start → IsStop s octets start.from stop
    → begins_marked s (lines_at octets start.from) ≡ false → start.at ≡ start.from → HasEnd s octets start stop
end_other s octets start stop true m_is is stops other place =
    let marked : begins_marked s (after s (lines_at octets start.from)) ≡ true = rw (← stops.lines) (sym stops.marked ∙ m_is) in
    let sizes = region-end s (lines_at octets start.from) (lines_of-are (drop start.from octets)) other marked in
    let left = ap size stops.lines in
    let here = size_at octets start.from is.fits in
    let there = size_at octets stop.at stops.fits in
    let far : stop.at ≡ start.from + size (region s (lines_at octets start.from)) + 2 = omega arith in
    let eq : (stop.at == start.from) ≡ false = apart_test stop.at start.from (omega arith) in
    let end : end_place start.from start.at stop ≡ stop.at - 2 = rw (m_is, eq) refl in
    record { end_is = end ∙ omega arith; apart = λ marked other. omega arith }
end_other s octets start stop false m_is is stops other place =
    let none : begins_marked s (after s (lines_at octets start.from)) ≡ false = rw (← stops.lines) (sym stops.marked ∙ m_is) in
    let nothing = after-none s (lines_at octets start.from) none in
    let all = ap size (region-all s (lines_at octets start.from) nothing) in
    let left = ap size (stops.lines ∙ nothing) in
    let here = size_at octets start.from is.fits in
    let there = size_at octets stop.at stops.fits in
    let zero_left : size [] ≡ 0 = refl in
    let end : end_place start.from start.at stop ≡ stop.at = rw m_is refl in
    record {
      end_is = end ∙ omega arith;
      apart = λ marked other. absurd (let yes1 : stop.marked ≡ true = marked in let clash : true ≡ false = sym yes1 ∙ m_is in cc);
    }

pub has_end : (s : List (List ℕ)) (octets : List ℕ) (start : Start) (stop : Stop) → IsStart s octets start → IsStop s octets start.from stop → HasEnd s octets start stop
has_end s octets start stop is stops = go (begins_marked s (lines_at octets start.from)) refl is.place
  where
    go : (b : Bool) → begins_marked s (lines_at octets start.from) ≡ b → (start.at ≡ start.from) ⊎ (begins_marked s (lines_at octets start.from) ≡ true) → HasEnd s octets start stop
    go true h place = end_begins s octets start stop is stops h
    go false h (inl place) = end_other s octets start stop stop.marked refl is stops h place
    go false h (inr begins) = end_begins s octets start stop is stops begins

-- the same stop, seen from the entity's beginning
pub stop_from : (s : List (List ℕ)) (octets : List ℕ) (start : Start) (head : Head) (stop : Stop) → IsHeadRead s octets start head → IsStop s octets head.content.from stop → IsStop s octets start.from stop
stop_from s octets start head stop is stops =
    let onward = is.onward in
    let further = stops.onward in
    record { lines = stops.lines ∙ is.after_is; marked = stops.marked; onward = omega arith; fits = stops.fits }

pub entity_of : (levels : ℕ) (octets : List ℕ) (parent : Option ℕ) (digest : Bool) (number at : ℕ) (lines : List (List ℕ)) (entities : List Entity) → levels ≤ 32 → (is : IsWithInner parent (33 - levels) at lines entities)
    → (opening : Opening) → Opens digest (raws_of octets is.entity.block) opening → IsWithinEntity levels octets opening number is.entity.body is.content is.entity.shape is.inner → IsEntity levels octets parent digest number at lines entities
unfolding IsEntity
entity_of zero octets parent digest number at lines entities small is opening opens inside = (is, inside.0, inside.1)
entity_of (suc levels) octets parent digest number at lines entities small is opening opens inside =
    let depth : 33 - suc levels ≡ 32 - levels = omega arith in (
      record {
        entity = is.entity;
        content = is.content;
        inner = is.inner;
        entities_are = is.entities_are;
        head = is.head;
        parent_is = is.parent_is;
        depth_is = is.depth_is ∙ depth;
        at_is = is.at_is;
        end_is = is.end_is;
      },
      opening,
      opens,
      inside,
    )

-- the entity as it is put last at first
abbrev pub fresh : Option ℕ → ℕ → Start → Head → Entity
fresh parent depth start head = record { parent = parent; depth = depth; at = start.at; body = head.content.at; end = start.at; shape = Leaf; block = head.block }

pub entity_read : (levels : ℕ) (s : List (List ℕ)) (octets : List ℕ) (parent : Option ℕ) (digest : Bool) (start : Start) (head : Head) (old read settled : List Entity) (opening : Opening) (opened : Opened) (end : ℕ) → levels ≤ 32
    → IsStart s octets start → IsHeadRead s octets start head
    → Opens digest (raws_of octets head.block) opening → IsInsideRead levels s octets opening (length old) head.content (old ++ fresh parent (33 - levels) start head ∷ []) read opened
    → end ≡ end_place start.from start.at opened.stop
    → ((before rest : List Entity) (entity : Entity) → read ≡ before ++ entity ∷ rest → length before ≡ length old → settled ≡ before ++ record entity { end = end; shape = opened.shape } ∷ rest)
    → IsEntityRead levels s octets parent digest start old settled opened.stop
entity_read levels s octets parent digest start head old read settled opening opened end small is head_is opens inside end_is settles =
    let stops = stop_from s octets start head opened.stop head_is inside.stop_is in
    let first = fresh parent (33 - levels) start head in
    let whole = has_end s octets start opened.stop is stops in
    let added : read ≡ old ++ first ∷ inside.more = inside.added ∙ append_assoc old (first ∷ []) inside.more in
    let entity : Entity = record { parent = parent; depth = 33 - levels; at = start.at; body = head.content.at; end = end; shape = opened.shape; block = head.block } in
    record {
      more = entity ∷ inside.more;
      added = settles old inside.more first added refl;
      entity = entity_of levels octets parent digest (length old) start.at (region_at s octets start.from) (entity ∷ inside.more) small
          (record {
            entity = entity;
            content = region_at s octets head.content.from;
            inner = inside.more;
            entities_are = refl;
            head = head_is.head_is;
            parent_is = refl;
            depth_is = refl;
            at_is = refl;
            end_is = end_is ∙ whole.end_is;
          })
          opening opens inside.inside;
      stop_is = stops;
    }

-- faults
pub fault_head : (levels : ℕ) (octets : List ℕ) (digest : Bool) (at : ℕ) (lines : List (List ℕ)) (fault : FieldFault) → IsFaultIn lines at fault → IsFaultOf levels octets digest at lines fault
unfolding IsFaultOf
fault_head zero octets digest at lines fault is = is
fault_head (suc levels) octets digest at lines fault is = inl is

pub fault_memory : (levels : ℕ) (octets : List ℕ) (digest : Bool) (at : ℕ) (lines : List (List ℕ)) (fault : FieldFault) → fault ≡ Memory → IsFaultOf levels octets digest at lines fault
fault_memory levels octets digest at lines fault is = rw is (fault_head levels octets digest at lines Memory tt)

pub fault_inside : (levels : ℕ) (s : List (List ℕ)) (octets : List ℕ) (digest : Bool) (start : Start) (head : Head) (opening : Opening) (fault : FieldFault) → IsHeadRead s octets start head
    → Opens digest (raws_of octets head.block) opening → (fault ≡ Memory) ⊎ IsFaultWithin levels octets opening head.content.at (region_at s octets head.content.from) fault
    → IsFaultOf levels octets digest start.at (region_at s octets start.from) fault
unfolding IsFaultOf
fault_inside levels s octets digest start head opening fault is opens (inl memory) = fault_memory levels octets digest start.at (region_at s octets start.from) fault memory
fault_inside zero s octets digest start head opening fault is opens (inr within) = absurd within
fault_inside (suc levels) s octets digest start head opening fault is opens (inr within) =
    inr (record { block = head.block; body = head.content.at; content = region_at s octets head.content.from; head = is.head_is }, opening, opens, within)

pub stop_none : (s : List (List ℕ)) (octets : List ℕ) (from : ℕ) (stop : Stop) → IsStop s octets from stop → stop.marked ≡ false → lines_at octets stop.at ≡ []
stop_none s octets from stop is other = is.lines ∙ after-none s (lines_at octets from) (rw (← is.lines) (sym is.marked ∙ other))
