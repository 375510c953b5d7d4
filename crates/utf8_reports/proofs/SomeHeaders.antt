-- A header is shown of some message where it is a block, and in ASCII its own surrogate.
--
-- A header that is shown of a message is the block of what is shown of it, cut off, with its last line ended: a block that is all of
-- the octets. These have a tree, in which only the whole message has fields.
-- In ASCII what is shown is a surrogate. Its fields are ASCII, so only the type of an opened message/global could be changed once more.
-- The whole message of a surrogate is none of these: where the message was one, its types were changed, and what stands for a type
-- elsewhere names what that named. The header is opened as the surrogate is, by the same fields. So no field of it is changed, and
-- its surrogate is itself. The other way round a block that is its own surrogate is shown of itself.
use Rattle.std.proofs.Common.{◌≡◌, ◌↔◌, ℕ, IsTrue, nat_eq, zero, suc, ◌+◌, List, [], ◌∷◌, ◌++◌, Bool, true, false, Some, length, take, map, codes, inl, inr, arith, refl, sym, ap, ◌∙◌, subst}
use Rattle.std.specs.Prelude.{slice_get}
use Rattle.std.specs.List.{AllZip, AllByRecursion, list_all}
use Rattle.std.proofs.lemmas.Bool.{both_ways}
use Rattle.std.proofs.lemmas.Bool.Decides.{nat_tests}
use Rattle.std.proofs.lemmas.List.{take_all}
use Rattle.std.proofs.lemmas.List.Elements.{All-head}
use Rattle.mail_wire.specs.Lines.{lines_of}
use Rattle.mail_wire.specs.Message.{IsSound, IsEnded}
use Rattle.mail_wire.specs.Octets.{is_ascii}
use Rattle.utf8_fields.specs.declared.block.Field.{Field}
use Rattle.utf8_fields.specs.Block.{HasBlock, raw_of}
use Rattle.utf8_fields.proofs.OneBlock.{same_block}
use Rattle.field_downgrade.specs.Stands.{HasFieldLayout, Copied, Changed, Made}
use Rattle.mime_tree.specs.declared.entity.Entity.{Entity}
use Rattle.mime_tree.specs.declared.entity.Shape.TheVariants.{Message}
use Rattle.mime_tree.specs.declared.openings.Opening.TheVariants.{Message as OneMessage}
use Rattle.mime_tree.specs.Completing.{IsCompleted}
use Rattle.mime_tree.specs.Openings.{IsFirstValue, Opens, AreFieldsWithin}
use Rattle.mime_tree.specs.Tree.{IsOpened, IsEntity, HasTree, raws_of}
use Rattle.mime_tree.proofs.DecidingOpenings.{AreRawFields, raws_within}
use Rattle.mime_tree.proofs.OneOpening.{one_opening}
use Rattle.mime_tree.proofs.OneTree.{one_tree}
use Rattle.mime_tree.proofs.TreeFields.{tree_fields}
use Rattle.surrogate_rope.specs.Layout.{IsOpenGlobal, InEntity, HasLayout, HasSurrogate}
use Rattle.surrogate_rope.specs.Ropes.{RopeValue, IsRopeOf, CountsChanged, changed, octets_of}
use Rattle.surrogate_rope.proofs.AllSurrogates.{some_surrogate}
use Rattle.surrogate_rope.proofs.OneLayout.{field_once}
use Rattle.surrogate_rope.proofs.SurrogateBlocks.{rope_surrogate}
use Rattle.utf8_reports.specs.Shown.{HasEndedHeader, Shows}
use Rattle.utf8_reports.specs.private.Reading.{IsSomeHeader}
use Rattle.utf8_reports.proofs.AlikeFields.{first_back, opens_back, ascii_ended}
use Rattle.utf8_reports.proofs.EndedBlocks.{HasEndedBlock, ended_block}
use Rattle.utf8_reports.proofs.Roots.{root_block}
use Rattle.utf8_reports.proofs.SurrogateRoots.{closed_root, ascii_root}
use Rattle.utf8_reports.proofs.WholeBlocks.{HasWholeTree, whole_tree, whole_made, whole_counts, changed_none, none_changed}

abbrev AreAscii : List (List ℕ) → Type 0
AreAscii raws = AllByRecursion (λ raw. list_all is_ascii raw ≡ true) raws

-- made fields are the others where each is
same_fields : (Holds : List ℕ → List ℕ → Type 0) (P : List ℕ → Type 0) (raws mades : List (List ℕ)) → ((raw made : List ℕ) → P raw → Holds raw made → made ≡ raw) → AllZip Holds raws mades → AllByRecursion P raws
    → mades ≡ raws
same_fields Holds P [] [] same all each = refl
same_fields Holds P [] (made ∷ mades) same all each = absurd all
same_fields Holds P (raw ∷ raws) [] same all each = absurd all
same_fields Holds P (raw ∷ raws) (made ∷ mades) same all each = rw (same raw made each.0 all.0, same_fields Holds P raws mades same all.1 each.1) refl

-- an ASCII field of an entity that is no opened message/global is copied
copied : (msg : List ℕ) (entity : Entity) → ¬ IsOpenGlobal msg entity → (raw made : List ℕ) → list_all is_ascii raw ≡ true → InEntity HasFieldLayout msg entity raw made → made ≡ raw
copied msg entity closed raw made ascii is = by is.holds
  where
    by : HasFieldLayout is.open_global raw made → made ≡ raw
    by (Copied _ unchanged same) = same
    by (Changed opened names) = absurd (closed (is.is_open.0 opened))
    by (Made f g high layout made_is) = absurd (both_ways (list_all is_ascii raw) high.high ascii)

-- ---- blocks that are their own surrogates

-- a block without high octets and of no opened message/global is its own surrogate
own_surrogate : (octets : List ℕ) (fields : List Field) (whole : HasWholeTree octets fields) → HasBlock octets fields (length octets) → ¬ IsOpenGlobal octets whole.entity → AreAscii (raws_of octets whole.entity.block)
    → HasSurrogate octets octets
own_surrogate octets fields whole block closed ascii =
    let made = some_surrogate octets (whole.entity ∷ whole.inner) whole.tree in
    let layout : HasLayout octets (whole.entity ∷ whole.inner) made.0 =
    subst (λ all. HasLayout octets all made.0) (one_tree octets made.1.entities (whole.entity ∷ whole.inner) made.1.tree whole.tree) made.1.layout in
    let same : layout.0 ≡ raws_of octets whole.entity.block =
    same_fields (InEntity HasFieldLayout octets whole.entity) (λ raw. list_all is_ascii raw ≡ true) (raws_of octets whole.entity.block) layout.0 (copied octets whole.entity closed) layout.2 ascii in
    let itself = whole_made (InEntity HasFieldLayout octets) octets fields whole made.0 block layout same in
    subst (HasSurrogate octets) itself made.1

-- each of the fields is its own layout where none is changed
layouts_same : (msg : List ℕ) (entity : Entity) (raws mades : List (List ℕ)) → AllZip (InEntity HasFieldLayout msg entity) raws mades → AllZip (InEntity HasFieldLayout msg entity) raws raws → mades ≡ raws
layouts_same msg entity [] [] all also = refl
layouts_same msg entity [] (made ∷ mades) all also = absurd all
layouts_same msg entity (raw ∷ raws) [] all also = absurd all
layouts_same msg entity (raw ∷ raws) (made ∷ mades) all also = rw (field_once msg entity raw made raw all.0 also.0, layouts_same msg entity raws mades all.1 also.1) refl

-- the rope of a block, by its tree
record HasWholeRope (octets : List ℕ) (fields : List Field) (rope : RopeValue) (whole : HasWholeTree octets fields) : Type 0 where
  layout : HasLayout octets (whole.entity ∷ whole.inner) (octets_of octets rope)
  counts : CountsChanged (InEntity HasFieldLayout octets) octets (whole.entity ∷ whole.inner) rope.rewritten

whole_rope : (octets : List ℕ) (fields : List Field) (rope : RopeValue) (whole : HasWholeTree octets fields) → IsRopeOf octets rope → HasWholeRope octets fields rope whole
whole_rope octets fields rope whole is =
    let same = one_tree octets is.entities (whole.entity ∷ whole.inner) is.tree whole.tree in
    record {
      layout = subst (λ all. HasLayout octets all (octets_of octets rope)) same is.layout;
      counts = subst (λ all. CountsChanged (InEntity HasFieldLayout octets) octets all rope.rewritten) same is.count;
    }

-- with no field made anew it is its own surrogate, ...
pub none_rewritten : (octets : List ℕ) (fields : List Field) (rope : RopeValue) → HasWholeTree octets fields → HasBlock octets fields (length octets) → IsRopeOf octets rope → rope.rewritten ≡ 0
    → HasSurrogate octets octets
none_rewritten octets fields rope whole block is nothing =
    let has = whole_rope octets fields rope whole is in
    let raws : List (List ℕ) = raws_of octets whole.entity.block in
    let counts = whole_counts (InEntity HasFieldLayout octets) octets fields whole rope.rewritten has.counts in
    let same : has.counts.0 ≡ raws = none_changed (InEntity HasFieldLayout octets whole.entity) raws has.counts.0 has.counts.2 (sym counts ∙ nothing) in
    let layout : has.layout.0 ≡ raws = layouts_same octets whole.entity raws has.layout.0 has.layout.2 (subst (AllZip (InEntity HasFieldLayout octets whole.entity) raws) same has.counts.2) in
    subst (HasSurrogate octets) (whole_made (InEntity HasFieldLayout octets) octets fields whole (octets_of octets rope) block has.layout layout) (rope_surrogate octets rope is)

-- ... and the other way round
pub own_rewritten : (octets : List ℕ) (fields : List Field) (rope : RopeValue) → HasWholeTree octets fields → IsRopeOf octets rope → HasSurrogate octets octets → rope.rewritten ≡ 0
own_rewritten octets fields rope whole is own =
    let has = whole_rope octets fields rope whole is in
    let raws : List (List ℕ) = raws_of octets whole.entity.block in
    let closed = closed_root octets octets whole.entity whole.inner own.surrogate whole.tree in
    let ascii = ascii_root octets octets whole.entity whole.inner own whole.tree in
    let same : has.counts.0 ≡ raws =
    same_fields (InEntity HasFieldLayout octets whole.entity) (λ raw. list_all is_ascii raw ≡ true) raws has.counts.0 (copied octets whole.entity closed) has.counts.2 ascii in
    whole_counts (InEntity HasFieldLayout octets) octets fields whole rope.rewritten has.counts ∙ ap (changed raws) same ∙ changed_none raws

-- the test for it
pub own_tested : (octets : List ℕ) (entities : List Entity) (fields : List Field) (rope : RopeValue) (count : ℕ) → HasTree octets entities → HasBlock octets fields (length octets) → IsRopeOf octets rope
    → count ≡ rope.rewritten → IsTrue (nat_eq count 0) ↔ HasSurrogate octets octets
own_tested octets entities fields rope count tree block is count_is =
    let whole = whole_tree octets fields tree.is_message block in (
      λ none. none_rewritten octets fields rope whole block is (sym count_is ∙ zero_of none),
      λ own. of_zero (count_is ∙ own_rewritten octets fields rope whole is own),
    )
  where
    zero_of : IsTrue (nat_eq count 0) → count ≡ 0
    zero_of none = grind (arith, nat_tests)

    of_zero : count ≡ 0 → IsTrue (nat_eq count 0)
    of_zero nothing = grind (arith, nat_tests)

-- ---- headers

root_message : (octets : List ℕ) (entity : Entity) (inner : List Entity) → HasTree octets (entity ∷ inner) → Opens false (raws_of octets entity.block) OneMessage → entity.shape ≡ Message
unfolding IsEntity
root_message octets entity inner tree opens =
    let is = tree.root.0 in
    let same : is.entity ≡ entity = first is.entity entity is.inner inner is.entities_are in
    let here = subst (λ (e : Entity). Opens false (raws_of octets e.block) OneMessage) (sym same) opens in
    let opening : tree.root.1 ≡ OneMessage = one_opening false (raws_of octets is.entity.block) tree.root.1 OneMessage tree.root.2 here in
    let opened = subst (λ o. IsOpened (IsEntity 31 octets) o 0 is.entity.body is.content is.entity.shape is.inner) opening tree.root.3 in
    subst (λ (e : Entity). e.shape ≡ Message) same opened.0
  where
    first : (a b : Entity) (more rest : List Entity) → b ∷ rest ≡ a ∷ more → a ≡ b
    first a b more rest same = cc same

-- the header isn't one of an opened message/global where the octets' isn't
header_closed : (shown header : List ℕ) (entity : Entity) (inner : List Entity) → HasTree shown (entity ∷ inner) → ¬ IsOpenGlobal shown entity → (ended : HasEndedBlock shown entity.block.fields header)
    → (whole : HasWholeTree header ended.others) → ¬ IsOpenGlobal header whole.entity
header_closed shown header entity inner tree closed ended whole is =
    let within = All-head (λ (one : Entity). AreFieldsWithin shown one.block.fields) entity inner (tree_fields shown (entity ∷ inner) tree) in
    let are : AreRawFields (raws_of shown entity.block) = raws_within shown entity.block.fields within in
    let mades : List (List ℕ) = map (raw_of header) ended.others in
    let opens : Opens false mades OneMessage = subst (Opens false mades) (whole.message is.shape) whole.opens in
    let first : IsFirstValue (codes "Content-Type") mades (Some is.text) = subst (λ fields. IsFirstValue (codes "Content-Type") (map (raw_of header) fields) (Some is.text)) whole.fields_are is.first in
    closed (record {
      shape = root_message shown entity inner tree (opens_back false (raws_of shown entity.block) mades OneMessage ended.alike are opens);
      text = is.text;
      first = first_back (codes "Content-Type") (raws_of shown entity.block) mades (Some is.text) ended.alike are first;
      at = is.at;
      names = is.names;
    })

-- the block of what is shown, cut off and ended
header_block : (octets header : List ℕ) (fields : List Field) (end : ℕ) → IsSound octets → HasBlock octets fields end → HasEndedHeader octets header → HasEndedBlock octets fields header
header_block octets header fields end sound block has =
    let same : has.end ≡ end = (same_block (lines_of octets) 0 has.fields fields has.end end has.has_block block).1 in
    ended_block octets header fields end sound block (subst (λ n. IsCompleted (take n octets) header) same has.completed)

-- a block that is shown in ASCII is its own surrogate
surrogate_own : (msg shown header : List ℕ) (entity : Entity) (inner : List Entity) → HasSurrogate msg shown → HasTree shown (entity ∷ inner) → HasEndedBlock shown entity.block.fields header → HasSurrogate header header
surrogate_own msg shown header entity inner has tree ended =
    let whole = whole_tree header ended.others ended.sound ended.has_block in
    let closed = header_closed shown header entity inner tree (closed_root msg shown entity inner has.surrogate tree) ended whole in
    let ascii = ascii_ended (raws_of shown entity.block) (map (raw_of header) ended.others) ended.alike (ascii_root msg shown entity inner has tree) in
    own_surrogate header ended.others whole ended.has_block closed (subst (λ fields. AreAscii (map (raw_of header) fields)) (sym whole.fields_are) ascii)

pub header_own : (header : List ℕ) → IsSomeHeader false header → HasSurrogate header header
header_own header is =
    let shows : HasSurrogate is.0 is.1.shown = is.1.shows in
    let made = shows.surrogate in
    let root = root_block is.1.shown made.others made.made_tree in
    let tree = subst (HasTree is.1.shown) root.entities_are made.made_tree in
    surrogate_own is.0 is.1.shown header root.entity root.inner shows tree
    (header_block is.1.shown header root.entity.block.fields root.entity.block.end made.made_tree.is_message root.has_block is.1.has_header)

past_front : (front rest : List ℕ) (k at : ℕ) → at ≡ length front + k → slice_get (front ++ rest) at ≡ slice_get rest k
past_front [] rest k at is = ap (slice_get rest) (omega arith)
past_front (x ∷ front) rest k zero is = absurd (omega arith)
past_front (x ∷ front) rest k (suc at) is = past_front front rest k at (omega arith)

-- no CR comes last in sound octets
no_cr_last : (front : List ℕ) → IsSound (front ++ 13 ∷ []) → ⊥
no_cr_last front sound = sound (length front) (inr (inl (past_front front (13 ∷ []) 0 (length front) (omega arith), λ lf. nothing (sym (past_front front (13 ∷ []) 1 (length front + 1) refl) ∙ lf))))
  where
    nothing : slice_get {X = ℕ} (13 ∷ []) 1 ≡ Some 10 → ⊥
    nothing lf = cc lf

-- completed octets that are sound are ended
completed_ended : (old new : List ℕ) → IsSound new → IsCompleted old new → IsEnded new
completed_ended old new sound (inl (inl ended, same)) = subst IsEnded (sym same) ended
completed_ended old new sound (inl (inr cr, same)) = absurd (no_cr_last cr.0 (subst IsSound (same ∙ cr.1) sound))
completed_ended old new sound (inr put) = inr (old, put.1)

-- ---- headers that are shown of some message

-- All octets are a block, which is ended.
pub record IsEndedBlock (header : List ℕ) : Type 0 where
  pub fields : List Field
  pub has_block : HasBlock header fields (length header)
  pub sound : IsSound header
  pub ended : IsEnded header

is_ended_block : (octets header : List ℕ) (entities : List Entity) → HasTree octets entities → HasEndedHeader octets header → IsEndedBlock header
is_ended_block octets header entities tree has =
    let block = ended_block octets header has.fields has.end tree.is_message has.has_block has.completed in
    record { fields = block.others; has_block = block.has_block; sound = block.sound; ended = completed_ended (take has.end octets) header block.sound has.completed }

pub some_block : (global : Bool) (header : List ℕ) → IsSomeHeader global header → IsEndedBlock header
some_block true header is = is_ended_block is.0 header is.1.entities is.1.tree (subst (λ text. HasEndedHeader text header) is.1.shows is.1.has_header)
some_block false header is = let made = is.1.shows.surrogate in is_ended_block is.1.shown header made.others made.made_tree is.1.has_header

-- A block that shows itself is shown of itself.
pub shown_itself : (global : Bool) (header : List ℕ) (entities : List Entity) (fields : List Field) → HasTree header entities → HasBlock header fields (length header) → IsEnded header → Shows global header header
    → IsSomeHeader global header
shown_itself global header entities fields tree block ended shows =
    let all : take (length header) header ≡ header = take_all (length header) header (omega arith) in (
      header,
      record {
        entities = entities;
        tree = tree;
        shown = header;
        shows = shows;
        has_header = record { fields = fields; end = length header; has_block = block; completed = inl (inl (subst IsEnded (sym all) ended), sym all) };
      },
    )

-- ---- the answers

pub none_shown : (global : Bool) (header : List ℕ) → ¬ IsSomeHeader global header → IsTrue false ↔ IsSomeHeader global header
none_shown global header none = (λ is. absurd (clash is), λ is. absurd (none is))
  where
    clash : IsTrue false → ⊥
    clash is = cc is

pub all_shown : (global : Bool) (header : List ℕ) → IsSomeHeader global header → IsTrue true ↔ IsSomeHeader global header
all_shown global header some = (λ is. some, λ is. refl)

pub own_shown : (global is : Bool) (header : List ℕ) (entities : List Entity) (fields : List Field) → global ≡ false → HasTree header entities → HasBlock header fields (length header) → IsEnded header
    → IsTrue is ↔ HasSurrogate header header → IsTrue is ↔ IsSomeHeader global header
own_shown global is header entities fields ascii tree block ended own =
    let shown : IsTrue is ↔ IsSomeHeader false header = (λ yields. shown_itself false header entities fields tree block ended (own.0 yields), λ some. own.1 (header_own header some)) in
    subst (λ b. IsTrue is ↔ IsSomeHeader b header) (sym ascii) shown

pub global_shown : (global : Bool) (header : List ℕ) (entities : List Entity) (fields : List Field) → global ≡ true → HasTree header entities → HasBlock header fields (length header) → IsEnded header
    → IsTrue true ↔ IsSomeHeader global header
global_shown global header entities fields high tree block ended =
    subst (λ b. IsTrue true ↔ IsSomeHeader b header) (sym high) (all_shown true header (shown_itself true header entities fields tree block ended refl))
