-- What is served of a message, and ranges of it as literals.
use Rattle.std.proofs.Common.{◌≡◌, ℕ, zero, suc, Bool, true, ◌+◌, ◌-◌, ◌<◌, ◌≤◌, List, [], ◌∷◌, ◌++◌, length, take, drop, Option, None, Some, refl, sym, ap, subst, ◌∙◌, append-nil, arith}
use Rattle.std.specs.Prelude.{codes, false, not, option_map, slice_get, IfSome}
use Rattle.std.specs.Fmt.{decimal}
use Rattle.std.specs.List.{flat_map}
use Rattle.std.specs.Option.{option_map_or}
use Rattle.std.proofs.lemmas.Option.{same_Some}
use Rattle.mail_wire.specs.declared.outside.Fault.{Fault}
use Rattle.mail_wire.specs.declared.values.Span.{Span}
use Rattle.journal_records.specs.Stored.{IsStored}
use Rattle.mail_wire.proofs.LineLemmas.{concat_lines_of}
use Rattle.mail_wire.specs.Lines.{lines_of}
use Rattle.mime_tree.specs.declared.entity.Entity.{Entity}
use Rattle.mime_tree.specs.Outlines.{Outline, outlines_of}
use Rattle.mime_tree.specs.Tree.{HasTree, IsEntity, IsWithInner, depth_max}
use Rattle.mime_tree.specs.Sections.{section}
use Rattle.mime_tree.specs.declared.sections.Part.{Part}
use Rattle.mime_tree.specs.declared.sections.Part.TheVariants as place
use Rattle.kept_mail.specs.declared.kept.Listed.{Listed}
use Rattle.kept_mail.specs.declared.kept.Message.{Message}
use Rattle.mail_store.specs.StoreState.{StoreState}
use Rattle.surrogate_rope.specs.Ropes.{octets_of}
use Rattle.surrogate_rope.specs.Served.{IsShownOf, shown_octets, shown_outlines}
use Rattle.surrogate_rope.specs.declared.shown.Shown.{Shown}
use Rattle.surrogate_rope.specs.declared.shown.Shown.TheVariants.{Whole, Rope}
use Rattle.surrogate_cache.specs.Served.{Mode, enabled, is_enabled, legacy, served_by}
use Rattle.surrogate_cache.proofs.ServedLemmas.{IsServed-by}
use Rattle.session_core.specs.Around.{Around}
use Rattle.session_core.specs.Desks.{stored_octets}
use Rattle.session_core.specs.Doing.{Replies}
use Rattle.session_core.specs.Oracles.{Oracles, AreOracles}
use Rattle.imap_views.specs.Structures.{HasStructure}
use Rattle.imap_views.specs.Views.{GivesOutlines, IsStructureOf, View, envelope, fields, structure}
use Rattle.imap_views.proofs.SectionPlaces.{shown_section_within}
use Rattle.imap_session.specs.Items.{header_octets, literal_head, octets_at, partial_octets, partial_span, section_at, served_of, size_of, span_parts, view_parts, whole_header}
use Rattle.imap_session.specs.Machine.{reply}
use Rattle.imap_session.specs.Replies.{ReplyPart, part_octets, reply_octets, shown, text, viewed}
use Rattle.imap_session.specs.declared.sections.Asked.{Asked}
use Rattle.imap_session.specs.declared.sections.Chosen.{Chosen}
use Rattle.imap_session.specs.declared.sections.Wanted.{Wanted}
use Rattle.imap_session.specs.declared.sections.Wanted.TheVariants as want
use Rattle.imap_session.specs.private.Asking.{AddsFields, AsksStored, asked_parts, head_octets, name_of, wanted_parts, wanted_place}
use Rattle.imap_session.specs.private.Pending.{Carries}
use Rattle.imap_session.specs.private.Shown.{HasShown, IsShownIn, octets_shown}
use Rattle.imap_session.specs.private.Viewing.{AddsView, header_shown, octets_in}
use Rattle.imap_session.proofs.FetchLemmas.{Carries-text}
use Rattle.imap_session.proofs.SectionLemmas.{nothing_wanted}
use Rattle.imap_session.proofs.PendingLemmas.{Carries-before, Carries-parts, Carries-replies, Carries-then}

-- ---- what is served

outlines_shown : (outlines : List ℕ → List Outline) → GivesOutlines outlines → (msg : List ℕ) (seen : Shown) → IsShownOf msg seen → outlines (shown_octets msg seen) ≡ shown_outlines seen
outlines_shown outlines given msg (Whole tree) is = sym (given msg tree.entities is)
outlines_shown outlines given msg (Rope rope) is = sym (is.outlines ∙ given (octets_of msg rope) is.others is.made_tree)

-- these octets are served of a message, and these are the entities in them
pub record IsServing (oracles : Oracles) (mode : Mode) (store : StoreState) (one : Listed) (octets : List ℕ) (outlines : List Outline) : Type 0 where
  pub octets_are : served_of oracles mode store one ≡ octets
  pub outlines_are : oracles.outlines octets ≡ outlines

pub serving : (oracles : Oracles) → AreOracles oracles → (mode : Mode) (store : StoreState) (one : Listed) (msg : List ℕ) (seen : Shown) → msg ≡ stored_octets store one.id → IsShownIn mode msg seen
    → IsServing oracles mode store one (shown_octets msg seen) (shown_outlines seen)
serving oracles are mode store one msg seen msg_is is = record {
  octets_are = ap (served_by oracles.surrogate mode) (sym msg_is) ∙ sym (IsServed-by oracles.surrogate are.surrogates mode msg (shown_octets msg seen) is.1);
  outlines_are = outlines_shown oracles.outlines are.entities msg seen is.0;
}

pub serving_section : (oracles : Oracles) (mode : Mode) (store : StoreState) (one : Listed) (octets : List ℕ) (outlines : List Outline) → IsServing oracles mode store one octets outlines
    → (path : List ℕ) (what : Part) → section_at oracles mode store one path what ≡ section outlines path what
serving_section oracles mode store one octets outlines is path what =
    ap (λ (l : List Outline). section l path what) (ap oracles.outlines is.octets_are ∙ is.outlines_are)

pub serving_octets : (oracles : Oracles) (mode : Mode) (store : StoreState) (one : Listed) (octets : List ℕ) (outlines : List Outline) → IsServing oracles mode store one octets outlines
    → (span : Span) → octets_at oracles mode store one span ≡ take span.len (drop span.at octets)
serving_octets oracles mode store one octets outlines is span = ap (λ (l : List ℕ). take span.len (drop span.at l)) is.octets_are

header_in : (oracles : Oracles) (mode : Mode) (store : StoreState) (one : Listed) (octets : List ℕ) (outlines : List Outline) → IsServing oracles mode store one octets outlines
    → (span : Option Span) → header_octets oracles mode store one span ≡ octets_in octets span
header_in oracles mode store one octets outlines is None = refl
header_in oracles mode store one octets outlines is (Some span) = serving_octets oracles mode store one octets outlines is span

serving_header : (oracles : Oracles) (mode : Mode) (store : StoreState) (one : Listed) (msg : List ℕ) (seen : Shown) → IsServing oracles mode store one (shown_octets msg seen) (shown_outlines seen)
    → whole_header oracles mode store one ≡ header_shown msg seen
serving_header oracles mode store one msg seen is =
    ap (header_octets oracles mode store one) (serving_section oracles mode store one (shown_octets msg seen) (shown_outlines seen) is [] place.Header)
    ∙ header_in oracles mode store one (shown_octets msg seen) (shown_outlines seen) is (section (shown_outlines seen) [] place.Header)

-- where a section stands that was found in what is shown
pub section_found : (oracles : Oracles) → AreOracles oracles → (mode : Mode) (store : StoreState) (one : Listed) (msg : List ℕ) (seen : Shown) (path : List ℕ) (what : Part) (found : Option Span) → msg ≡ stored_octets store one.id
    → IsShownIn mode msg seen → found ≡ section (shown_outlines seen) path what → section_at oracles mode store one path what ≡ found
section_found oracles are mode store one msg seen path what found msg_is is found_is =
    serving_section oracles mode store one (shown_octets msg seen) (shown_outlines seen) (serving oracles are mode store one msg seen msg_is is) path what ∙ sym found_is

-- ---- sections of what is shown

pub found_within : (msg : List ℕ) (seen : Shown) (path : List ℕ) (what : Part) (found : Option Span) → IsShownOf msg seen → found ≡ section (shown_outlines seen) path what
    → IfSome found (λ span. span.at + span.len ≤ length (shown_octets msg seen))
found_within msg seen path what None is found_is = tt
found_within msg seen path what (Some span) is found_is = shown_section_within msg seen path what span is (sym found_is)

-- what stands within so many octets has places below that number
pub found_below : (found : Option Span) (size end : ℕ) → size < end → IfSome found (λ span. span.at + span.len ≤ size) → IfSome found (λ span. span.at + span.len < end)
found_below None size end few within = tt
found_below (Some span) size end few within = omega arith

-- ---- the message, as it is stored

-- an entity is the first of those of its lines, and stands where these do
with_inner : (levels : ℕ) (octets : List ℕ) (parent : Option ℕ) (digest : Bool) (number at : ℕ) (lines : List (List ℕ)) (entities : List Entity) → IsEntity levels octets parent digest number at lines entities
    → (depth : ℕ) × IsWithInner parent depth at lines entities
unfolding IsEntity
with_inner zero octets parent digest number at lines entities is = (_, is.0)
with_inner (suc levels) octets parent digest number at lines entities is = (_, is.0)

abbrev span_of : (at len : ℕ) → Span
span_of at len = record { at = at; len = len }

abbrev all_of : List ℕ → Span
all_of octets = span_of 0 (length octets)

span_same : (at len size : ℕ) → at ≡ 0 → len ≡ size → span_of at len ≡ span_of 0 size
span_same at len size at_is len_is = rw (at_is, len_is) refl

first_found : (octets : List ℕ) (depth : ℕ) (entities : List Entity) → IsWithInner None depth 0 (lines_of octets) entities → section (outlines_of entities) [] place.Whole ≡ Some (all_of octets)
first_found octets depth entities is =
    let len : is.entity.end - is.entity.at ≡ length octets = (let at_is = is.at_is in let end_is = is.end_is in let size = ap length (concat_lines_of octets) in omega arith) in
    ap (λ (all : List Entity). section (outlines_of all) [] place.Whole) is.entities_are
    ∙ ap (λ (span : Span). Some span) (span_same is.entity.at (is.entity.end - is.entity.at) (length octets) is.at_is len)

-- the message is the first of its entities
message_found : (octets : List ℕ) (entities : List Entity) → HasTree octets entities → section (outlines_of entities) [] place.Whole ≡ Some (all_of octets)
message_found octets entities tree =
    let first = with_inner depth_max octets None false 0 0 (lines_of octets) entities tree.root in
    first_found octets first.0 entities first.1

-- a session that has enabled UTF-8 is shown it
shown_stored : (mode : Mode) (octets : List ℕ) (entities : List Entity) → is_enabled mode ≡ true → HasTree octets entities → IsShownIn mode octets (Whole (record { entities = entities }))
shown_stored legacy octets entities is tree = absurd cc
shown_stored enabled octets entities is tree = (tree, refl)

-- ---- views

-- the structure of what is shown is that of its octets
pub structure_shown : (msg : List ℕ) (seen : Shown) (extended : Bool) (told : List ℕ) → IsShownOf msg seen
    → HasStructure (record { octets = shown_octets msg seen; outlines = shown_outlines seen; extended = extended }) told → IsStructureOf extended (shown_octets msg seen) told
structure_shown msg (Whole tree) extended told is has = record { entities = tree.entities; tree = is; structure = has }
structure_shown msg (Rope rope) extended told is has =
    record {
      entities = is.others;
      tree = is.made_tree;
      structure = subst (λ (l : List Outline). HasStructure (record { octets = octets_of msg rope; outlines = l; extended = extended }) told) is.outlines has;
    }

view_given : (oracles : Oracles) → AreOracles oracles → (mode : Mode) (word : List ℕ) (view : View) (octets served old new : List ℕ) → served ≡ octets → AddsView word view octets old new
    → new ≡ old ++ reply_octets oracles (text word ∷ viewed mode (oracles.view_of view served) ∷ [])
view_given oracles are mode word view octets served old new same adds =
    let view_is : adds.text ≡ oracles.view_of view served = are.views view octets adds.text adds.is_view ∙ ap (oracles.view_of view) (sym same) in
    adds.new_is ∙ ap (λ (l : List ℕ). old ++ (word ++ l)) (view_is ∙ sym (append-nil (oracles.view_of view served)))

served_without : (oracles : Oracles) (mode : Mode) (octets : List ℕ) → not (is_enabled mode) ≡ false → served_by oracles.surrogate mode octets ≡ octets
served_without oracles legacy octets is = cc
served_without oracles enabled octets is = refl

-- the octets that are shown are those that are served, also where nothing tells them but the store
served_octets : (oracles : Oracles) → AreOracles oracles → (mode : Mode) (store : StoreState) (one : Listed) (msg : List ℕ) (seen : Option Shown) → msg ≡ stored_octets store one.id
    → HasShown mode msg (not (is_enabled mode)) seen → octets_shown msg seen ≡ served_of oracles mode store one
served_octets oracles are mode store one msg (Some seen) msg_is is = sym (serving oracles are mode store one msg seen msg_is is).octets_are
served_octets oracles are mode store one msg None msg_is is = sym (ap (served_by oracles.surrogate mode) (sym msg_is) ∙ served_without oracles mode msg is)

pub size_given : (oracles : Oracles) → AreOracles oracles → (mode : Mode) (store : StoreState) (one : Listed) (msg : List ℕ) (seen : Option Shown) (size : ℕ) (old new : List ℕ)
    → msg ≡ stored_octets store one.id → HasShown mode msg (not (is_enabled mode)) seen → size ≡ length (octets_shown msg seen) → new ≡ old ++ (codes "RFC822.SIZE " ++ decimal size)
    → new ≡ old ++ reply_octets oracles (text (codes "RFC822.SIZE " ++ decimal (size_of oracles mode store one)) ∷ [])
size_given oracles are mode store one msg seen size old new msg_is is size_is new_is =
    new_is ∙ (ap (λ (n : ℕ). old ++ (codes "RFC822.SIZE " ++ decimal n)) (size_is ∙ ap length (served_octets oracles are mode store one msg seen msg_is is))
    ∙ ap (λ (l : List ℕ). old ++ l) (sym (append-nil (codes "RFC822.SIZE " ++ decimal (size_of oracles mode store one)))))

pub envelope_given : (oracles : Oracles) → AreOracles oracles → (mode : Mode) (store : StoreState) (one : Listed) (msg : List ℕ) (seen : Shown) (old new : List ℕ)
    → msg ≡ stored_octets store one.id → IsShownIn mode msg seen → AddsView (codes "ENVELOPE ") envelope (header_shown msg seen) old new
    → new ≡ old ++ reply_octets oracles (text (codes "ENVELOPE ") ∷ viewed mode (oracles.view_of envelope (whole_header oracles mode store one)) ∷ [])
envelope_given oracles are mode store one msg seen old new msg_is is adds =
    view_given oracles are mode (codes "ENVELOPE ") envelope (header_shown msg seen) (whole_header oracles mode store one) old new
    (serving_header oracles mode store one msg seen (serving oracles are mode store one msg seen msg_is is)) adds

pub structure_given : (oracles : Oracles) → AreOracles oracles → (mode : Mode) (store : StoreState) (one : Listed) (msg : List ℕ) (seen : Shown) (word : List ℕ) (extended : Bool) (old new : List ℕ)
    → msg ≡ stored_octets store one.id → IsShownIn mode msg seen → AddsView word (structure extended) (shown_octets msg seen) old new
    → new ≡ old ++ reply_octets oracles (text word ∷ viewed mode (oracles.view_of (structure extended) (served_of oracles mode store one)) ∷ [])
structure_given oracles are mode store one msg seen word extended old new msg_is is adds =
    view_given oracles are mode word (structure extended) (shown_octets msg seen) (served_of oracles mode store one) old new
    (serving oracles are mode store one msg seen msg_is is).octets_are adds

-- ---- a literal

span_is : (oracles : Oracles) → AreOracles oracles → (mode : Mode) (msg : List ℕ) (seen : Shown) (span : Span) → IsShownIn mode msg seen
    → take span.len (drop span.at (shown_octets msg seen)) ≡ flat_map (part_octets oracles) (shown msg mode span.at span.len ∷ [])
span_is oracles are mode msg seen span is =
    ap (λ (l : List ℕ). take span.len (drop span.at l)) (IsServed-by oracles.surrogate are.surrogates mode msg (shown_octets msg seen) is.1)
    ∙ sym (append-nil (take span.len (drop span.at (served_by oracles.surrogate mode msg))))

parts_of_msg : (mode : Mode) (store : StoreState) (one : Listed) (asked msg : List ℕ) (span : Span) → msg ≡ stored_octets store one.id
    → literal_head asked span.len ∷ shown msg mode span.at span.len ∷ [] ≡ span_parts mode store one asked span
parts_of_msg mode store one asked msg span msg_is = ap (λ (m : List ℕ). literal_head asked span.len ∷ shown m mode span.at span.len ∷ []) msg_is

Carries-head : (oracles : Oracles) (a : Around) (asked owed had : List ℕ) (size : ℕ) → had ≡ owed ++ head_octets asked size → Carries (part_octets oracles) a a None owed had (reply (literal_head asked size ∷ []))
Carries-head oracles a asked owed had size is =
    Carries-parts (part_octets oracles) a owed had (literal_head asked size ∷ []) (is ∙ ap (λ (l : List ℕ). owed ++ l) (sym (append-nil (head_octets asked size))))

-- the header stays pending and is given, and then the octets are
pub Carries-literal : (oracles : Oracles) → AreOracles oracles → (mode : Mode) (store : StoreState) (one : Listed) (asked msg : List ℕ) (seen : Shown) (span : Span) (a b c : Around) (met : Option Fault) (owed had : List ℕ)
    → msg ≡ stored_octets store one.id → IsShownIn mode msg seen → had ≡ owed ++ head_octets asked span.len
    → Carries (part_octets oracles) a b None had [] [] → Replies b c met (take span.len (drop span.at (shown_octets msg seen))) → Carries (part_octets oracles) a c met owed [] (reply (span_parts mode store one asked span))
Carries-literal oracles are mode store one asked msg seen span a b c met owed had msg_is is had_is given replies =
    let octets = shown msg mode span.at span.len ∷ [] in
    subst (λ (parts : List ReplyPart). Carries (part_octets oracles) a c met owed [] (reply parts)) (parts_of_msg mode store one asked msg span msg_is)
    (Carries-then (part_octets oracles) a a c met owed had [] (reply (literal_head asked span.len ∷ [])) (reply octets) (Carries-head oracles a asked owed had span.len had_is)
    (Carries-then (part_octets oracles) a b c met had [] [] [] (reply octets) given
    (Carries-replies (part_octets oracles) b c met octets (subst (λ (l : List ℕ). Replies b c met l) (span_is oracles are mode msg seen span is) replies))))

-- a fault before the octets
pub Carries-headed : (oracles : Oracles) (mode : Mode) (store : StoreState) (one : Listed) (asked msg : List ℕ) (span : Span) (a b : Around) (met : Fault) (owed had mid owes : List ℕ)
    → msg ≡ stored_octets store one.id → had ≡ owed ++ head_octets asked span.len
    → Carries (part_octets oracles) a b (Some met) had mid [] → Carries (part_octets oracles) a b (Some met) owed owes (reply (span_parts mode store one asked span))
Carries-headed oracles mode store one asked msg span a b met owed had mid owes msg_is had_is given =
    let octets = shown msg mode span.at span.len ∷ [] in
    subst (λ (parts : List ReplyPart). Carries (part_octets oracles) a b (Some met) owed owes (reply parts)) (parts_of_msg mode store one asked msg span msg_is)
    (Carries-then (part_octets oracles) a a b (Some met) owed had owes (reply (literal_head asked span.len ∷ [])) (reply octets) (Carries-head oracles a asked owed had span.len had_is)
    (Carries-before (part_octets oracles) a b met had mid owes [] (reply octets) given))

-- ---- what is told of a section

-- there is none
pub Carries-nothing : (oracles : Oracles) (mode : Mode) (store : StoreState) (one : Listed) (asked : Asked) (a : Around) (owed owes : List ℕ) → section_at oracles mode store one asked.path.now (wanted_place asked.wanted) ≡ None
    → owes ≡ owed ++ ((name_of asked) ++ codes " NIL") → Carries (part_octets oracles) a a None owed owes (reply (asked_parts oracles mode store one asked))
Carries-nothing oracles mode store one asked a owed owes none put =
    let parts : text ((name_of asked) ++ codes " NIL") ∷ [] ≡ asked_parts oracles mode store one asked =
    sym (ap (wanted_parts oracles mode store one (name_of asked) asked.partial asked.wanted) none ∙ nothing_wanted oracles mode store one (name_of asked) asked.partial asked.wanted) in
    subst (λ (l : List ReplyPart). Carries (part_octets oracles) a a None owed owes (reply l)) parts (Carries-text oracles a owed owes ((name_of asked) ++ codes " NIL") put)

-- octets of it
pub octets_told : (oracles : Oracles) (mode : Mode) (store : StoreState) (one : Listed) (asked : Asked) (what : Part) (span part : Span) → asked.wanted ≡ want.Octets what
    → section_at oracles mode store one asked.path.now (wanted_place asked.wanted) ≡ Some span → part ≡ partial_span asked.partial span
    → span_parts mode store one (name_of asked) part ≡ asked_parts oracles mode store one asked
octets_told oracles mode store one asked what span part wanted found part_is =
    rw part_is (sym (ap (wanted_parts oracles mode store one (name_of asked) asked.partial asked.wanted) found
    ∙ ap (λ (w : Wanted). wanted_parts oracles mode store one (name_of asked) asked.partial w (Some span)) wanted))

-- what the store tells of a message is what it keeps
pub octets_in_store : (store : StoreState) (id : ℕ) (told : List ℕ) → option_map (λ (message : Message). message.octets) (slice_get store.kept.messages id) ≡ Some told → IsStored told
    → (told ≡ stored_octets store id) × IsStored (stored_octets store id)
octets_in_store store id told told_is stored = let same = known (slice_get store.kept.messages id) told_is in (same, subst IsStored same stored)
  where
    known : (found : Option Message) → option_map (λ (message : Message). message.octets) found ≡ Some told → told ≡ option_map_or (λ (message : Message). message.octets) found []
    known None is = cc
    known (Some message) is = sym (same_Some message.octets told is)

pub spans_all : (asked : Asked) (msg told : List ℕ) (span : Span) → told ≡ msg → span ≡ partial_span asked.partial (all_of told) → span ≡ partial_span asked.partial (all_of msg)
spans_all asked msg told span told_is span_is = span_is ∙ ap (λ (octets : List ℕ). partial_span asked.partial (all_of octets)) told_is

-- all that is stored, or a part of it
stored_told : (oracles : Oracles) → AreOracles oracles → (mode : Mode) (store : StoreState) (one : Listed) (asked : Asked) (msg : List ℕ) (entities : List Entity) (span : Span) → AsksStored (is_enabled mode) asked
    → msg ≡ stored_octets store one.id → HasTree msg entities → span ≡ partial_span asked.partial (all_of msg) → span_parts mode store one (name_of asked) span ≡ asked_parts oracles mode store one asked
stored_told oracles are mode store one asked msg entities span asks msg_is tree span_is =
    let found = section_found oracles are mode store one msg (Whole (record { entities = entities })) [] place.Whole (Some (all_of msg)) msg_is (shown_stored mode msg entities asks.is_enabled tree)
    (sym (message_found msg entities tree)) in
    octets_told oracles mode store one asked place.Whole (all_of msg) span asks.wanted (rw (asks.path, asks.wanted) found) span_is

-- it is given after its header
pub Carries-stored : (oracles : Oracles) → AreOracles oracles → (mode : Mode) (store : StoreState) (one : Listed) (asked : Asked) (msg : List ℕ) (span : Span) (a b c : Around) (met : Option Fault) (owed had : List ℕ)
    → AsksStored (is_enabled mode) asked → msg ≡ stored_octets store one.id → IsStored msg → span ≡ partial_span asked.partial (all_of msg) → had ≡ owed ++ head_octets (name_of asked) span.len
    → Carries (part_octets oracles) a b None had [] [] → Replies b c met (take span.len (drop span.at msg)) → Carries (part_octets oracles) a c met owed [] (reply (asked_parts oracles mode store one asked))
Carries-stored oracles are mode store one asked msg span a b c met owed had asks msg_is stored span_is had_is given replies =
    subst (λ (parts : List ReplyPart). Carries (part_octets oracles) a c met owed [] (reply parts)) (stored_told oracles are mode store one asked msg stored.entities span asks msg_is stored.tree span_is)
    (Carries-literal oracles are mode store one (name_of asked) msg (Whole (record { entities = stored.entities })) span a b c met owed had msg_is
    (shown_stored mode msg stored.entities asks.is_enabled stored.tree) had_is given replies)

-- a fault before that
pub Carries-unstored : (oracles : Oracles) → AreOracles oracles → (mode : Mode) (store : StoreState) (one : Listed) (asked : Asked) (msg : List ℕ) (span : Span) (a b : Around) (met : Fault) (owed had mid owes : List ℕ)
    → AsksStored (is_enabled mode) asked → msg ≡ stored_octets store one.id → IsStored msg → span ≡ partial_span asked.partial (all_of msg) → had ≡ owed ++ head_octets (name_of asked) span.len
    → Carries (part_octets oracles) a b (Some met) had mid [] → Carries (part_octets oracles) a b (Some met) owed owes (reply (asked_parts oracles mode store one asked))
Carries-unstored oracles are mode store one asked msg span a b met owed had mid owes asks msg_is stored span_is had_is given =
    subst (λ (parts : List ReplyPart). Carries (part_octets oracles) a b (Some met) owed owes (reply parts)) (stored_told oracles are mode store one asked msg stored.entities span asks msg_is stored.tree span_is)
    (Carries-headed oracles mode store one (name_of asked) msg span a b met owed had mid owes msg_is had_is given)

view_told : (oracles : Oracles) (mode : Mode) (asked octets owed owes : List ℕ) → owes ≡ owed ++ (head_octets asked (length octets) ++ octets) → owes ≡ owed ++ flat_map (part_octets oracles) (view_parts mode asked octets)
view_told oracles mode asked octets owed owes is = is ∙ ap (λ (l : List ℕ). owed ++ (head_octets asked (length octets) ++ l)) (sym (append-nil octets))

-- fields of it
pub Carries-fields : (oracles : Oracles) → AreOracles oracles → (mode : Mode) (store : StoreState) (one : Listed) (asked : Asked) (chosen : Chosen) (span : Span) (header : List ℕ) (a : Around) (owed owes : List ℕ)
    → asked.wanted ≡ want.Fields chosen → section_at oracles mode store one asked.path.now (wanted_place asked.wanted) ≡ Some span → header ≡ octets_at oracles mode store one span → AddsFields asked chosen header owed owes
    → Carries (part_octets oracles) a a None owed owes (reply (asked_parts oracles mode store one asked))
Carries-fields oracles are mode store one asked chosen span header a owed owes wanted found header_is adds =
    let view = fields chosen.names.now chosen.negated in
    let told : adds.text ≡ oracles.view_of view (octets_at oracles mode store one span) = are.views view header adds.text adds.are_chosen ∙ ap (oracles.view_of view) header_is in
    let parts : view_parts mode (name_of asked) (partial_octets asked.partial adds.text) ≡ asked_parts oracles mode store one asked =
    ap (λ (l : List ℕ). view_parts mode (name_of asked) (partial_octets asked.partial l)) told
    ∙ sym (ap (wanted_parts oracles mode store one (name_of asked) asked.partial asked.wanted) found
    ∙ ap (λ (w : Wanted). wanted_parts oracles mode store one (name_of asked) asked.partial w (Some span)) wanted) in
    subst (λ (l : List ReplyPart). Carries (part_octets oracles) a a None owed owes (reply l)) parts
    (Carries-parts (part_octets oracles) a owed owes (view_parts mode (name_of asked) (partial_octets asked.partial adds.text))
    (view_told oracles mode (name_of asked) (partial_octets asked.partial adds.text) owed owes adds.new_is))
