-- Forms of entities, one within another.
use Rattle.std.proofs.Common.{◌≡◌, ℕ, zero, suc, ◌+◌, ◌-◌, ◌<◌, List, [], ◌∷◌, ◌++◌, Bool, false, length, take, map, get_or, slice_get, Some, option_map, arith, refl, sym, ap, ◌∙◌, subst, append_assoc, append-nil}
use Rattle.std.proofs.lemmas.List.{length-map, take_more}
use Rattle.std.proofs.lemmas.Option.{slice_get-map, slice_get_read, slice_get_within, get_or_from_slice_get}
use Rattle.utf8_fields.specs.Block.{HasBlock, raw_of}
use Rattle.mime_tree.specs.declared.entity.Shape.{Shape}
use Rattle.mime_tree.specs.Openings.{is_digest_type}
use Rattle.mime_tree.specs.Outlines.{Outline}
use Rattle.mime_tree.specs.Sections.{children_from}
use Rattle.mime_tree.specs.declared.outlines.Outline.{Outline as OutlineOf}
use Rattle.surrogate_rope.specs.Served.{IsShownOf, seen_outline, shown_octets, shown_outlines}
use Rattle.imap_views.specs.declared.headers.Header.{Header}
use Rattle.imap_views.specs.declared.parts.PartWords.{PartWords}
use Rattle.imap_views.specs.declared.structures.Seeing.{Seeing}
use Rattle.imap_views.specs.Envelopes.{HasEnvelope, IsEnvelope}
use Rattle.imap_views.specs.Parts.{PartValue, SaysPart, sub_type}
use Rattle.imap_views.specs.Strings.{AddsText, in_parentheses}
use Rattle.imap_views.specs.Structures.{Seen, AreForms, FormRelation, HasStructure, IsForm, IsMessageForm, IsMultipartForm, IsShapedForm, basic_words, after_spaces, header_at, lines_in, multipart_extension, part_extension, size_of}
use Rattle.imap_views.specs.private.Reading.{AreStanding, HasChildren, IsInPlace, IsRead, IsSeeing, IsStanding, part_value, raws_in, seen_by}
use Rattle.imap_views.proofs.Standing.{shown_stands}

-- ---- what is seen

pub is_seeing : (seeing : Seeing) → IsShownOf seeing.msg.now seeing.shown.now → map seen_outline seeing.outlines.items ≡ shown_outlines seeing.shown.now
    → HasChildren (map seen_outline seeing.outlines.items) seeing.children.items → IsSeeing seeing
is_seeing seeing shown outlines children = record { is_shown = shown; outlines = outlines; children = subst (λ all. HasChildren all seeing.children.items) outlines children }

-- what is seen, of these entities
abbrev seen_with : Seeing → List Outline → Seen
seen_with seeing outlines = record { octets = shown_octets seeing.msg.now seeing.shown.now; outlines = outlines; extended = seeing.extended }

pub seeing_stands : (seeing : Seeing) → IsSeeing seeing → IsStanding 33 (seen_by seeing) 0
seeing_stands seeing is =
    subst (λ outlines. IsStanding 33 (seen_with seeing outlines) 0) (sym is.outlines) (shown_stands seeing.msg.now seeing.shown.now seeing.extended is.is_shown)

-- the form of the whole was made apart, and then put last
pub is_structure : (seeing : Seeing) (made old new : List ℕ) → IsSeeing seeing → AddsText (IsForm 33 (seen_by seeing) false 0) [] made → new ≡ old ++ made
    → AddsText (HasStructure (seen_with seeing (shown_outlines seeing.shown.now))) old new
is_structure seeing made old new is adds put =
    (adds.0, subst (λ outlines. IsForm 33 (seen_with seeing outlines) false 0 adds.0) is.outlines adds.1, put ∙ ap (λ text. old ++ text) adds.2)

-- ---- an entity that stands

-- The entity of the number was found: it is in place, and those in it stand, a level less.
pub record IsFound (levels : ℕ) (seen : Seen) (number : ℕ) (outline : OutlineOf) : Type 0 where
  pub some : 0 < levels
  pub place : IsInPlace seen number (seen_outline outline)
  pub inner : AreStanding (IsStanding (levels - 1) seen) seen.outlines number outline.shape

pub stands_within : (levels : ℕ) (seen : Seen) (number : ℕ) → IsStanding levels seen number → number < length seen.outlines
unfolding IsStanding
stands_within zero seen number standing = absurd standing
stands_within (suc levels) seen number standing = slice_get_within seen.outlines number standing.0 standing.1.is_outline

pub number_within : (levels number : ℕ) (seeing : Seeing) → IsStanding levels (seen_by seeing) number → number < length seeing.outlines.items
number_within levels number seeing standing = let within = stands_within levels (seen_by seeing) number standing in omega (arith, length-map seeing.outlines.items seen_outline)

found_by : (levels : ℕ) (seen : Seen) (number : ℕ) (outline : OutlineOf) → IsStanding levels seen number → slice_get seen.outlines number ≡ Some (seen_outline outline) → IsFound levels seen number outline
unfolding IsStanding
found_by zero seen number outline standing is = absurd standing
found_by (suc levels) seen number outline standing is =
    let both : Some standing.0 ≡ Some (seen_outline outline) = sym standing.1.is_outline ∙ is in
    let same : standing.0 ≡ seen_outline outline = cc in
    let less : levels ≡ suc levels - 1 = omega arith in
    let inner : AreStanding (IsStanding levels seen) seen.outlines number outline.shape =
    subst (λ (one : Outline). AreStanding (IsStanding levels seen) seen.outlines number one.shape) same standing.2 in
    record {
      some = omega arith;
      place = subst (IsInPlace seen number) same standing.1;
      inner = subst (λ n. AreStanding (IsStanding n seen) seen.outlines number outline.shape) less inner;
    }

pub is_found : (levels number : ℕ) (seeing : Seeing) (outline : OutlineOf) → IsStanding levels (seen_by seeing) number → outline ≡ get_or seeing.outlines.items number outline
    → IsFound levels (seen_by seeing) number outline
is_found levels number seeing outline standing is =
    found_by levels (seen_by seeing) number outline standing
    (slice_get-map seen_outline seeing.outlines.items number
    ∙ ap (option_map seen_outline) (slice_get_read seeing.outlines.items (length seeing.outlines.items) number outline refl (number_within levels number seeing standing) is))

-- ---- forms

-- a form, by what the entity says of itself
pub adds_form : (levels number : ℕ) (digest : Bool) (seeing : Seeing) (outline : OutlineOf) (shape : Shape) (header : Header) (part : PartWords) (old new : List ℕ) → outline.shape ≡ shape
    → IsFound levels (seen_by seeing) number outline
    → header.octets.now ≡ header_at (seen_by seeing) (seen_outline outline) → IsRead header → SaysPart digest (raws_in header) (part_value part)
    → AddsText (λ text. IsShapedForm (IsForm (levels - 1) (seen_by seeing)) (seen_by seeing) number (seen_outline outline) (part_value part) text shape) old new
    → AddsText (IsForm levels (seen_by seeing) digest number) old new
unfolding IsForm
adds_form zero number digest seeing outline shape header part old new shape_is found same read says adds = let some = found.some in absurd (omega arith)
adds_form (suc levels) number digest seeing outline shape header part old new shape_is found same read says adds =
    let seen : Seen = seen_by seeing in
    let less : suc levels - 1 ≡ levels = omega arith in
    let shaped : IsShapedForm (IsForm levels seen) seen number (seen_outline outline) (part_value part) adds.0 outline.shape =
    subst (λ one. IsShapedForm (IsForm levels seen) seen number (seen_outline outline) (part_value part) adds.0 one) (sym shape_is)
    (subst (λ n. IsShapedForm (IsForm n seen) seen number (seen_outline outline) (part_value part) adds.0 shape) less adds.1) in (
      adds.0,
      (
        record {
          outline = seen_outline outline;
          is_outline = found.place.is_outline;
          raws = raws_in header;
          has_raws = record {
            fields = header.block.fields;
            end = header.block.end;
            has_block = subst (λ octets. HasBlock octets header.block.fields header.block.end) same read;
            raws_are = ap (λ octets. map (raw_of octets) header.block.fields) same;
          };
          part = part_value part;
          says = says;
        },
        shaped,
      ),
      adds.2,
    )

-- the envelope of a header that was read
pub has_envelope : (octets text : List ℕ) (header : Header) → header.octets.now ≡ octets → IsRead header → IsEnvelope (raws_in header) text → HasEnvelope octets text
has_envelope octets text header same read is = (
  raws_in header,
  record {
    fields = header.block.fields;
    end = header.block.end;
    has_block = subst (λ all. HasBlock all header.block.fields header.block.end) same read;
    raws_are = ap (λ all. map (raw_of all) header.block.fields) same;
  },
  is,
)

message_text : (old basic envelope body lines extension : List ℕ)
    → (((((((((old ++ 40 ∷ []) ++ basic) ++ 32 ∷ []) ++ envelope) ++ 32 ∷ []) ++ body) ++ 32 ∷ lines) ++ extension) ++ 41 ∷ [])
    ≡ old ++ in_parentheses (basic ++ (after_spaces (envelope ∷ body ∷ lines ∷ []) ++ extension))
message_text old basic envelope body lines extension = simp (append_assoc, append-nil)

-- a message: what comes before its body's form, the form, and what follows
pub adds_message : (levels number : ℕ) (seen : Seen) (outline child : Outline) (part : PartValue) (old before after new envelope : List ℕ) → slice_get seen.outlines (number + 1) ≡ Some child
    → HasEnvelope (header_at seen child) envelope → before ≡ ((((old ++ 40 ∷ []) ++ basic_words part (size_of outline)) ++ 32 ∷ []) ++ envelope) ++ 32 ∷ []
    → AddsText (IsForm levels seen false (number + 1)) before after → new ≡ ((after ++ 32 ∷ lines_in seen outline) ++ part_extension seen part) ++ 41 ∷ []
    → AddsText (IsMessageForm (IsForm levels seen) seen number outline part) old new
adds_message levels number seen outline child part old before after new envelope is_child is_envelope before_is adds new_is =
    let basic : List ℕ = basic_words part (size_of outline) in
    let lines : List ℕ = lines_in seen outline in
    let extension : List ℕ = part_extension seen part in (
      in_parentheses (basic ++ (after_spaces (envelope ∷ adds.0 ∷ lines ∷ []) ++ extension)),
      record { child = child; has_child = is_child; envelope = envelope; is_envelope = is_envelope; body = adds.0; is_body = adds.1; text_is = refl },
      new_is ∙ ap (λ text. ((text ++ 32 ∷ lines) ++ extension) ++ 41 ∷ []) (adds.2 ∙ ap (λ text. text ++ adds.0) before_is) ∙ message_text old basic envelope adds.0 lines extension,
    )

-- ---- the forms of children

-- forms of the first of the numbers were put last
abbrev pub AddsForms : ℕ → Seen → Bool → List ℕ → ℕ → List ℕ → List ℕ → Type 0
AddsForms levels seen digest numbers at old new = AddsText (AreForms (IsForm levels seen) digest (take at numbers)) old new

pub forms_none : (levels : ℕ) (seen : Seen) (digest : Bool) (numbers old : List ℕ) → AddsForms levels seen digest numbers 0 old old
forms_none levels seen digest numbers old = ([], refl, sym (append-nil old))

forms-push : (IsOne : FormRelation) (digest : Bool) (numbers : List ℕ) (number : ℕ) (text more : List ℕ) → AreForms IsOne digest numbers text → IsOne digest number more
    → AreForms IsOne digest (numbers ++ number ∷ []) (text ++ more)
forms-push IsOne digest [] number text more are one = (more, [], ap (λ front. front ++ more) are ∙ sym (append-nil more), one, refl)
forms-push IsOne digest (first ∷ numbers) number text more are one =
    (are.0, are.1 ++ more, ap (λ front. front ++ more) are.2 ∙ append_assoc are.0 are.1 more, are.3, forms-push IsOne digest numbers number are.1 more are.4 one)

pub forms_more : (levels : ℕ) (seen : Seen) (digest : Bool) (numbers : List ℕ) (at number : ℕ) (old mid new : List ℕ) → at < length numbers → number ≡ get_or numbers at 0
    → AddsForms levels seen digest numbers at old mid → AddsText (IsForm levels seen digest number) mid new → AddsForms levels seen digest numbers (at + 1) old new
forms_more levels seen digest numbers at number old mid new within is forms adds =
    let taken : take (at + 1) numbers ≡ take at numbers ++ number ∷ [] = take_more numbers at 0 within ∙ ap (λ one. take at numbers ++ one ∷ []) (sym is) in (
      forms.0 ++ adds.0,
      subst (λ all. AreForms (IsForm levels seen) digest all (forms.0 ++ adds.0)) (sym taken) (forms-push (IsForm levels seen) digest (take at numbers) number forms.0 adds.0 forms.1 adds.1),
      adds.2 ∙ ap (λ text. text ++ adds.0) forms.2 ∙ append_assoc old forms.0 adds.0,
    )

-- the numbers are those of the children
pub numbers_are : (seeing : Seeing) (number : ℕ) (numbers : List ℕ) → IsSeeing seeing → number < length (seen_by seeing).outlines → numbers ≡ get_or seeing.children.items number numbers
    → numbers ≡ children_from 0 (seen_by seeing).outlines number
numbers_are seeing number numbers is within numbers_is =
    let outlines : (seen_by seeing).outlines ≡ shown_outlines seeing.shown.now = is.outlines in
    let below : number < length (shown_outlines seeing.shown.now) = subst (λ all. number < length all) outlines within in
    numbers_is ∙ get_or_from_slice_get seeing.children.items number (children_from 0 (shown_outlines seeing.shown.now) number) numbers (is.children.1 number below)
    ∙ ap (λ all. children_from 0 all number) (sym outlines)

multipart_text : (old parts sub extension : List ℕ)
    → (((((old ++ 40 ∷ []) ++ parts) ++ 32 ∷ []) ++ sub) ++ extension) ++ 41 ∷ [] ≡ old ++ in_parentheses (parts ++ (after_spaces (sub ∷ []) ++ extension))
multipart_text old parts sub extension =
    let inside : (((parts ++ 32 ∷ []) ++ sub) ++ extension) ++ 41 ∷ [] ≡ (parts ++ (after_spaces (sub ∷ []) ++ extension)) ++ 41 ∷ [] =
    ap (λ text. text ++ 41 ∷ []) (ap (λ text. text ++ extension) (append_assoc parts (32 ∷ []) sub) ∙ append_assoc parts (32 ∷ sub) extension ∙ ap (λ text. parts ++ 32 ∷ (text ++ extension)) (sym (append-nil sub))) in
    let begun : (((((old ++ 40 ∷ []) ++ parts) ++ 32 ∷ []) ++ sub) ++ extension) ++ 41 ∷ [] ≡ old ++ 40 ∷ ((((parts ++ 32 ∷ []) ++ sub) ++ extension) ++ 41 ∷ []) = simp append_assoc in
    begun ∙ ap (λ text. old ++ 40 ∷ text) inside

-- a multipart: the forms of its children, and what follows
pub adds_multipart : (levels number : ℕ) (seen : Seen) (digest : Bool) (part : PartValue) (numbers : List ℕ) (at : ℕ) (old begun after new : List ℕ) → take at numbers ≡ children_from 0 seen.outlines number
    → begun ≡ old ++ 40 ∷ [] → AddsForms levels seen digest numbers at begun after → digest ≡ is_digest_type part.typed.main
    → new ≡ (((after ++ 32 ∷ []) ++ sub_type part.typed.main) ++ multipart_extension seen part) ++ 41 ∷ [] → AddsText (IsMultipartForm (IsForm levels seen) seen number part) old new
adds_multipart levels number seen digest part numbers at old begun after new numbers_is begun_is forms digest_is new_is =
    let sub : List ℕ = sub_type part.typed.main in
    let extension : List ℕ = multipart_extension seen part in
    let are : AreForms (IsForm levels seen) (is_digest_type part.typed.main) (children_from 0 seen.outlines number) forms.0 =
    subst (λ all. AreForms (IsForm levels seen) (is_digest_type part.typed.main) all forms.0) numbers_is (subst (λ b. AreForms (IsForm levels seen) b (take at numbers) forms.0) digest_is forms.1) in (
      in_parentheses (forms.0 ++ (after_spaces (sub ∷ []) ++ extension)),
      record { parts = forms.0; are_parts = are; text_is = refl },
      new_is ∙ ap (λ text. (((text ++ 32 ∷ []) ++ sub) ++ extension) ++ 41 ∷ []) (forms.2 ∙ ap (λ text. text ++ forms.0) begun_is) ∙ multipart_text old forms.0 sub extension,
    )
