use Rattle.std.proofs.Common.{◌≡◌, ℕ, ◌+◌, ◌-◌, List, [], ◌∷◌, ◌++◌, take, All, bytes_eq, arith, refl, sym, ap, ◌∙◌, subst}
use Rattle.std.proofs.lemmas.List.{take_all}
use Rattle.std.proofs.lemmas.Result.{on_ok_weaker}
use Rattle.mime_tree.specs.declared.entity.Shape.TheVariants.{Leaf, Message, Multipart}
use Rattle.mime_tree.specs.Openings.{is_digest_type}
use Rattle.mime_tree.specs.Sections.{children_from}
use Rattle.surrogate_rope.specs.Served.{seen_outline}
use Rattle.imap_views.specs.Envelopes.{HasEnvelope}
use Rattle.imap_views.specs.Fields.{HasSomeBlock}
use Rattle.imap_views.specs.Parts.{sub_type}
use Rattle.imap_views.specs.Structures.{basic_words, header_at, multipart_extension, part_extension}
use Rattle.imap_views.specs.private.Reading.{IsStanding, part_value, seen_by}
use Rattle.imap_views.proofs.Forms.{stands_within, number_within, is_found, adds_form, adds_message, forms_none, forms_more, numbers_are, adds_multipart}
use Rattle.imap_views.proofs.structures.+form.Goals as goal

-- ---- an entity

pub push_form-index-outline-requires : goal.push_form-index-outline-requires
push_form-index-outline-requires t c =
    let within = number_within c.args.place.levels c.args.place.number c.args.seeing.now c.requires.standing in omega (arith, c.args.seeing.now.outlines.ok.0)

pub push_form-read_range-requires-clause-order : goal.push_form-read_range-requires-clause-order
push_form-read_range-requires-clause-order t c =
    (is_found c.args.place.levels c.args.place.number c.args.seeing.now c.index-outline.result.now c.requires.standing c.index-outline.ensures).place.header

pub push_form-read_range-requires-clause-within : goal.push_form-read_range-requires-clause-within
push_form-read_range-requires-clause-within t c =
    let found = is_found c.args.place.levels c.args.place.number c.args.seeing.now c.index-outline.result.now c.requires.standing c.index-outline.ensures in
    let content = found.place.content in
    let within = found.place.within in
    omega arith

pub push_form-read_header-requires : goal.push_form-read_header-requires
push_form-read_header-requires t c =
    let found = is_found c.args.place.levels c.args.place.number c.args.seeing.now c.index-outline.result.now c.requires.standing c.index-outline.ensures in
    subst HasSomeBlock (sym (c.as_slice.ensures ∙ c.in_ok-octets.ensures)) found.place.has_block

pub push_form-push_leaf-requires-clause-order : goal.push_form-push_leaf-requires-clause-order
push_form-push_leaf-requires-clause-order t c =
    (is_found c.args.place.levels c.args.place.number c.args.seeing.now c.index-outline.result.now c.requires.standing c.index-outline.ensures).place.content

pub push_form-push_leaf-requires-clause-within : goal.push_form-push_leaf-requires-clause-within
push_form-push_leaf-requires-clause-within t c =
    (is_found c.args.place.levels c.args.place.number c.args.seeing.now c.index-outline.result.now c.requires.standing c.index-outline.ensures).place.within

pub push_form-returns-in-Leaf : goal.push_form-returns-in-Leaf
push_form-returns-in-Leaf t c =
    let found = is_found c.args.place.levels c.args.place.number c.args.seeing.now c.index-outline.result.now c.requires.standing c.index-outline.ensures in
    on_ok_weaker c.push_leaf.result
    (λ put. adds_form c.args.place.levels c.args.place.number c.args.place.digest c.args.seeing.now c.index-outline.result.now Leaf c.in_ok-header.header c.in_ok-part.part c.args.made.now c.push_leaf.new.made c.in-Leaf.is found
    (c.in_ok-header.ensures.same ∙ c.as_slice.ensures ∙ c.in_ok-octets.ensures) c.in_ok-header.ensures.read c.in_ok-part.ensures (_, refl, put))
    c.push_leaf.ensures

pub push_form-push_message-requires : goal.push_form-push_message-requires
push_form-push_message-requires t c =
    let found = is_found c.args.place.levels c.args.place.number c.args.seeing.now c.index-outline.result.now c.requires.standing c.index-outline.ensures in
    (omega arith, (c.requires.shown, (found.some, (found.place, rw c.in-Message.is at found.inner))))

pub push_form-returns-in-Message : goal.push_form-returns-in-Message
push_form-returns-in-Message t c =
    let found = is_found c.args.place.levels c.args.place.number c.args.seeing.now c.index-outline.result.now c.requires.standing c.index-outline.ensures in
    on_ok_weaker c.push_message.result
    (λ put. adds_form c.args.place.levels c.args.place.number c.args.place.digest c.args.seeing.now c.index-outline.result.now Message c.in_ok-header.header c.in_ok-part.part c.args.made.now c.push_message.new.made c.in-Message.is found
    (c.in_ok-header.ensures.same ∙ c.as_slice.ensures ∙ c.in_ok-octets.ensures) c.in_ok-header.ensures.read c.in_ok-part.ensures put)
    c.push_message.ensures

pub push_form-push_multipart-requires : goal.push_form-push_multipart-requires
push_form-push_multipart-requires t c =
    let found = is_found c.args.place.levels c.args.place.number c.args.seeing.now c.index-outline.result.now c.requires.standing c.index-outline.ensures in
    let within = stands_within c.args.place.levels (seen_by c.args.seeing.now) c.args.place.number c.requires.standing in
    (omega arith, (c.requires.shown, (found.some, (within, rw c.in-Multipart.is at found.inner))))

pub push_form-returns : goal.push_form-returns
push_form-returns t c =
    let found = is_found c.args.place.levels c.args.place.number c.args.seeing.now c.index-outline.result.now c.requires.standing c.index-outline.ensures in
    on_ok_weaker c.push_multipart.result
    (λ put. adds_form c.args.place.levels c.args.place.number c.args.place.digest c.args.seeing.now c.index-outline.result.now Multipart c.in_ok-header.header c.in_ok-part.part
    c.args.made.now c.push_multipart.new.made c.in-Multipart.is found
    (c.in_ok-header.ensures.same ∙ c.as_slice.ensures ∙ c.in_ok-octets.ensures) c.in_ok-header.ensures.read c.in_ok-part.ensures put)
    c.push_multipart.ensures

-- ---- a message

pub push_message-index-requires : goal.push_message-index-requires
push_message-index-requires t c =
    let within = number_within (c.args.place.levels - 1) (c.args.place.number + 1) c.args.seeing.now c.requires.child in omega (arith, c.args.seeing.now.outlines.ok.0)

pub push_message-envelope_at-requires-clause-order : goal.push_message-envelope_at-requires-clause-order
push_message-envelope_at-requires-clause-order t c =
    (is_found (c.args.place.levels - 1) (c.args.place.number + 1) c.args.seeing.now c.index.result.now c.requires.child c.index.ensures).place.header

pub push_message-envelope_at-requires-clause-within : goal.push_message-envelope_at-requires-clause-within
push_message-envelope_at-requires-clause-within t c =
    let found = is_found (c.args.place.levels - 1) (c.args.place.number + 1) c.args.seeing.now c.index.result.now c.requires.child c.index.ensures in
    let content = found.place.content in
    let within = found.place.within in
    omega arith

pub push_message-envelope_at-requires-clause-block : goal.push_message-envelope_at-requires-clause-block
push_message-envelope_at-requires-clause-block t c =
    (is_found (c.args.place.levels - 1) (c.args.place.number + 1) c.args.seeing.now c.index.result.now c.requires.child c.index.ensures).place.has_block

pub push_message-returns : goal.push_message-returns
push_message-returns t c =
    let seen = seen_by c.args.seeing.now in
    let child = seen_outline c.index.result.now in
    let envelope = c.as_slice-2.result.now in
    let part = part_value c.args.part.now in
    let basic = basic_words part (c.args.outline.end - c.args.outline.body) in
    let found = is_found (c.args.place.levels - 1) (c.args.place.number + 1) c.args.seeing.now c.index.result.now c.requires.child c.index.ensures in
    let words : c.push_basic_words.new.made ≡ (c.args.made.now ++ 40 ∷ []) ++ basic = c.in_ok-push_basic_words.ensures ∙ ap (λ text. text ++ basic) c.in_ok-push.ensures.ok in
    let put : c.push_slice.new.self ≡ (((c.args.made.now ++ 40 ∷ []) ++ basic) ++ 32 ∷ []) ++ envelope =
    c.in_ok-push_slice.ensures.ok ∙ ap (λ text. text ++ envelope) (c.in_ok-push-2.ensures.ok ∙ ap (λ text. text ++ 32 ∷ []) words) in
    let before = c.in_ok-push-3.ensures.ok ∙ ap (λ text. text ++ 32 ∷ []) put in
    let following = c.in_ok-push_part_extension.ensures ∙ ap (λ text. text ++ part_extension seen part) c.in_ok-push_lines.ensures in
    on_ok_weaker c.push-4.result
    (λ last. adds_message (c.args.place.levels - 1) c.args.place.number seen (seen_outline c.args.outline) child part c.args.made.now c.push-3.new.self c.push_form.new.made c.push-4.new.self envelope found.place.is_outline
    (subst (HasEnvelope (header_at seen child)) (sym c.as_slice-2.ensures) c.in_ok-envelope_at.ensures) before c.in_ok-push_form.ensures (last ∙ ap (λ text. text ++ 41 ∷ []) following))
    c.push-4.ensures.ok

-- ---- a multipart

pub push_multipart-loop-number-init : goal.push_multipart-loop-number-init
push_multipart-loop-number-init t c = forms_none (c.args.place.levels - 1) (seen_by c.args.seeing.now) c.eq-digest.result c.as_slice-number-items.result.now c.push.new.self

pub push_multipart-push_form-requires : goal.push_multipart-push_form-requires
push_multipart-push_form-requires t c =
    let seen = seen_by c.args.seeing.now in
    let numbers = c.as_slice-number-items.ensures ∙ numbers_are c.args.seeing.now c.args.place.number c.index.result.now c.requires.shown c.requires.number c.index.ensures in
    let standing = subst (All (IsStanding (c.args.place.levels - 1) seen)) (sym numbers) c.requires.children in
    (omega arith, (c.requires.shown, standing c.loop-number.number-index 0 c.loop-number-test.true))

pub push_multipart-loop-number-preserved : goal.push_multipart-loop-number-preserved
push_multipart-loop-number-preserved t c =
    forms_more (c.args.place.levels - 1) (seen_by c.args.seeing.now) c.eq-digest.result c.as_slice-number-items.result.now c.loop-number.number-index _ c.push.new.self c.loop-number.made c.push_form.new.made
    c.loop-number-test.true refl c.loop-number.invariant c.in_ok-push_form.ensures

pub push_multipart-returns : goal.push_multipart-returns
push_multipart-returns t c =
    let seen = seen_by c.args.seeing.now in
    let part = part_value c.args.part.now in
    let numbers = c.as_slice-number-items.result.now in
    let all : take c.loop-number.number-index numbers ≡ children_from 0 seen.outlines c.args.place.number =
    take_all c.loop-number.number-index numbers c.loop-number-test.false
    ∙ c.as_slice-number-items.ensures ∙ numbers_are c.args.seeing.now c.args.place.number c.index.result.now c.requires.shown c.requires.number c.index.ensures in
    let digest : c.eq-digest.result ≡ is_digest_type part.typed.main = c.eq-digest.ensures ∙ ap (bytes_eq c.as_slice.result.now) c.as_slice-2.ensures ∙ ap is_digest_type c.as_slice.ensures in
    let sub : List ℕ = sub_type part.typed.main in
    let named : c.push_sub_type.new.made ≡ (c.loop-number.made ++ 32 ∷ []) ++ sub =
    c.in_ok-push_sub_type.ensures ∙ ap (λ main. c.push-2.new.self ++ sub_type main) c.as_slice-3.ensures ∙ ap (λ text. text ++ sub) c.in_ok-push-2.ensures.ok in
    let following = c.in_ok-push_multipart_extension.ensures ∙ ap (λ text. text ++ multipart_extension seen part) named in
    on_ok_weaker c.push-3.result
    (λ last. adds_multipart (c.args.place.levels - 1) c.args.place.number seen c.eq-digest.result part numbers c.loop-number.number-index c.args.made.now c.push.new.self c.loop-number.made c.push-3.new.self all
    c.in_ok-push.ensures.ok c.loop-number.invariant digest (last ∙ ap (λ text. text ++ 41 ∷ []) following))
    c.push-3.ensures.ok
