use Rattle.std.proofs.Common.{◌≡◌, ◌∙◌, ◌++◌, sym, ap, arith, refl, drop}
use Rattle.std.proofs.lemmas.List.{take-append-drop}
use Rattle.std.proofs.lemmas.Result.{err_from_is_err_and}
use Rattle.mail_wire.specs.Lines.{lines_of}
use Rattle.mime_tree.proofs.Heads.{extent, header_slice, has_content, head_read, head_fault, fields_within}
use Rattle.mime_tree.proofs.reading.read_head.Goals as goal

pub end_of-end-requires : goal.end_of-end-requires
end_of-end-requires c = (extent (c.args.boundaries.now) c.args.octets.now c.args.start c.skip_header-stop.result c.requires.start c.skip_header-stop.ensures).apart

pub read_block_at-requires : goal.read_block_at-requires
read_block_at-requires c =
    let ext = extent (c.args.boundaries.now) c.args.octets.now c.args.start c.skip_header-stop.result c.requires.start c.skip_header-stop.ensures in
    let end_is = c.end_of-end.ensures ∙ ext.end_is in
    let len = c.split_at.ensures.front_len in omega arith

pub returns-in_err-block-clause-fault : goal.returns-in_err-block-clause-fault
returns-in_err-block-clause-fault c =
    let ext = extent (c.args.boundaries.now) c.args.octets.now c.args.start c.skip_header-stop.result c.requires.start c.skip_header-stop.ensures in
    let end_is = c.end_of-end.ensures ∙ ext.end_is in
    let slice = ap (λ front. lines_of (drop c.args.start.at front)) c.split_at.ensures.front ∙ header_slice (c.args.boundaries.now) c.args.octets.now c.args.start c.end_of-end.result c.requires.start end_is in
    let p = err_from_is_err_and c.from_residual.result c.from_residual.ensures.1 in
    rw (p.1, p.2) (head_fault (c.args.boundaries.now) c.args.octets.now c.args.start _ (rw slice at c.in_err-block.ensures.fault))

pub returns-clause-head : goal.returns-clause-head
returns-clause-head c =
    let ext = extent (c.args.boundaries.now) c.args.octets.now c.args.start c.skip_header-stop.result c.requires.start c.skip_header-stop.ensures in
    let end_is = c.end_of-end.ensures ∙ ext.end_is in
    let slice = ap (λ front. lines_of (drop c.args.start.at front)) c.split_at.ensures.front ∙ header_slice (c.args.boundaries.now) c.args.octets.now c.args.start c.end_of-end.result c.requires.start end_is in
    let content = has_content (c.args.boundaries.now) c.args.octets.now c.args.start c.skip_header-stop.result c.content_after-content.result c.requires.start c.skip_header-stop.ensures (rw c.end_of-end.ensures at c.content_after-content.ensures) in
    let whole : c.args.octets.now ≡ c.split_at.result.0.now ++ c.split_at.result.1.now = sym (take-append-drop c.end_of-end.result c.args.octets.now) ∙ rw (c.split_at.ensures.front, c.split_at.ensures.back) refl in
    head_read (c.args.boundaries.now) c.args.octets.now c.args.start c.skip_header-stop.result c.in_ok-block.block c.content_after-content.result c.requires.start c.skip_header-stop.ensures content (rw slice at c.in_ok-block.ensures.block)
    (fields_within c.split_at.result.0.now c.split_at.result.1.now c.args.octets.now c.in_ok-block.block.fields whole c.in_ok-block.ensures.within c.in_ok-block.ensures.parts)
