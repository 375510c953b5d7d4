use Rattle.std.proofs.Common.{sym, subst}
use Rattle.std.proofs.lemmas.List.{length-take-le}
use Rattle.mime_tree.specs.Completing.{IsCompleted}
use Rattle.utf8_fields.proofs.Raws.{HasBlock-whole}
use Rattle.utf8_reports.proofs.shown.header_of.Goals as goal

pub slice_bounds-from_slice-end : goal.slice_bounds-from_slice-end
slice_bounds-from_slice-end c =
    let block = c.in_ok-end.ensures in
    sym (length-take-le c.in_ok-end.end c.args.octets.now (HasBlock-whole c.args.octets.now block.0 c.in_ok-end.end block.1).fits)

pub returns : goal.returns
returns c =
    let block = c.in_ok-end.ensures in
    record {
      fields = block.0;
      end = c.in_ok-end.end;
      has_block = block.1;
      completed = subst (λ header. IsCompleted header c.complete.new.octets) c.in_ok-header.ensures c.in_ok-complete.ensures.ok;
    }
