use Rattle.address_lists.specs.PathPieces.{PathPieces}
use Rattle.field_downgrade.proofs.StructuredWriting.{path_written}
use Rattle.field_downgrade.proofs.structured.write_value.Goals as goal

pub returns-in-Path : goal.returns-in-Path
returns-in-Path c =
    rw c.in-Path.is (path_written (PathPieces c.args.value.now) c.args.made.now c.rewrite_path.new.made c.rewrite_path.result c.rewrite_path.ensures.some c.rewrite_path.ensures.none c.rewrite_path.ensures.unchanged)
