use Rattle.address_grammar.proofs.PathParts.{path_utf8}
use Rattle.utf8_reports.proofs.destinations.served_text.Goals as goal

pub served-requires : goal.served-requires
served-requires c = path_utf8 c.requires.0 c.args.address.now c.requires.1
