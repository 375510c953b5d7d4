use Rattle.address_lists.proofs.PhraseWriting.{core_from}
use Rattle.address_lists.proofs.writing.split_core.Goals as goal

pub returns : goal.returns
returns c = core_from _ _ _ _ c.requires c.after_gaps.ensures c.split_trail.ensures
