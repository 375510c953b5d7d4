use Rattle.address_lists.proofs.TextLemmas.{text_from}
use Rattle.address_lists.proofs.ascii_texts.inner_text.Goals as goal

pub returns : goal.returns
returns c = text_from _ _ _ c.requires c.after_gaps.ensures c.before_gaps.ensures
