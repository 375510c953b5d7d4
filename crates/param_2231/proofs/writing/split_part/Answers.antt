use Rattle.encoded_words.specs.private.Values.{value_of}
use Rattle.param_2231.proofs.PartLemmas.{IsPartOf-cut, IsCuttable-drop}
use Rattle.param_2231.proofs.writing.split_part.Goals as goal

pub returns-clause-part : goal.returns-clause-part
returns-clause-part c =
    rw (c.split_at.ensures.front, c.split_at.ensures.back)
    (IsPartOf-cut (value_of c.args.unit.now) c.args.octets.now _ _ c.requires.some c.requires.text c.fitting.ensures c.last_end.ensures)

pub returns-clause-following : goal.returns-clause-following
returns-clause-following c = rw (c.split_at.ensures.back) (IsCuttable-drop (value_of c.args.unit.now) c.args.octets.now _ c.requires.text c.last_end.ensures.ends)
