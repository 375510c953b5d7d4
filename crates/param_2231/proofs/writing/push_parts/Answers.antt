use Rattle.std.proofs.Common.{◌≡◌, length, sym, ◌∙◌, arith}
use Rattle.std.proofs.lemmas.Bool.Decides.{nat_tests}
use Rattle.encoded_words.specs.private.Values.{value_of}
use Rattle.param_2231.proofs.PartLemmas.{part_shortens}
use Rattle.param_2231.proofs.ParamWriting.{WritesParts-first, WritesParts-more, WritesParts-end}
use Rattle.param_2231.proofs.writing.push_parts.Goals as goal

pub loop-rest-init : goal.loop-rest-init
loop-rest-init c =
    WritesParts-first c.args.lead.now c.args.name.now (value_of c.args.unit.now) _ _ c.args.made.now _ c.requires.long (sym c.octets_in.ensures ∙ c.split_part.ensures.whole) c.split_part.ensures.part
    c.split_part.ensures.following c.in_ok-push_first.ensures

pub split_part-requires-in-loop-rest-clause-text : goal.split_part-requires-in-loop-rest-clause-text
split_part-requires-in-loop-rest-clause-text c = c.loop-rest.invariant.can

pub loop-rest-smaller : goal.loop-rest-smaller
loop-rest-smaller c = part_shortens (value_of c.args.unit.now) _ _ _ c.split_part-in-loop-rest.ensures.whole c.split_part-in-loop-rest.ensures.part

pub loop-rest-preserved : goal.loop-rest-preserved
loop-rest-preserved c =
    WritesParts-more c.args.lead.now c.args.name.now (value_of c.args.unit.now) _ _ _ c.args.made.now _ _ c.loop-rest.number c.split_part-in-loop-rest.ensures.whole c.split_part-in-loop-rest.ensures.part
    c.split_part-in-loop-rest.ensures.following c.in_ok-push_part.ensures c.loop-rest.invariant

pub returns : goal.returns
returns c =
    let end : length c.loop-rest.rest.now ≡ 0 = grind (arith, nat_tests) in
    WritesParts-end c.args.lead.now c.args.name.now (value_of c.args.unit.now) c.loop-rest.rest.now c.args.made.now _ c.loop-rest.number end c.loop-rest.invariant
