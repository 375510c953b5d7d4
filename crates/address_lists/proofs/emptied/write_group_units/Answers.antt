use Rattle.std.proofs.lemmas.Result.{on_ok_weaker}
use Rattle.address_lists.proofs.UnitsOnto.{fresh_end, name_end, group_end, group_written}
use Rattle.address_lists.proofs.emptied.write_group_units.Goals as goal

pub push_phrase-requires-clause-units : goal.push_phrase-requires-clause-units
push_phrase-requires-clause-units c = fresh_end _ c.new-units.ensures

pub push_members-requires-clause-units : goal.push_members-requires-clause-units
push_members-requires-clause-units c = name_end _ c.new-units.result _ _ _ _ c.requires.name c.new-units.ensures c.in_ok-push_phrase.ensures c.in_ok-push_text.ensures

pub write_rest-requires : goal.write_rest-requires
write_rest-requires c =
    group_end _ _ _ _ _ c.requires.members (name_end _ c.new-units.result _ _ _ _ c.requires.name c.new-units.ensures c.in_ok-push_phrase.ensures c.in_ok-push_text.ensures) c.in_ok-push_members.ensures

pub returns : goal.returns
returns c = on_ok_weaker c.write_rest.result
    (λ r. group_written _ _ c.new-units.result _ _ _ _ _ _ _ c.new-units.ensures c.in_ok-push_phrase.ensures c.in_ok-push_text.ensures c.in_ok-push_members.ensures r) c.write_rest.ensures
