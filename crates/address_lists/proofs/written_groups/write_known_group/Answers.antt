use Rattle.std.proofs.Common.{sym, ◌∙◌}
use Rattle.std.proofs.lemmas.Result.{on_ok_weaker}
use Rattle.address_grammar.specs.AddressLists.{Group}
use Rattle.address_lists.proofs.ListRewriting.{element_blank, ascii_element, group_element}
use Rattle.std.proofs.Common.{subst}
use Rattle.field_tokens.specs.Lexemes.{values_of}
use Rattle.address_lists.specs.private.ListWriting.{IsServedGroup}
use Rattle.address_lists.proofs.written_groups.write_known_group.Goals as goal

pub write_text-requires : goal.write_text-requires
write_text-requires c = element_blank _ (Group c.requires.group.name c.requires.group.members) c.requires.group.group

pub returns-then-are_ascii : goal.returns-then-are_ascii
returns-then-are_ascii c = on_ok_weaker c.write_text.result
    (λ a. ascii_element _ (Group c.requires.group.name c.requires.group.members) _ _ c.requires.group.group (sym c.are_ascii.ensures ∙ c.if-are_ascii.true) a) c.write_text.ensures

pub write_kept-requires-clause-group : goal.write_kept-requires-clause-group
write_kept-requires-clause-group c = subst (IsServedGroup (values_of c.args.lexemes)) c.if-is_served.true c.requires.group

pub returns-then-is_served : goal.returns-then-is_served
returns-then-is_served c = on_ok_weaker c.write_kept.result (λ a. group_element _ _ _ _ c.requires.group (sym c.are_ascii.ensures ∙ c.if-are_ascii.false) a) c.write_kept.ensures

pub write_not_kept-requires-clause-group : goal.write_not_kept-requires-clause-group
write_not_kept-requires-clause-group c = subst (IsServedGroup (values_of c.args.lexemes)) c.if-is_served.false c.requires.group

pub returns : goal.returns
returns c = on_ok_weaker c.write_not_kept.result (λ a. group_element _ _ _ _ c.requires.group (sym c.are_ascii.ensures ∙ c.if-are_ascii.false) a) c.write_not_kept.ensures
