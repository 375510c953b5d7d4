use Rattle.std.proofs.Common.{sym, ◌∙◌}
use Rattle.std.proofs.lemmas.Result.{on_ok_weaker}
use Rattle.address_grammar.proofs.ListSaying.{place_malformed}
use Rattle.address_lists.proofs.ListRewriting.{element_place}
use Rattle.address_lists.proofs.rewriting.write_place.Goals as goal

pub returns-clause-ok : goal.returns-clause-ok
returns-clause-ok c = on_ok_weaker c.write_element.result (λ a. element_place _ _ _ (sym c.are_blank.ensures ∙ c.if-are_blank.false) a) c.write_element.ensures.ok

pub returns-clause-malformed : goal.returns-clause-malformed
returns-clause-malformed c = λ e. place_malformed _ (sym c.are_blank.ensures ∙ c.if-are_blank.false) (c.write_element.ensures.malformed e)
