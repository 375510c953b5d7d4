use Rattle.address_grammar.proofs.WholeLists.{elements_once, comments_once}
use Rattle.address_lists.proofs.laws.lists_are_one.Goals as goal

pub returns-clause-elements : goal.returns-clause-elements
returns-clause-elements c = elements_once

pub returns-clause-comments : goal.returns-clause-comments
returns-clause-comments c = comments_once
