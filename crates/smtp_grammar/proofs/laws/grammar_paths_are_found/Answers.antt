use Rattle.smtp_grammar.proofs.GrammarPaths.{path_found-following, path_found-spaced, path_len-whole}
use Rattle.smtp_grammar.proofs.laws.grammar_paths_are_found.Goals as goal

pub returns-clause-whole : goal.returns-clause-whole
returns-clause-whole c = path_len-whole

pub returns-clause-following : goal.returns-clause-following
returns-clause-following c = path_found-following

pub returns-clause-spaced : goal.returns-clause-spaced
returns-clause-spaced c = path_found-spaced
