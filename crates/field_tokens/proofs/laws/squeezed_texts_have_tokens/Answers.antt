use Rattle.field_tokens.proofs.TokenLines.{squeezed_by_octets, squeezed_has_tokens, squeezed_once, squeezed_no_comments, squeezed_words}
use Rattle.field_tokens.proofs.laws.squeezed_texts_have_tokens.Goals as goal

pub returns-clause-text : goal.returns-clause-text
returns-clause-text c = squeezed_by_octets

pub returns-clause-tokens : goal.returns-clause-tokens
returns-clause-tokens c = squeezed_has_tokens

pub returns-clause-again : goal.returns-clause-again
returns-clause-again c = squeezed_once

pub returns-clause-comments : goal.returns-clause-comments
returns-clause-comments c = squeezed_no_comments

pub returns-clause-words : goal.returns-clause-words
returns-clause-words c = squeezed_words
