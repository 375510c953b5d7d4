use Rattle.std.proofs.Common.{[], ◌∷◌}
use Rattle.imap_words.proofs.Going.{passes_on}
use Rattle.imap_grammar.specs.declared.command.FetchItem.TheVariants as item
use Rattle.imap_grammar.specs.declared.words.ItemWord.TheVariants as word
use Rattle.imap_grammar.specs.Fetching.{macro_items}
use Rattle.imap_grammar.proofs.FetchEnds.{put_on}
use Rattle.imap_grammar.proofs.fetch.with_all.Goals as goal

pub returns-in_err-fast : goal.returns-in_err-fast
returns-in_err-fast c = passes_on _ _ c.from_residual.result _ c.from_residual.ensures.1 c.in_err-fast.ensures

pub returns-in_err-made : goal.returns-in_err-made
returns-in_err-made c = passes_on _ _ c.from_residual-in_err-made.result _ c.from_residual-in_err-made.ensures.1 c.in_err-made.ensures

pub returns : goal.returns
returns c = put_on c.args.fetching (macro_items word.Fast) (item.Envelope ∷ []) c.in_ok-fast.ensures c.in_ok-made.ensures
