use Rattle.std.proofs.Common.{[], ◌∷◌}
use Rattle.imap_words.proofs.Going.{passes_on}
use Rattle.imap_grammar.specs.declared.command.FetchItem.TheVariants as item
use Rattle.imap_grammar.proofs.FetchEnds.{put_on}
use Rattle.imap_grammar.proofs.fetch.with_fast.Goals as goal

pub returns-in_err-with_flags : goal.returns-in_err-with_flags
returns-in_err-with_flags c = passes_on _ _ c.from_residual.result _ c.from_residual.ensures.1 c.in_err-with_flags.ensures

pub returns-in_err-with_date : goal.returns-in_err-with_date
returns-in_err-with_date c = passes_on _ _ c.from_residual-in_err-with_date.result _ c.from_residual-in_err-with_date.ensures.1 c.in_err-with_date.ensures

pub returns-in_err-made : goal.returns-in_err-made
returns-in_err-made c = passes_on _ _ c.from_residual-in_err-made.result _ c.from_residual-in_err-made.ensures.1 c.in_err-made.ensures

pub returns : goal.returns
returns c = put_on c.args.fetching (item.Flags ∷ item.InternalDate ∷ []) (item.Size ∷ []) (put_on c.args.fetching (item.Flags ∷ []) (item.InternalDate ∷ []) c.in_ok-with_flags.ensures c.in_ok-with_date.ensures) c.in_ok-made.ensures
