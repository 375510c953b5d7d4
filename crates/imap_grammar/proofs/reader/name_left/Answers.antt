use Rattle.std.proofs.Common.{sym, arith}
use Rattle.imap_words.specs.Tokens.{is_name_char}
use Rattle.imap_words.proofs.RunSteps.{all_whole}
use Rattle.imap_grammar.proofs.LiteralSteps.{bad_name}
use Rattle.imap_grammar.proofs.reader.name_left.Goals as goal

pub returns-in_err-at : goal.returns-in_err-at
returns-in_err-at c = rw c.from_residual.ensures (all_whole is_name_char c.args.literal.now (sym c.in_err-at.ensures))

pub returns : goal.returns
returns c = bad_name c.args.literal.now c.args.line.now c.in_ok-at.at _ (sym c.in_ok-at.ensures) (omega (arith, c.saturating_add.ensures))
