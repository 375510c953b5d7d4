use Rattle.std.proofs.Common.{sym, subst}
use Rattle.imap_grammar.specs.Standing.{IsAtLine, HasLineEnd}
use Rattle.imap_grammar.specs.declared.reader.Reader.{Reader}
use Rattle.imap_grammar.proofs.reader.Reader.whole_line.Goals as goal

pub following_line-requires : goal.following_line-requires
following_line-requires c = subst (λ (z : Reader). HasLineEnd z.line) (sym c.replace-reader.ensures.value) c.requires

pub returns : goal.returns
returns c = λ seen s. c.in_ok-event.ensures seen (subst (λ z. IsAtLine c.args.utf8 z seen) (sym c.replace-reader.ensures.value) s)
