use Rattle.std.proofs.Common.{Bool, subst}
use Rattle.std.specs.Prelude.{MatchResult}
use Rattle.imap_words.specs.Reading.{StopsReading, never}
use Rattle.imap_grammar.specs.Commands.{IsBareCommand}
use Rattle.imap_grammar.specs.Awaiting.{Comes}
use Rattle.imap_grammar.proofs.commands.after_mailbox.Goals as goal

pub returns-clause-reads : goal.returns-clause-reads
returns-clause-reads c = subst (λ z. MatchResult c.bare.result (λ x. (utf8 : Bool) → Comes utf8 (IsBareCommand z) c.args.text.now x.0 x.1.now) (λ stop. StopsReading (IsBareCommand z) never c.args.text.now stop)) c.command_with.ensures c.bare.ensures.reads
