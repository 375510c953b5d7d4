use Rattle.std.proofs.Common.{map}
use Rattle.clap.specs.Words.{app_of}
use Rattle.std.proofs.lemmas.Bool.{false≢true}
use Rattle.setup_command.proofs.WordLemmas.{domain_some, domain_refused}
use Rattle.setup_command.proofs.values.one_value.Goals as goal

pub returns-in-Ok-clause-some : goal.returns-in-Ok-clause-some
returns-in-Ok-clause-some c =
    (domain_some (app_of c.in_ok-command.command) (map (λ s. s.now) c.args.words.now) c.in-Ok.matches c.get_str.result c.in_ok-command.ensures c.requires
    c.in-Ok.ensures.kinds c.in-Ok.ensures.matches c.get_str.ensures).0

pub returns-in-Ok-clause-none : goal.returns-in-Ok-clause-none
returns-in-Ok-clause-none c =
    (domain_some (app_of c.in_ok-command.command) (map (λ s. s.now) c.args.words.now) c.in-Ok.matches c.get_str.result c.in_ok-command.ensures c.requires
    c.in-Ok.ensures.kinds c.in-Ok.ensures.matches c.get_str.ensures).1

pub returns-else-is_want_of_memory-clause-none : goal.returns-else-is_want_of_memory-clause-none
returns-else-is_want_of_memory-clause-none c =
    domain_refused (app_of c.in_ok-command.command) (map (λ s. s.now) c.args.words.now) c.in-Err.error c.in_ok-command.ensures c.requires c.in-Err.ensures.kinds
    (λ memory. false≢true (c.if-is_want_of_memory.ensures.1 memory))
