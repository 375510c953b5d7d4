use Rattle.std.proofs.Common.{map}
use Rattle.clap.specs.Words.{app_of}
use Rattle.std.proofs.lemmas.Bool.{false≢true}
use Rattle.setup_command.proofs.WordLemmas.{account_some, account_same, account_there, account_refused}
use Rattle.setup_command.proofs.values.account_values.Goals as goal

pub returns-in-Some-clause-some : goal.returns-in-Some-clause-some
returns-in-Some-clause-some c =
    account_same (map (λ s. s.now) c.args.words.now) c.get_str.result c.get_str-in-Some.result c.in-Some.address
    (account_some (app_of c.in_ok-command.command) (map (λ s. s.now) c.args.words.now) c.in-Ok.matches c.get_str.result c.get_str-in-Some.result
    c.in_ok-command.ensures c.requires c.in-Ok.ensures.kinds c.in-Ok.ensures.matches c.get_str.ensures c.get_str-in-Some.ensures)
    c.in-Some.is

pub returns-in-Ok-clause-none : goal.returns-in-Ok-clause-none
returns-in-Ok-clause-none c address password =
    absurd (account_there (app_of c.in_ok-command.command) (map (λ s. s.now) c.args.words.now) c.in-Ok.matches c.get_str.result c.in_ok-command.ensures c.requires
    c.in-Ok.ensures.kinds c.in-Ok.ensures.matches c.get_str.ensures c.in-None.is)

pub returns-clause-none : goal.returns-clause-none
returns-clause-none c =
    account_refused (app_of c.in_ok-command.command) (map (λ s. s.now) c.args.words.now) c.in-Err.error c.in_ok-command.ensures c.requires c.in-Err.ensures.kinds
    (λ memory. false≢true (c.if-is_want_of_memory.ensures.1 memory))
