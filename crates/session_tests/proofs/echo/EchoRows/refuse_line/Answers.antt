use Rattle.std.proofs.Common.{[], ◌∷◌, append-nil}
use Rattle.session_core.specs.Keeps.{fault_of}
use Rattle.session_core.proofs.DoingLemmas.{Does-replies}
use Rattle.session_tests.specs.Echo.{echo_grammar, too_long}
use Rattle.session_tests.proofs.echo.EchoRows.refuse_line.Goals as goal

pub returns-clause-refuses : goal.returns-clause-refuses
returns-clause-refuses g c = λ oracles are more state stood.
    Does-replies (echo_grammar.spelled oracles) c.args.outside.now c.give.new.self (fault_of c.give.result) (too_long ∷ []) (rw (append-nil too_long) c.give.ensures.replies)
