use Rattle.std.proofs.Common.{◌++◌, Some, Ok, Err, refl}
use Rattle.std.proofs.lemmas.Result.{err_from_is_err_and}
use Rattle.mail_wire.specs.declared.outside.Fault.TheVariants as fault
use Rattle.session_core.proofs.AnswerLemmas.{Answers-stop}
use Rattle.session_tests.specs.Echo.{EchoStands, echo_grammar, saying}
use Rattle.session_tests.specs.declared.echo.Echo.TheVariants as echo
use Rattle.session_tests.proofs.EchoLemmas.{echo_answers}
use Rattle.session_tests.proofs.echo.say_literal.Goals as goal

pub returns-in_err-push_slice-clause-answers : goal.returns-in_err-push_slice-clause-answers
returns-in_err-push_slice-clause-answers g c =
    let failed = err_from_is_err_and c.from_residual.result c.from_residual.ensures.1 in
    rw (failed.1, failed.2) (Answers-stop echo_grammar EchoStands c.args.outside.now (echo.Literal c.args.said c.args.n) c.args.octets.now fault.Memory (λ bad. cc))

pub returns-in_err-give-clause-answers : goal.returns-in_err-give-clause-answers
returns-in_err-give-clause-answers g c =
    let failed = err_from_is_err_and c.from_residual-in_err-give.result c.from_residual-in_err-give.ensures.1 in
    rw (failed.1, failed.2)
    (echo_answers c.args.outside.now c.give.new.self (echo.Literal c.args.said c.args.n) c.args.octets.now (Err c.in_err-give.field-0.0) c.args.octets.now (saying (c.args.said ++ c.args.octets.now)) refl
    c.in_err-give.ensures.replies (λ more. tt))

pub returns-clause-answers : goal.returns-clause-answers
returns-clause-answers g c =
    echo_answers c.args.outside.now c.give.new.self (echo.Literal c.args.said c.args.n) c.args.octets.now (Ok (Some (echo.Saying c.push_slice.new.self))) c.args.octets.now (saying (c.args.said ++ c.args.octets.now)) refl
    c.in_ok-give.ensures.replies (λ more. rw c.in_ok-push_slice.ensures.ok refl)
