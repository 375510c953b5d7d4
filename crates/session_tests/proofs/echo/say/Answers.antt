use Rattle.std.proofs.Common.{◌≡◌, ◌++◌, ◌∙◌, sym, Some, None, Ok, Err, false, refl, []}
use Rattle.std.specs.Prelude.{codes}
use Rattle.std.specs.Str.{bytes_eq}
use Rattle.std.proofs.lemmas.Result.{err_from_is_err_and}
use Rattle.mail_wire.specs.Lines.{crlf}
use Rattle.mail_wire.specs.declared.outside.Fault.TheVariants as fault
use Rattle.session_core.proofs.AnswerLemmas.{Answers-stop}
use Rattle.session_tests.specs.Echo.{EchoStands, echo_grammar, ended, literal, quit, saying}
use Rattle.session_tests.specs.declared.echo.Echo.TheVariants as echo
use Rattle.session_tests.proofs.EchoLemmas.{bye_row, echo_answers, echo_row, go_row}
use Rattle.session_tests.proofs.echo.say.Goals as goal

pub returns-in_err-push_slice-clause-answers : goal.returns-in_err-push_slice-clause-answers
returns-in_err-push_slice-clause-answers g c =
    let failed = err_from_is_err_and c.from_residual.result c.from_residual.ensures.1 in
    rw (failed.1, failed.2) (Answers-stop echo_grammar EchoStands c.args.outside.now (echo.Saying c.args.said) c.args.line.now fault.Memory (λ bad. cc))

pub returns-in_err-give-clause-answers : goal.returns-in_err-give-clause-answers
returns-in_err-give-clause-answers g c =
    let failed = err_from_is_err_and c.from_residual-in_err-give.result c.from_residual-in_err-give.ensures.1 in
    rw (failed.1, failed.2)
    (echo_answers c.args.outside.now c.give.new.self (echo.Saying c.args.said) c.args.line.now (Err c.in_err-give.field-0.0) (codes "+ go" ++ crlf) (literal c.push_slice.new.self c.in-Some.n)
    (go_row c.args.said c.args.line.now c.push_slice.new.self c.in-Some.n (sym c.in-Some.is ∙ c.literal_len.ensures) c.in_ok-push_slice.ensures.ok) c.in_err-give.ensures.replies (λ more. tt))

pub returns-in_err-give-2-clause-answers : goal.returns-in_err-give-2-clause-answers
returns-in_err-give-2-clause-answers g c =
    let failed = err_from_is_err_and c.from_residual-in_err-give-2.result c.from_residual-in_err-give-2.ensures.1 in
    rw (failed.1, failed.2)
    (echo_answers c.args.outside.now c.give-then-is_quit.new.self (echo.Saying c.args.said) c.args.line.now (Err c.in_err-give-2.field-0.0) (codes "bye" ++ crlf) ended
    (bye_row c.args.said c.args.line.now c.as_slice.result.now (sym c.in_default.is ∙ c.literal_len.ensures) (c.as_slice.ensures ∙ c.in_ok-push_slice.ensures.ok) (sym c.is_quit.ensures ∙ c.if-is_quit.true))
    c.in_err-give-2.ensures.replies (λ more. tt))

pub returns-then-is_quit-clause-answers : goal.returns-then-is_quit-clause-answers
returns-then-is_quit-clause-answers g c =
    echo_answers c.args.outside.now c.give-then-is_quit.new.self (echo.Saying c.args.said) c.args.line.now (Ok None) (codes "bye" ++ crlf) ended
    (bye_row c.args.said c.args.line.now c.as_slice.result.now (sym c.in_default.is ∙ c.literal_len.ensures) (c.as_slice.ensures ∙ c.in_ok-push_slice.ensures.ok) (sym c.is_quit.ensures ∙ c.if-is_quit.true))
    c.in_ok-give-2.ensures.replies (λ more. refl)

pub returns-in_err-give-3-clause-answers : goal.returns-in_err-give-3-clause-answers
returns-in_err-give-3-clause-answers g c =
    let failed = err_from_is_err_and c.from_residual-in_err-give-3.result c.from_residual-in_err-give-3.ensures.1 in
    let other : bytes_eq c.as_slice-2.result.now quit ≡ false = rw (c.as_slice-2.ensures, ← c.as_slice.ensures) (sym c.is_quit.ensures ∙ c.if-is_quit.false) in
    rw (failed.1, failed.2)
    (echo_answers c.args.outside.now c.give-2.new.self (echo.Saying c.args.said) c.args.line.now (Err c.in_err-give-3.field-0.0) c.as_slice-2.result.now (saying [])
    (echo_row c.args.said c.args.line.now c.as_slice-2.result.now (sym c.in_default.is ∙ c.literal_len.ensures) (c.as_slice-2.ensures ∙ c.in_ok-push_slice.ensures.ok) other) c.in_err-give-3.ensures.replies (λ more. tt))

pub returns-clause-answers : goal.returns-clause-answers
returns-clause-answers g c =
    let other : bytes_eq c.as_slice-2.result.now quit ≡ false = rw (c.as_slice-2.ensures, ← c.as_slice.ensures) (sym c.is_quit.ensures ∙ c.if-is_quit.false) in
    echo_answers c.args.outside.now c.give-2.new.self (echo.Saying c.args.said) c.args.line.now (Ok (Some (echo.Saying c.clear.new.self))) c.as_slice-2.result.now (saying [])
    (echo_row c.args.said c.args.line.now c.as_slice-2.result.now (sym c.in_default.is ∙ c.literal_len.ensures) (c.as_slice-2.ensures ∙ c.in_ok-push_slice.ensures.ok) other) c.in_ok-give-3.ensures.replies
    (λ more. rw c.clear.ensures refl)

pub returns-in-Some-clause-answers : goal.returns-in-Some-clause-answers
returns-in-Some-clause-answers g c =
    echo_answers c.args.outside.now c.give.new.self (echo.Saying c.args.said) c.args.line.now (Ok (Some (echo.Literal c.push_slice.new.self c.in-Some.n))) (codes "+ go" ++ crlf) (literal c.push_slice.new.self c.in-Some.n)
    (go_row c.args.said c.args.line.now c.push_slice.new.self c.in-Some.n (sym c.in-Some.is ∙ c.literal_len.ensures) c.in_ok-push_slice.ensures.ok) c.in_ok-give.ensures.replies (λ more. refl)
