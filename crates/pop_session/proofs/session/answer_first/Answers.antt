use Rattle.std.proofs.Common.{[], None, Ok, sym, ◌∙◌, refl}
use Rattle.std.specs.Option.{option_copied}
use Rattle.std.proofs.lemmas.Result.{err_from_is_err_and}
use Rattle.pop_session.specs.Machine.{first_step}
use Rattle.pop_session.specs.laws.PopLaws.{first_changes}
use Rattle.pop_session.proofs.RowLemmas.{takes_as, takes_failed, takes_reply}
use Rattle.pop_session.proofs.session.answer_first.Goals as goal

pub returns-in_err-give-clause-takes : goal.returns-in_err-give-clause-takes
returns-in_err-give-clause-takes g c =
    let failed = err_from_is_err_and c.from_residual.result c.from_residual.ensures.1 in
    let word = c.args.command.keyword in
    let argument = option_copied c.args.command.argument in
    let http = sym c.is_http.ensures ∙ c.if-is_http.true in
    rw (failed.1, failed.2)
    (takes_failed c.args.outside.now c.give.new.self c.in_err-give.field-0.0 (λ oracles. first_step oracles c.args.outside.now.desk.store word argument)
    (λ oracles. first_changes oracles c.args.outside.now.desk.store word argument)
    (λ oracles are. rw (http) c.in_err-give.ensures.replies))

pub returns-then-is_http-clause-takes : goal.returns-then-is_http-clause-takes
returns-then-is_http-clause-takes g c =
    let word = c.args.command.keyword in
    let argument = option_copied c.args.command.argument in
    let http = sym c.is_http.ensures ∙ c.if-is_http.true in
    takes_reply c.args.outside.now c.give.new.self (Ok None) (λ oracles. first_step oracles c.args.outside.now.desk.store word argument)
    (λ oracles. first_changes oracles c.args.outside.now.desk.store word argument)
    (λ oracles are. rw (http) c.in_ok-give.ensures.replies)
    (λ oracles are. rw (http) refl)
    tt

pub returns-clause-takes : goal.returns-clause-takes
returns-clause-takes g c =
    let other = sym c.is_http.ensures ∙ c.if-is_http.false in
    takes_as c.args.outside.now c.authorize.new.outside c.authorize.result [] _ (λ oracles. first_step oracles c.args.outside.now.desk.store c.args.command.keyword (option_copied c.args.command.argument))
    (λ oracles. rw (other) refl)
    (rw (c.new.ensures) at c.authorize.ensures.takes)
