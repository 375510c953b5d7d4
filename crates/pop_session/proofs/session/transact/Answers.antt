use Rattle.std.proofs.Common.{◌≡◌, false, rules}
use Rattle.std.specs.Option.{option_copied}
use Rattle.pop_session.specs.Machine.{answers, transaction, transaction_asks, transaction_reply, transaction_step}
use Rattle.pop_session.proofs.RowLemmas.{is_changing, takes_as, transaction_step-other}
use Rattle.pop_session.proofs.session.transact.Goals as goal

pub returns-in-Dele-Some-clause-takes : goal.returns-in-Dele-Some-clause-takes
returns-in-Dele-Some-clause-takes g c = rw (c.in-Dele-Some.is-0, c.in-Dele-Some.is-1) c.dele.ensures.takes

pub returns-in-Rset-None-clause-takes : goal.returns-in-Rset-None-clause-takes
returns-in-Rset-None-clause-takes g c = rw (c.in-Rset-None.is-0, c.in-Rset-None.is-1) c.rset.ensures.takes

pub returns-in-Quit-None-clause-takes : goal.returns-in-Quit-None-clause-takes
returns-in-Quit-None-clause-takes g c = rw (c.in-Quit-None.is-0, c.in-Quit-None.is-1) c.quit.ensures.takes

pub returns-in_default-clause-takes : goal.returns-in_default-clause-takes
returns-in_default-clause-takes g c =
    let items = c.args.pop.state.maildrop.items in
    let store = c.args.outside.now.desk.store in
    let word = c.args.command.keyword in
    let argument = option_copied c.args.command.argument in
    let other : is_changing c.args.command.keyword (option_copied c.args.command.argument) ≡ false = search rules in
    takes_as c.args.outside.now c.stay.new.outside c.stay.result (transaction_asks g.V.View.mode items store word argument)
    (λ oracles. answers (transaction_reply oracles g.V.View.mode items store word argument) (transaction g.V.View.mode items))
    (λ oracles. transaction_step oracles g.V.View.mode items store word argument) (λ oracles. transaction_step-other oracles g.V.View.mode items store word argument other) c.stay.ensures.takes
