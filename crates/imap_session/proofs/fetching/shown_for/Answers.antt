use Rattle.std.proofs.Common.{None, Some, sym, ◌∙◌}
use Rattle.std.proofs.lemmas.Result.{err_from_is_err_and}
use Rattle.mail_wire.specs.declared.outside.Fault.TheVariants as fault
use Rattle.session_core.proofs.KeepsLemmas.{Keeps-nil}
use Rattle.imap_session.proofs.FetchLemmas.{Asks-none, Asks-shown}
use Rattle.imap_session.proofs.fetching.shown_for.Goals as goal

pub returns-then-not-asks_shown-clause-asks : goal.returns-then-not-asks_shown-clause-asks
returns-then-not-asks_shown-clause-asks g c =
    Asks-none g.V.View.mode c.args.outside.now c.args.items.now c.args.id (rw (← c.enabled.ensures) (sym c.asks_shown.ensures ∙ c.if-not-asks_shown.true))

pub returns-then-not-asks_shown-clause-keeps : goal.returns-then-not-asks_shown-clause-keeps
returns-then-not-asks_shown-clause-keeps g c = Keeps-nil c.args.outside.now

pub returns-in_err-show-clause-asks : goal.returns-in_err-show-clause-asks
returns-in_err-show-clause-asks g c =
    let failed = err_from_is_err_and c.from_residual.result c.from_residual.ensures.1 in
    rw failed.1 (Asks-shown g.V.View.mode c.args.outside.now c.show.new.self (Some fault.Memory) c.args.items.now c.args.id
    (rw (← c.enabled.ensures) (sym c.asks_shown.ensures ∙ c.if-not-asks_shown.false)) c.in_err-show.ensures.asks)

pub returns-in_err-show-clause-keeps : goal.returns-in_err-show-clause-keeps
returns-in_err-show-clause-keeps g c =
    let failed = err_from_is_err_and c.from_residual.result c.from_residual.ensures.1 in
    rw failed.1 c.in_err-show.ensures.keeps

pub returns-clause-asks : goal.returns-clause-asks
returns-clause-asks g c =
    Asks-shown g.V.View.mode c.args.outside.now c.show.new.self None c.args.items.now c.args.id
    (rw (← c.enabled.ensures) (sym c.asks_shown.ensures ∙ c.if-not-asks_shown.false)) c.in_ok-show.ensures.asks
