use Rattle.std.proofs.Common.{◌≡◌, ◌==◌, ℕ, List, true, false, sym, subst, ap}
use Rattle.std.specs.List.{list_any}
use Rattle.smtp_grammar.specs.Commands.{is_client}
use Rattle.smtp_session.specs.declared.states.Client.{Client}
use Rattle.smtp_session.specs.declared.states.Envelope.{Envelope}
use Rattle.smtp_session.specs.declared.states.SmtpState.TheVariants.{Mail}
use Rattle.smtp_session.specs.Session.{Knows}
use Rattle.smtp_session.proofs.RecipientLemmas.{room-left, knows-account, local_added}
use Rattle.smtp_session.proofs.RowLemmas.{says-known, says-next}
use Rattle.smtp_session.proofs.rows.rcpt_account.Goals as goal

pub returns-clause-next : goal.returns-clause-next
returns-clause-next c =
    let new =
    subst (λ (accounts : List ℕ). list_any (λ other. other == c.args.account) accounts ≡ false) c.as_slice.ensures (sym c.if-has_account.ensures) in
    let room = room-left c.args.session.state.envelope (sym c.if-is_full.ensures) in
    let added = local_added c.args.session.state.client c.args.session.state.envelope c.args.account new room in
    let client = c.in_ok-next.ensures.client in
    let envelope = c.in_ok-next.ensures.envelope in
    says-next c.says-2.result (Mail c.in_ok-next.next) _ c.says-2.ensures.next (rw (client, envelope) (sym (ap (λ step. step.state) added)))

pub returns-clause-known : goal.returns-clause-known
returns-clause-known c =
    let known = knows-account c.args.store.now c.args.session.state.envelope c.args.account c.requires.known c.requires.account (room-left c.args.session.state.envelope (sym c.if-is_full.ensures)) in
    says-known c.args.store.now c.says-2.result (Mail c.in_ok-next.next) c.says-2.ensures.next (
      subst (λ (client : Client). is_client client.name ≡ true) (sym c.in_ok-next.ensures.client) c.requires.client,
      subst (λ (envelope : Envelope). Knows c.args.store.now envelope) (sym c.in_ok-next.ensures.envelope) known,
    )
