use Rattle.std.proofs.Common.{◌≡◌, ◌∙◌, List, sym, ap, subst, true, false}
use Rattle.std.specs.List.{list_any}
use Rattle.address_grammar.specs.declared.Address.{Address}
use Rattle.smtp_grammar.specs.Commands.{is_client}
use Rattle.smtp_session.specs.declared.states.Client.{Client}
use Rattle.smtp_session.specs.declared.states.Envelope.{Envelope}
use Rattle.smtp_session.specs.declared.states.SmtpState.TheVariants.{Mail}
use Rattle.smtp_session.specs.Machine.{is_same_remote}
use Rattle.smtp_session.specs.Session.{Knows, reply_octets}
use Rattle.smtp_session.proofs.RecipientLemmas.{room-left, knows-address, remote_added, remote_refused}
use Rattle.smtp_session.proofs.RowLemmas.{says-known, says-next, says-reply}
use Rattle.smtp_session.proofs.rows.rcpt_address.Goals as goal

pub returns-then-is_full-clause-reply : goal.returns-then-is_full-clause-reply
returns-then-is_full-clause-reply c =
    let new =
    subst (λ (remote : List Address). list_any (λ other. is_same_remote other c.args.address) remote ≡ false) c.as_slice.ensures
    (sym c.in_ok-has_remote.ensures ∙ c.if-branch.false) in
    let refused = remote_refused c.args.session.state.client c.args.session.state.envelope c.args.address new (sym c.if-is_full.ensures) in
    says-reply c.says-then-is_full.result _ _ c.says-then-is_full.ensures.reply (sym (ap (λ step. reply_octets step.reply) refused))

pub returns-clause-next : goal.returns-clause-next
returns-clause-next c =
    let new =
    subst (λ (remote : List Address). list_any (λ other. is_same_remote other c.args.address) remote ≡ false) c.as_slice.ensures
    (sym c.in_ok-has_remote.ensures ∙ c.if-branch.false) in
    let added = remote_added c.args.session.state.client c.args.session.state.envelope c.args.address new (room-left c.args.session.state.envelope (sym c.if-is_full.ensures)) in
    let client = c.in_ok-next.ensures.client in
    let envelope = c.in_ok-next.ensures.envelope in
    says-next c.says-2.result (Mail c.in_ok-next.next) _ c.says-2.ensures.next (rw (client, envelope) (sym (ap (λ step. step.state) added)))

pub returns-clause-known : goal.returns-clause-known
returns-clause-known c =
    let known = knows-address c.args.store.now c.args.session.state.envelope c.args.address c.requires.known c.requires.address (room-left c.args.session.state.envelope (sym c.if-is_full.ensures)) in
    says-known c.args.store.now c.says-2.result (Mail c.in_ok-next.next) c.says-2.ensures.next (
      subst (λ (client : Client). is_client client.name ≡ true) (sym c.in_ok-next.ensures.client) c.requires.client,
      subst (λ (envelope : Envelope). Knows c.args.store.now envelope) (sym c.in_ok-next.ensures.envelope) known,
    )
