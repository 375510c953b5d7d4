use Rattle.std.proofs.Common.{None, length, ap, ◌<◌, ◌^◌, ◌∙◌, arith, rules}
use Rattle.kept_mail.specs.Kept.{Kept}
use Rattle.session_core.proofs.KeepsLemmas.{Keeps-nil, Keeps-then}
use Rattle.mail_command.proofs.GeneratingLemmas.{generated_short, no_totals, opens_still, sure_still, totals_more}
use Rattle.mail_command.proofs.MadeLemmas.{generated_marked}
use Rattle.mail_command.proofs.generating.put_messages.Goals as goal

pub loop-message-init : goal.loop-message-init
loop-message-init c = record {
  keeps = Keeps-nil c.args.outside.now;
  count = ap (λ (kept : Kept). length kept.messages) c.requires.kept;
  folders = search rules;
  totals = no_totals;
  few_stored = omega arith;
  few_served = omega arith;
}

pub loop-message-preserved : goal.loop-message-preserved
loop-message-preserved c =
    let stored : c.in_ok-sizes.sizes.stored < 2 ^ 64 = search rules in
    let served : c.in_ok-sizes.sizes.served < 2 ^ 64 = search rules in
    record {
      keeps = Keeps-then c.args.outside.now c.loop-message.outside c.put_message.new.outside None c.loop-message.invariant.keeps c.in_ok-sizes.ensures.keeps;
      count = let before = c.loop-message.invariant.count in let more = c.in_ok-sizes.ensures.count in omega (arith, before, more);
      folders = c.in_ok-sizes.ensures.folders ∙ c.loop-message.invariant.folders;
      totals = totals_more c.loop-message.message c.loop-message.stored c.loop-message.served c.in_ok-sizes.sizes c.loop-message.invariant.totals
          (rw (c.as_slice.ensures, c.in_ok-octets.ensures) at c.in_ok-sizes.ensures.sizes);
      few_stored = omega (arith, c.loop-message.invariant.few_stored, stored);
      few_served = omega (arith, c.loop-message.invariant.few_served, served);
    }

pub put_message-requires-clause-opens : goal.put_message-requires-clause-opens
put_message-requires-clause-opens c = opens_still c.args.outside.now c.loop-message.outside c.loop-message.invariant.keeps c.requires.opens

pub put_message-requires-clause-sure : goal.put_message-requires-clause-sure
put_message-requires-clause-sure c = sure_still c.args.outside.now c.loop-message.outside c.loop-message.invariant.keeps c.requires.sure

pub put_message-requires-clause-limits : goal.put_message-requires-clause-limits
put_message-requires-clause-limits c = c.loop-message.invariant.keeps.limits ∙ c.requires.limits

pub put_message-requires-clause-few : goal.put_message-requires-clause-few
put_message-requires-clause-few c =
    let within : c.loop-message.message < c.args.number = search rules in
    let before = c.loop-message.invariant.count in
    let few = c.requires.few in
    omega (arith, within, before, few)

pub put_message-requires-clause-short : goal.put_message-requires-clause-short
put_message-requires-clause-short c =
    let within : c.loop-message.message < c.args.number = search rules in
    let few = c.requires.few in
    rw (c.as_slice.ensures, c.in_ok-octets.ensures) (generated_short c.loop-message.message (omega (arith, within, few)))

pub put_message-requires-clause-marked : goal.put_message-requires-clause-marked
put_message-requires-clause-marked c =
    let within : c.loop-message.message < c.args.number = search rules in
    let few = c.requires.few in
    rw (c.as_slice.ensures, c.in_ok-octets.ensures) (generated_marked c.loop-message.message (omega (arith, within, few)))
