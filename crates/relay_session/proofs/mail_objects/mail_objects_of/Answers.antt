use Rattle.std.proofs.Common.{sym, subst, All}
use Rattle.std.proofs.lemmas.List.Elements.{All-push}
use Rattle.relay_choice.specs.MailObjects.{IsAddressed}
use Rattle.relay_session.proofs.MailObjectAddresses.{mail_objects_more}
use Rattle.relay_session.proofs.mail_objects.mail_objects_of.Goals as goal

pub loop-queued-preserved : goal.loop-queued-preserved
loop-queued-preserved c =
    let mail_objects = c.loop-queued.mail_objects in
    let mail_object = c.in_ok-mail_object_at.field-0 in
    record {
      mail_objects = mail_objects_more c.args.store.now.kept c.args.queue.now c.loop-queued.queued-index c.queued-item.result mail_objects c.push.new.self mail_object c.loop-queued-test.true c.queued-item.is
          c.in_ok-push.ensures.ok c.loop-queued.invariant.mail_objects c.in_ok-mail_object_at.ensures.mail_object;
      addressed = subst (All IsAddressed) (sym c.in_ok-push.ensures.ok) (All-push IsAddressed mail_objects mail_object c.loop-queued.invariant.addressed c.in_ok-mail_object_at.ensures.addressed);
    }
