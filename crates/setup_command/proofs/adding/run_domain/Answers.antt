use Rattle.ace_domains.specs.Domains.{compared_form}
use Rattle.mail_store.specs.Changing.{domain_refusal}
use Rattle.kept_mail.specs.Kept.{Kept}
use Rattle.journal_records.specs.declared.records.Record.TheVariants as records
use Rattle.setup_command.proofs.AddingLemmas.{unopened, added, refused}
use Rattle.setup_command.proofs.adding.run_domain.Goals as goal

pub returns-in-Err-clause-runs : goal.returns-in-Err-clause-runs
returns-in-Err-clause-runs g c =
    (unopened (λ (kept : Kept). domain_refusal kept c.args.domain.now) (records.Domain (compared_form c.args.domain.now))
    (g.J.Keeper.observed c.args.keeper.now).octets (g.J.Keeper.observed c.open.new.keeper).octets (g.W.Wire.observed c.args.wire.now) (g.W.Wire.observed c.tell_unopened.new.wire) c.in-Err.fault c.tell_unopened.result
    c.open.ensures.leaves c.in-Err.ensures.fault c.tell_unopened.ensures.observed).runs

pub returns-in-Err-clause-exact : goal.returns-in-Err-clause-exact
returns-in-Err-clause-exact g c =
    (unopened (λ (kept : Kept). domain_refusal kept c.args.domain.now) (records.Domain (compared_form c.args.domain.now))
    (g.J.Keeper.observed c.args.keeper.now).octets (g.J.Keeper.observed c.open.new.keeper).octets (g.W.Wire.observed c.args.wire.now) (g.W.Wire.observed c.tell_unopened.new.wire) c.in-Err.fault c.tell_unopened.result
    c.open.ensures.leaves c.in-Err.ensures.fault c.tell_unopened.ensures.observed).exact

pub returns-in-Ok-add_domain-clause-runs : goal.returns-in-Ok-add_domain-clause-runs
returns-in-Ok-add_domain-clause-runs g c =
    (added (Unit {0}) c.in-Ok-add_domain.field-0 (λ (kept : Kept). domain_refusal kept c.args.domain.now) (records.Domain (compared_form c.args.domain.now))
    (g.J.Keeper.observed c.args.keeper.now).octets (g.J.Keeper.observed c.open.new.keeper).octets (g.J.Keeper.observed c.add_domain.new.keeper).octets (g.W.Wire.observed c.args.wire.now) c.in-Ok.store c.add_domain.new.self
    c.open.ensures.leaves c.in-Ok.ensures.fold c.in-Ok.ensures.opens c.in-Ok-add_domain.ensures.changes c.in-Ok-add_domain.ensures.refusal).runs

pub returns-in-Ok-add_domain-clause-exact : goal.returns-in-Ok-add_domain-clause-exact
returns-in-Ok-add_domain-clause-exact g c =
    (added (Unit {0}) c.in-Ok-add_domain.field-0 (λ (kept : Kept). domain_refusal kept c.args.domain.now) (records.Domain (compared_form c.args.domain.now))
    (g.J.Keeper.observed c.args.keeper.now).octets (g.J.Keeper.observed c.open.new.keeper).octets (g.J.Keeper.observed c.add_domain.new.keeper).octets (g.W.Wire.observed c.args.wire.now) c.in-Ok.store c.add_domain.new.self
    c.open.ensures.leaves c.in-Ok.ensures.fold c.in-Ok.ensures.opens c.in-Ok-add_domain.ensures.changes c.in-Ok-add_domain.ensures.refusal).exact

pub returns-in-Ok-add_domain-clause-journal : goal.returns-in-Ok-add_domain-clause-journal
returns-in-Ok-add_domain-clause-journal g c =
    (added (Unit {0}) c.in-Ok-add_domain.field-0 (λ (kept : Kept). domain_refusal kept c.args.domain.now) (records.Domain (compared_form c.args.domain.now))
    (g.J.Keeper.observed c.args.keeper.now).octets (g.J.Keeper.observed c.open.new.keeper).octets (g.J.Keeper.observed c.add_domain.new.keeper).octets (g.W.Wire.observed c.args.wire.now) c.in-Ok.store c.add_domain.new.self
    c.open.ensures.leaves c.in-Ok.ensures.fold c.in-Ok.ensures.opens c.in-Ok-add_domain.ensures.changes c.in-Ok-add_domain.ensures.refusal).journal

pub returns-clause-runs : goal.returns-clause-runs
returns-clause-runs g c =
    (refused (Unit {0}) (λ (kept : Kept). domain_refusal kept c.args.domain.now) (records.Domain (compared_form c.args.domain.now))
    (g.J.Keeper.observed c.args.keeper.now).octets (g.J.Keeper.observed c.open.new.keeper).octets (g.J.Keeper.observed c.add_domain.new.keeper).octets (g.W.Wire.observed c.args.wire.now) (g.W.Wire.observed c.tell_refused.new.wire)
    c.in-Ok.store c.add_domain.new.self c.in-Err-add_domain.why c.tell_refused.result
    c.open.ensures.leaves c.in-Ok.ensures.fold c.in-Ok.ensures.opens c.in-Err-add_domain.ensures.changes c.in-Err-add_domain.ensures.refusal c.tell_refused.ensures.observed).runs

pub returns-clause-exact : goal.returns-clause-exact
returns-clause-exact g c =
    (refused (Unit {0}) (λ (kept : Kept). domain_refusal kept c.args.domain.now) (records.Domain (compared_form c.args.domain.now))
    (g.J.Keeper.observed c.args.keeper.now).octets (g.J.Keeper.observed c.open.new.keeper).octets (g.J.Keeper.observed c.add_domain.new.keeper).octets (g.W.Wire.observed c.args.wire.now) (g.W.Wire.observed c.tell_refused.new.wire)
    c.in-Ok.store c.add_domain.new.self c.in-Err-add_domain.why c.tell_refused.result
    c.open.ensures.leaves c.in-Ok.ensures.fold c.in-Ok.ensures.opens c.in-Err-add_domain.ensures.changes c.in-Err-add_domain.ensures.refusal c.tell_refused.ensures.observed).exact

pub returns-clause-journal : goal.returns-clause-journal
returns-clause-journal g c =
    (refused (Unit {0}) (λ (kept : Kept). domain_refusal kept c.args.domain.now) (records.Domain (compared_form c.args.domain.now))
    (g.J.Keeper.observed c.args.keeper.now).octets (g.J.Keeper.observed c.open.new.keeper).octets (g.J.Keeper.observed c.add_domain.new.keeper).octets (g.W.Wire.observed c.args.wire.now) (g.W.Wire.observed c.tell_refused.new.wire)
    c.in-Ok.store c.add_domain.new.self c.in-Err-add_domain.why c.tell_refused.result
    c.open.ensures.leaves c.in-Ok.ensures.fold c.in-Ok.ensures.opens c.in-Err-add_domain.ensures.changes c.in-Err-add_domain.ensures.refusal c.tell_refused.ensures.observed).journal
