use Rattle.std.proofs.Common.{◌≡◌, ◌∙◌, ap, length, subst, sym}
use Rattle.std.specs.Prelude.{IfSome, OnOk}
use Rattle.mail_store.specs.Catching.{CatchesUp}
use Rattle.mail_store.specs.StoreState.{StoreState}
use Rattle.mail_store.proofs.CatchLemmas.{reads_on}
use Rattle.mail_store.proofs.storing.Store.catch_up.Goals as goal

pub returns-clause-reads : goal.returns-clause-reads
returns-clause-reads g c =
    reads_on (g.J.Keeper.observed c.args.keeper.now).octets c.args.self.now c.read_after-caught.new.store c.note_failed.new.self c.is_err.result c.read_after-caught.ensures.reads c.note_failed.ensures

pub returns-clause-catches : goal.returns-clause-catches
returns-clause-catches g c =
    subst (λ (s : StoreState). OnOk c.read_after-caught.result (IfSome (g.J.Keeper.observed c.args.keeper.now).octets (λ old. CatchesUp c.args.self.now old (g.J.Keeper.observed c.read_after-caught.new.keeper).octets s.kept)))
    (sym c.note_failed.ensures) c.read_after-caught.ensures.catches

pub returns-clause-end : goal.returns-clause-end
returns-clause-end g c =
    subst (λ (s : StoreState). OnOk c.read_after-caught.result (IfSome (g.J.Keeper.observed c.read_after-caught.new.keeper).octets (λ octets. s.end ≡ length octets)))
    (sym c.note_failed.ensures) c.read_after-caught.ensures.end

pub returns-clause-failed : goal.returns-clause-failed
returns-clause-failed g c = ap (λ (s : StoreState). s.failed) c.note_failed.ensures ∙ c.is_err.ensures.value
