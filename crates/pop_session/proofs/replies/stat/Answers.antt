use Rattle.std.proofs.Common.{false, None, Some, ◌<◌, ◌^◌, ◌∙◌, arith, refl, rules}
use Rattle.std.proofs.lemmas.Result.{err_from_is_err_and}
use Rattle.mail_wire.specs.declared.outside.Fault.TheVariants as fault
use Rattle.session_core.proofs.AskingLemmas.{Asks-then}
use Rattle.session_core.proofs.KeepsLemmas.{Keeps-opens, Keeps-then}
use Rattle.pop_session.specs.Machine.{size_of}
use Rattle.pop_session.specs.declared.states.MaildropMessage.{MaildropMessage}
use Rattle.pop_session.proofs.AskLemmas.{asks_all, asks_kept, asks_lost, asks_marked, keeps_lost, known_at}
use Rattle.pop_session.proofs.MaildropLemmas.{count-kept, sum-kept, left-marked}
use Rattle.pop_session.proofs.replies.stat.Goals.{then-not-one+in_ok-total, else-not-one}
use Rattle.pop_session.proofs.replies.stat.Goals as goal

-- what stands past the end
abbrev d : MaildropMessage
d = record { listed = record { id = 0; uid = 0; flags = 0 }; deleted = false }

pub loop-one-preserved : goal.loop-one-preserved
loop-one-preserved g c = elim c.if-not-one.branch [
  | then-not-one+in_ok-total w ↦
      let small : w.in_ok-total.field-0 < 2 ^ 64 = search rules in
      record {
        counted = w.count-is ∙ count-kept c.args.maildrop.now c.loop-one.one-index d c.loop-one.count c.loop-one-test.true w.if-not-one.true c.loop-one.invariant.counted;
        few = omega (arith, w.count-is, c.loop-one.invariant.few);
        summed = λ oracles gives. w.total-is ∙ sum-kept (size_of oracles g.V.View.mode c.args.outside.now.desk.store) c.args.maildrop.now c.loop-one.one-index d c.loop-one.total
            w.in_ok-total.field-0 c.loop-one-test.true w.if-not-one.true (rw c.loop-one.invariant.asks.store at (w.in_ok-total.ensures.size oracles gives)) (c.loop-one.invariant.summed oracles gives);
        fits = omega (arith, w.total-is, c.loop-one.invariant.fits, small);
        asks = rw w.outside-is (asks_kept g.V.View.mode c.args.outside.now c.loop-one.outside w.size.new.outside c.args.maildrop.now c.loop-one.one-index d c.loop-one-test.true w.if-not-one.true
            c.loop-one.invariant.asks w.in_ok-total.ensures.asks);
        keeps = rw w.outside-is (Keeps-then c.args.outside.now c.loop-one.outside w.size.new.outside None c.loop-one.invariant.keeps w.in_ok-total.ensures.keeps);
      }
  | else-not-one w ↦
      let same = left-marked c.args.maildrop.now c.loop-one.one-index d c.loop-one-test.true w.if-not-one.false in
      record {
        counted = rw same (w.count-is ∙ c.loop-one.invariant.counted);
        few = omega (arith, w.count-is, c.loop-one.invariant.few);
        summed = λ oracles gives. rw same (w.total-is ∙ c.loop-one.invariant.summed oracles gives);
        fits = omega (arith, w.total-is, c.loop-one.invariant.fits);
        asks = rw w.outside-is (asks_marked g.V.View.mode c.args.outside.now c.loop-one.outside c.args.maildrop.now c.loop-one.one-index d c.loop-one-test.true w.if-not-one.false c.loop-one.invariant.asks);
        keeps = rw w.outside-is c.loop-one.invariant.keeps;
      }
]

pub size-requires-clause-opens : goal.size-requires-clause-opens
size-requires-clause-opens g c = Keeps-opens c.args.outside.now c.loop-one.outside c.loop-one.invariant.keeps c.requires.opens

pub size-requires-clause-id : goal.size-requires-clause-id
size-requires-clause-id g c =
    known_at c.args.outside.now.desk.store c.loop-one.outside.desk.store c.args.maildrop.now c.loop-one.one-index d c.requires.known c.loop-one-test.true c.loop-one.invariant.asks.store

pub returns-in_err-total-clause-asks : goal.returns-in_err-total-clause-asks
returns-in_err-total-clause-asks g c =
    let failed = err_from_is_err_and c.from_residual.result c.from_residual.ensures.1 in
    asks_lost c.args.outside.now c.size.new.outside c.from_residual.result (Some fault.Memory) _ _ (rw failed.1 refl)
    (Asks-then c.args.outside.now c.loop-one.outside c.size.new.outside (Some fault.Memory) _ _ c.loop-one.invariant.asks c.in_err-total.ensures.asks)

pub returns-in_err-total-clause-keeps : goal.returns-in_err-total-clause-keeps
returns-in_err-total-clause-keeps g c =
    let failed = err_from_is_err_and c.from_residual.result c.from_residual.ensures.1 in
    rw failed.1 (Keeps-then c.args.outside.now c.loop-one.outside c.size.new.outside (Some fault.Memory) c.loop-one.invariant.keeps c.in_err-total.ensures.keeps)

pub returns-in_err-format-clause-asks : goal.returns-in_err-format-clause-asks
returns-in_err-format-clause-asks g c =
    let failed = err_from_is_err_and c.from_residual-in_err-format.result c.from_residual-in_err-format.ensures.1 in
    asks_lost c.args.outside.now c.loop-one.outside c.from_residual-in_err-format.result None _ _ (rw failed.1 refl) c.loop-one.invariant.asks

pub returns-in_err-format-clause-keeps : goal.returns-in_err-format-clause-keeps
returns-in_err-format-clause-keeps g c =
    let failed = err_from_is_err_and c.from_residual-in_err-format.result c.from_residual-in_err-format.ensures.1 in
    keeps_lost c.args.outside.now c.loop-one.outside c.from_residual-in_err-format.result (rw failed.1 refl) c.loop-one.invariant.keeps

pub returns-clause-asks : goal.returns-clause-asks
returns-clause-asks g c = asks_all g.V.View.mode c.args.outside.now c.loop-one.outside c.args.maildrop.now c.loop-one.one-index c.loop-one-test.false c.loop-one.invariant.asks
