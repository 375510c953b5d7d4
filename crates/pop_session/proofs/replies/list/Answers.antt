use Rattle.std.proofs.Common.{false, None, Some, refl, ap, ◌∙◌, string_bytes}
use Rattle.std.proofs.lemmas.Result.{err_from_is_err_and}
use Rattle.mail_wire.specs.declared.outside.Fault.TheVariants as fault
use Rattle.session_core.proofs.AskingLemmas.{Asks-nil, Asks-then}
use Rattle.session_core.proofs.KeepsLemmas.{Keeps-nil, Keeps-opens, Keeps-then}
use Rattle.pop_session.specs.Machine.{size_of}
use Rattle.pop_session.specs.declared.states.MaildropMessage.{MaildropMessage}
use Rattle.pop_session.proofs.AskLemmas.{asks_all, asks_ended, asks_kept, asks_lost, asks_marked, keeps_ended, keeps_lost, known_at}
use Rattle.pop_session.proofs.ListLemmas.{listing_turn, listing_over, listing_ended}
use Rattle.pop_session.proofs.replies.list.Goals.{then-not-one+in_ok-push_listing, else-not-one}
use Rattle.pop_session.proofs.replies.list.Goals as goal

-- what stands past the end
abbrev d : MaildropMessage
d = record { listed = record { id = 0; uid = 0; flags = 0 }; deleted = false }

pub returns-in_err-text-clause-asks : goal.returns-in_err-text-clause-asks
returns-in_err-text-clause-asks g c =
    let failed = err_from_is_err_and c.from_residual.result c.from_residual.ensures.1 in
    asks_lost c.args.outside.now c.args.outside.now c.from_residual.result None _ _ (rw failed.1 refl) (Asks-nil c.args.outside.now)

pub returns-in_err-text-clause-keeps : goal.returns-in_err-text-clause-keeps
returns-in_err-text-clause-keeps g c =
    let failed = err_from_is_err_and c.from_residual.result c.from_residual.ensures.1 in
    keeps_lost c.args.outside.now c.args.outside.now c.from_residual.result (rw failed.1 refl) (Keeps-nil c.args.outside.now)

pub push_listing-requires-clause-opens : goal.push_listing-requires-clause-opens
push_listing-requires-clause-opens g c = Keeps-opens c.args.outside.now c.loop-place.outside c.loop-place.invariant.keeps c.requires.opens

pub push_listing-requires-clause-id : goal.push_listing-requires-clause-id
push_listing-requires-clause-id g c =
    known_at c.args.outside.now.desk.store c.loop-place.outside.desk.store c.args.maildrop.now c.loop-place.place d c.requires.known c.loop-place-test.true c.loop-place.invariant.asks.store

pub loop-place-preserved : goal.loop-place-preserved
loop-place-preserved g c =
    let before = c.args.outside.now in
    let mid = c.loop-place.outside in
    let items = c.args.maildrop.now in
    let place = c.loop-place.place in
    let so_far = c.loop-place.invariant in
    elim c.if-not-one.branch [
      | then-not-one+in_ok-push_listing w ↦ record {
        text = λ oracles are.
            listing_turn oracles (size_of oracles g.V.View.mode before.desk.store) items d place _ (string_bytes c.loop-place.text) _ (string_bytes c.if-not-one.text) _
            c.loop-place-test.true w.if-not-one.true refl refl (ap string_bytes w.text-is ∙ rw so_far.asks.store at (w.in_ok-push_listing.ensures.text oracles are)) (so_far.text oracles are);
        asks = rw w.outside-is (asks_kept g.V.View.mode before mid w.push_listing.new.outside items place d c.loop-place-test.true w.if-not-one.true so_far.asks w.in_ok-push_listing.ensures.asks);
        keeps = rw w.outside-is (Keeps-then before mid w.push_listing.new.outside None so_far.keeps w.in_ok-push_listing.ensures.keeps);
      }
      | else-not-one w ↦ record {
        text = λ oracles are.
            listing_over oracles (size_of oracles g.V.View.mode before.desk.store) items d place (string_bytes c.loop-place.text) (string_bytes c.if-not-one.text) _
            c.loop-place-test.true w.if-not-one.false (ap string_bytes w.text-is) (so_far.text oracles are);
        asks = rw w.outside-is (asks_marked g.V.View.mode before mid items place d c.loop-place-test.true w.if-not-one.false so_far.asks);
        keeps = rw w.outside-is so_far.keeps;
      }
    ]

pub returns-in_err-push_listing-clause-asks : goal.returns-in_err-push_listing-clause-asks
returns-in_err-push_listing-clause-asks g c =
    let failed = err_from_is_err_and c.from_residual-in_err-push_listing.result c.from_residual-in_err-push_listing.ensures.1 in
    asks_lost c.args.outside.now c.push_listing.new.outside c.from_residual-in_err-push_listing.result (Some fault.Memory) _ _ (rw failed.1 refl)
    (Asks-then c.args.outside.now c.loop-place.outside c.push_listing.new.outside (Some fault.Memory) _ _ c.loop-place.invariant.asks c.in_err-push_listing.ensures.asks)

pub returns-in_err-push_listing-clause-keeps : goal.returns-in_err-push_listing-clause-keeps
returns-in_err-push_listing-clause-keeps g c =
    let failed = err_from_is_err_and c.from_residual-in_err-push_listing.result c.from_residual-in_err-push_listing.ensures.1 in
    rw failed.1 (Keeps-then c.args.outside.now c.loop-place.outside c.push_listing.new.outside (Some fault.Memory) c.loop-place.invariant.keeps c.in_err-push_listing.ensures.keeps)

pub returns-clause-text : goal.returns-clause-text
returns-clause-text g c =
    listing_ended string_bytes c.ended.result (λ oracles. size_of oracles g.V.View.mode c.args.outside.now.desk.store) c.args.maildrop.now c.loop-place.place (string_bytes c.loop-place.text)
    c.loop-place-test.false c.ended.ensures c.loop-place.invariant.text

pub returns-clause-asks : goal.returns-clause-asks
returns-clause-asks g c =
    asks_ended c.args.outside.now c.loop-place.outside c.ended.result _ (asks_all g.V.View.mode c.args.outside.now c.loop-place.outside c.args.maildrop.now c.loop-place.place c.loop-place-test.false c.loop-place.invariant.asks)

pub returns-clause-keeps : goal.returns-clause-keeps
returns-clause-keeps g c = keeps_ended c.args.outside.now c.loop-place.outside c.ended.result c.loop-place.invariant.keeps
