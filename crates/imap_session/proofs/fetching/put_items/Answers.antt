use Rattle.std.proofs.Common.{◌≡◌, ◌+◌, ◌<◌, List, length, map, take, None, Some, refl, sym, subst, ◌∙◌, arith}
use Rattle.std.specs.Option.{option_copied}
use Rattle.std.proofs.lemmas.List.{take_all}
use Rattle.std.proofs.lemmas.Result.{err_from_is_err_and}
use Rattle.imap_grammar.specs.declared.command.FetchItem.{FetchItem}
use Rattle.session_core.proofs.KeepsLemmas.{Keeps-nil, Keeps-then}
use Rattle.session_core.specs.Desks.{stored_octets}
use Rattle.session_core.specs.declared.desk.Desk.{Desk}
use Rattle.imap_session.specs.Items.{item_parts}
use Rattle.imap_session.specs.Machine.{parts_following, reply}
use Rattle.imap_session.specs.Replies.{part_octets}
use Rattle.imap_session.specs.private.Messages.{ShowsAlike}
use Rattle.imap_session.specs.private.Pending.{Carries}
use Rattle.imap_session.proofs.FetchLemmas.{Carries-cut, Carries-item, HasShown-at, stands_next}
use Rattle.imap_session.proofs.PendingLemmas.{Carries-nil}
use Rattle.imap_session.proofs.fetching.put_items.Goals as goal

pub loop-item-init : goal.loop-item-init
loop-item-init g c = record {
  is_separated = refl;
  carries = λ oracles are store alike. Carries-nil (part_octets oracles) c.args.outside.now c.args.pending.now;
  desk = refl;
  keeps = Keeps-nil c.args.outside.now;
}

pub put_after-requires : goal.put_after-requires
put_after-requires g c =
    let low : c.loop-item.item-index < length c.args.items.now = omega arith in
    record {
      id = rw c.loop-item.invariant.desk c.requires.id;
      shown = rw c.loop-item.invariant.desk (HasShown-at g.V.View.mode (stored_octets c.args.outside.now.desk.store c.args.one.now.id) c.args.items.now c.loop-item.item-index c.item-item.result (option_copied c.args.shown) low
          c.item-item.is c.requires.shown);
    }

pub returns-in_err-put_after-clause-carries : goal.returns-in_err-put_after-clause-carries
returns-in_err-put_after-clause-carries g c = λ oracles are store alike.
    let failed = err_from_is_err_and c.from_residual.result c.from_residual.ensures.1 in
    let low : c.loop-item.item-index < length c.args.items.now = omega arith in
    let f = item_parts oracles g.V.View.mode store c.args.one.now in
    let alike_now = subst (λ (desk : Desk). ShowsAlike store desk.store) (sym c.loop-item.invariant.desk) alike in
    rw (failed.1, failed.2) (Carries-cut oracles c.args.outside.now c.put_after.new.outside c.in_err-put_after.field-0.0 c.args.pending.now c.put_after.new.pending c.put_after.new.pending
    c.args.after_others f c.args.items.now (c.loop-item.item-index + 1)
    (Carries-item oracles c.args.outside.now c.loop-item.outside c.put_after.new.outside (Some c.in_err-put_after.field-0.0) c.args.pending.now c.loop-item.pending c.put_after.new.pending
    c.args.after_others c.loop-item.is_separated f c.args.items.now c.loop-item.item-index c.item-item.result low c.item-item.is (c.loop-item.invariant.carries oracles are store alike) c.loop-item.invariant.is_separated
    (c.in_err-put_after.ensures.carries oracles are store alike_now)))

pub loop-item-preserved : goal.loop-item-preserved
loop-item-preserved g c =
    let low : c.loop-item.item-index < length c.args.items.now = omega arith in
    record {
      is_separated = stands_next c.args.after_others c.args.items.now c.loop-item.item-index c.item-item.result low;
      carries = λ oracles are store alike.
          let f = item_parts oracles g.V.View.mode store c.args.one.now in
          let alike_now = subst (λ (desk : Desk). ShowsAlike store desk.store) (sym c.loop-item.invariant.desk) alike in
          Carries-item oracles c.args.outside.now c.loop-item.outside c.put_after.new.outside None c.args.pending.now c.loop-item.pending c.put_after.new.pending c.args.after_others c.loop-item.is_separated
          f c.args.items.now c.loop-item.item-index c.item-item.result low c.item-item.is (c.loop-item.invariant.carries oracles are store alike) c.loop-item.invariant.is_separated
          (c.in_ok-put_after.ensures.carries oracles are store alike_now);
      desk = c.in_ok-put_after.ensures.desk ∙ c.loop-item.invariant.desk;
      keeps = Keeps-then c.args.outside.now c.loop-item.outside c.put_after.new.outside None c.loop-item.invariant.keeps c.in_ok-put_after.ensures.keeps;
    }

pub returns-clause-carries : goal.returns-clause-carries
returns-clause-carries g c = λ oracles are store alike.
    let f = item_parts oracles g.V.View.mode store c.args.one.now in
    let whole : take c.loop-item.item-index c.args.items.now ≡ c.args.items.now = take_all c.loop-item.item-index c.args.items.now (omega arith) in
    subst (λ (l : List FetchItem). Carries (part_octets oracles) c.args.outside.now c.loop-item.outside None c.args.pending.now c.loop-item.pending (reply (parts_following c.args.after_others (map f l)))) whole
    (c.loop-item.invariant.carries oracles are store alike)
