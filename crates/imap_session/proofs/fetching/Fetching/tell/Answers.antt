use Rattle.std.proofs.Common.{map, None, Some, sym, ap, subst, ◌∙◌}
use Rattle.std.proofs.lemmas.Result.{err_from_is_err_and}
use Rattle.mail_wire.specs.declared.outside.Fault.TheVariants as fault
use Rattle.mail_store.specs.StoreState.{StoreState}
use Rattle.session_core.specs.declared.desk.Desk.{Desk}
use Rattle.session_core.proofs.KeepsLemmas.{Keeps-memory, Keeps-then}
use Rattle.imap_session.specs.Items.{asked_of, item_parts}
use Rattle.imap_session.specs.Machine.{Fetching, fetch_reply, fetch_told, parts_following, reply, with_flags, with_uid}
use Rattle.imap_session.specs.Replies.{part_octets}
use Rattle.imap_session.specs.private.Messages.{ShowsAlike}
use Rattle.imap_session.proofs.FetchLemmas.{Carries-fronted, Carries-told, tail_given, tail_parts}
use Rattle.imap_session.proofs.PendingLemmas.{Carries-before, Carries-parts, Carries-stop, Carries-then, Carries-unasked}
use Rattle.imap_session.proofs.fetching.Fetching.tell.Goals as goal

pub returns-in_err-shown-clause-carries : goal.returns-in_err-shown-clause-carries
returns-in_err-shown-clause-carries g c = λ oracles are store alike.
    let failed = err_from_is_err_and c.from_residual.result c.from_residual.ensures.1 in
    let self = c.args.self.now in
    let fetching : Fetching = record { mode = g.V.View.mode; read_only = self.read_only; by_uid = self.by_uid; items = self.items.now } in
    rw (failed.1, failed.2) (Carries-unasked (part_octets oracles) c.args.outside.now c.shown_for.new.outside c.args.pending.now c.args.pending.now
    (asked_of g.V.View.mode c.args.outside.now.desk.store self.items.now c.args.one.now.id) (fetch_told oracles store fetching (record { number = c.args.number; listed = c.args.one.now }) c.args.flags_changed) c.in_err-shown.ensures.asks)

pub returns-in_err-shown-clause-keeps : goal.returns-in_err-shown-clause-keeps
returns-in_err-shown-clause-keeps g c =
    let failed = err_from_is_err_and c.from_residual.result c.from_residual.ensures.1 in
    rw (failed.1, failed.2) c.in_err-shown.ensures.keeps

pub returns-in_err-push_front-clause-carries : goal.returns-in_err-push_front-clause-carries
returns-in_err-push_front-clause-carries g c = λ oracles are store alike.
    let failed = err_from_is_err_and c.from_residual-in_err-push_front.result c.from_residual-in_err-push_front.ensures.1 in
    let self = c.args.self.now in
    let fetching : Fetching = record { mode = g.V.View.mode; read_only = self.read_only; by_uid = self.by_uid; items = self.items.now } in
    rw (failed.1, failed.2) (Carries-told oracles store fetching c.args.number c.args.one.now c.args.flags_changed c.args.outside.now c.shown_for.new.outside c.shown_for.new.outside (Some fault.Memory)
    c.args.pending.now c.push_front.new.pending (alike.octets c.args.one.now.id) c.in_ok-shown.ensures.asks
    (Carries-stop (part_octets oracles) c.shown_for.new.outside fault.Memory c.args.pending.now c.push_front.new.pending
    (reply (fetch_reply oracles g.V.View.mode store c.args.number c.args.one.now (with_flags c.args.flags_changed (with_uid self.by_uid self.items.now)))) (λ bad. cc)))

pub returns-in_err-push_front-clause-keeps : goal.returns-in_err-push_front-clause-keeps
returns-in_err-push_front-clause-keeps g c =
    let failed = err_from_is_err_and c.from_residual-in_err-push_front.result c.from_residual-in_err-push_front.ensures.1 in
    rw (failed.1, failed.2) (Keeps-memory c.args.outside.now c.shown_for.new.outside c.in_ok-shown.ensures.keeps)

pub returns-in_err-uid_first-clause-carries : goal.returns-in_err-uid_first-clause-carries
returns-in_err-uid_first-clause-carries g c = λ oracles are store alike.
    let failed = err_from_is_err_and c.from_residual-in_err-uid_first.result c.from_residual-in_err-uid_first.ensures.1 in
    let self = c.args.self.now in
    let fetching : Fetching = record { mode = g.V.View.mode; read_only = self.read_only; by_uid = self.by_uid; items = self.items.now } in
    rw (failed.1, failed.2) (Carries-told oracles store fetching c.args.number c.args.one.now c.args.flags_changed c.args.outside.now c.shown_for.new.outside c.shown_for.new.outside (Some fault.Memory)
    c.args.pending.now c.push_uid_first.new.pending (alike.octets c.args.one.now.id) c.in_ok-shown.ensures.asks
    (Carries-stop (part_octets oracles) c.shown_for.new.outside fault.Memory c.args.pending.now c.push_uid_first.new.pending
    (reply (fetch_reply oracles g.V.View.mode store c.args.number c.args.one.now (with_flags c.args.flags_changed (with_uid self.by_uid self.items.now)))) (λ bad. cc)))

pub returns-in_err-uid_first-clause-keeps : goal.returns-in_err-uid_first-clause-keeps
returns-in_err-uid_first-clause-keeps g c =
    let failed = err_from_is_err_and c.from_residual-in_err-uid_first.result c.from_residual-in_err-uid_first.ensures.1 in
    rw (failed.1, failed.2) (Keeps-memory c.args.outside.now c.shown_for.new.outside c.in_ok-shown.ensures.keeps)

pub put_items-requires : goal.put_items-requires
put_items-requires g c =
    let same = c.in_ok-shown.ensures.asks.store in
    record {
      id = rw same c.requires.id;
      shown = rw (same, c.as_ref-shown.ensures.value) c.in_ok-shown.ensures.shown;
    }

pub returns-in_err-put_items-clause-carries : goal.returns-in_err-put_items-clause-carries
returns-in_err-put_items-clause-carries g c = λ oracles are store alike.
    let failed = err_from_is_err_and c.from_residual-in_err-put_items.result c.from_residual-in_err-put_items.ensures.1 in
    let self = c.args.self.now in
    let fetching : Fetching = record { mode = g.V.View.mode; read_only = self.read_only; by_uid = self.by_uid; items = self.items.now } in
    let items = self.items.now in
    let told = reply (parts_following c.in_ok-uid_first.uid_first (map (item_parts oracles g.V.View.mode store c.args.one.now) items)) in
    let alike_now = subst (λ (other : StoreState). ShowsAlike store other) (sym c.in_ok-shown.ensures.asks.store) alike in
    rw (failed.1, failed.2) (Carries-told oracles store fetching c.args.number c.args.one.now c.args.flags_changed c.args.outside.now c.shown_for.new.outside c.put_items.new.outside
    (Some c.in_err-put_items.field-0.0) c.args.pending.now c.put_items.new.pending (alike.octets c.args.one.now.id) c.in_ok-shown.ensures.asks
    (Carries-fronted oracles g.V.View.mode store c.args.number c.args.one.now self.by_uid c.args.flags_changed c.in_ok-uid_first.uid_first items c.shown_for.new.outside c.put_items.new.outside
    (Some c.in_err-put_items.field-0.0) c.args.pending.now c.push_front.new.pending c.push_uid_first.new.pending c.put_items.new.pending c.requires.seen c.in_ok-uid_first.ensures.first c.in_ok-push_front.ensures c.in_ok-uid_first.ensures.told
    (Carries-before (part_octets oracles) c.shown_for.new.outside c.put_items.new.outside c.in_err-put_items.field-0.0 c.push_uid_first.new.pending c.put_items.new.pending c.put_items.new.pending told
    (reply (tail_parts c.args.flags_changed items c.args.one.now)) (c.in_err-put_items.ensures.carries oracles are store alike_now))))

pub returns-in_err-put_items-clause-keeps : goal.returns-in_err-put_items-clause-keeps
returns-in_err-put_items-clause-keeps g c =
    let failed = err_from_is_err_and c.from_residual-in_err-put_items.result c.from_residual-in_err-put_items.ensures.1 in
    rw (failed.1, failed.2) (Keeps-then c.args.outside.now c.shown_for.new.outside c.put_items.new.outside (Some c.in_err-put_items.field-0.0) c.in_ok-shown.ensures.keeps c.in_err-put_items.ensures.keeps)

pub returns-in_err-push_end-clause-carries : goal.returns-in_err-push_end-clause-carries
returns-in_err-push_end-clause-carries g c = λ oracles are store alike.
    let failed = err_from_is_err_and c.from_residual-in_err-push_end.result c.from_residual-in_err-push_end.ensures.1 in
    let self = c.args.self.now in
    let fetching : Fetching = record { mode = g.V.View.mode; read_only = self.read_only; by_uid = self.by_uid; items = self.items.now } in
    let items = self.items.now in
    let told = reply (parts_following c.in_ok-uid_first.uid_first (map (item_parts oracles g.V.View.mode store c.args.one.now) items)) in
    let tail = reply (tail_parts c.args.flags_changed items c.args.one.now) in
    let alike_now = subst (λ (other : StoreState). ShowsAlike store other) (sym c.in_ok-shown.ensures.asks.store) alike in
    rw (failed.1, failed.2) (Carries-told oracles store fetching c.args.number c.args.one.now c.args.flags_changed c.args.outside.now c.shown_for.new.outside c.put_items.new.outside
    (Some fault.Memory) c.args.pending.now c.push_end.new.pending (alike.octets c.args.one.now.id) c.in_ok-shown.ensures.asks
    (Carries-fronted oracles g.V.View.mode store c.args.number c.args.one.now self.by_uid c.args.flags_changed c.in_ok-uid_first.uid_first items c.shown_for.new.outside c.put_items.new.outside
    (Some fault.Memory) c.args.pending.now c.push_front.new.pending c.push_uid_first.new.pending c.push_end.new.pending c.requires.seen c.in_ok-uid_first.ensures.first c.in_ok-push_front.ensures c.in_ok-uid_first.ensures.told
    (Carries-then (part_octets oracles) c.shown_for.new.outside c.put_items.new.outside c.put_items.new.outside (Some fault.Memory) c.push_uid_first.new.pending c.put_items.new.pending c.push_end.new.pending told tail
    (c.in_ok-put_items.ensures.carries oracles are store alike_now)
    (Carries-stop (part_octets oracles) c.put_items.new.outside fault.Memory c.put_items.new.pending c.push_end.new.pending tail (λ bad. cc)))))

pub returns-in_err-push_end-clause-keeps : goal.returns-in_err-push_end-clause-keeps
returns-in_err-push_end-clause-keeps g c =
    let failed = err_from_is_err_and c.from_residual-in_err-push_end.result c.from_residual-in_err-push_end.ensures.1 in
    rw (failed.1, failed.2) (Keeps-memory c.args.outside.now c.put_items.new.outside
    (Keeps-then c.args.outside.now c.shown_for.new.outside c.put_items.new.outside None c.in_ok-shown.ensures.keeps c.in_ok-put_items.ensures.keeps))

pub returns-clause-carries : goal.returns-clause-carries
returns-clause-carries g c = λ oracles are store alike.
    let self = c.args.self.now in
    let fetching : Fetching = record { mode = g.V.View.mode; read_only = self.read_only; by_uid = self.by_uid; items = self.items.now } in
    let items = self.items.now in
    let told = reply (parts_following c.in_ok-uid_first.uid_first (map (item_parts oracles g.V.View.mode store c.args.one.now) items)) in
    let parts = tail_parts c.args.flags_changed items c.args.one.now in
    let pushed = rw (tail_given oracles c.args.flags_changed items c.args.one.now) at c.in_ok-push_end.ensures in
    let alike_now = subst (λ (other : StoreState). ShowsAlike store other) (sym c.in_ok-shown.ensures.asks.store) alike in
    Carries-told oracles store fetching c.args.number c.args.one.now c.args.flags_changed c.args.outside.now c.shown_for.new.outside c.put_items.new.outside
    None c.args.pending.now c.push_end.new.pending (alike.octets c.args.one.now.id) c.in_ok-shown.ensures.asks
    (Carries-fronted oracles g.V.View.mode store c.args.number c.args.one.now self.by_uid c.args.flags_changed c.in_ok-uid_first.uid_first items c.shown_for.new.outside c.put_items.new.outside
    None c.args.pending.now c.push_front.new.pending c.push_uid_first.new.pending c.push_end.new.pending c.requires.seen c.in_ok-uid_first.ensures.first c.in_ok-push_front.ensures c.in_ok-uid_first.ensures.told
    (Carries-then (part_octets oracles) c.shown_for.new.outside c.put_items.new.outside c.put_items.new.outside None c.push_uid_first.new.pending c.put_items.new.pending c.push_end.new.pending told (reply parts)
    (c.in_ok-put_items.ensures.carries oracles are store alike_now)
    (Carries-parts (part_octets oracles) c.put_items.new.outside c.put_items.new.pending c.push_end.new.pending parts pushed)))

pub returns-clause-store : goal.returns-clause-store
returns-clause-store g c = ap (λ (desk : Desk). desk.store) c.in_ok-put_items.ensures.desk ∙ c.in_ok-shown.ensures.asks.store

pub returns-clause-keeps : goal.returns-clause-keeps
returns-clause-keeps g c = Keeps-then c.args.outside.now c.shown_for.new.outside c.put_items.new.outside None c.in_ok-shown.ensures.keeps c.in_ok-put_items.ensures.keeps
