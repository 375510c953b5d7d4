use Rattle.std.proofs.Common.{[], ◌∷◌, true, sym, ap, ◌∙◌, subst}
use Rattle.std.proofs.lemmas.Result.{err_from_is_err_and, on_ok_weaker}
use Rattle.kept_mail.specs.declared.kept.Listed.{Listed}
use Rattle.mail_store.specs.StoreState.{StoreState}
use Rattle.imap_grammar.specs.declared.command.StoreOp.TheVariants.{Add}
use Rattle.imap_mailboxes.specs.Flags.{stored_flags}
use Rattle.session_core.specs.Acts.{changes}
use Rattle.session_core.specs.Keeps.{fault_of}
use Rattle.session_core.proofs.KeepsLemmas.{Keeps-opens}
use Rattle.imap_session.specs.Machine.{Fetching, fetch_told, flags_change, seen}
use Rattle.imap_session.specs.Replies.{part_octets}
use Rattle.imap_session.specs.private.Pending.{Carries}
use Rattle.imap_session.proofs.EachLemmas.{ShowsAlike-changed, ShowsAlike-then, live_within, new_flags, old_flags, still_within}
use Rattle.imap_session.proofs.FetchLemmas.{fetched, fetched_seen}
use Rattle.imap_session.proofs.PendingLemmas.{Carries-before, Carries-then}
use Rattle.imap_session.proofs.fetching.FetchingEachMessage.take.Goals as goal

pub returns-then-not-becomes_seen-clause-carries : goal.returns-then-not-becomes_seen-clause-carries
returns-then-not-becomes_seen-clause-carries g c = λ oracles are store alike.
    let self = c.args.self.now in
    let fetching : Fetching = record { mode = g.V.View.mode; read_only = self.read_only; by_uid = self.by_uid; items = self.items.now } in
    rw (fetched oracles store fetching c.args.number c.args.one.now (sym c.becomes_seen.ensures ∙ c.if-not-becomes_seen.true)) (c.tell.ensures.carries oracles are store alike)

pub returns-then-not-becomes_seen-clause-flags : goal.returns-then-not-becomes_seen-clause-flags
returns-then-not-becomes_seen-clause-flags g c =
    on_ok_weaker c.tell.result (λ same. old_flags c.args.outside.now.desk.store.kept c.tell.new.outside.desk.store.kept c.args.one.now (ap (λ (store : StoreState). store.kept) same)) c.tell.ensures.store

pub returns-in_err-change_flags-clause-carries : goal.returns-in_err-change_flags-clause-carries
returns-in_err-change_flags-clause-carries g c = λ oracles are store alike.
    let failed = err_from_is_err_and c.from_residual.result c.from_residual.ensures.1 in
    let self = c.args.self.now in
    let fetching : Fetching = record { mode = g.V.View.mode; read_only = self.read_only; by_uid = self.by_uid; items = self.items.now } in
    let told = fetch_told oracles store fetching (record { number = c.args.number; listed = seen c.args.one.now }) true in
    rw (failed.1, failed.2, fetched_seen oracles store fetching c.args.number c.args.one.now (sym c.becomes_seen.ensures ∙ c.if-not-becomes_seen.false))
    (Carries-before (part_octets oracles) c.args.outside.now c.change_flags.new.outside c.in_err-change_flags.field-0.0 c.args.pending.now c.change_flags.new.pending c.change_flags.new.pending
    (changes (flags_change c.args.one.now (stored_flags Add c.args.one.now.flags 1)) ∷ []) told (c.in_err-change_flags.ensures.carries oracles))

pub tell-requires-2-clause-opens : goal.tell-requires-2-clause-opens
tell-requires-2-clause-opens g c = Keeps-opens c.args.outside.now c.change_flags.new.outside c.in_ok-change_flags.ensures.keeps c.requires.opens

pub tell-requires-2-clause-id : goal.tell-requires-2-clause-id
tell-requires-2-clause-id g c =
    let was = c.args.one.now in
    let low = still_within c.args.outside.now.desk.store.kept c.change_flags.new.outside.desk.store.kept was.id was.id (stored_flags Add was.flags 1) c.in_ok-change_flags.ensures.kept
    (live_within c.args.outside.now.desk.store.kept.messages was.id c.requires.live) in
    rw c.in_ok-change_flags.ensures.changed low

pub returns-clause-carries : goal.returns-clause-carries
returns-clause-carries g c = λ oracles are store alike.
    let self = c.args.self.now in
    let fetching : Fetching = record { mode = g.V.View.mode; read_only = self.read_only; by_uid = self.by_uid; items = self.items.now } in
    let was = c.args.one.now in
    let alike_now = ShowsAlike-then store c.args.outside.now.desk.store c.change_flags.new.outside.desk.store alike
    (ShowsAlike-changed c.args.outside.now.desk.store c.change_flags.new.outside.desk.store was.id (stored_flags Add was.flags 1) c.in_ok-change_flags.ensures.kept) in
    let told = subst (λ (one : Listed). Carries (part_octets oracles) c.change_flags.new.outside c.tell-2.new.outside (fault_of c.tell-2.result) c.change_flags.new.pending c.tell-2.new.pending
    (fetch_told oracles store fetching (record { number = c.args.number; listed = one }) true)) c.in_ok-change_flags.ensures.changed (c.tell-2.ensures.carries oracles are store alike_now) in
    rw (fetched_seen oracles store fetching c.args.number was (sym c.becomes_seen.ensures ∙ c.if-not-becomes_seen.false))
    (Carries-then (part_octets oracles) c.args.outside.now c.change_flags.new.outside c.tell-2.new.outside (fault_of c.tell-2.result) c.args.pending.now c.change_flags.new.pending c.tell-2.new.pending
    (changes (flags_change was (stored_flags Add was.flags 1)) ∷ []) (fetch_told oracles store fetching (record { number = c.args.number; listed = seen was }) true)
    (c.in_ok-change_flags.ensures.carries oracles) told)

pub returns-clause-flags : goal.returns-clause-flags
returns-clause-flags g c =
    let was = c.args.one.now in
    let flags = stored_flags Add was.flags 1 in
    on_ok_weaker c.tell-2.result (λ same. new_flags c.args.outside.now.desk.store.kept c.tell-2.new.outside.desk.store.kept was c.change_flags.new.one flags c.in_ok-change_flags.ensures.changed
    (ap (λ (store : StoreState). store.kept) same ∙ c.in_ok-change_flags.ensures.kept)) c.tell-2.ensures.store
