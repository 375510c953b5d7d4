use Rattle.std.proofs.Common.{◌≡◌, Some, List, Option, refl, ap, subst}
use Rattle.std.specs.Prelude.{IfSome, IfNone, ℕ}
use Rattle.journal_records.specs.declared.records.Record.TheVariants as records
use Rattle.journal_records.specs.Stored.{IsStoredWith}
use Rattle.mail_store.specs.private.Store.{kept_of, indexes_of}
use Rattle.mail_store.specs.StoreState.{StoreState}
use Rattle.mail_store.specs.private.Adding.{with_record}
use Rattle.mail_store.proofs.AppendLemmas.{stored_with}
use Rattle.mail_store.proofs.EntryLemmas.{recorded-room, indexes-entry, few-recipients}
use Rattle.mail_store.proofs.QueueLemmas.{kept-queued}
use Rattle.kept_mail.proofs.QueueLemmas.{refutes}
use Rattle.mail_store.proofs.storing.Store.add_queue_record.Goals as goal

pub returns-then-not-branch : goal.returns-then-not-branch
returns-then-not-branch c =
    let can = rw (c.as_slice.ensures, c.as_slice-2.ensures) at c.in_ok-can_wait.ensures in
    (λ h. refutes c.if-not-branch.true (can.1 (h.0, h.1, h.3, h.4)), refl)

pub returns-in_default : goal.returns-in_default
returns-in_default c =
    let none = subst (λ (o : Option (List ℕ)). IfNone o (¬ IsStoredWith c.args.mark c.args.octets)) c.in_default.is c.in_ok-octets.ensures.none in
    ((λ h. none h.2), refl)

pub put_next-requires-clause-few_recipients : goal.put_next-requires-clause-few_recipients
put_next-requires-clause-few_recipients c =
    let can = rw (c.as_slice.ensures, c.as_slice-2.ensures, ← c.self.view_is) at c.in_ok-can_wait.ensures in
    let room = recorded-room (kept_of c.self.inside) c.args.path c.args.addresses c.in-Some.octets c.in_ok-entry.entry (can.0 c.if-not-branch.false) c.in_ok-entry.ensures in
    few-recipients (kept_of c.self.inside) (indexes_of c.self.inside) (Some c.in_ok-entry.entry) c.self.invariant.indexes room

pub invariant_of-self-2 : goal.invariant_of-self-2
invariant_of-self-2 c =
    let can = rw (c.as_slice.ensures, c.as_slice-2.ensures, ← c.self.view_is) at c.in_ok-can_wait.ensures in
    let order = can.0 c.if-not-branch.false in
    let with_mark = subst (λ (o : Option (List ℕ)). IfSome o (IsStoredWith c.args.mark)) c.in-Some.is c.in_ok-octets.ensures.stored in
    let room = recorded-room (kept_of c.self.inside) c.args.path c.args.addresses c.in-Some.octets c.in_ok-entry.entry order c.in_ok-entry.ensures in
    let may = kept-queued (kept_of c.self.inside) c.args.path c.args.addresses c.in-Some.octets c.in_ok-entry.entry order (stored_with c.args.mark c.in-Some.octets with_mark) c.in_ok-entry.ensures in
    let put = c.in_ok-put_next.ensures in
    record {
      indexes = rw (put.entries, put.recipients, put.counts)
          (indexes-entry (kept_of c.self.inside) (indexes_of c.self.inside) (Some c.in_ok-entry.entry) c.self.invariant.indexes room may);
      message_bound = c.self.invariant.message_bound;
    }

pub returns : goal.returns
returns c =
    let can = rw (c.as_slice.ensures, c.as_slice-2.ensures) at c.in_ok-can_wait.ensures in
    let order = can.0 c.if-not-branch.false in
    let with_mark = subst (λ (o : Option (List ℕ)). IfSome o (IsStoredWith c.args.mark)) c.in-Some.is c.in_ok-octets.ensures.stored in
    let same = subst (λ (o : Option (List ℕ)). IfSome o (λ stored. stored ≡ c.args.octets)) c.in-Some.is c.in_ok-octets.ensures.same in (
      (order.0, order.1, subst (IsStoredWith c.args.mark) same with_mark, order.2, order.3),
      rw (c.in_ok-put_next.ensures.entries, c.in_ok-entry.ensures, same) (ap (λ (s : StoreState). with_record s (records.Queue c.args.path c.args.addresses c.args.mark c.args.octets)) c.self.view_is),
    )
