use Rattle.std.proofs.Common.{◌≡◌, ◌<◌, ℕ, List, length, subst, arith}
use Rattle.kept_mail.specs.declared.limits.TheConstants.{THINGS_MAX}
use Rattle.journal_records.specs.Addresses.{IsDomainText}
use Rattle.kept_mail.specs.private.Names.{number_named, PutsName}
use Rattle.mail_store.specs.private.Store.{kept_of, indexes_of}
use Rattle.mail_store.proofs.IndexLemmas.{AreIndexes-domain, AreIndexes-locals}
use Rattle.mail_store.proofs.storing.Store.add_domain_record.Goals as goal

pub invariant_of-self-2 : goal.invariant_of-self-2
invariant_of-self-2 c =
    let text = subst IsDomainText c.as_slice.ensures (c.in_ok-is_domain_text.ensures.0 c.if-not-branch.false) in
    let has = c.has_room.ensures.0 c.if-not-has_room.false in
    let room : length c.self.inside.domains.items < THINGS_MAX = omega (arith, has, c.len-number.ensures) in
    let number : c.len-number.result ≡ length c.self.inside.domains.items = omega (arith, c.len-number.ensures) in
    let after = number_named c.put_first.new.numbers in
    let puts : PutsName (number_named c.self.inside.locals) after c.args.name (length c.self.inside.domains.items) = subst (λ (name : List ℕ). PutsName (number_named c.self.inside.locals) after name (length c.self.inside.domains.items)) c.as_slice-2.ensures (subst (PutsName (number_named c.self.inside.locals) after c.as_slice-2.result.now) number c.in_ok-put_first.ensures.ok) in
    record {
      indexes = rw (c.push_reserved.ensures.items, c.in_ok-reserve.ensures.items) (AreIndexes-domain (kept_of c.self.inside) (indexes_of c.self.inside) after c.args.name c.self.invariant.indexes text room puts);
      message_bound = c.self.invariant.message_bound;
    }

pub invariant_of-self-in_err-put_first : goal.invariant_of-self-in_err-put_first
invariant_of-self-in_err-put_first c = record {
  indexes = rw c.in_ok-reserve.ensures.items (AreIndexes-locals (kept_of c.self.inside) (indexes_of c.self.inside) (number_named c.put_first.new.numbers) c.self.invariant.indexes c.in_err-put_first.ensures.err);
  message_bound = c.self.invariant.message_bound;
}
