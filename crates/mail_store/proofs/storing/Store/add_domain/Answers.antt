use Rattle.std.proofs.Common.{◌≡◌, [], ◌∷◌, ◌++◌, None, length, sym, ap, subst, ◌∙◌}
use Rattle.ace_domains.specs.Domains.{compared_form}
use Rattle.mail_store.specs.declared.writing.Named.{Named}
use Rattle.journal_records.specs.declared.records.Record.TheVariants as records
use Rattle.journal_records.specs.Addresses.{IsDomainText}
use Rattle.mail_store.specs.Changing.{domain_refusal}
use Rattle.kept_mail.specs.private.Names.{number_named, PutsName}
use Rattle.mail_store.specs.private.Store.{kept_of, indexes_of, state_of}
use Rattle.mail_store.specs.StoreState.{StoreState}
use Rattle.std.proofs.lemmas.Result.{err_from_is_err_and}
use Rattle.mail_store.proofs.AccountLemmas.{refused_as}
use Rattle.mail_store.proofs.ChangeLemmas.{changes-unwritten, refused-unwritten, changes-written, text-one, has_room}
use Rattle.mail_store.proofs.DomainLemmas.{AreRecords-domain, found_domain, domain_free, AreIndexes-same_locals, form_text}
use Rattle.mail_store.proofs.IndexLemmas.{AreIndexes-domain}
use Rattle.kept_mail.proofs.NameLemmas.{none_of}
use Rattle.mail_store.proofs.storing.Store.add_domain.Goals as goal

pub returns-in_err-named-clause-refusal : goal.returns-in_err-named-clause-refusal
returns-in_err-named-clause-refusal g c =
    let failed = err_from_is_err_and c.from_residual.result c.from_residual.ensures.1 in
    rw (failed.1, failed.2) (refused_as Named (Unit {0}) c.in_err-named.field-0.0 (domain_refusal c.args.self.now.kept c.args.domain.now) c.in_err-named.ensures.refusal)

pub write_named-requires : goal.write_named-requires
write_named-requires g c =
    let named = c.in_ok-named.named in
    let taken = subst (λ s. domain_refusal s.kept c.args.domain.now ≡ None) (sym c.self.view_is) c.in_ok-named.ensures.refusal in
    let free = domain_free (kept_of c.self.inside) c.args.domain.now taken in
    let room = has_room (length c.self.inside.domains.items) free.1 in
    let found = found_domain (kept_of c.self.inside) (indexes_of c.self.inside) c.args.domain.now named.name c.self.invariant.indexes c.in_ok-named.ensures.name in
    none_of (number_named c.self.inside.locals named.name) (found ∙ free.0)

pub invariant_of-self-in_err-write_named : goal.invariant_of-self-in_err-write_named
invariant_of-self-in_err-write_named g c = record {
  indexes = rw c.in_ok-reserve.ensures.items
      (AreIndexes-same_locals (kept_of c.self.inside) (indexes_of c.self.inside) (number_named c.write_named.new.numbers) c.self.invariant.indexes c.in_err-write_named.ensures.err);
  message_bound = c.self.invariant.message_bound;
}

pub returns-in_err-write_named-clause-changes : goal.returns-in_err-write_named-clause-changes
returns-in_err-write_named-clause-changes g c =
    let failed = err_from_is_err_and c.from_residual-in_err-write_named.result c.from_residual-in_err-write_named.ensures.1 in
    let named = c.in_ok-named.named in
    let taken = subst (λ s. domain_refusal s.kept c.args.domain.now ≡ None) (sym c.self.view_is) c.in_ok-named.ensures.refusal in
    let free = domain_free (kept_of c.self.inside) c.args.domain.now taken in
    let room = has_room (length c.self.inside.domains.items) free.1 in
    let text = text-one (records.Domain (compared_form c.args.domain.now)) named.text c.in_ok-named.ensures.text in
    let n = ap (λ d. let s : StoreState = record { kept = record (kept_of c.self.inside) { domains = d }; message_max = c.self.inside.message_max; failed = c.write_named.new.progress.failed; end = c.write_named.new.progress.end } in s) c.in_ok-reserve.ensures.items in
    rw (failed.1, failed.2)
    (changes-unwritten (Unit {0}) c.args.self.now (state_of c.self.inside) _ c.write_named.new.progress (g.J.Keeper.observed c.args.keeper.now).octets (g.J.Keeper.observed c.write_named.new.keeper).octets
    c.in_err-write_named.field-0.0 (records.Domain (compared_form c.args.domain.now) ∷ []) named.text c.self.view_is
    (AreRecords-domain (kept_of c.self.inside) c.args.domain.now c.requires.form room) text n c.in_err-write_named.ensures.writes)

pub returns-in_err-write_named-clause-refusal : goal.returns-in_err-write_named-clause-refusal
returns-in_err-write_named-clause-refusal g c =
    let failed = err_from_is_err_and c.from_residual-in_err-write_named.result c.from_residual-in_err-write_named.ensures.1 in
    rw (failed.1, failed.2)
    (refused-unwritten (Unit {0}) c.self.inside.progress c.write_named.new.progress (g.J.Keeper.observed c.args.keeper.now).octets (g.J.Keeper.observed c.write_named.new.keeper).octets
    c.in_err-write_named.field-0.0 c.in_ok-named.named.text (domain_refusal c.args.self.now.kept c.args.domain.now) c.in_ok-named.ensures.refusal c.in_err-write_named.ensures.writes)

pub invariant_of-self-2 : goal.invariant_of-self-2
invariant_of-self-2 g c =
    let named = c.in_ok-named.named in
    let taken = subst (λ s. domain_refusal s.kept c.args.domain.now ≡ None) (sym c.self.view_is) c.in_ok-named.ensures.refusal in
    let free = domain_free (kept_of c.self.inside) c.args.domain.now taken in
    let room = has_room (length c.self.inside.domains.items) free.1 in
    let is_text : IsDomainText named.name = subst IsDomainText (sym c.in_ok-named.ensures.name) (form_text c.args.domain.now c.requires.form) in
    let number = c.in_ok-named.ensures.number ∙ ap (λ s. length s.kept.domains) (sym c.self.view_is) in
    record {
      indexes = rw (c.push_reserved.ensures.items, c.in_ok-reserve.ensures.items)
          (AreIndexes-domain (kept_of c.self.inside) (indexes_of c.self.inside) (number_named c.write_named.new.numbers) named.name c.self.invariant.indexes is_text room
          (subst (PutsName (number_named c.self.inside.locals) (number_named c.write_named.new.numbers) named.name) number c.in_ok-write_named.ensures.ok));
      message_bound = c.self.invariant.message_bound;
    }

pub returns-clause-changes : goal.returns-clause-changes
returns-clause-changes g c =
    let named = c.in_ok-named.named in
    let taken = subst (λ s. domain_refusal s.kept c.args.domain.now ≡ None) (sym c.self.view_is) c.in_ok-named.ensures.refusal in
    let free = domain_free (kept_of c.self.inside) c.args.domain.now taken in
    let room = has_room (length c.self.inside.domains.items) free.1 in
    let text = text-one (records.Domain (compared_form c.args.domain.now)) named.text c.in_ok-named.ensures.text in
    let domains = c.push_reserved.ensures.items ∙ ap (λ d. d ++ named.name ∷ []) c.in_ok-reserve.ensures.items ∙ ap (λ n. c.self.inside.domains.items ++ n ∷ []) c.in_ok-named.ensures.name in
    let n = ap (λ d. let s : StoreState = record { kept = record (kept_of c.self.inside) { domains = d }; message_max = c.self.inside.message_max; failed = c.write_named.new.progress.failed; end = c.write_named.new.progress.end } in s) domains in
    let written = c.in_ok-write_named.ensures.writes in
    changes-written c.args.self.now (state_of c.self.inside) c.write_named.new.progress _ (g.J.Keeper.observed c.args.keeper.now).octets
    (g.J.Keeper.observed c.write_named.new.keeper).octets (records.Domain (compared_form c.args.domain.now) ∷ []) named.text c.self.view_is
    (AreRecords-domain (kept_of c.self.inside) c.args.domain.now c.requires.form room) text written.0 written.1 n
