use Rattle.std.proofs.Common.{◌≡◌, ℕ, true, eqb, List, length, refl, sym, ap, ◌∙◌}
use Rattle.std.proofs.lemmas.Result.{err_from_is_err_and}
use Rattle.std.specs.List.{list_all}
use Rattle.std.proofs.lemmas.Bool.{true≢false}
use Rattle.mail_store.specs.Changing.{is_live, expunged}
use Rattle.mail_store.specs.private.Store.{kept_of, state_of}
use Rattle.mail_store.proofs.ChangeLemmas.{changes-unwritten, changes-written}
use Rattle.mail_store.proofs.ExpungeLemmas.{all_within, AreRecords-expunged, none_expunged}
use Rattle.mail_store.proofs.storing.Store.expunge.Goals as goal

pub returns-in_err-text-clause-nothing : goal.returns-in_err-text-clause-nothing
returns-in_err-text-clause-nothing g c = λ none. absurd (true≢false (sym (c.is_empty.ensures ∙ ap (λ (l : List ℕ). eqb (length l) 0) (none_expunged c.args.ids.now none)) ∙ c.if-is_empty.false))

pub returns-in_err-write-clause-nothing : goal.returns-in_err-write-clause-nothing
returns-in_err-write-clause-nothing g c = λ none. absurd (true≢false (sym (c.is_empty.ensures ∙ ap (λ (l : List ℕ). eqb (length l) 0) (none_expunged c.args.ids.now none)) ∙ c.if-is_empty.false))

pub returns-clause-nothing : goal.returns-clause-nothing
returns-clause-nothing g c = λ none. absurd (true≢false (sym (c.is_empty.ensures ∙ ap (λ (l : List ℕ). eqb (length l) 0) (none_expunged c.args.ids.now none)) ∙ c.if-is_empty.false))

pub returns-in_err-write-clause-changes : goal.returns-in_err-write-clause-changes
returns-in_err-write-clause-changes g c =
    let failed = err_from_is_err_and c.from_residual-in_err-write.result c.from_residual-in_err-write.ensures.1 in
    let live : list_all (is_live (kept_of c.self.inside)) c.args.ids.now ≡ true = rw (← c.deref.ensures.value) (sym c.are_live.ensures ∙ c.if-not-are_live.false) in
    let them = AreRecords-expunged (kept_of c.self.inside) c.args.ids.now c.self.invariant.indexes.few.messages c.requires.distinct live in
    rw (failed.1, failed.2)
    (changes-unwritten (Unit {0}) c.args.self.now (state_of c.self.inside) _ c.write.new.progress (g.J.Keeper.observed c.args.keeper.now).octets (g.J.Keeper.observed c.write.new.keeper).octets
    c.in_err-write.field-0.0 (expunged c.args.ids.now) c.as_slice.result.now c.self.view_is them (c.as_slice.ensures ∙ c.in_ok-text.ensures) refl c.in_err-write.ensures.writes)

pub put_all_expunged-requires : goal.put_all_expunged-requires
put_all_expunged-requires g c =
    let live : list_all (is_live (kept_of c.self.inside)) c.args.ids.now ≡ true = rw (← c.deref.ensures.value) (sym c.are_live.ensures ∙ c.if-not-are_live.false) in
    all_within (kept_of c.self.inside) c.args.ids.now live

pub returns-clause-changes : goal.returns-clause-changes
returns-clause-changes g c =
    let live : list_all (is_live (kept_of c.self.inside)) c.args.ids.now ≡ true = rw (← c.deref.ensures.value) (sym c.are_live.ensures ∙ c.if-not-are_live.false) in
    let them = AreRecords-expunged (kept_of c.self.inside) c.args.ids.now c.self.invariant.indexes.few.messages c.requires.distinct live in
    changes-written c.args.self.now (state_of c.self.inside) c.write.new.progress c.put_all_expunged.new.self (g.J.Keeper.observed c.args.keeper.now).octets
    (g.J.Keeper.observed c.write.new.keeper).octets (expunged c.args.ids.now) c.as_slice.result.now c.self.view_is them (c.as_slice.ensures ∙ c.in_ok-text.ensures)
    c.in_ok-write.ensures.writes.0 c.in_ok-write.ensures.writes.1 c.put_all_expunged.ensures
