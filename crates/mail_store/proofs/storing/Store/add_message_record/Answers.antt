use Rattle.std.proofs.Common.{◌≡◌, ◌+◌, ◌≤◌, List, [], ◌∷◌, ◌++◌, length, Option, refl, subst, sym, ap, ◌∙◌, arith}
use Rattle.std.specs.Prelude.{IfSome, IfNone, ℕ}
use Rattle.kept_mail.specs.declared.kept.Message.{Message}
use Rattle.kept_mail.specs.declared.limits.TheConstants.{THINGS_MAX}
use Rattle.kept_mail.specs.private.Chains.{AreChained}
use Rattle.mail_store.specs.private.Appending.{live_message}
use Rattle.mail_store.specs.private.Store.{kept_of, indexes_of}
use Rattle.journal_records.specs.Grammar.{IsDate}
use Rattle.journal_records.specs.Stored.{IsStoredWith}
use Rattle.mail_store.proofs.AppendLemmas.{stored_with}
use Rattle.mail_store.proofs.IndexLemmas.{AreIndexes-messages, AreStored-one}
use Rattle.mail_store.proofs.storing.Store.add_message_record.Goals as goal

pub returns-in_default : goal.returns-in_default
returns-in_default c =
    let none = subst (λ (o : Option (List ℕ)). IfNone o (¬ IsStoredWith c.args.mark c.args.octets)) c.in_default.is c.in_ok-octets.ensures.none in
    ((λ h. none h.3), refl)

pub invariant_of-self-2 : goal.invariant_of-self-2
invariant_of-self-2 c =
    let made = live_message c.args.folder c.args.flags c.args.date c.in-Some.octets in
    let fits = c.message_fits.ensures.0 c.if-not-message_fits.false in
    let room : length c.self.inside.messages.items + 1 ≤ THINGS_MAX = omega (arith, c.len-count.ensures, fits.3) in
    let with_mark = subst (λ (o : Option (List ℕ)). IfSome o (IsStoredWith c.args.mark)) c.in-Some.is c.in_ok-octets.ensures.stored in
    let stored = AreStored-one made (stored_with c.args.mark c.in-Some.octets with_mark) (subst IsDate c.as_slice.ensures fits.2) in
    let messages : c.put_message.new.messages.items ≡ c.self.inside.messages.items ++ made ∷ [] = c.put_message.ensures.messages ∙ ap (λ (l : List Message). l ++ made ∷ []) c.in_ok-reserve.ensures.items in
    let chained = subst (λ (l : List Message). AreChained l c.put_message.new.contents.items c.put_message.new.previous.items) messages c.put_message.ensures.chained in
    record {
      indexes = rw messages (AreIndexes-messages (kept_of c.self.inside) (indexes_of c.self.inside) (made ∷ []) c.put_message.new.contents.items c.put_message.new.previous.items c.self.invariant.indexes stored room chained c.put_message.ensures.count);
      message_bound = c.self.invariant.message_bound;
    }
