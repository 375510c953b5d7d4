use Rattle.std.proofs.Common.{◌≡◌, ◌-◌, ◌∙◌, ℕ, List, [], ◌∷◌, ◌++◌, ap, arith}
use Rattle.kept_mail.specs.Kept.{uid_next}
use Rattle.kept_mail.specs.declared.kept.Listed.{Listed}
use Rattle.imap_session.proofs.PutLemmas.{listed_other, newest}
use Rattle.imap_session.proofs.appending.list_put.Goals as goal

pub returns-then-folder-opened-clause-listing : goal.returns-then-folder-opened-clause-listing
returns-then-folder-opened-clause-listing c =
    listed_other c.args.store.now.kept c.args.opened c.args.flags c.in-In.folder c.args.messages.now.items c.if-folder-opened.true (rw c.in-In.is at c.requires.were)

pub returns-clause-listing : goal.returns-clause-listing
returns-clause-listing c =
    let new = newest c.args.store.now.kept c.args.opened c.args.flags c.in-In.folder c.args.messages.now.items c.if-folder-opened.false (rw c.in-In.is at c.requires.were) in
    let messages : List Listed = c.args.messages.now.items in
    let id_is = new.id_is in
    let uid_is = new.uid_is in
    let next = c.uid_next-uid.ensures ∙ ap (uid_next c.args.store.now.kept) c.if-folder-opened.false in
    let id : c.message_count.result - 1 ≡ new.id = omega (arith, c.message_count.ensures, id_is) in
    let uid : c.uid_next-uid.result - 1 ≡ new.uid = omega (arith, next, uid_is) in
    c.in_ok-push.ensures.items ∙ ap (λ (n : ℕ). messages ++ record { id = n; uid = c.uid_next-uid.result - 1; flags = c.args.flags } ∷ []) id
    ∙ ap (λ (n : ℕ). messages ++ record { id = new.id; uid = n; flags = c.args.flags } ∷ []) uid ∙ new.listing

pub returns-clause-few : goal.returns-clause-few
returns-clause-few c =
    let new = newest c.args.store.now.kept c.args.opened c.args.flags c.in-In.folder c.args.messages.now.items c.if-folder-opened.false (rw c.in-In.is at c.requires.were) in
    let few = new.few in
    let fewer = new.fewer in
    omega (arith, c.in_ok-push.ensures.len, few, fewer)
