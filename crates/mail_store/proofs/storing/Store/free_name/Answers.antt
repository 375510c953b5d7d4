use Rattle.std.proofs.Common.{◌≡◌, length, sym, ap, ◌∙◌, arith}
use Rattle.std.specs.Prelude.{is_some}
use Rattle.kept_mail.specs.Records.{are_too_many}
use Rattle.kept_mail.specs.Kept.{first_named}
use Rattle.mail_store.proofs.ChangeLemmas.{has_room}
use Rattle.mail_store.proofs.FolderLemmas.{folder_exists, folder_many, folder_taken}
use Rattle.mail_store.proofs.storing.Store.free_name.Goals as goal

pub returns-then-is_some-clause-refusal : goal.returns-then-is_some-clause-refusal
returns-then-is_some-clause-refusal c =
    let here = c.is_some.ensures ∙ ap (λ o. is_some o) (c.in_ok-named_folder.ensures.found ∙ ap (λ n. first_named c.args.account n 0 c.args.self.now.kept.folders) (c.as_slice.ensures ∙ c.in_ok-kept.ensures)) in
    folder_exists c.args.self.now.kept c.args.account c.args.name.now (sym here ∙ c.if-is_some.true)

pub returns-then-are_too_many-clause-refusal : goal.returns-then-are_too_many-clause-refusal
returns-then-are_too_many-clause-refusal c =
    let here = c.is_some.ensures ∙ ap (λ o. is_some o) (c.in_ok-named_folder.ensures.found ∙ ap (λ n. first_named c.args.account n 0 c.args.self.now.kept.folders) (c.as_slice.ensures ∙ c.in_ok-kept.ensures)) in
    let own : c.len.result ≡ length c.self.inside.folders.items = omega (arith, c.len.ensures) in
    let number = own ∙ ap (λ s. length s.kept.folders) c.self.view_is in
    let many = ap (λ n. are_too_many n 1) (sym number) ∙ sym c.are_too_many.ensures ∙ c.if-are_too_many.true in
    folder_many c.args.self.now.kept c.args.account c.args.name.now (sym here ∙ c.if-is_some.false) many

pub returns-clause-room : goal.returns-clause-room
returns-clause-room c =
    let own : c.len.result ≡ length c.self.inside.folders.items = omega (arith, c.len.ensures) in
    let number = own ∙ ap (λ s. length s.kept.folders) c.self.view_is in
    has_room (length c.args.self.now.kept.folders) (ap (λ n. are_too_many n 1) (sym number) ∙ sym c.are_too_many.ensures ∙ c.if-are_too_many.false)

pub returns-clause-refusal : goal.returns-clause-refusal
returns-clause-refusal c =
    let here = c.is_some.ensures ∙ ap (λ o. is_some o) (c.in_ok-named_folder.ensures.found ∙ ap (λ n. first_named c.args.account n 0 c.args.self.now.kept.folders) (c.as_slice.ensures ∙ c.in_ok-kept.ensures)) in
    let own : c.len.result ≡ length c.self.inside.folders.items = omega (arith, c.len.ensures) in
    let number = own ∙ ap (λ s. length s.kept.folders) c.self.view_is in
    let few = ap (λ n. are_too_many n 1) (sym number) ∙ sym c.are_too_many.ensures ∙ c.if-are_too_many.false in
    folder_taken c.args.self.now.kept c.args.account c.args.name.now (sym here ∙ c.if-is_some.false) few
