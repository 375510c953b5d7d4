use Rattle.std.proofs.Common.{◌∙◌, Some, None, string_bytes}
use Rattle.std.proofs.lemmas.Result.{err_from_is_err_and}
use Rattle.mail_wire.specs.declared.outside.Fault.TheVariants as fault
use Rattle.journal_records.specs.Grammar.{kept_name}
use Rattle.surrogate_cache.specs.Served.{is_enabled}
use Rattle.session_core.specs.Keeps.{fault_of}
use Rattle.session_core.proofs.DoingLemmas.{DoesFirst-none}
use Rattle.imap_session.specs.Machine.{create_by}
use Rattle.imap_session.specs.Replies.{part_octets}
use Rattle.imap_session.proofs.FolderLemmas.{create-failed, create-refused, create-told, create-unnamed, name_read, name_told}
use Rattle.imap_session.proofs.folders.create.Goals as goal

pub returns-in_err-name-clause-does : goal.returns-in_err-name-clause-does
returns-in_err-name-clause-does g c = λ oracles are state.
    let failed = err_from_is_err_and c.from_residual.result c.from_residual.ensures.1 in
    rw (failed.1, failed.2) (DoesFirst-none (part_octets oracles) c.args.outside.now fault.Memory
    (create_by c.args.tag.now state c.args.account c.args.outside.now.desk.store (oracles.name_of (is_enabled g.V.View.mode) c.args.written.now)).acts (λ bad. cc))

pub returns-in_default-clause-does : goal.returns-in_default-clause-does
returns-in_default-clause-does g c = λ oracles are state.
    let named = name_read oracles are (is_enabled g.V.View.mode) c.enabled.result c.args.written.now None c.enabled.ensures (rw c.in_default.is at c.in_ok-name.ensures.one) in
    create-unnamed oracles c.args.outside.now c.say.new.outside (fault_of c.say.result) c.args.tag.now state c.args.account _ named c.say.ensures.replies

pub returns-in_err-may_name_folder-clause-does : goal.returns-in_err-may_name_folder-clause-does
returns-in_err-may_name_folder-clause-does g c = λ oracles are state.
    let failed = err_from_is_err_and c.from_residual-in_err-may_name_folder.result c.from_residual-in_err-may_name_folder.ensures.1 in
    rw (failed.1, failed.2) (DoesFirst-none (part_octets oracles) c.args.outside.now fault.Memory
    (create_by c.args.tag.now state c.args.account c.args.outside.now.desk.store (oracles.name_of (is_enabled g.V.View.mode) c.args.written.now)).acts (λ bad. cc))

pub returns-then-not-branch-clause-does : goal.returns-then-not-branch-clause-does
returns-then-not-branch-clause-does g c = λ oracles are state.
    let given = string_bytes c.in-Some.name in
    let named = name_read oracles are (is_enabled g.V.View.mode) c.enabled.result c.args.written.now (Some given) c.enabled.ensures (rw c.in-Some.is at c.in_ok-name.ensures.one) in
    let told = name_told (kept_name given) c.in_ok-may_name_folder.field-0 (rw c.deref.ensures at c.in_ok-may_name_folder.ensures) in
    create-refused oracles c.args.outside.now c.say-then-not-branch.new.outside (fault_of c.say-then-not-branch.result) c.args.tag.now state c.args.account _ given named (told ∙ c.if-not-branch.true)
    c.say-then-not-branch.ensures.replies

pub returns-in_err-created-clause-does : goal.returns-in_err-created-clause-does
returns-in_err-created-clause-does g c = λ oracles are state.
    let given = string_bytes c.in-Some.name in
    let named = name_read oracles are (is_enabled g.V.View.mode) c.enabled.result c.args.written.now (Some given) c.enabled.ensures (rw c.in-Some.is at c.in_ok-name.ensures.one) in
    let told = name_told (kept_name given) c.in_ok-may_name_folder.field-0 (rw c.deref.ensures at c.in_ok-may_name_folder.ensures) in
    let failed = err_from_is_err_and c.from_residual-in_err-created.result c.from_residual-in_err-created.ensures.1 in
    rw (failed.1, failed.2)
    (create-failed oracles c.args.outside.now c.create_folder.new.self c.in_err-created.field-0.0 c.args.tag.now state c.args.account _ given named (told ∙ c.if-not-branch.false)
    (rw c.deref-2.ensures at c.in_err-created.ensures.makes))

pub returns-clause-does : goal.returns-clause-does
returns-clause-does g c = λ oracles are state.
    let given = string_bytes c.in-Some.name in
    let named = name_read oracles are (is_enabled g.V.View.mode) c.enabled.result c.args.written.now (Some given) c.enabled.ensures (rw c.in-Some.is at c.in_ok-name.ensures.one) in
    let told = name_told (kept_name given) c.in_ok-may_name_folder.field-0 (rw c.deref.ensures at c.in_ok-may_name_folder.ensures) in
    let replies = rw (c.created_words.ensures, c.in_ok-created.ensures.advance, c.deref-2.ensures) at c.say-2.ensures.replies in
    create-told oracles c.args.outside.now c.create_folder.new.self c.say-2.new.outside (fault_of c.say-2.result) c.args.tag.now state c.args.account _ given named (told ∙ c.if-not-branch.false)
    (rw c.deref-2.ensures at c.in_ok-created.ensures.makes) replies
