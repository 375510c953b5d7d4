use Rattle.std.proofs.Common.{◌∙◌, ◌++◌, Some, arith}
use Rattle.std.proofs.lemmas.Result.{err_from_is_err_and}
use Rattle.mail_wire.specs.declared.outside.Fault.TheVariants as fault
use Rattle.kept_mail.specs.Kept.{listed}
use Rattle.session_core.specs.Keeps.{fault_of}
use Rattle.session_core.proofs.DoingLemmas.{DoesFirst-none, Replies-stop}
use Rattle.imap_session.specs.Machine.{deleted_ids, done, expunge_step}
use Rattle.imap_session.specs.Replies.{part_octets}
use Rattle.imap_session.specs.Session.{KnowsFolder}
use Rattle.imap_session.specs.private.Lines.{tagged_octets}
use Rattle.imap_session.proofs.SelectedLemmas.{counts_made, expunge_broken, expunge_refused, expunge_told, knows_anew, on_ok}
use Rattle.imap_session.proofs.selected.expunge.Goals as goal

pub returns-then-selected-clause-does : goal.returns-then-selected-clause-does
returns-then-selected-clause-does g c = λ oracles are state.
    expunge_refused oracles c.args.outside.now c.say.new.outside (fault_of c.say.result) c.args.tag.now state c.args.selected.now.read_only (listed c.args.outside.now.desk.store.kept c.args.selected.now.folder)
    c.if-selected.true c.say.ensures.replies

pub returns-in_err-lines-clause-does : goal.returns-in_err-lines-clause-does
returns-in_err-lines-clause-does g c = λ oracles are state.
    let failed = err_from_is_err_and c.from_residual.result c.from_residual.ensures.1 in
    let acts = (expunge_step c.args.tag.now state c.args.selected.now.read_only (listed c.args.outside.now.desk.store.kept c.args.selected.now.folder)).acts in
    rw (failed.1, failed.2) (DoesFirst-none (part_octets oracles) c.args.outside.now fault.Memory acts (λ bad. cc))

pub returns-in_err-take_deleted_out-clause-does : goal.returns-in_err-take_deleted_out-clause-does
returns-in_err-take_deleted_out-clause-does g c = λ oracles are state.
    let failed = err_from_is_err_and c.from_residual-in_err-take_deleted_out.result c.from_residual-in_err-take_deleted_out.ensures.1 in
    rw (failed.1, failed.2) (expunge_broken oracles c.args.outside.now c.take_deleted_out.new.outside c.in_err-take_deleted_out.field-0.0 c.args.tag.now state c.args.selected.now.read_only
    (listed c.args.outside.now.desk.store.kept c.args.selected.now.folder) c.if-selected.false (rw (c.deref-2.ensures.value ∙ c.requires.known.messages_are) at c.in_err-take_deleted_out.ensures.makes))

pub list-requires : goal.list-requires
list-requires g c =
    let counts = counts_made c.args.outside.now c.take_deleted_out.new.outside (deleted_ids c.deref-2.result.now) c.in_ok-take_deleted_out.ensures.makes in
    rw (c.store.ensures, counts.folders) c.requires.known.folder_is

pub returns-in_err-selected-clause-does : goal.returns-in_err-selected-clause-does
returns-in_err-selected-clause-does g c = λ oracles are state.
    let failed = err_from_is_err_and c.from_residual-in_err-selected.result c.from_residual-in_err-selected.ensures.1 in
    let messages = listed c.args.outside.now.desk.store.kept c.args.selected.now.folder in
    let lines = rw (c.deref.ensures.value ∙ c.requires.known.messages_are) at (c.in_ok-lines.ensures oracles) in
    rw (failed.1, failed.2) (expunge_told oracles c.args.outside.now c.take_deleted_out.new.outside c.take_deleted_out.new.outside (Some fault.Memory) c.args.tag.now state c.args.selected.now.read_only messages
    c.in_ok-lines.lines c.if-selected.false lines (rw (c.deref-2.ensures.value ∙ c.requires.known.messages_are) at c.in_ok-take_deleted_out.ensures.makes)
    (Replies-stop c.take_deleted_out.new.outside fault.Memory (c.in_ok-lines.lines ++ tagged_octets c.args.tag.now done) (λ bad. cc)))

pub returns-clause-does : goal.returns-clause-does
returns-clause-does g c = λ oracles are state.
    let messages = listed c.args.outside.now.desk.store.kept c.args.selected.now.folder in
    let lines = rw (c.deref.ensures.value ∙ c.requires.known.messages_are) at (c.in_ok-lines.ensures oracles) in
    expunge_told oracles c.args.outside.now c.take_deleted_out.new.outside c.answer.new.outside (fault_of c.answer.result) c.args.tag.now state c.args.selected.now.read_only messages
    c.in_ok-lines.lines c.if-selected.false lines (rw (c.deref-2.ensures.value ∙ c.requires.known.messages_are) at c.in_ok-take_deleted_out.ensures.makes) c.answer.ensures.replies

pub returns-clause-known : goal.returns-clause-known
returns-clause-known g c =
    let counts = counts_made c.args.outside.now c.take_deleted_out.new.outside (deleted_ids c.deref-2.result.now) c.in_ok-take_deleted_out.ensures.makes in
    on_ok c.answer.result (KnowsFolder c.answer.new.outside.desk.store c.args.selected.now.account c.args.selected.now.folder c.in_ok-selected.field-0.items)
    (knows_anew c.args.outside.now c.take_deleted_out.new.outside c.answer.new.outside c.args.selected.now.account c.args.selected.now.folder
    c.args.selected.now.messages.items c.in_ok-selected.field-0.items counts c.answer.ensures.replies.leaves.desk c.requires.known
    (rw c.store.ensures at c.in_ok-selected.ensures.listing) (omega (arith, c.in_ok-selected.ensures.few)))
