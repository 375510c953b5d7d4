use Rattle.std.proofs.Common.{◌++◌, ◌∷◌, length, subst}
use Rattle.std.specs.List.{flat_map}
use Rattle.std.specs.Option.{option_to_list}
use Rattle.std.proofs.lemmas.Result.{err_from_is_err_and}
use Rattle.journal_records.specs.Spelling.{number, octet_list}
use Rattle.journal_records.specs.Writing.{PutsText}
use Rattle.journal_records.specs.private.Heads.{queue_kind}
use Rattle.journal_records.proofs.WritingLemmas.{PutsFirst, first_of, first_after, puts_after, queue_text}
use Rattle.journal_records.proofs.writing.push_queue_front.Goals as goal

pub returns-in_err-push_path : goal.returns-in_err-push_path
returns-in_err-push_path c =
    let failed = err_from_is_err_and c.from_residual.result c.from_residual.ensures.1 in
    let front = queue_kind c.args.mark ∷ (octet_list c.args.path.now ++ number (length c.args.addresses.now)) in
    let following = flat_map octet_list c.args.addresses.now ++ (option_to_list c.args.mark ++ number c.args.len) in
    rw failed.1
    (subst (PutsFirst c.args.journal.now c.push_path.new.journal) (queue_text c.args.path.now c.args.addresses.now c.args.mark (number c.args.len))
    (first_of c.args.journal.now c.push_path.new.journal front following c.in_err-push_path.ensures))

pub returns-in_err-push_lists : goal.returns-in_err-push_lists
returns-in_err-push_lists c =
    let failed = err_from_is_err_and c.from_residual-in_err-push_lists.result c.from_residual-in_err-push_lists.ensures.1 in
    let front = queue_kind c.args.mark ∷ (octet_list c.args.path.now ++ number (length c.args.addresses.now)) in
    let addresses = flat_map octet_list c.args.addresses.now in
    let rest = option_to_list c.args.mark ++ number c.args.len in
    rw failed.1
    (subst (PutsFirst c.args.journal.now c.push_lists.new.journal) (queue_text c.args.path.now c.args.addresses.now c.args.mark (number c.args.len))
    (first_after c.args.journal.now c.push_path.new.journal c.push_lists.new.journal front (addresses ++ rest) c.in_ok-push_path.ensures
    (first_of c.push_path.new.journal c.push_lists.new.journal addresses rest c.in_err-push_lists.ensures)))

pub returns : goal.returns
returns c =
    let front = queue_kind c.args.mark ∷ (octet_list c.args.path.now ++ number (length c.args.addresses.now)) in
    let addresses = flat_map octet_list c.args.addresses.now in
    let rest = option_to_list c.args.mark ++ number c.args.len in
    subst (PutsText c.args.journal.now c.push_mark.new.journal c.push_mark.result) (queue_text c.args.path.now c.args.addresses.now c.args.mark (number c.args.len))
    (puts_after c.args.journal.now c.push_path.new.journal c.push_mark.new.journal front (addresses ++ rest) c.push_mark.result
    c.in_ok-push_path.ensures
    (puts_after c.push_path.new.journal c.push_lists.new.journal c.push_mark.new.journal addresses rest c.push_mark.result c.in_ok-push_lists.ensures c.push_mark.ensures))
