use Rattle.std.proofs.Common.{◌≤◌, ℕ, Bool, Option, ◌||◌, length, take, get_or, None, sym, ap, ◌∙◌}
use Rattle.std.proofs.lemmas.List.{take_all}
use Rattle.std.proofs.lemmas.List.Elements.{All-push}
use Rattle.std.proofs.lemmas.List.Folds.{list_any_more}
use Rattle.std.specs.List.{list_any}
use Rattle.kept_mail.specs.declared.kept.Listed.{Listed}
use Rattle.imap_mailboxes.specs.declared.sets.Stretch.{Stretch}
use Rattle.imap_mailboxes.specs.Sets.{is_within, called}
use Rattle.imap_mailboxes.specs.private.Stretches.{is_inside, in_stretches}
use Rattle.imap_mailboxes.proofs.StretchLemmas.{among-push}
use Rattle.imap_mailboxes.proofs.SetLemmas.{ends_within}
use Rattle.imap_mailboxes.proofs.sets.stretches_of.Goals as goal

pub loop-range-preserved : goal.loop-range-preserved
loop-range-preserved c =
    let messages = c.args.messages.now in
    let ranges = c.args.set.now.ranges in
    let i = c.loop-range.range-index in
    let made = c.loop-range.made.items in
    let stretch = c.stretch_of.result in
    let l = rw c.as_slice-range-items.ensures at c.loop-range-test.true in
    let holds : ℕ → Listed → Option ℕ × Option ℕ → Bool = λ place one. is_within c.args.last (called c.args.by_uid place (get_or messages place one)) in (
      λ place one within.
          ap (λ v. in_stretches v place) c.in_ok-push.ensures.items
          ∙ (among-push made stretch place
          ∙ (ap (λ b. b || is_inside place stretch) (c.loop-range.invariant.0 place one within)
          ∙ (ap (λ b. list_any (holds place one) (take i ranges) || b) (rw c.as_slice-range-items.ensures at (c.stretch_of.ensures.inside place one within))
          ∙ sym (list_any_more (holds place one) ranges i (None, None) l)))),
      rw c.in_ok-push.ensures.items (All-push (λ (s : Stretch). s.to ≤ length messages) made stretch c.loop-range.invariant.1
          (c.stretch_of.ensures.within (λ by_number. rw c.as_slice-range-items.ensures (ends_within c.args.by_uid c.args.last c.args.set.now messages i (None, None) c.requires.last c.requires.not_refused l by_number)))),
    )

pub returns-clause-among : goal.returns-clause-among
returns-clause-among c = λ place one within.
    c.loop-range.invariant.0 place one within
    ∙ ap (list_any (is_within c.args.last (called c.args.by_uid place (get_or c.args.messages.now place one)))) (take_all c.loop-range.range-index c.args.set.now.ranges (rw c.as_slice-range-items.ensures at c.loop-range-test.false))
