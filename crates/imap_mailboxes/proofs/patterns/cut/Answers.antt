use Rattle.std.proofs.Common.{◌≡◌, ◌++◌, ◌∷◌, [], ◌-◌, sym, ◌∙◌, arith}
use Rattle.imap_mailboxes.proofs.CutLemmas.{cut_begin, cut_plain, cut_empty, cut_run, cut_end}
use Rattle.imap_mailboxes.proofs.patterns.cut.Goals as goal
use Rattle.imap_mailboxes.proofs.patterns.cut.Goals.{then-is_wildcard, then-begin-place+in_ok-push, else-begin-place, else-is_wildcard}

pub loop-place-init : goal.loop-place-init
loop-place-init c = rw c.new-runs.ensures.items (cut_begin c.args.octets.now c.args.from)

pub loop-place-preserved : goal.loop-place-preserved
loop-place-preserved c =
    let so_far = c.loop-place.invariant in
    let runs = c.loop-place.runs.items in
    elim c.if-is_wildcard.branch [
      | then-is_wildcard w ↦ elim w.if-begin-place.branch [
        | then-begin-place+in_ok-push w' ↦
            let more : c.if-is_wildcard.runs.items ≡ runs ++ record { at = c.loop-place.begin; len = c.loop-place.place - c.loop-place.begin } ∷ [] = cc (w.runs-is, w'.runs-is, w'.in_ok-push.ensures.items) in
            rw (w.begin-is, more) (cut_run c.args.octets.now c.args.from c.loop-place.begin c.loop-place.place runs so_far c.loop-place-test.true (sym c.is_wildcard.ensures ∙ w.if-is_wildcard.true) w'.if-begin-place.true)
        | else-begin-place w' ↦
            let same : c.if-is_wildcard.runs.items ≡ runs = cc (w.runs-is, w'.runs-is) in
            rw (w.begin-is, same) (cut_empty c.args.octets.now c.args.from c.loop-place.begin c.loop-place.place runs so_far c.loop-place-test.true (sym c.is_wildcard.ensures ∙ w.if-is_wildcard.true) w'.if-begin-place.false)
      ]
      | else-is_wildcard w ↦
          let same : c.if-is_wildcard.runs.items ≡ runs = cc w.runs-is in
          rw (w.begin-is, same) (cut_plain c.args.octets.now c.args.from c.loop-place.begin c.loop-place.place runs so_far c.loop-place-test.true (sym c.is_wildcard.ensures ∙ w.if-is_wildcard.false))
    ]

pub returns : goal.returns
returns c = cut_end c.args.octets.now c.args.from c.loop-place.begin c.loop-place.place c.loop-place.runs.items c.loop-place.invariant (omega arith)
