use Rattle.std.proofs.Common.{◌≡◌, suc, ◌+◌, ◌-◌, ◌≤◌, ap, ◌∙◌, ◌∷◌, arith, refl}
use Rattle.std.proofs.Common.{sym}
use Rattle.encoded_words.proofs.QText.{first_is}
use Rattle.field_tokens.proofs.Levels.{NeverCloses-plain, NeverCloses-pair, Step-plain, Step-pair, Step-close, Step-open, Step-at, NeverCloses-deep, NeverCloses-at}
use Rattle.field_tokens.proofs.groups.group_step.Goals as goal

pub returns-then-octet-eq92-clause-found : goal.returns-then-octet-eq92-clause-found
returns-then-octet-eq92-clause-found c =
    let m = c.args.marks in
    let d : c.args.depth ≡ suc (c.args.depth - 1) = omega arith in
    let one = first_is c.args.rest.now c.in-len1-up.len_at_least in
    let two = first_is _ c.in-len1-up-after.len_at_least in
    Step-at m _ _ _ _ _ _ _ d d (rw (c.if-octet-eq92.true) at one ∙ ap (λ r. 92 ∷ r) two) (Step-pair m (c.args.depth - 1) _ _ c.requires.marks (sym c.may_stand.ensures ∙ c.if-not-may_stand.false))

pub returns-then-octet-marks-clause-found : goal.returns-then-octet-marks-clause-found
returns-then-octet-marks-clause-found c =
    let m = c.args.marks in
    let d : c.args.depth ≡ suc (c.args.depth - 1) = omega arith in
    let one = first_is c.args.rest.now c.in-len1-up.len_at_least in
    Step-at m _ _ _ _ _ _ _ d refl (rw (c.if-octet-marks.true) at one) (Step-close m (c.args.depth - 1) _ c.requires.marks (omega arith))

pub returns-then-depth-marks-clause-none : goal.returns-then-depth-marks-clause-none
returns-then-depth-marks-clause-none c =
    let m = c.args.marks in
    let d : c.args.depth ≡ suc (c.args.depth - 1) = omega arith in
    let one = first_is c.args.rest.now c.in-len1-up.len_at_least in
    let full : m.limit ≤ suc (c.args.depth - 1) = omega arith in
    NeverCloses-at m _ _ _ _ d (rw (c.if-octet-marks-2.true) at one) (NeverCloses-deep m (c.args.depth - 1) _ c.requires.marks (λ e. c.if-octet-marks.false (c.if-octet-marks-2.true ∙ e)) full)

pub returns-then-octet-marks-2-clause-found : goal.returns-then-octet-marks-2-clause-found
returns-then-octet-marks-2-clause-found c =
    let m = c.args.marks in
    let d : c.args.depth ≡ suc (c.args.depth - 1) = omega arith in
    let e : c.args.depth + 1 ≡ suc (suc (c.args.depth - 1)) = omega arith in
    let one = first_is c.args.rest.now c.in-len1-up.len_at_least in
    Step-at m _ _ _ _ _ _ _ d e (rw (c.if-octet-marks-2.true) at one) (Step-open m (c.args.depth - 1) _ c.requires.marks (λ e. c.if-octet-marks.false (c.if-octet-marks-2.true ∙ e)))

pub returns-clause-found : goal.returns-clause-found
returns-clause-found c =
    let m = c.args.marks in
    let d : c.args.depth ≡ suc (c.args.depth - 1) = omega arith in
    let one = first_is c.args.rest.now c.in-len1-up.len_at_least in
    Step-at m _ _ _ _ _ _ _ d d one (Step-plain m (c.args.depth - 1) _ _ c.if-octet-marks-2.false c.if-octet-marks.false c.if-octet-eq92.false (sym c.may_stand-2.ensures ∙ c.if-not-may_stand-2.false))

pub returns-then-not-may_stand-clause-none : goal.returns-then-not-may_stand-clause-none
returns-then-not-may_stand-clause-none c =
    let m = c.args.marks in
    let d : c.args.depth ≡ suc (c.args.depth - 1) = omega arith in
    let one = first_is c.args.rest.now c.in-len1-up.len_at_least in
    let two = first_is _ c.in-len1-up-after.len_at_least in
    NeverCloses-at m _ _ _ _ d (rw (c.if-octet-eq92.true) at one ∙ ap (λ r. 92 ∷ r) two)
    (NeverCloses-pair m (c.args.depth - 1) _ _ c.requires.marks (sym c.may_stand.ensures ∙ c.if-not-may_stand.true))

pub returns-then-not-may_stand-2-clause-none : goal.returns-then-not-may_stand-2-clause-none
returns-then-not-may_stand-2-clause-none c =
    let m = c.args.marks in
    let d : c.args.depth ≡ suc (c.args.depth - 1) = omega arith in
    let one = first_is c.args.rest.now c.in-len1-up.len_at_least in
    NeverCloses-at m _ _ _ _ d one
    (NeverCloses-plain m (c.args.depth - 1) _ _ c.if-octet-marks-2.false c.if-octet-marks.false c.if-octet-eq92.false (sym c.may_stand-2.ensures ∙ c.if-not-may_stand-2.true))
