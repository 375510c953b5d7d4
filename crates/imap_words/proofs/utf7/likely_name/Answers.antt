use Rattle.std.proofs.Common.{◌∷◌, ◌++◌, sym, ap, ◌∙◌, subst, string_bytes}
use Rattle.std.specs.Char.{encode_utf8}
use Rattle.imap_words.specs.Utf7.{IsShift}
use Rattle.imap_words.proofs.Passing.{no_octets}
use Rattle.imap_words.proofs.Utf7Lemmas.{NameTaken, name_begin, name_plain, name_shift, name_shifted, name_end}
use Rattle.imap_words.proofs.utf7.likely_name.Goals as goal

pub loop-first-init : goal.loop-first-init
loop-first-init c whole u e = subst (λ z. NameTaken whole z c.args.text.now) (sym c.new-name.ensures.bytes) (name_begin whole c.args.text.now u e)

pub loop-first-preserved-then-first-ne38 : goal.loop-first-preserved-then-first-ne38
loop-first-preserved-then-first-ne38 c whole u e =
    name_plain whole _ _ _ c.in-Some.first.now _ (c.loop-first.invariant whole u e) c.in-Some.ensures.cases.0 c.if-first-ne38.true
    (c.in_ok-push.ensures.bytes ∙ ap (λ z. string_bytes c.loop-first.name ++ encode_utf8 z) c.from.ensures)

pub returns-in_default-split_run : goal.returns-in_default-split_run
returns-in_default-split_run c name u e =
    let s = name_shift name _ _ _ (c.loop-first.invariant name u e) (c.in-Some.ensures.cases.0 ∙ ap (λ z. z ∷ c.in-Some.others.now) c.if-first-ne38.false) in
    c.in_default-split_run.ensures.found s.symbols _ s.no_dash s.left

pub returns-then-not-branch : goal.returns-then-not-branch
returns-then-not-branch c name u e =
    let s = name_shift name _ _ _ (c.loop-first.invariant name u e) (c.in-Some.ensures.cases.0 ∙ ap (λ z. z ∷ c.in-Some.others.now) c.if-first-ne38.false) in
    let cut = c.in-Some-split_run.ensures.found s.symbols _ s.no_dash s.left in
    let put = c.in_ok-push_shift.ensures s.cs (subst (λ z. IsShift z s.cs) (sym cut.0) s.shift) in
    cc (put.0, c.if-not-branch.true)

pub loop-first-preserved : goal.loop-first-preserved
loop-first-preserved c name u e =
    let s = name_shift name _ _ _ (c.loop-first.invariant name u e) (c.in-Some.ensures.cases.0 ∙ ap (λ z. z ∷ c.in-Some.others.now) c.if-first-ne38.false) in
    let cut = c.in-Some-split_run.ensures.found s.symbols _ s.no_dash s.left in
    let put = c.in_ok-push_shift.ensures s.cs (subst (λ z. IsShift z s.cs) (sym cut.0) s.shift) in
    name_shifted name _ _ _ _ s cut.1 put.1

pub returns : goal.returns
returns c name u e = name_end name _ _ (c.loop-first.invariant name u e) (no_octets _ c.in_default.ensures.cases)
