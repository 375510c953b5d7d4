use Rattle.std.proofs.Common.{List, ℕ, ◌++◌, None, Some, refl, ap, ◌∙◌, string_bytes}
use Rattle.std.proofs.lemmas.Result.{err_from_is_err_and}
use Rattle.mail_wire.specs.declared.outside.Fault.TheVariants as fault
use Rattle.pop_session.proofs.AskLemmas.{asks_lost, keeps_lost}
use Rattle.pop_session.proofs.replies.push_listing.Goals as goal

pub returns-in_err-value-clause-asks : goal.returns-in_err-value-clause-asks
returns-in_err-value-clause-asks g c =
    let failed = err_from_is_err_and c.from_residual.result c.from_residual.ensures.1 in
    asks_lost c.args.outside.now c.size.new.outside c.from_residual.result (Some fault.Memory) _ _ (rw failed.1 refl) c.in_err-value.ensures.asks

pub returns-in_err-value-clause-keeps : goal.returns-in_err-value-clause-keeps
returns-in_err-value-clause-keeps g c =
    let failed = err_from_is_err_and c.from_residual.result c.from_residual.ensures.1 in
    rw failed.1 c.in_err-value.ensures.keeps

pub returns-in_err-line-clause-asks : goal.returns-in_err-line-clause-asks
returns-in_err-line-clause-asks g c =
    let failed = err_from_is_err_and c.from_residual-in_err-line.result c.from_residual-in_err-line.ensures.1 in
    asks_lost c.args.outside.now c.size.new.outside c.from_residual-in_err-line.result None _ _ (rw failed.1 refl) c.in_ok-value.ensures.asks

pub returns-in_err-line-clause-keeps : goal.returns-in_err-line-clause-keeps
returns-in_err-line-clause-keeps g c =
    let failed = err_from_is_err_and c.from_residual-in_err-line.result c.from_residual-in_err-line.ensures.1 in
    keeps_lost c.args.outside.now c.size.new.outside c.from_residual-in_err-line.result (rw failed.1 refl) c.in_ok-value.ensures.keeps

pub returns-in_err-push_str-clause-asks : goal.returns-in_err-push_str-clause-asks
returns-in_err-push_str-clause-asks g c =
    let failed = err_from_is_err_and c.from_residual-in_err-push_str.result c.from_residual-in_err-push_str.ensures.1 in
    asks_lost c.args.outside.now c.size.new.outside c.from_residual-in_err-push_str.result None _ _ (rw failed.1 refl) c.in_ok-value.ensures.asks

pub returns-in_err-push_str-clause-keeps : goal.returns-in_err-push_str-clause-keeps
returns-in_err-push_str-clause-keeps g c =
    let failed = err_from_is_err_and c.from_residual-in_err-push_str.result c.from_residual-in_err-push_str.ensures.1 in
    keeps_lost c.args.outside.now c.size.new.outside c.from_residual-in_err-push_str.result (rw failed.1 refl) c.in_ok-value.ensures.keeps

pub returns-clause-text : goal.returns-clause-text
returns-clause-text g c = λ oracles are.
    rw (← (c.in_ok-value.ensures.size oracles are))
    (c.in_ok-push_str.ensures.bytes ∙ ap (λ (l : List ℕ). string_bytes c.args.text.now ++ l) (c.as_str.ensures.value ∙ c.in_ok-line.ensures))
