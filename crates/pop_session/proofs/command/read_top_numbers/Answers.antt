use Rattle.std.proofs.Common.{◌∙◌}
use Rattle.pop_session.proofs.Arguments.{top_numbers-no_space, top_numbers-no_first, top_numbers-no_second, top_numbers-both}
use Rattle.pop_session.proofs.command.read_top_numbers.Goals as goal

pub returns-in_err-at : goal.returns-in_err-at
returns-in_err-at c = c.from_residual.ensures ∙ top_numbers-no_space c.args.text.now c.in_err-at.ensures

pub returns-in_err-read_number : goal.returns-in_err-read_number
returns-in_err-read_number c =
    c.from_residual-in_err-read_number.ensures
    ∙ top_numbers-no_first c.args.text.now _ _ _ c.in_ok-at.at c.in_ok-at.ensures c.split_at.ensures.front c.split_at.ensures.back c.split_at-2.ensures.back c.in_err-read_number.ensures

pub returns-in_err-read_number-2 : goal.returns-in_err-read_number-2
returns-in_err-read_number-2 c =
    c.from_residual-in_err-read_number-2.ensures
    ∙ top_numbers-no_second c.args.text.now _ _ _ c.in_ok-at.at c.in_ok-at.ensures c.split_at.ensures.front c.split_at.ensures.back c.split_at-2.ensures.back c.in_err-read_number-2.ensures

pub returns : goal.returns
returns c =
    top_numbers-both c.args.text.now _ _ _ c.in_ok-at.at c.in_ok-read_number.field-0 c.in_ok-read_number-2.field-0 c.in_ok-at.ensures c.split_at.ensures.front c.split_at.ensures.back
    c.split_at-2.ensures.back c.in_ok-read_number.ensures c.in_ok-read_number-2.ensures
