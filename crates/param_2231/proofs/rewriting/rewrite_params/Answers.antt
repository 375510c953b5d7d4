use Rattle.encoded_words.proofs.LineLemmas.{adds_as}
use Rattle.param_2231.proofs.ParamsAgain.{ParamsPieces-read}
use Rattle.param_2231.proofs.rewriting.rewrite_params.Goals as goal

pub returns-in-Ok-true-clause-read_back : goal.returns-in-Ok-true-clause-read_back
returns-in-Ok-true-clause-read_back c =
    adds_as (λ pieces holds main params comments says. ParamsPieces-read c.args.kind c.args.open_global c.args.text.now pieces main params comments holds says)
    (c.in-Ok-true.ensures.found c.in-Ok-true.field-0-test)

pub returns-in-Ok-false-clause-malformed : goal.returns-in-Ok-false-clause-malformed
returns-in-Ok-false-clause-malformed c e = c.in-Ok-false.ensures.none c.in-Ok-false.field-0-test
