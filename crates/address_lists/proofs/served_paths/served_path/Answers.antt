use Rattle.std.proofs.Common.{Some, None, Err, ap}
use Rattle.std.proofs.lemmas.Result.{IfOk-weaker}
use Rattle.address_grammar.specs.Paths.{HasPath}
use Rattle.address_grammar.proofs.PathParts.{path_utf8}
use Rattle.address_lists.proofs.PathPiecesLemmas.{path_not_served, null_not_served}
use Rattle.address_lists.proofs.served_paths.served_path.Goals as goal

pub served-requires : goal.served-requires
served-requires c =
    let path : HasPath c.args.text.now (Some c.in-Ok-Some.address) = rw (c.in-Ok-Some.field-0-is) at c.in-Ok-Some.ensures.ok in
    path_utf8 c.args.text.now c.in-Ok-Some.address path

pub returns-in-Ok-Some-clause-none : goal.returns-in-Ok-Some-clause-none
returns-in-Ok-Some-clause-none c =
    let path : HasPath c.args.text.now (Some c.in-Ok-Some.address) = rw (c.in-Ok-Some.field-0-is) at c.in-Ok-Some.ensures.ok in
    IfOk-weaker c.served.result _ _ (λ found e. path_not_served c.args.text.now c.in-Ok-Some.address found path e) c.served.ensures

pub returns-in-Ok-None-clause-none : goal.returns-in-Ok-None-clause-none
returns-in-Ok-None-clause-none c =
    let path : HasPath c.args.text.now None = rw (c.in-Ok-None.field-0-is) at c.in-Ok-None.ensures.ok in
    null_not_served c.args.text.now path

pub returns-in-Err-Malformed-clause-none : goal.returns-in-Err-Malformed-clause-none
returns-in-Err-Malformed-clause-none c = λ served serves. c.in-Err-Malformed.ensures.malformed (ap Err c.in-Err-Malformed.field-0-is) (Some serves.address) serves.has_path
