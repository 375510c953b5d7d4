use Rattle.std.proofs.Common.{◌↔◌, ◌∷◌, IsTrue}
use Rattle.std.proofs.lemmas.Result.{IfOk-weaker}
use Rattle.mime_tree.specs.Tree.{HasTree}
use Rattle.surrogate_rope.specs.Layout.{HasSurrogate}
use Rattle.utf8_reports.specs.private.Reading.{IsSomeHeader}
use Rattle.utf8_reports.proofs.SomeHeaders.{some_block, none_shown, own_shown, global_shown}
use Rattle.utf8_reports.proofs.WholeBlocks.{whole_tree}
use Rattle.utf8_reports.proofs.shown.is_some_header.Goals as goal

pub returns-then-not-is_ended : goal.returns-then-not-is_ended
returns-then-not-is_ended c = none_shown c.args.global c.args.header.now (λ is.
    let ended : IsTrue c.is_ended.result = c.is_ended.ensures.1 (some_block c.args.global c.args.header.now is).ended in
    let other = c.if-not-is_ended.true in
    cc)

pub returns-in_default : goal.returns-in_default
returns-in_default c = none_shown c.args.global c.args.header.now (λ is.
    let block = some_block c.args.global c.args.header.now is in
    let whole = whole_tree c.args.header.now block.fields block.sound block.has_block in
    let none = rw c.in_default.is at c.in_ok-tree.ensures.none in
    none (whole.entity ∷ whole.inner) whole.tree)

pub returns-then-not-is_all_header : goal.returns-then-not-is_all_header
returns-then-not-is_all_header c = none_shown c.args.global c.args.header.now (λ is.
    let block = some_block c.args.global c.args.header.now is in
    let all : IsTrue c.is_all_header.result = c.is_all_header.ensures.1 (block.fields, block.has_block) in
    let other = c.if-not-is_all_header.true in
    cc)

pub returns-then-global : goal.returns-then-global
returns-then-global c =
    let tree : HasTree c.args.header.now c.in-Some.tree.entities = rw c.in-Some.is at c.in_ok-tree.ensures.found in
    let ended : IsTrue c.is_ended.result = (let other = c.if-not-is_ended.false in cc) in
    let all : IsTrue c.is_all_header.result = (let other = c.if-not-is_all_header.false in cc) in
    let block = c.is_all_header.ensures.0 all in
    global_shown c.args.global c.args.header.now c.in-Some.tree.entities block.0 c.if-global.true tree block.1 (c.is_ended.ensures.0 ended)

pub returns : goal.returns
returns c =
    let tree : HasTree c.args.header.now c.in-Some.tree.entities = rw c.in-Some.is at c.in_ok-tree.ensures.found in
    let ended : IsTrue c.is_ended.result = (let other = c.if-not-is_ended.false in cc) in
    let all : IsTrue c.is_all_header.result = (let other = c.if-not-is_all_header.false in cc) in
    let block = c.is_all_header.ensures.0 all in
    IfOk-weaker c.is_own_surrogate.result (λ is. IsTrue is ↔ HasSurrogate c.args.header.now c.args.header.now) (λ is. IsTrue is ↔ IsSomeHeader c.args.global c.args.header.now)
    (λ is own. own_shown c.args.global is c.args.header.now c.in-Some.tree.entities block.0 c.if-global.false tree block.1 (c.is_ended.ensures.0 ended) own)
    c.is_own_surrogate.ensures
