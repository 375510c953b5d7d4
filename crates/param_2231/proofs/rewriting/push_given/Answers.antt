use Rattle.std.proofs.Common.{sym, ◌∙◌, arith}
use Rattle.std.specs.Prelude.{codes}
use Rattle.std.proofs.lemmas.Result.{on_ok_weaker}
use Rattle.param_grammar.specs.Places.{piece_in}
use Rattle.param_2231.proofs.GivenLemmas.{role_within, role_is, place_is, gives_written, gives_none, gives_param}
use Rattle.param_2231.proofs.rewriting.push_given.Goals as goal

pub index-role-requires : goal.index-role-requires
index-role-requires c =
    let within = role_within c.args.text.now c.args.placed.now c.requires.placed.0 c.args.number c.requires.placed.1 c.requires.number in
    omega (arith, within, c.args.placed.now.roles.ok.0)

pub returns-then-is_ascii : goal.returns-then-is_ascii
returns-then-is_ascii c = λ pieces has.
    let role = role_is c.args.text.now c.args.placed.now pieces c.args.number c.index-role.result.now has c.requires.number c.index-role.ensures in
    let place = place_is c.args.text.now c.args.placed.now pieces c.args.number c.index.result.now has c.requires.number c.index.ensures in
    on_ok_weaker c.push_copy.result (gives_written (codes ";") pieces c.args.number _ _ _ role (sym c.is_ascii.ensures ∙ c.if-is_ascii.true)) (c.push_copy.ensures (piece_in pieces c.args.number) place)

pub returns-in-GoesOn : goal.returns-in-GoesOn
returns-in-GoesOn c = λ pieces has.
    let role = role_is c.args.text.now c.args.placed.now pieces c.args.number c.index-role.result.now has c.requires.number c.index-role.ensures in
    gives_none (codes ";") pieces c.args.number _ _ _ role (sym c.is_ascii.ensures ∙ c.if-is_ascii.false) c.in-GoesOn.is

pub returns-in-Begins : goal.returns-in-Begins
returns-in-Begins c = λ pieces has.
    let role = role_is c.args.text.now c.args.placed.now pieces c.args.number c.index-role.result.now has c.requires.number c.index-role.ensures in
    on_ok_weaker c.push_begun.result (gives_param (codes ";") pieces c.args.number _ _ _ _ _ role (sym c.is_ascii.ensures ∙ c.if-is_ascii.false) c.in-Begins.is) (c.push_begun.ensures pieces has)
