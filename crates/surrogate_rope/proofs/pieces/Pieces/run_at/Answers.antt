use Rattle.std.proofs.Common.{[], ◌-◌, ap, ◌∙◌, drop, arith}
use Rattle.surrogate_rope.specs.Ropes.{New}
use Rattle.surrogate_rope.proofs.PieceLemmas.{piece_run}
use Rattle.surrogate_rope.proofs.pieces.Pieces.run_at.Goals as goal

pub returns-clause-run : goal.returns-clause-run
returns-clause-run c =
    (piece_run c.args.msg.now c.args.self.now c.args.offset c.number_at-number.result (c.args.offset - c.offset_of.result) (New []) c.rest_of.result.now c.requires c.number_at-number.ensures
    (ap (λ n. c.args.offset - n) c.offset_of.ensures) (c.rest_of.ensures ∙ ap (drop (c.args.offset - c.offset_of.result)) c.octets_at.ensures)).octets

pub returns-clause-some : goal.returns-clause-some
returns-clause-some c inside =
    (piece_run c.args.msg.now c.args.self.now c.args.offset c.number_at-number.result (c.args.offset - c.offset_of.result) (New []) c.rest_of.result.now c.requires c.number_at-number.ensures
    (ap (λ n. c.args.offset - n) c.offset_of.ensures) (c.rest_of.ensures ∙ ap (drop (c.args.offset - c.offset_of.result)) c.octets_at.ensures)).some

pub returns-clause-few : goal.returns-clause-few
returns-clause-few c =
    let run = piece_run c.args.msg.now c.args.self.now c.args.offset c.number_at-number.result (c.args.offset - c.offset_of.result) (New []) c.rest_of.result.now c.requires c.number_at-number.ensures
    (ap (λ n. c.args.offset - n) c.offset_of.ensures) (c.rest_of.ensures ∙ ap (drop (c.args.offset - c.offset_of.result)) c.octets_at.ensures) in
    omega (arith, run.within, c.size.ensures, c.size.auto)
