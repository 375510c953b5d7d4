use Rattle.std.proofs.Common.{rules, ◌≡◌, ◌++◌, take, not, true, arith}
use Rattle.std.proofs.lemmas.Result.{err_from_is_err_and}
use Rattle.encoded_words.specs.private.Parts.{lacks}
use Rattle.mail_wire.proofs.Moving.{GoesOn-trans, GoesOn-of}
use Rattle.mail_command.proofs.PasswordLemmas.{Line-end, Line-found}
use Rattle.mail_command.proofs.TakingLemmas.{Takes-piece, Takes-few}
use Rattle.mail_command.proofs.passwords.take_line.Goals as goal

pub returns-then-count-eq0-clause-taken : goal.returns-then-count-eq0-clause-taken
returns-then-count-eq0-clause-taken g c =
    Line-end _ (g.W.Wire.observed c.loop-piece.wire) _ c.args.max c.loop-piece.taken _ c.in_ok-count.count c.loop-piece.invariant.takes c.loop-piece.invariant.few
    c.in_ok-count.ensures.takes c.if-count-eq0.true

pub returns-then-has_line_end-clause-taken : goal.returns-then-has_line_end-clause-taken
returns-then-has_line_end-clause-taken g c =
    let ends : not (lacks 10 (take c.in_ok-count.count c.take_piece.new.into)) ≡ true = search rules in
    rw c.in_ok-push_slice.ensures.ok
    (Line-found (g.W.Wire.observed c.args.wire.now) (g.W.Wire.observed c.loop-piece.wire) (g.W.Wire.observed c.take_piece.new.wire) c.args.max c.loop-piece.taken c.take_piece.new.into c.in_ok-count.count
    c.loop-piece.invariant.takes (omega (arith, c.loop-piece-test)) c.in_ok-count.ensures.bound (search) c.in_ok-count.ensures.takes ends)

pub loop-piece-preserved : goal.loop-piece-preserved
loop-piece-preserved g c = record {
  takes = rw c.in_ok-push_slice.ensures.ok
      (Takes-piece (g.W.Wire.observed c.args.wire.now) (g.W.Wire.observed c.loop-piece.wire) (g.W.Wire.observed c.take_piece.new.wire) c.loop-piece.taken _ c.in_ok-count.count
      c.loop-piece.invariant.takes c.in_ok-count.ensures.takes);
  few = rw c.in_ok-push_slice.ensures.ok (Takes-few c.args.max c.in_ok-count.count c.loop-piece.taken c.take_piece.new.into (omega (arith, c.loop-piece-test)) c.in_ok-count.ensures.bound search);
  goes_on = GoesOn-trans (g.W.Wire.observed c.args.wire.now) (g.W.Wire.observed c.loop-piece.wire) (g.W.Wire.observed c.take_piece.new.wire) c.loop-piece.invariant.goes_on
      (GoesOn-of (g.W.Wire.observed c.loop-piece.wire) (g.W.Wire.observed c.take_piece.new.wire) _ _ c.in_ok-count.ensures.cause);
}

pub returns-in_err-push_slice-clause-some : goal.returns-in_err-push_slice-clause-some
returns-in_err-push_slice-clause-some g c =
    let p = err_from_is_err_and c.from_residual-in_err-push_slice.result c.from_residual-in_err-push_slice.ensures.1 in
    rw p.1 (record {
      octets = c.loop-piece.taken ++ take c.in_ok-count.count c.take_piece.new.into;
      takes = Takes-piece (g.W.Wire.observed c.args.wire.now) (g.W.Wire.observed c.loop-piece.wire) (g.W.Wire.observed c.take_piece.new.wire) c.loop-piece.taken _ c.in_ok-count.count
          c.loop-piece.invariant.takes c.in_ok-count.ensures.takes;
      few = Takes-few c.args.max c.in_ok-count.count c.loop-piece.taken c.take_piece.new.into (omega (arith, c.loop-piece-test)) c.in_ok-count.ensures.bound search;
    })
