use Rattle.std.proofs.Common.{false}
use Rattle.std.specs.Fmt.{decimal}
use Rattle.imap_session.proofs.FetchLemmas.{stands_next}
use Rattle.imap_session.proofs.SectionLemmas.{joined_all, joined_more}
use Rattle.imap_session.proofs.sections.push_path.Goals as goal

pub loop-number-preserved : goal.loop-number-preserved
loop-number-preserved c = record {
  is_separated = stands_next false c.args.path.now c.loop-number.number-index 0 c.loop-number-test.true;
  joined = joined_more 46 decimal c.args.path.now c.loop-number.number-index 0 c.loop-number.is_separated c.args.name.now c.loop-number.name c.push_separator.new.made c.push_number.new.made c.loop-number-test.true
      c.loop-number.invariant.is_separated c.loop-number.invariant.joined c.in_ok-push_separator.ensures c.in_ok-push_number.ensures;
}

pub returns : goal.returns
returns c = joined_all 46 decimal c.args.path.now c.loop-number.number-index c.args.name.now c.loop-number.name c.loop-number-test.false c.loop-number.invariant.joined
