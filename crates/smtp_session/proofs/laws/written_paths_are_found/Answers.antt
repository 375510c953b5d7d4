use Rattle.smtp_session.proofs.WrittenPaths.{written_after, written_spaced}
use Rattle.smtp_session.proofs.laws.written_paths_are_found.Goals as goal

pub returns-clause-following : goal.returns-clause-following
returns-clause-following c = written_after

pub returns-clause-spaced : goal.returns-clause-spaced
returns-clause-spaced c = written_spaced
