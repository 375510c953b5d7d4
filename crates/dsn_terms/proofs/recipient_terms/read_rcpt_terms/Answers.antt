use Rattle.std.proofs.Common.{codes, rules}
use Rattle.dsn_terms.specs.Parameters.{value_under}
use Rattle.dsn_terms.proofs.KeptFacts.{NotifySays-kept, OrcptSays-kept}
use Rattle.dsn_terms.proofs.recipient_terms.read_rcpt_terms.Goals as goal

pub returns-clause-kept : goal.returns-clause-kept
returns-clause-kept c = record {
  notify = NotifySays-kept (value_under (codes "NOTIFY=") c.args.params.now) _ (search rules);
  orcpt = OrcptSays-kept c.args.utf8 (value_under (codes "ORCPT=") c.args.params.now) _ (search rules);
}
