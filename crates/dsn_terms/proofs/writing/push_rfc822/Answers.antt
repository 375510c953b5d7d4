use Rattle.std.proofs.Common.{codes}
use Rattle.dsn_terms.specs.Xtexts.{shortest_xtext}
use Rattle.dsn_terms.proofs.WrittenTerms.{put-behind}
use Rattle.dsn_terms.proofs.writing.push_rfc822.Goals as goal

pub returns : goal.returns
returns c = put-behind c.push_xtext.result c.args.text.now (codes " ORCPT=rfc822;") (shortest_xtext c.args.address.now) c.push_slice.new.self c.push_xtext.new.made c.in_ok-push_slice.ensures.ok c.push_xtext.ensures
