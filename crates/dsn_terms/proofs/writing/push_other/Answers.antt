use Rattle.std.proofs.Common.{sym}
use Rattle.dsn_terms.proofs.WrittenTerms.{same-put, orcpt_text-utf8, orcpt_text-none, IsUtf8-kept}
use Rattle.dsn_terms.proofs.writing.push_other.Goals as goal

pub returns-in_default : goal.returns-in_default
returns-in_default c = orcpt_text-none c.args.orcpt.now c.args.text.now c.requires.kept c.requires.other (sym c.in_default.ensures)

pub push_utf8-requires : goal.push_utf8-requires
push_utf8-requires c = IsUtf8-kept c.args.orcpt.now c.in-Some.address.now c.requires.kept c.requires.other (sym c.in-Some.ensures)

pub returns : goal.returns
returns c = same-put c.push_utf8.result c.args.text.now _ _ _ (orcpt_text-utf8 c.args.orcpt.now c.in-Some.address.now c.requires.other (sym c.in-Some.ensures)) c.push_utf8.ensures
