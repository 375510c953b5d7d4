use Rattle.std.proofs.Common.{[], ◌∷◌}
use Rattle.imap_words.proofs.Leaving.{leaves_all}
use Rattle.imap_grammar.specs.FetchParts.{IsAfterThese}
use Rattle.imap_grammar.proofs.FetchEnds.{memory_on, items_read}
use Rattle.imap_grammar.proofs.fetch.read_item.Goals as goal

pub returns-in_err-made-clause-reads : goal.returns-in_err-made-clause-reads
returns-in_err-made-clause-reads c = λ utf8. memory_on _ _ c.from_residual.result _ c.from_residual.ensures.1 c.in_err-made.ensures tt

pub returns-clause-reads : goal.returns-clause-reads
returns-clause-reads c = λ utf8. items_read utf8 c.args.fetching _ c.in_ok-made.ensures (leaves_all (IsAfterThese utf8 c.args.fetching (c.args.item ∷ [])) c.args.text.now)
