use Rattle.imap_words.specs.Reading.{never}
use Rattle.imap_words.proofs.Going.{ends_at, passes_on}
use Rattle.imap_words.proofs.Leaving.{here, leaves_all, leaves_then}
use Rattle.imap_grammar.specs.Fetching.{after_item_word}
use Rattle.imap_grammar.specs.FetchParts.{IsLoneItem}
use Rattle.imap_grammar.proofs.LineEnds.{any_joins, steps_pass}
use Rattle.imap_grammar.proofs.FetchEnds.{steps_on}
use Rattle.imap_grammar.proofs.Sames.{leaves_same}
use Rattle.imap_grammar.proofs.ItemSteps.{AnyWord, alone_same, rest_avoids, rest_viable}
use Rattle.imap_grammar.proofs.fetch.lone_item.Goals as goal

pub returns-in_err-word-clause-reads : goal.returns-in_err-word-clause-reads
returns-in_err-word-clause-reads c = λ utf8.
    let f = c.args.fetching in
    let at = leaves_same (AnyWord utf8 f) (leaves_all (IsLoneItem utf8 f) c.args.text.now) (alone_same utf8 f) in
    passes_on _ _ c.from_residual.result _ c.from_residual.ensures.1 (ends_at after_item_word never _ (here at) c.in_err-word.ensures (rest_avoids utf8 f) (rest_viable utf8 f))

pub returns-clause-reads : goal.returns-clause-reads
returns-clause-reads c = λ utf8.
    let f = c.args.fetching in
    let at = leaves_same (AnyWord utf8 f) (leaves_all (IsLoneItem utf8 f) c.args.text.now) (alone_same utf8 f) in
    steps_on utf8 _ (leaves_then at c.in_ok-word.ensures (rest_avoids utf8 f)) (c.after_word.ensures.reads utf8)

pub returns-clause-passes : goal.returns-clause-passes
returns-clause-passes c = steps_pass _ _ _ (any_joins _ _ _ c.in_ok-word.ensures) c.after_word.ensures.passes
