use Rattle.std.proofs.Common.{◌≡◌, [], ◌++◌, sym, ap, ◌∙◌, map-id, append-nil}
use Rattle.std.proofs.lemmas.Iterator.{YieldsList-from_chars}
use Rattle.std.proofs.lemmas.Iterator.Consumers.{YieldsList-end}
use Rattle.std.specs.Str.{chars}
use Rattle.imap_words.specs.Utf7.{written_after}
use Rattle.imap_words.proofs.Utf7Lemmas.{written_ascii}
use Rattle.imap_words.proofs.utf7.write_mutf7.Goals as goal

pub returns-clause-form : goal.returns-clause-form
returns-clause-form c =
    let end = YieldsList-end (YieldsList-from_chars c.args.name.now c.utf8.name (cc (c.chars-c-items.ensures.rest, c.into_iter-c-iterator.ensures.into_iter_gives))) c.loop-c.yielded _ c.loop-c.yielded_by _ _ c.in-None.is c.next.ensures.steps in
    let all : c.loop-c.yielded ++ [] ≡ chars c.args.name.now = append-nil c.loop-c.yielded ∙ (sym (map-id c.loop-c.yielded) ∙ end.0) in
    c.in_ok-push_shifted-2.ensures.written ∙ (sym (c.loop-c.invariant []) ∙ ap (λ z. written_after [] z) all)

pub returns-clause-ascii : goal.returns-clause-ascii
returns-clause-ascii c = let form = returns-clause-form c in rw form (written_ascii [] (chars c.args.name.now))
