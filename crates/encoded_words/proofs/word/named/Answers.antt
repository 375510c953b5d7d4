use Rattle.std.proofs.Common.{subst}
use Rattle.std.specs.Prelude.{IfSome}
use Rattle.std.proofs.lemmas.Bool.{iff_false}
use Rattle.encoded_words.specs.Words.{IsName}
use Rattle.encoded_words.proofs.Cuts.{IsNamed-once}
use Rattle.encoded_words.proofs.word.named.Goals as goal

pub returns-then-not-is_name-clause-none : goal.returns-then-not-is_name-clause-none
returns-then-not-is_name-clause-none c charset language is =
    let once = IsNamed-once c.args.name.now _ charset _ language c.cut_name.ensures.spelled c.cut_name.ensures.first is in
    iff_false c.is_name.ensures c.if-not-is_name.true (subst IsName once.0 is.charset_is)

pub returns-then-not-is_language-clause-none : goal.returns-then-not-is_language-clause-none
returns-then-not-is_language-clause-none c charset language is =
    let once = IsNamed-once c.args.name.now _ charset _ language c.cut_name.ensures.spelled c.cut_name.ensures.first is in
    iff_false c.is_language.ensures c.if-not-is_language.true (subst (λ l. IfSome l IsName) once.1 is.language_is)
