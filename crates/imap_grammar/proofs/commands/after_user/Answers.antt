use Rattle.std.proofs.Common.{refl}
use Rattle.imap_words.specs.Reading.{never}
use Rattle.imap_words.specs.declared.tokens.Kind.TheVariants.{Astring}
use Rattle.imap_words.proofs.Going.{begins, ends_at, passes_on, never_avoids}
use Rattle.imap_words.proofs.Leaving.{leaves_all, leaves_then}
use Rattle.imap_words.proofs.InLine.{octet_joins, astring_joins}
use Rattle.imap_words.proofs.StringHeads.{astring_starts}
use Rattle.imap_words.proofs.StringThen.{head_at}
use Rattle.imap_grammar.specs.Awaiting.{IsAfterUser}
use Rattle.imap_grammar.proofs.CommandSteps.{hands_any, bare_avoids, bare_viable, astring_viable, astring_stops, astring_read, astring_awaits}
use Rattle.imap_grammar.proofs.commands.after_user.Goals as goal

pub returns-in_err-after_space-clause-reads : goal.returns-in_err-after_space-clause-reads
returns-in_err-after_space-clause-reads c =
    passes_on _ _ c.from_residual.result _ c.from_residual.ensures.1
    (ends_at never never _ (begins (IsAfterUser c.args.utf8 c.args.name) c.args.text.now) c.in_err-after_space.ensures (λ _. never_avoids _) (λ _. astring_viable c.args.utf8 _ (λ v. bare_viable _)))

pub string_head-requires : goal.string_head-requires
string_head-requires c = astring_starts

pub returns-in_err-head-clause-reads : goal.returns-in_err-head-clause-reads
returns-in_err-head-clause-reads c =
    let at = leaves_then (leaves_all (IsAfterUser c.args.utf8 c.args.name) c.args.text.now) c.in_ok-after_space.ensures (λ _. never_avoids _) in
    passes_on _ _ c.from_residual-in_err-head.result _ c.from_residual-in_err-head.ensures.1 (astring_stops c.args.utf8 _ (λ v. bare_avoids Astring _) at (λ v. bare_viable _) _ c.in_err-head.ensures.reads)

pub returns-in-Whole-clause-reads : goal.returns-in-Whole-clause-reads
returns-in-Whole-clause-reads c =
    let at = leaves_then (leaves_all (IsAfterUser c.args.utf8 c.args.name) c.args.text.now) c.in_ok-after_space.ensures (λ _. never_avoids _) in
    hands_any c.args.utf8 _ (astring_read c.args.utf8 _ (λ v. bare_avoids Astring _) at _ _ (head_at Astring c.in-Whole.is c.in_ok-head.ensures.reads)) c.bare.ensures.reads

pub returns-in-Whole-clause-more : goal.returns-in-Whole-clause-more
returns-in-Whole-clause-more c = λ e.
    octet_joins 32 _ _ c.in_ok-after_space.ensures refl (astring_joins c.args.utf8 _ _ _ _ c.in_ok-head.ensures.reads c.in-Whole.is (c.bare.ensures.more e))

pub returns-in-Literal-clause-reads : goal.returns-in-Literal-clause-reads
returns-in-Literal-clause-reads c =
    let at = leaves_then (leaves_all (IsAfterUser c.args.utf8 c.args.name) c.args.text.now) c.in_ok-after_space.ensures (λ _. never_avoids _) in
    astring_awaits c.args.utf8 _ (λ v. bare_avoids Astring _) at _ _ (head_at Astring c.in-Literal.is c.in_ok-head.ensures.reads)
