use Rattle.std.proofs.Common.{Bool, subst, sym}
use Rattle.std.specs.Prelude.{MatchResult}
use Rattle.imap_words.specs.Languages.{After, Is}
use Rattle.imap_words.specs.Reading.{StopsReading, never}
use Rattle.imap_words.proofs.Going.{ends_at, passes_on, never_avoids}
use Rattle.imap_words.proofs.Leaving.{leaves_then, here}
use Rattle.imap_grammar.specs.Commands.{IsDataEnd}
use Rattle.imap_grammar.specs.Awaiting.{Comes}
use Rattle.imap_grammar.proofs.CommandSteps.{hands_all, bare_viable}
use Rattle.imap_grammar.proofs.AppendSteps.{data_end}
use Rattle.imap_grammar.proofs.append.after_data.Goals as goal

pub returns-then-not-in_utf8-clause-reads : goal.returns-then-not-in_utf8-clause-reads
returns-then-not-in_utf8-clause-reads c =
    subst (λ z. MatchResult c.bare.result (λ x. (utf8 : Bool) → Comes utf8 (After (IsDataEnd z) (Is c.args.command)) c.args.text.now x.0 x.1.now) (λ stop. StopsReading (After (IsDataEnd z) (Is c.args.command)) never c.args.text.now stop)) (sym c.if-not-in_utf8.true) c.bare.ensures.reads

pub returns-in_err-rest-clause-reads : goal.returns-in_err-rest-clause-reads
returns-in_err-rest-clause-reads c =
    subst (λ z. MatchResult c.from_residual.result (λ x. (utf8 : Bool) → Comes utf8 (After (IsDataEnd z) (Is c.args.command)) c.args.text.now x.0 x.1.now) (λ stop. StopsReading (After (IsDataEnd z) (Is c.args.command)) never c.args.text.now stop)) (sym c.if-not-in_utf8.false)
    (passes_on _ _ c.from_residual.result _ c.from_residual.ensures.1 (ends_at never never _ (here (data_end c.args.command c.args.text.now)) c.in_err-rest.ensures (λ _. never_avoids _) (λ _. bare_viable c.args.command)))

pub returns-clause-reads : goal.returns-clause-reads
returns-clause-reads c =
    subst (λ z. MatchResult c.bare-2.result (λ x. (utf8 : Bool) → Comes utf8 (After (IsDataEnd z) (Is c.args.command)) c.args.text.now x.0 x.1.now) (λ stop. StopsReading (After (IsDataEnd z) (Is c.args.command)) never c.args.text.now stop)) (sym c.if-not-in_utf8.false)
    (hands_all _ (leaves_then (data_end c.args.command c.args.text.now) c.in_ok-rest.ensures (λ _. never_avoids _)) c.bare-2.ensures.reads)
