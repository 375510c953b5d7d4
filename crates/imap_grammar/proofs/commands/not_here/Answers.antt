use Rattle.std.proofs.Common.{◌≡◌, Some, None, take, drop, subst, sym}
use Rattle.std.specs.Prelude.{MatchOption}
use Rattle.mail_wire.specs.Lines.{first_line}
use Rattle.imap_words.specs.Reading.{Reads, never}
use Rattle.imap_grammar.specs.declared.command.Command.TheVariants as command
use Rattle.imap_grammar.specs.Commands.{IsNotHere}
use Rattle.imap_grammar.proofs.NotHereSteps.{line_reads, line_open}
use Rattle.imap_grammar.proofs.commands.not_here.Goals as goal

pub returns-in_default-clause-reads : goal.returns-in_default-clause-reads
returns-in_default-clause-reads c =
    line_open c.args.text.now
    (subst (λ r. MatchOption r (first_line c.args.text.now ≡ None) (λ n. first_line c.args.text.now ≡ Some (record { line = take n c.args.text.now; rest = drop n c.args.text.now }))) c.in_default.is c.line_len.ensures.line)

pub returns-clause-reads : goal.returns-clause-reads
returns-clause-reads c =
    let found
    = subst (λ r. MatchOption r (first_line c.args.text.now ≡ None) (λ n. first_line c.args.text.now ≡ Some (record { line = take n c.args.text.now; rest = drop n c.args.text.now }))) c.in-Some.is c.line_len.ensures.line in
    λ utf8. subst (λ z. Reads IsNotHere never c.args.text.now command.NotHere z) (sym c.split_at.ensures.back) (line_reads c.args.text.now _ found)
