use Rattle.std.proofs.Common.{[], ◌∷◌, ◌++◌, refl, ap, ◌∙◌, subst, arith}
use Rattle.imap_words.specs.Languages.{IsOctet}
use Rattle.imap_words.specs.Reading.{never, always, StopsReading}
use Rattle.imap_words.specs.declared.tokens.Kind.TheVariants.{Atom}
use Rattle.imap_words.specs.Tokens.{IsCrlf, IsImapAtom, is_atom_char}
use Rattle.imap_words.proofs.Going.{begins, onwards, ends_at, passes_on, never_avoids, then_never, is_viable, is_reads}
use Rattle.imap_words.proofs.Choosing.{more_avoids, list_next, list_separator, list_close, list_open}
use Rattle.imap_words.proofs.HeaderSteps.{crlf_viable}
use Rattle.imap_words.proofs.InLine.{exit_more, atom_open, atom_joins, first_joins}
use Rattle.imap_grammar.specs.Commands.{IsAtoms}
use Rattle.imap_grammar.proofs.CommandSteps.{atoms_follow, space_avoids, crlf_avoids, atom_read}
use Rattle.imap_grammar.proofs.commands.atoms.Goals as goal

pub returns-in_err-first-clause-reads : goal.returns-in_err-first-clause-reads
returns-in_err-first-clause-reads c =
    passes_on _ _ c.from_residual.result _ c.from_residual.ensures.1
    (ends_at (always is_atom_char) never _ (begins IsAtoms c.args.text.now) c.in_err-first.ensures (λ u. more_avoids (IsOctet 32) IsImapAtom IsCrlf is_atom_char (u ∷ []) (space_avoids Atom) (crlf_avoids Atom)) (λ u. atoms_follow (u ∷ [])))

pub loop-separator-init : goal.loop-separator-init
loop-separator-init c = record {
  so = list_next 32 IsImapAtom IsCrlf [] (begins IsAtoms c.args.text.now) (atom_read c.in-Ok.ensures c.in_ok-first.ensures) (λ _. space_avoids Atom) (λ _. crlf_avoids Atom)
      (c.in-Ok-push.ensures.ok ∙ ap (λ z. z ++ c.in-Ok.first ∷ []) c.new-atoms.ensures);
  joins = atom_joins _ _ _ c.in_ok-first.ensures;
}

pub returns-in_err-following-clause-reads : goal.returns-in_err-following-clause-reads
returns-in_err-following-clause-reads c =
    passes_on _ _ c.from_residual-in_err-following.result _ c.from_residual-in_err-following.ensures.1
    (ends_at never never _ (list_close 32 IsImapAtom IsCrlf _ _ _ c.loop-separator.invariant.so c.in-Some.ensures.cases.0 c.if-separator-ne32.true) c.in_err-following.ensures.reads (λ _. never_avoids _) (λ _. is_viable _))

pub returns-then-separator-ne32-clause-reads : goal.returns-then-separator-ne32-clause-reads
returns-then-separator-ne32-clause-reads c =
    (onwards (list_close 32 IsImapAtom IsCrlf _ _ _ c.loop-separator.invariant.so c.in-Some.ensures.cases.0 c.if-separator-ne32.true) c.in_ok-following.ensures.reads (λ _. never_avoids _)).reads never _ _ (is_reads _ _)

pub returns-in_err-atom-clause-reads : goal.returns-in_err-atom-clause-reads
returns-in_err-atom-clause-reads c =
    passes_on _ _ c.from_residual-in_err-atom.result _ c.from_residual-in_err-atom.ensures.1
    (ends_at (always is_atom_char) never _
    (list_separator 32 IsImapAtom IsCrlf c.loop-separator.atoms _ _ c.loop-separator.invariant.so c.in-Some.ensures.cases.0 c.if-separator-ne32.false (then_never 13 32 _ (λ bad. absurd (omega (arith, bad))))) c.in_err-atom.ensures
    (λ u. more_avoids (IsOctet 32) IsImapAtom IsCrlf is_atom_char (c.loop-separator.atoms ++ u ∷ []) (space_avoids Atom) (crlf_avoids Atom)) (λ u. atoms_follow (c.loop-separator.atoms ++ u ∷ [])))

pub returns-in_err-atom-clause-more : goal.returns-in_err-atom-clause-more
returns-in_err-atom-clause-more c = λ e.
    let more = exit_more c.from_residual-in_err-atom.result _ c.from_residual-in_err-atom.ensures.1 e in
    c.loop-separator.invariant.joins (first_joins 32 _ _ _ c.in-Some.ensures.cases.0 c.if-separator-ne32.false refl (atom_open c.in-Some.others.now (subst (λ z. StopsReading IsImapAtom (always is_atom_char) c.in-Some.others.now z) more c.in_err-atom.ensures)))

pub loop-separator-preserved : goal.loop-separator-preserved
loop-separator-preserved c = record {
  so = list_next 32 IsImapAtom IsCrlf c.loop-separator.atoms
      (list_separator 32 IsImapAtom IsCrlf c.loop-separator.atoms _ _ c.loop-separator.invariant.so c.in-Some.ensures.cases.0 c.if-separator-ne32.false (then_never 13 32 _ (λ bad. absurd (omega (arith, bad)))))
      (atom_read c.in-Ok-from_slice.ensures c.in_ok-atom.ensures) (λ _. space_avoids Atom) (λ _. crlf_avoids Atom) c.in-Ok-push-2.ensures.ok;
  joins = λ none. c.loop-separator.invariant.joins (first_joins 32 _ _ _ c.in-Some.ensures.cases.0 c.if-separator-ne32.false refl (atom_joins _ _ _ c.in_ok-atom.ensures none));
}

pub returns-clause-reads : goal.returns-clause-reads
returns-clause-reads c = list_open 32 IsImapAtom IsCrlf c.loop-separator.atoms never c.loop-separator.invariant.so c.in_default-split_first.ensures.cases crlf_viable
