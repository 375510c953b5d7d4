use Rattle.std.proofs.Common.{sym, ap, ◌∙◌}
use Rattle.field_tokens.specs.Lexemes.{value_of, values_of}
use Rattle.field_tokens.specs.Squeezed.{words_of}
use Rattle.field_downgrade.proofs.PlainReading.{atom_kind, one_atom, one_atom-parts, no_one_atom}
use Rattle.field_downgrade.proofs.plain.is_one_atom.Goals as goal

pub returns-then-not-is_atom : goal.returns-then-not-is_atom
returns-then-not-is_atom c = no_one_atom (values_of c.args.tokens) (value_of c.in-Some.token) (values_of c.in-Some.following) (c.loop-token.invariant ∙ ap words_of c.in-Some.ensures.found) (sym c.is_blank.ensures ∙ c.if-not-is_blank.true) (sym c.is_atom.ensures ∙ c.if-not-is_atom.true)

pub returns-then-not-is_blank : goal.returns-then-not-is_blank
returns-then-not-is_blank c =
    let same = c.loop-token.invariant ∙ ap words_of c.in-Some.ensures.found in
    let word = sym c.is_blank.ensures ∙ c.if-not-is_blank.true in (
      λ blank. one_atom (values_of c.args.tokens) (value_of c.in-Some.token) (values_of c.in-Some.following) same word (atom_kind _ (sym c.is_atom.ensures ∙ c.if-not-is_atom.false)) (sym c.are_blank.ensures ∙ blank),
      λ one. c.are_blank.ensures ∙ (one_atom-parts (values_of c.args.tokens) (value_of c.in-Some.token) (values_of c.in-Some.following) same word one).1,
    )
