use Rattle.std.proofs.Common.{◌≡◌, ◌∷◌, [], take, filter, sym, ap, ◌∙◌, arith}
use Rattle.std.proofs.lemmas.Bool.{true≢false}
use Rattle.field_tokens.specs.declared.Style.TheVariants.{Mime}
use Rattle.field_tokens.specs.Tokens.{HasTokens}
use Rattle.mime_tree.proofs.WordLemmas.{is_word, one_word}
use Rattle.imap_views.proofs.ParamLemmas.{one_atom_found, not_one_atom, no_word_atom, no_tokens_atom}
use Rattle.imap_views.proofs.params.one_atom.Goals.{in-Atom, in_default-matches}
use Rattle.imap_views.proofs.params.one_atom.Goals as goal

pub returns-in_default-clause-none : goal.returns-in_default-clause-none
returns-in_default-clause-none c = no_tokens_atom c.args.text.now (rw (c.in_default.is) at c.in_ok-found.ensures.none)

pub returns-in_default-only_word-clause-none : goal.returns-in_default-only_word-clause-none
returns-in_default-only_word-clause-none c =
    no_word_atom c.args.text.now c.in-Some.found.items (rw (c.in-Some.is) at c.in_ok-found.ensures.some) (rw (c.deref.ensures.value) at c.in_default-only_word.ensures.none)

pub returns-then-not-matches-clause-none : goal.returns-then-not-matches-clause-none
returns-then-not-matches-clause-none c =
    let has : HasTokens Mime c.args.text.now c.in-Some.found.items = rw (c.in-Some.is) at c.in_ok-found.ensures.some in
    let one : filter is_word c.in-Some.found.items ≡ c.in-Some-only_word.word ∷ [] = rw (c.deref.ensures.value) at c.in-Some-only_word.ensures.some in
    elim c.match-matches.branch [
      | in-Atom w ↦ absurd (true≢false (sym w.matches-is ∙ c.if-not-matches.true))
      | in_default-matches w ↦ not_one_atom c.args.text.now c.in-Some.found.items c.in-Some-only_word.word has one w.in_default-matches.not-Atom
    ]

pub split_at-requires : goal.split_at-requires
split_at-requires c =
    let has : HasTokens Mime c.args.text.now c.in-Some.found.items = rw (c.in-Some.is) at c.in_ok-found.ensures.some in
    let one : filter is_word c.in-Some.found.items ≡ c.in-Some-only_word.word ∷ [] = rw (c.deref.ensures.value) at c.in-Some-only_word.ensures.some in
    omega (arith, (one_word c.args.text.now c.in-Some.found.items c.in-Some-only_word.word has one).within)

pub split_at-requires-2 : goal.split_at-requires-2
split_at-requires-2 c =
    let has : HasTokens Mime c.args.text.now c.in-Some.found.items = rw (c.in-Some.is) at c.in_ok-found.ensures.some in
    let one : filter is_word c.in-Some.found.items ≡ c.in-Some-only_word.word ∷ [] = rw (c.deref.ensures.value) at c.in-Some-only_word.ensures.some in
    omega (arith, (one_word c.args.text.now c.in-Some.found.items c.in-Some-only_word.word has one).within, c.split_at.ensures.back_len)

pub returns-clause-found : goal.returns-clause-found
returns-clause-found c =
    let has : HasTokens Mime c.args.text.now c.in-Some.found.items = rw (c.in-Some.is) at c.in_ok-found.ensures.some in
    let one : filter is_word c.in-Some.found.items ≡ c.in-Some-only_word.word ∷ [] = rw (c.deref.ensures.value) at c.in-Some-only_word.ensures.some in
    let octets = c.in_ok-from_slice.ensures ∙ c.split_at-2.ensures.front ∙ ap (take c.in-Some-only_word.word.span.len) c.split_at.ensures.back in
    elim c.match-matches.branch [
      | in-Atom w ↦ one_atom_found c.args.text.now _ c.in-Some.found.items c.in-Some-only_word.word has one w.in-Atom.is octets
      | in_default-matches w ↦ absurd (true≢false (sym c.if-not-matches.false ∙ w.matches-is))
    ]
