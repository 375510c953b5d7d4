use Rattle.std.proofs.Common.{subst, ◌≡◌, ◌∷◌, true}
use Rattle.encoded_words.specs.private.Parts.{lacks}
use Rattle.encoded_words.proofs.Cuts.{inner_is, inner_of, wrapped_word, name_is, name_of, named_from, not_lacking}
use Rattle.encoded_words.proofs.word.parts_of.Goals as goal

pub returns-in_default-clause-none : goal.returns-in_default-clause-none
returns-in_default-clause-none c p has = c.in_default.ensures.none (inner_of p) (wrapped_word _ p has)

pub returns-in_default-split_at_byte-clause-none : goal.returns-in_default-split_at_byte-clause-none
returns-in_default-split_at_byte-clause-none c p has =
    let inner = inner_is c.args.word.now c.in-Some.inner.now p c.in-Some.ensures.found has in
    not_lacking 63 (name_of p) (p.letter ∷ 63 ∷ p.text) (subst (λ xs. lacks 63 xs ≡ true) inner c.in_default-split_at_byte.ensures.none)

pub returns-in_default-named-clause-none : goal.returns-in_default-named-clause-none
returns-in_default-named-clause-none c p has =
    let cut = c.in-Some-split_at_byte.ensures.found in
    let is = name_is c.args.word.now c.in-Some.inner.now _ _ p c.in-Some.ensures.found cut.0 cut.1 has in
    c.in_default-named.ensures.none p.charset p.language (rw (is.0) (named_from _ p has))

pub returns-in_default-coded_parts-clause-none : goal.returns-in_default-coded_parts-clause-none
returns-in_default-coded_parts-clause-none c p has =
    let cut = c.in-Some-split_at_byte.ensures.found in
    let is = name_is c.args.word.now c.in-Some.inner.now _ _ p c.in-Some.ensures.found cut.0 cut.1 has in
    c.in_default-coded_parts.ensures.none p.letter p.text is.1 has.text
