use Rattle.std.proofs.Common.{◌≡◌, refl, sym, ap, ◌∙◌, arith, filter, ◌∷◌, [], take}
use Rattle.std.proofs.lemmas.Bool.{true≢false}
use Rattle.mime_tree.specs.Openings.{is_identity_name}
use Rattle.field_tokens.specs.Tokens.{octets_at}
use Rattle.mime_tree.proofs.WordLemmas.{is_word, one_word, word_keeps, kept_kind, kept_name, no_word_keeps, no_tokens_keep}
use Rattle.mime_tree.proofs.PlainNames.{plain_keeps}
use Rattle.mime_tree.proofs.openings.keeps_octets.Goals.{then-is_atom, else-is_atom}
use Rattle.mime_tree.proofs.openings.keeps_octets.Goals as goal

pub returns-then-is_identity_name : goal.returns-then-is_identity_name
returns-then-is_identity_name c = (λ _. plain_keeps c.args.text.now (sym c.is_identity_name.ensures ∙ c.if-is_identity_name.true), λ _. refl)

pub returns-in-Err-Malformed : goal.returns-in-Err-Malformed
returns-in-Err-Malformed c =
    let a = c.in-Err-Malformed.is in
    let b = c.in-Err-Malformed.field-0-is in
    (λ kept. absurd (true≢false (sym kept)), λ keeps. absurd (no_tokens_keep c.args.text.now (c.tokens.ensures.malformed (cc (a, b))) keeps))

pub split_at-requires : goal.split_at-requires
split_at-requires c =
    let one : filter is_word c.in-Ok.found.items ≡ c.in-Some.word ∷ [] = rw (c.deref.ensures.value) at c.in-Some.ensures.some in
    let word = one_word c.args.text.now c.in-Ok.found.items c.in-Some.word c.in-Ok.ensures.ok one in
    omega (arith, word.within)

pub split_at-requires-in-Some : goal.split_at-requires-in-Some
split_at-requires-in-Some c =
    let one : filter is_word c.in-Ok.found.items ≡ c.in-Some.word ∷ [] = rw (c.deref.ensures.value) at c.in-Some.ensures.some in
    let word = one_word c.args.text.now c.in-Ok.found.items c.in-Some.word c.in-Ok.ensures.ok one in
    omega (arith, word.within, c.split_at.ensures.back_len)

pub returns-in-Some : goal.returns-in-Some
returns-in-Some c =
    let one : filter is_word c.in-Ok.found.items ≡ c.in-Some.word ∷ [] = rw (c.deref.ensures.value) at c.in-Some.ensures.some in
    let octets = c.split_at-in-Some.ensures.front ∙ ap (take c.in-Some.word.span.len) c.split_at.ensures.back in
    elim c.if-is_atom.branch [
      | then-is_atom w ↦
          let names : w.is_identity_name-then-is_atom.result ≡ is_identity_name (octets_at c.args.text.now c.in-Some.word.span) = w.is_identity_name-then-is_atom.ensures ∙ ap is_identity_name octets in (
            λ t. word_keeps c.args.text.now c.in-Ok.found.items c.in-Some.word c.in-Ok.ensures.ok one (c.is_atom.ensures.0 w.if-is_atom.true) (sym names ∙ sym w.result-is ∙ t),
            λ keeps. w.result-is ∙ names ∙ kept_name c.args.text.now c.in-Ok.found.items c.in-Some.word c.in-Ok.ensures.ok one keeps,
          )
      | else-is_atom w ↦ (
        λ t. absurd (true≢false (sym t ∙ w.result-is ∙ w.if-is_atom.false)),
        λ keeps. absurd (true≢false (sym (c.is_atom.ensures.1 (kept_kind c.args.text.now c.in-Ok.found.items c.in-Some.word c.in-Ok.ensures.ok one keeps)) ∙ w.if-is_atom.false)),
      )
    ]

pub returns : goal.returns
returns c = (
  λ kept. absurd (true≢false (sym kept)),
  λ keeps. absurd (no_word_keeps c.args.text.now c.in-Ok.found.items c.in-Ok.ensures.ok (rw (c.deref.ensures.value) at c.in-None.ensures.none) keeps),
)
