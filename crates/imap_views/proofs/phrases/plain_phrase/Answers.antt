use Rattle.std.proofs.Common.{sym, ◌∙◌, append-nil}
use Rattle.field_tokens.specs.Lexemes.{values_of}
use Rattle.imap_views.specs.Addresses.{plain_text}
use Rattle.imap_views.proofs.PhraseLemmas.{blank_at, word_at, says_all}
use Rattle.imap_views.proofs.phrases.plain_phrase.Goals.{then-has_space_before+in_ok-push, else-has_space_before}
use Rattle.imap_views.proofs.phrases.plain_phrase.Goals as goal

pub loop-lexeme-preserved-then-is_blank : goal.loop-lexeme-preserved-then-is_blank
loop-lexeme-preserved-then-is_blank c =
    let l = c.loop-lexeme in
    blank_at _ _ _ l.is_first l.has_space_before l.made (plain_text (values_of c.args.lexemes)) c.in-Some.ensures.found (sym c.is_blank.ensures ∙ c.if-is_blank.true) l.invariant

pub loop-lexeme-preserved : goal.loop-lexeme-preserved
loop-lexeme-preserved c =
    let l = c.loop-lexeme in
    let says = word_at _ _ _ l.is_first l.has_space_before l.made (plain_text (values_of c.args.lexemes)) c.in-Some.ensures.found (sym c.is_blank.ensures ∙ c.if-is_blank.false) l.invariant in
    rw (c.in_ok-push_content.ensures)
    (elim c.if-has_space_before.branch [
      | then-has_space_before+in_ok-push w ↦ rw (w.made-is, w.in_ok-push.ensures.ok) (rw (w.if-has_space_before.true) at says)
      | else-has_space_before w ↦ rw (w.made-is) (rw (w.if-has_space_before.false, append-nil) at says)
    ])

pub returns : goal.returns
returns c = says_all c.loop-lexeme.is_first c.loop-lexeme.has_space_before c.loop-lexeme.made _ (plain_text (values_of c.args.lexemes)) c.in_default.ensures.none c.loop-lexeme.invariant
