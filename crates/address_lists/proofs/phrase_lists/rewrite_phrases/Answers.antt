use Rattle.std.proofs.Common.{Err, ap}
use Rattle.encoded_words.proofs.LineLemmas.{adds_as}
use Rattle.field_tokens.specs.Lexemes.{lexemes_in}
use Rattle.address_lists.proofs.SoundPhrases.{text_items, text_comments}
use Rattle.address_lists.proofs.ListRewriting.{front_kept}
use Rattle.address_lists.proofs.PhraseListLemmas.{phrases_of, phrases_pieces}
use Rattle.address_lists.proofs.phrase_lists.rewrite_phrases.Goals as goal

pub write_phrases-requires-clause-utf8 : goal.write_phrases-requires-clause-utf8
write_phrases-requires-clause-utf8 c = rw (c.new.ensures, c.deref.ensures.value) (text_items c.args.text.now (lexemes_in c.args.text.now c.in_ok-marks.marks.items) c.in_ok-marks.ensures.ok)

pub write_phrases-requires-clause-comments : goal.write_phrases-requires-clause-comments
write_phrases-requires-clause-comments c = rw (c.new.ensures, c.deref.ensures.value) (text_comments c.args.text.now (lexemes_in c.args.text.now c.in_ok-marks.marks.items) c.in_ok-marks.ensures.ok)

pub returns-in-Ok-clause-layout : goal.returns-in-Ok-clause-layout
returns-in-Ok-clause-layout c =
    adds_as (λ ps g. phrases_pieces c.args.text.now (lexemes_in c.args.text.now c.in_ok-marks.marks.items) ps c.in_ok-marks.ensures.ok g) (rw (c.new.ensures, c.deref.ensures.value) at c.in-Ok.ensures.ok)

pub returns-in-Err-Malformed-clause-malformed : goal.returns-in-Err-Malformed-clause-malformed
returns-in-Err-Malformed-clause-malformed c = λ e phrases comments says.
    (rw (c.new.ensures, c.deref.ensures.value) at (c.in-Err-Malformed.ensures.malformed (ap Err c.in-Err-Malformed.field-0-is))) phrases
    (phrases_of c.args.text.now (lexemes_in c.args.text.now c.in_ok-marks.marks.items) phrases comments c.in_ok-marks.ensures.ok says)

pub returns-in-Err-Malformed-clause-unchanged : goal.returns-in-Err-Malformed-clause-unchanged
returns-in-Err-Malformed-clause-unchanged c = λ e.
    let more = c.in-Err-Malformed.ensures.more (ap Err c.in-Err-Malformed.field-0-is) in
    rw (c.truncate.ensures, c.len-len.ensures) (front_kept _ _ more.0 more.1)
