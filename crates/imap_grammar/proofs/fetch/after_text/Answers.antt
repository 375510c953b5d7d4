use Rattle.imap_grammar.proofs.FetchEnds.{steps_on}
use Rattle.imap_grammar.proofs.SectionSteps.{text_left, header_end, text_end, mime_end, fields_end, fields_not_end}
use Rattle.imap_grammar.proofs.fetch.after_text.Goals as goal

pub returns-in-Header-clause-reads : goal.returns-in-Header-clause-reads
returns-in-Header-clause-reads c = λ utf8. let b = c.args.begun in steps_on utf8 _ (text_left utf8 b.fetching b.peek b.path _ _ c.in-Header.is (header_end utf8 b.fetching b.peek b.path)) (c.section_end.ensures.reads utf8)

pub returns-in-Text-clause-reads : goal.returns-in-Text-clause-reads
returns-in-Text-clause-reads c = λ utf8. let b = c.args.begun in steps_on utf8 _ (text_left utf8 b.fetching b.peek b.path _ _ c.in-Text.is (text_end utf8 b.fetching b.peek b.path)) (c.section_end-in-Text.ensures.reads utf8)

pub returns-in-Mime-clause-reads : goal.returns-in-Mime-clause-reads
returns-in-Mime-clause-reads c = λ utf8. let b = c.args.begun in steps_on utf8 _ (text_left utf8 b.fetching b.peek b.path _ _ c.in-Mime.is (mime_end utf8 b.fetching b.peek b.path)) (c.section_end-in-Mime.ensures.reads utf8)

pub returns-in-Fields-clause-reads : goal.returns-in-Fields-clause-reads
returns-in-Fields-clause-reads c = λ utf8. let b = c.args.begun in steps_on utf8 _ (text_left utf8 b.fetching b.peek b.path _ _ c.in-Fields.is (fields_end utf8 b.fetching b.peek b.path)) (c.field_names.ensures.reads utf8)

pub returns-in-FieldsNot-clause-reads : goal.returns-in-FieldsNot-clause-reads
returns-in-FieldsNot-clause-reads c = λ utf8. let b = c.args.begun in steps_on utf8 _ (text_left utf8 b.fetching b.peek b.path _ _ c.in-FieldsNot.is (fields_not_end utf8 b.fetching b.peek b.path)) (c.field_names-in-FieldsNot.ensures.reads utf8)
