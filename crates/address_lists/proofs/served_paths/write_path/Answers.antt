use Rattle.std.proofs.lemmas.Result.{on_ok_weaker}
use Rattle.field_tokens.specs.Lexemes.{lexemes_in}
use Rattle.address_lists.proofs.SoundPhrases.{text_comments}
use Rattle.address_lists.proofs.PathPiecesLemmas.{path_adds}
use Rattle.address_lists.proofs.served_paths.write_path.Goals as goal

pub known_marks-requires : goal.known_marks-requires
known_marks-requires c = (c.requires.has_path.tokens, c.requires.has_path.has_tokens)

pub write_comments-requires : goal.write_comments-requires
write_comments-requires c = rw (c.new.ensures, c.deref.ensures.value) (text_comments c.args.text.now (lexemes_in c.args.text.now c.in_ok-marks.marks.items) c.in_ok-marks.ensures)

pub returns : goal.returns
returns c = on_ok_weaker c.write_comments.result
    (λ a. path_adds c.args.text.now (lexemes_in c.args.text.now c.in_ok-marks.marks.items) c.args.served.now _ _ _ c.requires c.in_ok-marks.ensures c.in_ok-push_angled.ensures (rw (c.new.ensures, c.deref.ensures.value) at a))
    c.write_comments.ensures
