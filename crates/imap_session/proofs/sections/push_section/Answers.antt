use Rattle.std.proofs.lemmas.Result.{on_ok_weaker}
use Rattle.imap_session.proofs.SectionLemmas.{name_made}
use Rattle.imap_session.proofs.sections.push_section.Goals as goal

pub returns : goal.returns
returns c = on_ok_weaker c.push_partial.result (λ put.
    name_made c.args.path.now c.args.part.now c.args.partial c.has_separator.result c.args.name.now c.push_slice.new.self c.push_path.new.name c.push_separator.new.made c.push_word.new.name c.push.new.self c.push_partial.new.name
    c.in_ok-push_slice.ensures.ok c.in_ok-push_path.ensures c.has_separator.ensures c.in_ok-push_separator.ensures c.in_ok-push_word.ensures c.in_ok-push.ensures.ok put) c.push_partial.ensures
