use Rattle.encapsulated_fields.proofs.EncapsulatedLemmas.{Encapsulates-made, FieldSays-encapsulated, ascii-encapsulated}
use Rattle.encapsulated_fields.proofs.downgraded.encapsulate.Goals as goal

pub returns-clause-ascii : goal.returns-clause-ascii
returns-clause-ascii c =
    ascii-encapsulated c.args.name.now c.args.value.now _ c.requires.name c.requires.value
    (Encapsulates-made _ _ _ _ _ _ _ c.in_ok-field.ensures c.in_ok-push_slice.ensures.ok c.in_ok-push.ensures.ok c.in_ok-push_words.ensures c.in_ok-push_slice-2.ensures.ok)

pub returns-clause-read_back : goal.returns-clause-read_back
returns-clause-read_back c =
    FieldSays-encapsulated c.args.name.now c.args.value.now _ c.requires.value c.requires.some
    (Encapsulates-made _ _ _ _ _ _ _ c.in_ok-field.ensures c.in_ok-push_slice.ensures.ok c.in_ok-push.ensures.ok c.in_ok-push_words.ensures c.in_ok-push_slice-2.ensures.ok)
