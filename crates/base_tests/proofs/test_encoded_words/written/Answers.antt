use Rattle.encoded_words.proofs.WritableUnits.{HasUnits-writable}
use Rattle.base_tests.proofs.test_encoded_words.written.Goals as goal

pub write_units-requires : goal.write_units-requires
write_units-requires c = rw (c.deref.ensures.value) (HasUnits-writable _ _ c.as_bytes.ensures.utf8 c.in-Ok.ensures)
