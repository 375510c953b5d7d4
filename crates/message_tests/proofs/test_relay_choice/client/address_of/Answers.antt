use Rattle.std.proofs.lemmas.Str.{is_utf8-from_IsUtf8}
use Rattle.message_tests.proofs.test_relay_choice.client.address_of.Goals as goal

pub returns : goal.returns
returns c = rw c.in_ok-from_slice-2.ensures (is_utf8-from_IsUtf8 c.as_bytes-2.result.now c.as_bytes-2.ensures.utf8)
