use Rattle.std.proofs.Common.{inr}
use Rattle.field_tokens.proofs.Joined.{all_stand}
use Rattle.field_tests.proofs.test_field_tokens.tokens.is_squeezed.Goals as goal

pub squeezed-requires : goal.squeezed-requires
squeezed-requires c = rw (c.as_slice.ensures.value) (inr (all_stand _ _ _ c.in-Ok.ensures.ok))
