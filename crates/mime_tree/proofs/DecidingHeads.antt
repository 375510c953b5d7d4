-- Whether lines begin with a head is decided.
use Rattle.std.proofs.Common.{inl, inr, ℕ, ◌+◌, List, length, take, drop, refl, arith}
use Rattle.utf8_fields.proofs.DecidingBlocks.{Decided, decide_in}
use Rattle.mime_tree.specs.Parts.{size}
use Rattle.mime_tree.specs.Faults.{HasSoundHead}

-- lines have a head, or none
pub decide_head : (at : ℕ) (lines : List (List ℕ)) → Decided (HasSoundHead at lines)
decide_head at lines = elim (decide_in (length lines) lines at (omega arith)) [
  | inl some ↦ inl (record {
    block = record { fields = some.fields; end = some.end };
    body = some.end + size (take 1 some.block.rest);
    content = drop 1 some.block.rest;
    head = record { has_block = some.block; content_is = refl; body_is = refl };
  })
  | inr none ↦ inr (λ some. none (record { fields = some.block.fields; end = some.block.end; block = some.head.has_block }))
]
