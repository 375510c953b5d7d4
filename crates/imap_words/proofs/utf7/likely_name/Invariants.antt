use Rattle.std.proofs.Common.{◌≡◌, ℕ, List, length, string_bytes, IsUtf8}
use Rattle.imap_words.specs.Utf7.{modified_utf7}
use Rattle.imap_words.proofs.Utf7Lemmas.{NameTaken}
use Rattle.imap_words.proofs.utf7.likely_name.Given as goal

abbrev pub invariant-loop-first : goal.invariant-loop-first
invariant-loop-first l = (whole : List ℕ) → IsUtf8 whole → l.text ≡ modified_utf7 whole → NameTaken whole (string_bytes l.name) l.rest

abbrev pub decreases-loop-first : goal.decreases-loop-first
decreases-loop-first l = length l.rest
