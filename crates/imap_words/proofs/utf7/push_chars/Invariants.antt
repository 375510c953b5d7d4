use Rattle.std.proofs.Common.{◌≡◌, ℕ, List, length, string_bytes}
use Rattle.imap_words.specs.Utf7.{AreScalars, utf16_octets}
use Rattle.imap_words.proofs.Utf16.{CharsTaken}
use Rattle.imap_words.proofs.utf7.push_chars.Given as goal

abbrev pub invariant-loop-c : goal.invariant-loop-c
invariant-loop-c l = (cs : List ℕ) → AreScalars cs → l.octets ≡ utf16_octets cs → CharsTaken cs (string_bytes l.initial.name) (string_bytes l.name) l.rest

abbrev pub decreases-loop-c : goal.decreases-loop-c
decreases-loop-c l = length l.rest
