use Rattle.std.proofs.Common.{◌≡◌, ◌++◌, drop}
use Rattle.encoded_words.specs.WrittenWords.{q_text}
use Rattle.encoded_words.proofs.written_words.push_q_text.Given as goal

abbrev pub invariant-loop-octet : goal.invariant-loop-octet
invariant-loop-octet l = l.made ++ q_text (drop l.octet-index l.octets) ≡ l.initial.made ++ q_text l.octets
