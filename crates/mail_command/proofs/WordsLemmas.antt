-- A list of one word.
use Rattle.std.proofs.Common.{◌≡◌, ℕ, List, [], ◌∷◌, length, ◌<◌, ◌≤◌, arith, Some, refl, ap}
use Rattle.std.specs.List.{slice_get}
use Rattle.mail_command.specs.declared.roles.Role.{Role}
use Rattle.mail_command.specs.declared.roles.Role.TheVariants.{Pop, Smtp, Imap}
use Rattle.mail_command.specs.Words.{IsSession}

-- the list is its first word
pub one_word : (words : List (List ℕ)) (word : List ℕ) → slice_get words 0 ≡ Some word → length words ≤ 1 → words ≡ word ∷ []
one_word [] word first one = cc
one_word (w ∷ []) word first one = cc
one_word (w ∷ v ∷ words) word first one = absurd (omega arith)

-- no number is two
standalone : (n low high : ℕ) → n ≡ low → n ≡ high → low < high → ⊥
standalone n low high one other differ = omega arith

-- the octet with which the first word begins
abbrev initial : List (List ℕ) → ℕ
initial [] = 0
initial ([] ∷ words) = 0
initial ((octet ∷ word) ∷ words) = octet

initial_is : (words spelled : List (List ℕ)) → words ≡ spelled → initial words ≡ initial spelled
initial_is words spelled is = ap initial is

-- words don't begin with two octets
pub differ_first : (words one other : List (List ℕ)) → words ≡ one → words ≡ other → initial one < initial other → ⊥
differ_first words one other is also differ = standalone (initial words) (initial one) (initial other) (initial_is words one is) (initial_is words other also) differ

-- no list is one of fewer words, too
pub fewer : (words a b : List (List ℕ)) → words ≡ a → words ≡ b → length a < length b → ⊥
fewer words a b one other less = omega (arith, ap length one, ap length other, less)

-- a word is that of one protocol
pub session_once : (words : List (List ℕ)) (one other : Role) → IsSession words one → IsSession words other → one ≡ other
session_once words Pop Pop is also = refl
session_once words Pop Smtp is also = absurd (differ_first words _ _ is also (omega arith))
session_once words Pop Imap is also = absurd (differ_first words _ _ also is (omega arith))
session_once words Smtp Pop is also = absurd (differ_first words _ _ also is (omega arith))
session_once words Smtp Smtp is also = refl
session_once words Smtp Imap is also = absurd (differ_first words _ _ also is (omega arith))
session_once words Imap Pop is also = absurd (differ_first words _ _ is also (omega arith))
session_once words Imap Smtp is also = absurd (differ_first words _ _ is also (omega arith))
session_once words Imap Imap is also = refl
