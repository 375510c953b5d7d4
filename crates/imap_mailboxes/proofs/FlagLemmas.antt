-- Flags as bits.
use Rattle.std.proofs.Common.{◌≡◌, ℕ, ◌-◌, ◌^◌, ◌<◌, min, max, Bool, true, false, not, ◌&&◌, ◌||◌, ◌==◌, List, [], ◌∷◌, ◌++◌, refl, sym, ap, ◌∙◌, arith, bit_and, bit_or, append-nil, append_assoc, codes}
use Rattle.std.proofs.lemmas.Bool.{agree_below_at, both_ways, eqb-true}
use Rattle.std.proofs.lemmas.Bool.Decides.{nat_tests}
use Rattle.std.proofs.lemmas.Nat.{and_le_r}
use Rattle.std.proofs.lemmas.Nat.Bits.{bit_at_and, bit_at_or, bit_at_not, bit_at-lt}
use Rattle.std.specs.Int.{bit_at, w8}
use Rattle.std.specs.List.{join_with_byte}
use Rattle.imap_grammar.specs.declared.command.StoreOp.TheVariants.{Replace, Add, Remove}
use Rattle.imap_mailboxes.specs.Flags.{has_flag, flag_word, flag_words, flags_text, flags_by, stored_flags}
use Rattle.imap_mailboxes.specs.private.Words.{EndsWithWords}

-- ---- flags and the numbers that stand for them

-- so many flags are those that it has
flags-is : (n : ℕ) → n < 32 → n ≡ flags_by (has_flag n)
flags-is n few = eqb-true n (flags_by (has_flag n)) (agree_below_at (λ k. k == flags_by (has_flag k)) (λ k. true) 32 n refl few)

same_flags : (f g : ℕ → Bool) → f 1 ≡ g 1 → f 2 ≡ g 2 → f 4 ≡ g 4 → f 8 ≡ g 8 → f 16 ≡ g 16 → flags_by f ≡ flags_by g
same_flags f g one two four eight sixteen = rw (one, two, four, eight, sixteen) refl

mask_bit : (x i : ℕ) → bit_at 31 i ≡ 1 → bit_at (bit_and x 31) i ≡ bit_at x i
mask_bit x i in_mask = omega (arith, bit_at_and x 31 i, in_mask, bit_at-lt x i)

either : (x y : ℕ) → x < 2 → y < 2 → (max x y == 1) ≡ (x == 1 || y == 1)
either x y few too = elim_below x y few too
  where
    elim_below : (x y : ℕ) → x < 2 → y < 2 → (max x y == 1) ≡ (x == 1 || y == 1)
    elim_below x y few too = grind (arith, nat_tests)

or_bit : (a b i : ℕ) → bit_at 31 i ≡ 1 → (bit_at (bit_and (bit_or a b) 31) i == 1) ≡ (bit_at a i == 1 || bit_at b i == 1)
or_bit a b i in_mask = ap (λ n. n == 1) (mask_bit (bit_or a b) i in_mask ∙ bit_at_or a b i) ∙ either (bit_at a i) (bit_at b i) (bit_at-lt a i) (bit_at-lt b i)

without : (x y : ℕ) → x < 2 → y < 2 → (min x (1 - y) == 1) ≡ (x == 1 && not (y == 1))
without x y few too = grind (arith, nat_tests)

clear_bit : (a b i : ℕ) → b < 2 ^ 8 → i < 8 → bit_at 31 i ≡ 1 → (bit_at (bit_and (bit_and a (255 - b)) 31) i == 1) ≡ (bit_at a i == 1 && not (bit_at b i == 1))
clear_bit a b i small low in_mask =
    ap (λ n. n == 1) (mask_bit (bit_and a (255 - b)) i in_mask ∙ (bit_at_and a (255 - b) i ∙ ap (min (bit_at a i)) (bit_at_not w8 b i small low))) ∙ without (bit_at a i) (bit_at b i) (bit_at-lt a i) (bit_at-lt b i)

pub few_flags : (x : ℕ) → bit_and x 31 < 32
few_flags x = omega (arith, and_le_r x 31)

pub stored-replace : (old named : ℕ) → bit_and named 31 ≡ stored_flags Replace old named
unfolding stored_flags
stored-replace old named =
    let bit : (i : ℕ) → bit_at 31 i ≡ 1 → (bit_at (bit_and named 31) i == 1) ≡ (bit_at named i == 1) = λ i in_mask. ap (λ n. n == 1) (mask_bit named i in_mask) in
    flags-is (bit_and named 31) (few_flags named) ∙ same_flags (has_flag (bit_and named 31)) (has_flag named) (bit 0 refl) (bit 1 refl) (bit 2 refl) (bit 3 refl) (bit 4 refl)

pub stored-add : (old named : ℕ) → bit_and (bit_or old named) 31 ≡ stored_flags Add old named
unfolding stored_flags
stored-add old named =
    flags-is (bit_and (bit_or old named) 31) (few_flags (bit_or old named))
    ∙ same_flags (has_flag (bit_and (bit_or old named) 31)) (λ flag. has_flag old flag || has_flag named flag) (or_bit old named 0 refl) (or_bit old named 1 refl) (or_bit old named 2 refl) (or_bit old named 3 refl) (or_bit old named 4 refl)

pub stored-remove : (old named : ℕ) → named < 2 ^ 8 → bit_and (bit_and old (255 - named)) 31 ≡ stored_flags Remove old named
unfolding stored_flags
stored-remove old named small =
    let kept = bit_and old (255 - named) in
    flags-is (bit_and kept 31) (few_flags kept)
    ∙ same_flags (has_flag (bit_and kept 31)) (λ flag. has_flag old flag && not (has_flag named flag)) (clear_bit old named 0 small (omega arith) refl) (clear_bit old named 1 small (omega arith) refl)
    (clear_bit old named 2 small (omega arith) refl) (clear_bit old named 3 small (omega arith) refl) (clear_bit old named 4 small (omega arith) refl)

-- ---- words after one another

join-push : (word next : List ℕ) (words : List (List ℕ)) → join_with_byte 32 ((word ∷ words) ++ next ∷ []) ≡ join_with_byte 32 (word ∷ words) ++ 32 ∷ next
join-push word next [] = refl
join-push word next (other ∷ words) = ap (λ z. word ++ 32 ∷ z) (join-push other next words) ∙ sym (append_assoc word (32 ∷ join_with_byte 32 (other ∷ words)) (32 ∷ next))

pub word_first : (front text next word : List ℕ) (words : List (List ℕ)) (first : Bool) → EndsWithWords front words text first → first ≡ true → next ≡ text ++ word → EndsWithWords front (words ++ word ∷ []) next false
word_first front text next word [] first so_far same e = record { is = e ∙ ap (λ t. t ++ word) (so_far.is ∙ append-nil front); none = refl }
word_first front text next word (other ∷ words) first so_far same e = absurd (both_ways first so_far.none same)

pub word_after : (front text next word : List ℕ) (words : List (List ℕ)) (first : Bool) → EndsWithWords front words text first → first ≡ false → next ≡ (text ++ 32 ∷ []) ++ word → EndsWithWords front (words ++ word ∷ []) next false
word_after front text next word [] first so_far differs e = absurd (both_ways first differs so_far.none)
word_after front text next word (other ∷ words) first so_far differs e = record {
  is = e ∙ (append_assoc text (32 ∷ []) word ∙ (ap (λ t. t ++ 32 ∷ word) so_far.is
      ∙ (append_assoc front (join_with_byte 32 (other ∷ words)) (32 ∷ word) ∙ ap (λ t. front ++ t) (sym (join-push other word words)))));
  none = refl;
}

pub words_begin : (text : List ℕ) → EndsWithWords text [] text true
words_begin text = record { is = sym (append-nil text); none = refl }

pub flags_written : (old text : List ℕ) (flags : ℕ) (first : Bool)
    → EndsWithWords (old ++ codes "FLAGS (") ((((([] ++ flag_word flags 2 (codes "\\Answered")) ++ flag_word flags 4 (codes "\\Flagged")) ++ flag_word flags 8 (codes "\\Deleted")) ++ flag_word flags 1 (codes "\\Seen")) ++ flag_word flags 16 (codes "\\Draft")) text first
    → text ++ 41 ∷ [] ≡ old ++ flags_text flags
unfolding flags_text
flags_written old text flags first written =
    let a = flag_word flags 2 (codes "\\Answered") in
    let b = flag_word flags 4 (codes "\\Flagged") in
    let c = flag_word flags 8 (codes "\\Deleted") in
    let d = flag_word flags 1 (codes "\\Seen") in
    let e = flag_word flags 16 (codes "\\Draft") in
    let order : ((((([] ++ a) ++ b) ++ c) ++ d) ++ e) ≡ flag_words flags = append_assoc (a ++ b ++ c) d e ∙ (append_assoc (a ++ b) c (d ++ e) ∙ append_assoc a b (c ++ (d ++ e))) in
    ap (λ t. t ++ 41 ∷ []) (written.is ∙ ap (λ w. (old ++ codes "FLAGS (") ++ join_with_byte 32 w) order)
    ∙ (append_assoc (old ++ codes "FLAGS (") (join_with_byte 32 (flag_words flags)) (41 ∷ [])
    ∙ append_assoc old (codes "FLAGS (") (join_with_byte 32 (flag_words flags) ++ 41 ∷ []))
