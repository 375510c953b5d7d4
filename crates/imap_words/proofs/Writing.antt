-- A word that stands for its own octets.
use Rattle.std.proofs.Common.{◌≡◌, ℕ, ◌+◌, ◌-◌, ◌≤◌, Bool, List, ◌++◌, length, take, drop, inl, inr, refl, sym, ap, ◌∙◌, subst, length-append, arith}
use Rattle.std.proofs.Math.Seq.{take-append_seam, drop-append_seam}
use Rattle.imap_words.specs.Languages.{SaysItself, IsViable}
use Rattle.imap_words.specs.Reading.{BeginsIn, Reads, StopsReading}
use Rattle.imap_words.specs.declared.stop.Stop.{Stop}
use Rattle.imap_words.specs.declared.stop.Stop.TheVariants.{More, Bad, Memory}

-- the rest is no longer than the text
pub rest_shorter : {V : Type 0} (P : List ℕ → V → Type 0) (p : V → ℕ → Bool) (text rest : List ℕ) (v : V) → Reads P p text v rest → length rest ≤ length text
rest_shorter P p text rest v r = let sum : length text ≡ length r.word + length rest = ap length r.whole ∙ length-append r.word rest in omega (arith, sum)

module _ {V : Type 0} (P : List ℕ → V → Type 0) (p : V → ℕ → Bool) (q : List ℕ → ℕ → Bool) (over : (u : V) (a b : List ℕ) → BeginsIn (p u) b → BeginsIn (q a) b) where
  pub written_reads : (text rest : List ℕ) (v : V) (r : Reads P p text v rest) → Reads (SaysItself P) q text r.word rest
  written_reads text rest v r = record {
    word = r.word;
    whole = r.whole;
    is_word = record { says = v; is_word = r.is_word; same = refl };
    only = λ more a b w is on e. elim (r.only more a b is.says is.is_word on e) [
      | inl same ↦ inl (same.0, is.same ∙ same.0)
      | inr begin ↦ inr (over is.says w b begin)
    ];
  }

  written_viable : (front : List ℕ) → IsViable P front → IsViable (SaysItself P) front
  written_viable front viable = record { rest = viable.rest; value = front ++ viable.rest; is_word = record { says = viable.value; is_word = viable.is_word; same = refl } }

  pub written_stops : (text : List ℕ) (stop : Stop) → StopsReading P p text stop → StopsReading (SaysItself P) q text stop
  written_stops text More viable = written_viable text viable
  written_stops text (Bad left) fails = record {
    front = fails.front;
    octet = fails.octet;
    back = fails.back;
    whole = fails.whole;
    left_is = fails.left_is;
    viable = written_viable fails.front fails.viable;
    hopeless = λ more a b w is e. over is.says w b (fails.hopeless more a b is.says is.is_word e);
  }
  written_stops text Memory stops = tt

  -- the text is split where the rest begins
  pub written_split : (text rest front back : List ℕ) (v : V) → Reads P p text v rest → front ≡ take (length text - length rest) text → back ≡ drop (length text - length rest) text → Reads (SaysItself P) q text front back
  written_split text rest front back v r f b =
      let sum : length text ≡ length r.word + length rest = ap length r.whole ∙ length-append r.word rest in
      let len : length text - length rest ≡ length r.word = omega (arith, sum) in
      let is_front : front ≡ r.word = f ∙ (ap (λ n. take n text) len ∙ (ap (λ z. take (length r.word) z) r.whole ∙ take-append_seam r.word rest)) in
      let is_back : back ≡ rest = b ∙ (ap (λ n. drop n text) len ∙ (ap (λ z. drop (length r.word) z) r.whole ∙ drop-append_seam r.word rest)) in
      subst (λ z. Reads (SaysItself P) q text z back) (sym is_front) (subst (λ z. Reads (SaysItself P) q text r.word z) (sym is_back) (written_reads text rest v r))
