-- A string, and what follows it: read whole, or up to a literal's octets.
use Rattle.std.proofs.Common.{◌≡◌, ℕ, Bool, List, [], ◌++◌, replicate, refl, ap, ◌∙◌, subst}
use Rattle.std.proofs.lemmas.List.{length-replicate}
use Rattle.imap_words.specs.Languages.{Then, Is, IsCounted, IsViable}
use Rattle.imap_words.specs.Reading.{BeginsIn, never, Reads, StopsReading}
use Rattle.imap_words.specs.Going.{Leaves}
use Rattle.imap_words.specs.declared.stop.Stop.{Stop}
use Rattle.imap_words.specs.declared.strings.Head.{Head}
use Rattle.imap_words.specs.declared.tokens.Kind.{Kind}
use Rattle.imap_words.specs.Tokens.{passes}
use Rattle.imap_words.specs.Strings.{HeadValue, whole, literal, IsQuoted, IsHeader, IsHead, after_head, BodyOf, head_value}
use Rattle.imap_words.proofs.Composing.{Avoids}
use Rattle.imap_words.proofs.Going.{Within, ends_at, never_avoids, then_viable, is_viable}
use Rattle.imap_words.proofs.Leaving.{here, leaves_then, leaves_on, is_then}
use Rattle.imap_words.proofs.HeaderSteps.{header_viable}
use Rattle.imap_words.proofs.StringHeads.{head_viable}
use Rattle.imap_words.proofs.StringLaws.{parts_leave}

pub counted_viable : (n : ℕ) → IsViable (IsCounted n) []
counted_viable n = record { rest = replicate n 0; value = replicate n 0; is_word = (length-replicate n 0, refl) }

pub body_viable : (head : HeadValue) → IsViable (BodyOf head) []
body_viable (whole v) = is_viable v
body_viable (literal n) = counted_viable n

-- what follows doesn't go on as a run of this kind does
abbrev pub EndsRun : {V : Type 0} → Kind → (List ℕ → List ℕ → V → Type 0) → Type 0
EndsRun kind Q = (v : List ℕ) → Avoids (passes kind) (Q v)

pub body_avoids : {V : Type 0} (kind : Kind) (Q : List ℕ → List ℕ → V → Type 0) → EndsRun kind Q → (head : HeadValue) → Avoids (after_head kind head) (Then (BodyOf head) Q)
body_avoids kind Q ends (literal n) = never_avoids _
body_avoids kind Q ends (whole v) = λ a b w both begin. ends v both.back b w (subst (λ z. Q z both.back w) both.first.1 both.second)
    (subst (λ z. BeginsIn (passes kind) (z ++ b)) (both.whole ∙ ap (λ z. z ++ both.back) both.first.0) begin)

module _ {V : Type 0} (utf8 : Bool) (kind : Kind) (S : List ℕ → List ℕ → Type 0) (to : Within S (Then (IsHead utf8 kind) BodyOf)) (from : Within (Then (IsHead utf8 kind) BodyOf) S) (Q : List ℕ → List ℕ → V → Type 0) where
  pub string_viable : ((v : List ℕ) → IsViable (Q v) []) → IsViable (Then S Q) []
  string_viable some =
      let head = head_viable (IsQuoted utf8) IsHeader kind header_viable in
      then_viable S Q (string_alone head) some
    where
      string_alone : IsViable (IsHead utf8 kind) [] → IsViable S []
      string_alone head =
          let all = then_viable (IsHead utf8 kind) BodyOf head body_viable in
          record { rest = all.rest; value = all.value; is_word = from all.rest all.value all.is_word }

  module _ (ends : EndsRun kind Q) {P : List ℕ → V → Type 0} {text rest : List ℕ} (l : Leaves P text (Then S Q) rest) where
    pub string_stops : ((v : List ℕ) → IsViable (Q v) []) → (stop : Stop) → StopsReading (IsHead utf8 kind) (after_head kind) rest stop → StopsReading P never text stop
    string_stops some stop stops =
        ends_at (after_head kind) never stop (here (parts_leave S (IsHead utf8 kind) BodyOf Q to from l)) stops (body_avoids kind Q ends) (λ head. then_viable (BodyOf head) Q (body_viable head) some)

    -- all of it was read
    pub string_read : (v mid : List ℕ) → Reads (IsHead utf8 kind) (after_head kind) rest (whole v) mid → Leaves P text (Q v) mid
    string_read v mid r = leaves_on P (Then (Is v) Q) (Q v) text mid mid (leaves_then (parts_leave S (IsHead utf8 kind) BodyOf Q to from l) r (body_avoids kind Q ends)) (is_then v Q mid)

    -- a literal's header was read
    pub string_awaits : (n : ℕ) (mid : List ℕ) → Reads (IsHead utf8 kind) (after_head kind) rest (literal n) mid → Leaves P text (Then (IsCounted n) Q) mid
    string_awaits n mid r = leaves_then (parts_leave S (IsHead utf8 kind) BodyOf Q to from l) r (body_avoids kind Q ends)

-- the head is this one
pub head_at : {utf8 : Bool} (kind : Kind) {text rest : List ℕ} {head value : Head} → head ≡ value → Reads (IsHead utf8 kind) (after_head kind) text (head_value head) rest → Reads (IsHead utf8 kind) (after_head kind) text (head_value value) rest
head_at {utf8} kind {text} {rest} e r = subst (λ z. Reads (IsHead utf8 kind) (after_head kind) text (head_value z) rest) e r
