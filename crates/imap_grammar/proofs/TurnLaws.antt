-- What comes of a whole line: from what is left after its literal to the whole command.
use Rattle.std.proofs.Common.{◌≡◌, ℕ, Bool, true, false, List, [], ◌∷◌, ◌++◌, length, Some, inl, inr, refl, sym, ap, ◌∙◌, subst, append_assoc, append-nil}
use Rattle.std.proofs.lemmas.Bool.{and_parts, both_ways}
use Rattle.std.specs.List.{list_all}
use Rattle.mail_wire.specs.Lines.{Cut, first_line}
use Rattle.mail_wire.proofs.FirstLineLemmas.{first_line-cut}
use Rattle.imap_words.specs.Languages.{Then, Is, IsViable}
use Rattle.imap_words.specs.Reading.{never, Reads, StopsReading}
use Rattle.imap_words.specs.Going.{Continues, Leaves}
use Rattle.imap_words.specs.declared.stop.Stop.{Stop}
use Rattle.imap_words.specs.declared.stop.Stop.TheVariants.{More, Bad, Memory}
use Rattle.imap_words.specs.Tokens.{IsTag, is_tag_char, is_astring_char, is_atom_char}
use Rattle.imap_words.proofs.TokenSteps.{Compared, Same, Longer, Shorter, compared}
use Rattle.imap_words.proofs.Choosing.{mapped_reads, mapped_stops}
use Rattle.imap_words.proofs.Leaving.{here, leaves_on}
use Rattle.imap_grammar.specs.Commands.{Tagged, IsCommand}
use Rattle.imap_grammar.specs.Events.{IsWholeLine, EndsCommandLine, BeginsWithTag}
use Rattle.imap_grammar.specs.Awaiting.{Comes, IsRestAtLiteral}
use Rattle.imap_grammar.specs.Standing.{left_of, Reached, TaggedComes, HasHeader, size_of}
use Rattle.imap_grammar.specs.declared.command.Command.{Command}
use Rattle.imap_grammar.specs.declared.awaited.Next.{Next}
use Rattle.imap_grammar.specs.declared.awaited.Next.TheVariants.{Whole, Awaits}
use Rattle.imap_grammar.specs.declared.reader.Stage.{Stage}
use Rattle.imap_grammar.specs.declared.reader.Stage.TheVariants.{AfterLiteral}
use Rattle.imap_grammar.proofs.LineLaws.{cut_same, right_empty}
use Rattle.imap_grammar.proofs.Closing.{command_ends}
use Rattle.imap_grammar.proofs.StageLaws.{tagged}
use Rattle.imap_grammar.proofs.EventLaws.{ends_in}

-- ---- a language whose values are told anew, one by one

module _ {V W : Type 0} (f : V → W) (g : W → V) (back_to : (v : V) → g (f v) ≡ v) where
  abbrev pub Mapped : (List ℕ → V → Type 0) → List ℕ → W → Type 0
  Mapped P = Then P (λ u. Is (f u))

  as_mapped : (P : List ℕ → V → Type 0) (a : List ℕ) (u : V) → P a u → Mapped P a (f u)
  as_mapped P a u is = record { value = u; front = a; back = []; whole = sym (append-nil a); first = is; second = (refl, refl) }

  bare : (P : List ℕ → V → Type 0) (a : List ℕ) (w : W) (is : Mapped P a w) → a ≡ is.front
  bare P a w is = is.whole ∙ (ap (λ z. is.front ++ z) is.second.0 ∙ append-nil is.front)

  unmapped_reads : (P : List ℕ → V → Type 0) (p : W → ℕ → Bool) (text rest : List ℕ) (w : W) → Reads (Mapped P) p text w rest → (v : V) × (w ≡ f v) × Reads P (λ u. p (f u)) text v rest
  unmapped_reads P p text rest w r =
      let is = r.is_word in
      let same = bare P r.word w is in (
        is.value,
        is.second.1,
        record {
          word = is.front;
          whole = r.whole ∙ ap (λ z. z ++ rest) same;
          is_word = is.first;
          only = λ more a b u ok on e. elim (r.only more a b (f u) (as_mapped P a u ok) on (e ∙ ap (λ z. z ++ more) (sym same))) [
            | inl s ↦ inl (s.0 ∙ same, sym (back_to u) ∙ (ap g (s.1 ∙ is.second.1) ∙ back_to is.value))
            | inr begins ↦ inr begins
          ];
        },
      )

  unmapped_viable : (P : List ℕ → V → Type 0) (front : List ℕ) → IsViable (Mapped P) front → IsViable P front
  unmapped_viable P front v = record { rest = v.rest; value = v.is_word.value; is_word = subst (λ z. P z v.is_word.value) (sym (bare P (front ++ v.rest) v.value v.is_word)) v.is_word.first }

  unmapped_stops : (P : List ℕ → V → Type 0) (p : W → ℕ → Bool) (text : List ℕ) (stop : Stop) → StopsReading (Mapped P) p text stop → StopsReading P (λ u. p (f u)) text stop
  unmapped_stops P p text More s = unmapped_viable P text s
  unmapped_stops P p text (Bad left) s = record {
    front = s.front;
    octet = s.octet;
    back = s.back;
    whole = s.whole;
    left_is = s.left_is;
    viable = unmapped_viable P s.front s.viable;
    hopeless = λ more a b u ok e. s.hopeless more a b (f u) (as_mapped P a u ok) e;
  }
  unmapped_stops P p text Memory s = tt

  mapped_continues : (P Q : List ℕ → V → Type 0) (text rest : List ℕ) → Continues P text Q rest → Continues (Mapped P) text (Mapped Q) rest
  mapped_continues P Q text rest c = record {
    reads = λ p w others r.
        let u = unmapped_reads Q p rest others w r in
        subst (λ z. Reads (Mapped P) p text z others) (sym u.1) (mapped_reads P f (λ v. p (f v)) p text others u.0 (λ v b h. h) (c.reads (λ v. p (f v)) u.0 others u.2));
    stops = λ p stop s. mapped_stops P f (λ v. p (f v)) p text stop (λ v b h. h) (c.stops (λ v. p (f v)) stop (unmapped_stops Q p rest stop s));
  }

  pub mapped_leaves : (P Q : List ℕ → V → Type 0) (text rest : List ℕ) → Leaves P text Q rest → Leaves (Mapped P) text (Mapped Q) rest
  mapped_leaves P Q text rest l = record { front = l.front; whole = l.whole; goes = λ more on. mapped_continues P Q (l.front ++ more) more (l.goes more on) }

-- more octets came
pub leaves_more : {V : Type 0} (P Q : List ℕ → V → Type 0) (text more : List ℕ) → Leaves P text Q [] → Leaves P (text ++ more) Q more
leaves_more P Q text more l = record { front = l.front; whole = ap (λ z. z ++ more) (l.whole ∙ append-nil l.front); goes = λ others on. l.goes others tt }

command_of : Tagged → Command
command_of t = t.command

pub tagged_leaves : (tag : List ℕ) (P Q : List ℕ → Command → Type 0) (text rest : List ℕ) → Leaves P text Q rest → Leaves (Then P (λ c. Is (tagged tag c))) text (Then Q (λ c. Is (tagged tag c))) rest
tagged_leaves tag P Q text rest l = mapped_leaves (tagged tag) (λ (t : Tagged). t.command) (λ v. refl) P Q text rest l

-- What comes of the part after the name, or after a literal, comes of the command.
pub tagged_comes : (utf8 : Bool) (tag : List ℕ) (P : List ℕ → Tagged → Type 0) (L : List ℕ → Command → Type 0) (text mid : List ℕ) (next : Next) (rest : List ℕ)
    → Leaves P text (Then L (λ c. Is (tagged tag c))) mid → Comes utf8 L mid next rest → TaggedComes utf8 tag P text next rest
tagged_comes utf8 tag P L text mid (Whole c) rest l r = (here l).reads never (tagged tag c) rest (mapped_reads L (tagged tag) never never mid rest c (λ v b h. h) r)
tagged_comes utf8 tag P L text mid (Awaits size a) rest l r =
    (r.1, leaves_on P (Then L (λ c. Is (tagged tag c))) (left_of utf8 (AfterLiteral tag size a)) text mid rest l (tagged_leaves tag L (IsRestAtLiteral utf8 size a) mid rest r.2))

pub header_of : (utf8 : Bool) (L : List ℕ → Command → Type 0) (text : List ℕ) (next : Next) (rest : List ℕ) → Comes utf8 L text next rest → HasHeader text next rest
header_of utf8 L text (Whole c) rest r = tt
header_of utf8 L text (Awaits size a) rest r = r.0

-- ---- at the end of a line

-- a front of a line that has a line is all of it
pub line_rest : (line others rest : List ℕ) (cut : Cut) → IsWholeLine line → line ≡ others ++ rest → first_line others ≡ Some cut → rest ≡ []
line_rest line others rest cut is e found =
    right_empty cut.rest rest (ap (λ c. c.rest) (cut_same (sym ((first_line-cut others cut found).longer rest) ∙ (ap (λ z. first_line z) (sym e) ∙ is))))

-- A command that the octets begin with, where they end a line, is all of them.
pub command_rest : (utf8 : Bool) (stage : Stage) (front body word rest : List ℕ) (c : Tagged) → Reached utf8 stage front → ((u b : List ℕ) (d : Tagged) → IsCommand utf8 u d → u ++ b ≡ front → ⊥)
    → (line : List ℕ) → IsWholeLine line → ((literal others : List ℕ) → body ≡ literal ++ others → length literal ≡ size_of stage → others ≡ line) → IsCommand utf8 word c → word ++ rest ≡ front ++ body → rest ≡ []
command_rest utf8 stage front body word rest c reached none line is_line parts is e = by (compared word front rest body e)
  where
    some : (y : ℕ) (d : List ℕ) → y ∷ d ≡ [] → ⊥
    some y d e = cc e

    by : Compared word front rest body → rest ≡ []
    by (Same s) = absurd (none word [] c is (append-nil word ∙ s))
    by (Shorter y d s t) = absurd (none word (y ∷ d) c is (sym s))
    by (Longer y d s t) =
        let l = ends_in utf8 stage front (y ∷ d) reached (subst EndsCommandLine s (command_ends utf8 word c is)) (some y d) in
        let whole : body ≡ l.literal ++ (l.others ++ rest) = t ∙ (ap (λ z. z ++ rest) l.whole ∙ append_assoc l.literal l.others rest) in
        line_rest line l.others rest l.cut is_line (sym (parts l.literal (l.others ++ rest) whole l.sized)) l.first

-- ---- tags

pub space_is_none : is_tag_char 32 ≡ false
unfolding is_atom_char is_astring_char is_tag_char
space_is_none = refl

tag_no_space : (tag c : List ℕ) (y : ℕ) (a : List ℕ) → IsTag tag tag → tag ≡ a ++ y ∷ c → y ≡ 32 → ⊥
tag_no_space tag c y a is e same = lacks a (subst (λ z. list_all is_tag_char z ≡ true) (e ∙ ap (λ z. a ++ z ∷ c) same) is.passes)
  where
    lacks : (a : List ℕ) → list_all is_tag_char (a ++ 32 ∷ c) ≡ true → ⊥
    lacks [] all = both_ways (is_tag_char 32) space_is_none (and_parts (is_tag_char 32) (list_all is_tag_char c) all).0
    lacks (x ∷ a) all = lacks a (and_parts (is_tag_char x) (list_all is_tag_char (a ++ 32 ∷ c)) all).1

-- octets begin with one tag
pub same_tag : (octets tag other : List ℕ) → BeginsWithTag octets tag → BeginsWithTag octets other → tag ≡ other
same_tag octets tag other a b = by (compared tag other (32 ∷ a.rest) (32 ∷ b.rest) (sym a.whole ∙ b.whole))
  where
    by : Compared tag other (32 ∷ a.rest) (32 ∷ b.rest) → tag ≡ other
    by (Same s) = s
    by (Longer y c s t) = absurd (tag_no_space tag c y other a.is_tag s (sym (cc t)))
    by (Shorter y c s t) = absurd (tag_no_space other c y tag b.is_tag s (sym (cc t)))

pub tag_more : (octets more tag : List ℕ) → BeginsWithTag octets tag → BeginsWithTag (octets ++ more) tag
tag_more octets more tag is = record { rest = is.rest ++ more; whole = ap (λ z. z ++ more) is.whole ∙ append_assoc tag (32 ∷ is.rest) more; is_tag = is.is_tag }
