-- After a literal's header: no command ends there, one can follow, and which stages are those of data.
use Rattle.std.proofs.Common.{◌≡◌, ℕ, ◌==◌, ◌||◌, Bool, true, false, not, List, [], ◌∷◌, ◌++◌, length, replicate, Contains, Option, inl, inr, refl, sym, ap, ◌∙◌, subst, append_assoc, append-nil, arith}
use Rattle.std.proofs.lemmas.Bool.{and_parts, both_ways, cases_Bool, eqb-true}
use Rattle.std.proofs.lemmas.List.{append_cancel_right, length-replicate}
use Rattle.std.proofs.lemmas.List.Elements.{All-contains}
use Rattle.std.proofs.lemmas.List.Sums.{AllPass-from_list_all}
use Rattle.std.specs.Prelude.{codes}
use Rattle.imap_words.specs.Languages.{Then, After, Is, IsOctet, IsCounted, IsTail, IsMoreThan, Maybe, IsViable}
use Rattle.imap_words.specs.Reading.{never, Reads, FailsAt}
use Rattle.imap_words.specs.Going.{Leaves}
use Rattle.imap_words.specs.declared.stop.Stop.TheVariants.{More, Bad}
use Rattle.imap_words.specs.Tokens.{IsTag, IsSpace, IsCloseParenthesis, IsCrlf}
use Rattle.imap_words.specs.Keywords.{Named, IsWordOf}
use Rattle.imap_words.specs.Strings.{IsHeaderName}
use Rattle.imap_words.specs.Dates.{IsDateTime}
use Rattle.imap_words.proofs.Composing.{NeverAt, fails_first, then_reads, then_stops, first_stops}
use Rattle.imap_words.proofs.Going.{never_avoids, then_viable, is_viable, then_never, is_reads}
use Rattle.imap_words.proofs.Choosing.{seq_never, octet_reads, mapped_reads, list_ending}
use Rattle.imap_words.proofs.Leaving.{leaves_later}
use Rattle.imap_words.proofs.TokenSteps.{octet_never}
use Rattle.imap_words.proofs.TableSteps.{same_list}
use Rattle.imap_grammar.specs.Flags.{IsFlagList}
use Rattle.imap_grammar.specs.Commands.{Tagged, AppendFront, some_flags, IsBareCommand, IsLoginCommand, IsEnable, IsNaming, IsListing, IsStatus, IsDataEnd, IsAppendFront, IsAppend, IsFetch, IsStore, IsNotHere, IsAfterUid, command_names, IsAfterName, IsCommand}
use Rattle.imap_grammar.specs.Events.{Announces, append_words, IsAppending, Appends}
use Rattle.imap_grammar.specs.Awaiting.{named, IsAfterNames, IsAfterData, IsAfterAppendName, IsLiteralBody, IsAfterLiteral, IsRestAtLiteral, IsSized}
use Rattle.imap_grammar.specs.Standing.{left_of, IsAtData}
use Rattle.imap_grammar.specs.declared.command.Command.{Command}
use Rattle.imap_grammar.specs.declared.command.Command.TheVariants as command
use Rattle.imap_grammar.specs.declared.command.SectionPart.TheVariants as part
use Rattle.imap_grammar.specs.declared.awaited.Awaited.{Awaited}
use Rattle.imap_grammar.specs.declared.awaited.Awaited.TheVariants as awaited
use Rattle.imap_grammar.specs.declared.awaited.Naming.{Naming}
use Rattle.imap_grammar.specs.declared.awaited.Naming.TheVariants as naming
use Rattle.imap_grammar.specs.declared.awaited.FieldNames.{FieldNames}
use Rattle.imap_grammar.specs.declared.reader.Stage.TheVariants.{AfterLiteral}
use Rattle.imap_grammar.specs.declared.words.Name.{Name}
use Rattle.imap_grammar.specs.declared.words.Name.TheVariants as name
use Rattle.imap_grammar.specs.declared.words.UidName.{UidName}
use Rattle.imap_grammar.specs.declared.words.UidName.TheVariants as uid
use Rattle.imap_grammar.proofs.CommandSteps.{bare_viable, after_user_viable, after_reference_viable, after_status_viable}
use Rattle.imap_grammar.proofs.LineLaws.{announces_once, crlf_spelled}
use Rattle.imap_grammar.proofs.AppendSteps.{data_end_viable, after_append_viable}
use Rattle.imap_grammar.proofs.FetchEnds.{end_viable}
use Rattle.imap_grammar.proofs.NameListSteps.{letters_ok, names_viable}
use Rattle.imap_grammar.proofs.Closing.{appending_announces}
use Rattle.imap_grammar.proofs.Single.{nothing_goes}

-- ---- what may follow a literal

maybe_never : {V W : Type 0} (P : List ℕ → V → Type 0) (Q : Option V → List ℕ → W → Type 0) (x : ℕ) → NeverAt P x → ((u : Option V) → NeverAt (Q u) x) → NeverAt (Then (Maybe P) Q) x
maybe_never P Q x p q a b w more is e = by is.first
  where
    by : Maybe P is.front is.value → ⊥
    by (inl none) = q is.value is.back b w more is.second (ap (λ z. z ++ b) (sym (is.whole ∙ ap (λ z. z ++ is.back) none.0)) ∙ e)
    by (inr some) =
        p some.front (some.back ++ (is.back ++ b)) some.value more some.first
        (sym (append_assoc some.front some.back (is.back ++ b)) ∙ (sym (append_assoc (some.front ++ some.back) is.back b) ∙ (ap (λ z. z ++ b) (sym (is.whole ∙ ap (λ z. z ++ is.back) some.whole)) ∙ e)))

names_never : {V W E : Type 0} (Separator : List ℕ → W → Type 0) (P : List ℕ → V → Type 0) (End : List ℕ → E → Type 0) (begun : List V) (x : ℕ) → NeverAt Separator x → NeverAt End x → NeverAt (IsMoreThan Separator P End begun) x
names_never {V} Separator P End begun x sep end a b values more is e = by is.0 is.2
  where
    by : (vs : List V) → IsTail Separator P End a vs → ⊥
    by [] t = end a b t.0 more t.1 e
    by (v ∷ vs) t = sep t.1 ((t.2 ++ t.3) ++ b) t.0 more t.5 (sym (append_assoc t.1 (t.2 ++ t.3) b) ∙ (ap (λ z. z ++ b) (sym t.4) ∙ e))

bare_never : (c : Command) (x : ℕ) → (x ≡ 13 → ⊥) → NeverAt (IsBareCommand c) x
bare_never c x other = seq_never IsCrlf (λ _. Is c) x (then_never 13 x (λ _. IsOctet 10) other)

spaced_never : {V : Type 0} (Q : List ℕ → V → Type 0) (x : ℕ) → (x ≡ 32 → ⊥) → NeverAt (After IsSpace Q) x
spaced_never Q x other = then_never 32 x (λ _. Q) other

data_never : (in_utf8 : Bool) (x : ℕ) → (x ≡ 13 → ⊥) → (x ≡ 41 → ⊥) → NeverAt (IsDataEnd in_utf8) x
data_never false x a b = then_never 13 x (λ _. IsOctet 10) a
data_never true x a b = then_never 41 x (λ _. IsCrlf) b

append_never : (mailbox : List ℕ) (x : ℕ) → (x ≡ 32 → ⊥) → NeverAt (IsAfterAppendName mailbox) x
append_never mailbox x other =
    maybe_never (After IsSpace IsFlagList) _ x (spaced_never IsFlagList x other) (λ flags. maybe_never (After IsSpace IsDateTime) _ x (spaced_never IsDateTime x other) (λ date. spaced_never _ x other))

-- no other octet than a space, CR or a parenthesis
after_never : (utf8 : Bool) (a : Awaited) (v : List ℕ) (x : ℕ) → (x ≡ 32 → ⊥) → (x ≡ 13 → ⊥) → (x ≡ 41 → ⊥) → NeverAt (IsAfterLiteral utf8 a v) x
after_never utf8 awaited.LoginName v x s r p = spaced_never _ x s
after_never utf8 (awaited.LoginPassword user) v x s r p = bare_never _ x r
after_never utf8 (awaited.Mailbox n) v x s r p = bare_never _ x r
after_never utf8 awaited.ListReference v x s r p = spaced_never _ x s
after_never utf8 (awaited.ListPattern reference) v x s r p = bare_never _ x r
after_never utf8 awaited.StatusName v x s r p = spaced_never _ x s
after_never utf8 awaited.AppendName v x s r p = append_never v x s
after_never utf8 (awaited.AppendData mailbox flags date in_utf8) v x s r p = seq_never (IsDataEnd in_utf8) _ x (data_never in_utf8 x r p)
after_never utf8 (awaited.FieldName so_far) v x s r p = seq_never _ _ x (names_never IsSpace (IsHeaderName utf8) IsCloseParenthesis (so_far.names ++ v ∷ []) x (octet_never 32 x s) (octet_never 41 x p))

-- ---- something may follow

after_data_viable : (mailbox : List ℕ) (flags : ℕ) (date : Option (List ℕ)) (in_utf8 : Bool) (v : List ℕ) → IsViable (IsAfterData mailbox flags date in_utf8 v) []
after_data_viable mailbox flags date in_utf8 v = then_viable (IsDataEnd in_utf8) _ (data_end_viable in_utf8) (λ _. is_viable _)

pub after_viable : (utf8 : Bool) (a : Awaited) (v : List ℕ) → IsViable (IsAfterLiteral utf8 a v) []
after_viable utf8 awaited.LoginName v = after_user_viable utf8 v
after_viable utf8 (awaited.LoginPassword user) v = bare_viable _
after_viable utf8 (awaited.Mailbox n) v = bare_viable _
after_viable utf8 awaited.ListReference v = after_reference_viable utf8 v
after_viable utf8 (awaited.ListPattern reference) v = bare_viable _
after_viable utf8 awaited.StatusName v = after_status_viable v
after_viable utf8 awaited.AppendName v = after_append_viable v
after_viable utf8 (awaited.AppendData mailbox flags date in_utf8) v = after_data_viable mailbox flags date in_utf8 v
after_viable utf8 (awaited.FieldName so_far) v = names_viable utf8 so_far (so_far.names ++ v ∷ [])

-- ---- the literal

-- octets that any literal may have
abbrev pub xs : ℕ → List ℕ
xs n = replicate n 97

pub xs_len : (n : ℕ) → length (xs n) ≡ n
xs_len n = length-replicate {A = ℕ} n 97

body_xs : (size : ℕ) (a : Awaited) → IsSized size a → IsLiteralBody size a (xs size) (xs size)
body_xs size (awaited.FieldName so_far) some = ((xs_len size, refl), record { some = rw (xs_len size) some; passes = letters_ok size; value_is = refl })
body_xs size a some = (xs_len size, refl)

pub body_counted : (size : ℕ) (a : Awaited) (u v : List ℕ) → IsLiteralBody size a u v → IsCounted size u v
body_counted size (awaited.FieldName so_far) u v is = is.0
body_counted size a u v is = is

same_fronts : (a b x y : List ℕ) → length a ≡ length b → a ++ x ≡ b ++ y → a ≡ b
same_fronts [] [] x y len e = refl
same_fronts [] (z ∷ b) x y len e = absurd (omega (arith, len))
same_fronts (z ∷ a) [] x y len e = absurd (omega (arith, len))
same_fronts (z ∷ a) (w ∷ b) x y len e = cons (first e) (same_fronts a b x y (omega (arith, len)) (tail e))
  where
    first : {z w : ℕ} {a b : List ℕ} → z ∷ a ≡ w ∷ b → z ≡ w
    first e = cc e

    tail : {z w : ℕ} {a b : List ℕ} → z ∷ a ≡ w ∷ b → a ≡ b
    tail e = cc e

    cons : {z w : ℕ} {a b : List ℕ} → z ≡ w → a ≡ b → z ∷ a ≡ w ∷ b
    cons e f = cc (e, f)

pub body_reads : (size : ℕ) (a : Awaited) (literal rest : List ℕ) → IsLiteralBody size a literal literal → Reads (IsLiteralBody size a) never (literal ++ rest) literal rest
body_reads size a literal rest is = record {
  word = literal;
  whole = refl;
  is_word = is;
  only = λ more u b v other on e.
      let counted = body_counted size a u v other in
      let same = same_fronts u literal b more (counted.0 ∙ sym (body_counted size a literal literal is).0) e in
      inl (same, counted.1 ∙ same);
}

-- ---- after octets of which this is left

-- No word is a front of octets at which it fails.
pub no_word_before : {V : Type 0} (P : List ℕ → V → Type 0) (octets : List ℕ) (left : ℕ) → FailsAt P never octets left → (a b : List ℕ) (v : V) → P a v → a ++ b ≡ octets → ⊥
no_word_before P octets left f a b v is e = nothing_goes v b (f.hopeless f.back a b v is (e ∙ f.whole))

-- a word that is whole is the only one
pub no_other_word : {V : Type 0} (P : List ℕ → V → Type 0) (octets : List ℕ) (v : V) (r : Reads P never octets v []) → (w : V) → P octets w → w ≡ v
no_other_word P octets v r w is = elim (r.only [] octets [] w is tt (append-nil octets ∙ r.whole)) [ inl same ↦ same.1 | inr begins ↦ absurd begins ]

module _ (utf8 : Bool) (tag : List ℕ) (size : ℕ) (a : Awaited) where
  abbrev pub Left : List ℕ → Tagged → Type 0
  Left = left_of utf8 (AfterLiteral tag size a)

  pub literal_viable : IsSized size a → IsViable (IsRestAtLiteral utf8 size a) []
  literal_viable some = then_viable (IsLiteralBody size a) (IsAfterLiteral utf8 a) (record { rest = xs size; value = xs size; is_word = body_xs size a some }) (after_viable utf8 a)

  pub left_viable : IsSized size a → IsViable Left []
  left_viable some = then_viable (IsRestAtLiteral utf8 size a) _ (literal_viable some) (λ c. is_viable _)

  left_fails : (literal rest : List ℕ) (left : ℕ) → IsLiteralBody size a literal literal → FailsAt (IsAfterLiteral utf8 a literal) never rest left → FailsAt Left never (literal ++ rest) left
  left_fails literal rest left body fails =
      first_stops (IsRestAtLiteral utf8 size a) (λ c. Is (record { tag = tag; command = c })) never never (literal ++ rest) (Bad left)
      (then_stops (IsLiteralBody size a) (IsAfterLiteral utf8 a) never never (literal ++ rest) rest literal (Bad left) (body_reads size a literal rest body) (λ u. never_avoids _) fails)
      (λ u. never_avoids _) (λ u. is_viable _)

  module _ (front : List ℕ) (l : Leaves (IsCommand utf8) front (left_of utf8 (AfterLiteral tag size a)) []) where
    pub front_viable : IsSized size a → IsViable (IsCommand utf8) front
    front_viable some = subst (λ z. IsViable (IsCommand utf8) z) (append-nil front) ((leaves_later (IsCommand utf8) Left front [] l).stops never More (left_viable some))

    -- no command has the literal before it and then an octet that no command has there
    no_command_with : (literal : List ℕ) (x : ℕ) (rest : List ℕ) → IsLiteralBody size a literal literal → NeverAt (IsAfterLiteral utf8 a literal) x
        → (u b : List ℕ) (c : Tagged) → IsCommand utf8 u c → u ++ b ≡ front ++ (literal ++ x ∷ rest) → ⊥
    no_command_with literal x rest body none =
        no_word_before (IsCommand utf8) (front ++ (literal ++ x ∷ rest)) _
        ((leaves_later (IsCommand utf8) Left front (literal ++ x ∷ rest) l).stops never (Bad (length (x ∷ rest))) (left_fails literal (x ∷ rest) _ body (fails_first (IsAfterLiteral utf8 a literal) never x rest (after_viable utf8 a literal) none)))

    -- No command ends after a header of which a literal is left, nor before it.
    pub no_command_yet : IsSized size a → (u b : List ℕ) (c : Tagged) → IsCommand utf8 u c → u ++ b ≡ front → ⊥
    no_command_yet some u b c is e =
        no_command_with (xs size) 97 [] (body_xs size a some) (after_never utf8 a (xs size) 97 (λ e. omega (arith, e)) (λ e. omega (arith, e)) (λ e. omega (arith, e)))
        u (b ++ (xs size ++ 97 ∷ [])) c is (sym (append_assoc u b (xs size ++ 97 ∷ [])) ∙ ap (λ z. z ++ (xs size ++ 97 ∷ [])) e)

-- ---- APPEND

abbrev pub data_end : Bool → List ℕ
data_end false = 13 ∷ 10 ∷ []
data_end true = 41 ∷ 13 ∷ 10 ∷ []

crlf_is : (octets : List ℕ) (x : ℕ) → IsCrlf octets x → (octets ≡ 13 ∷ 10 ∷ []) × (x ≡ 10)
crlf_is octets x is = (crlf_spelled octets is.front is.back is.whole is.first.0 is.second.0, is.second.1)

pub data_end_is : (in_utf8 : Bool) (octets : List ℕ) (x : ℕ) → IsDataEnd in_utf8 octets x → (octets ≡ data_end in_utf8) × (x ≡ 10)
data_end_is false octets x is = crlf_is octets x is
data_end_is true octets x is = let back = crlf_is is.back x is.second in (is.whole ∙ (ap (λ z. z ++ is.back) is.first.0 ∙ ap (λ z. 41 ∷ z) back.0), back.1)

crlf_has : IsCrlf (13 ∷ 10 ∷ []) 10
crlf_has = record { value = 13; front = 13 ∷ []; back = 10 ∷ []; whole = refl; first = (refl, refl); second = (refl, refl) }

pub data_end_has : (in_utf8 : Bool) → IsDataEnd in_utf8 (data_end in_utf8) 10
data_end_has false = crlf_has
data_end_has true = record { value = 41; front = 41 ∷ []; back = 13 ∷ 10 ∷ []; whole = refl; first = (refl, refl); second = crlf_has }

abbrev pub appended : AppendFront → List ℕ → Command
appended front octets = command.Append front.mailbox (some_flags front.flags) front.date front.announced.utf8 octets

-- ---- the word APPEND in both tables

same_true : (us vs : List ℕ) → same_list us vs ≡ true → us ≡ vs
same_true [] [] e = refl
same_true [] (y ∷ ys) e = absurd (both_ways false refl e)
same_true (x ∷ xs) [] e = absurd (both_ways false refl e)
same_true (x ∷ us) (y ∷ vs) e =
    let parts = and_parts (x == y) (same_list us vs) e in
    let head : x ≡ y = eqb-true x y parts.0 in
    let tail : us ≡ vs = same_true us vs parts.1 in
    cc (head, tail)

abbrev pub is_append_name : Name → Bool
is_append_name name.Append = true
is_append_name n = false

abbrev pub spelled_so : Named Name → Bool
spelled_so e = not (is_append_name e.says) || same_list e.word (codes "APPEND")

abbrev pub append_entry : Named Name
append_entry = record { word = codes "APPEND"; says = name.Append }

append_spelled : (e : Named Name) → Contains command_names e → name.Append ≡ e.says → e.word ≡ codes "APPEND"
append_spelled e known says =
    let test : spelled_so e ≡ true = All-contains (λ (z : Named Name). spelled_so z ≡ true) command_names e (AllPass-from_list_all spelled_so command_names refl) known in
    same_true e.word (codes "APPEND") (subst (λ z. (not (is_append_name z) || same_list e.word (codes "APPEND")) ≡ true) (sym says) test)

to_append : (octets : List ℕ) → IsWordOf command_names octets name.Append → IsWordOf append_words octets name.Append
to_append octets is = record { entry = append_entry; known = (0, omega arith, refl); word = is.word ∙ append_spelled is.entry is.known is.says; says = refl }

append_only : (e : Named Name) → Contains append_words e → e.word ≡ codes "APPEND"
append_only e known = same_true e.word (codes "APPEND") (All-contains (λ (z : Named Name). same_list z.word (codes "APPEND") ≡ true) append_words e (AllPass-from_list_all (λ (z : Named Name). same_list z.word (codes "APPEND")) append_words refl) known)

from_append : (octets : List ℕ) (n : Name) → IsWordOf append_words octets n → IsWordOf command_names octets name.Append
from_append octets n is = record { entry = append_entry; known = (11, omega arith, refl); word = is.word ∙ append_only is.entry is.known; says = refl }

abbrev pub tagged : List ℕ → Command → Tagged
tagged tag c = record { tag = tag; command = c }

regroup : (a b c d x y : List ℕ) → a ++ (b ++ (c ++ (d ++ (x ++ y)))) ≡ (a ++ (b ++ (c ++ d))) ++ (x ++ y)
regroup a b c d x y = sym (append_assoc a (b ++ (c ++ d)) (x ++ y) ∙ ap (λ z. a ++ z) (append_assoc b (c ++ d) (x ++ y) ∙ ap (λ z. b ++ z) (append_assoc c d (x ++ y))))

built_of : (utf8 : Bool) (tag_octets space word arguments octets tag : List ℕ) (front : AppendFront) → IsTag tag_octets tag → IsSpace space 32 → IsWordOf command_names word name.Append → IsAppendFront utf8 arguments front
    → length octets ≡ front.announced.size → IsCommand utf8 (tag_octets ++ (space ++ (word ++ (arguments ++ (octets ++ data_end front.announced.utf8))))) (tagged tag (appended front octets))
built_of utf8 tag_octets space word arguments octets tag front is_tag is_space is_word is_front sized = record {
  value = tag;
  front = tag_octets;
  back = space ++ (word ++ (arguments ++ (octets ++ data_end front.announced.utf8)));
  whole = refl;
  first = is_tag;
  second = record {
    value = 32;
    front = space;
    back = word ++ (arguments ++ (octets ++ data_end front.announced.utf8));
    whole = refl;
    first = is_space;
    second = record {
      value = name.Append;
      front = word;
      back = arguments ++ (octets ++ data_end front.announced.utf8);
      whole = refl;
      first = is_word;
      second = record {
        value = appended front octets;
        front = arguments ++ (octets ++ data_end front.announced.utf8);
        back = [];
        whole = sym (append-nil _);
        first = record {
          value = front;
          front = arguments;
          back = octets ++ data_end front.announced.utf8;
          whole = refl;
          first = is_front;
          second = record {
            value = octets;
            front = octets;
            back = data_end front.announced.utf8;
            whole = refl;
            first = (sized, refl);
            second = record { value = 10; front = data_end front.announced.utf8; back = []; whole = sym (append-nil _); first = data_end_has front.announced.utf8; second = (refl, refl) };
          };
        };
        second = (refl, refl);
      };
    };
  };
}

-- An APPEND up to its data, data of the size, and their end are a command.
pub appending_command : (utf8 : Bool) (head : List ℕ) (a : Appends) (octets : List ℕ) → IsAppending utf8 head a → length octets ≡ a.front.announced.size
    → IsCommand utf8 (head ++ (octets ++ data_end a.front.announced.utf8)) (record { tag = a.tag; command = appended a.front octets })
appending_command utf8 head a octets is sized =
    let sp = is.second in
    let w = sp.second in
    let f = w.second in
    let head_is : head ≡ is.front ++ (sp.front ++ (w.front ++ f.front))
    = is.whole ∙ ap (λ z. is.front ++ z) (sp.whole ∙ ap (λ z. sp.front ++ z) (w.whole ∙ ap (λ z. w.front ++ z) (f.whole ∙ (ap (λ z. f.front ++ z) f.second.0 ∙ append-nil f.front)))) in
    let built : IsCommand utf8 (is.front ++ (sp.front ++ (w.front ++ (f.front ++ (octets ++ data_end f.value.announced.utf8))))) (tagged is.value (appended f.value octets))
    = built_of utf8 is.front sp.front w.front f.front octets is.value f.value is.first (subst (λ z. IsSpace sp.front z) sp.first.1 sp.first) (from_append w.front w.value w.first) f.first (sized ∙ ap (λ (z : Appends). z.front.announced.size) f.second.1) in
    subst (λ (z : Appends). IsCommand utf8 (head ++ (octets ++ data_end z.front.announced.utf8)) (tagged z.tag (appended z.front octets))) (sym f.second.1)
    (subst (λ z. IsCommand utf8 z (tagged is.value (appended f.value octets)))
    (regroup is.front sp.front w.front f.front octets (data_end f.value.announced.utf8) ∙ ap (λ z. z ++ (octets ++ data_end f.value.announced.utf8)) (sym head_is)) built)

-- ---- of commands only APPEND has its value

abbrev pub is_append : Command → Bool
is_append (command.Append mailbox flags date in_utf8 octets) = true
is_append c = false

abbrev pub octets_of : Command → List ℕ
octets_of (command.Append mailbox flags date in_utf8 octets) = octets
octets_of c = []

abbrev pub utf8_of : Command → Bool
utf8_of (command.Append mailbox flags date in_utf8 octets) = in_utf8
utf8_of c = false

abbrev pub NoAppend : (List ℕ → Command → Type 0) → Type 0
NoAppend P = (a : List ℕ) (c : Command) → P a c → is_append c ≡ false

then_no : {V : Type 0} (P : List ℕ → V → Type 0) (Q : V → List ℕ → Command → Type 0) → ((u : V) → NoAppend (Q u)) → NoAppend (Then P Q)
then_no P Q second a c is = second is.value is.back c is.second

is_no : (c : Command) → is_append c ≡ false → NoAppend (Is c)
is_no c lacks a d is = ap is_append is.1 ∙ lacks

bare_no : (c : Command) → is_append c ≡ false → NoAppend (IsBareCommand c)
bare_no c lacks = then_no IsCrlf (λ _. Is c) (λ _. is_no c lacks)

login_no : (utf8 : Bool) → NoAppend (IsLoginCommand utf8)
login_no utf8 = then_no _ _ (λ _. then_no _ _ (λ user. then_no _ _ (λ _. then_no _ _ (λ password. bare_no _ refl))))

enable_no : NoAppend IsEnable
enable_no = then_no _ _ (λ _. then_no _ _ (λ words. is_no _ refl))

naming_no : (utf8 : Bool) (made : List ℕ → Command) → ((v : List ℕ) → is_append (made v) ≡ false) → NoAppend (IsNaming utf8 made)
naming_no utf8 made lacks = then_no _ _ (λ _. then_no _ _ (λ mailbox. bare_no _ (lacks mailbox)))

listing_no : (utf8 : Bool) → NoAppend (IsListing utf8)
listing_no utf8 = then_no _ _ (λ _. then_no _ _ (λ reference. then_no _ _ (λ _. then_no _ _ (λ pattern. bare_no _ refl))))

status_no : (utf8 : Bool) → NoAppend (IsStatus utf8)
status_no utf8 = then_no _ _ (λ _. then_no _ _ (λ mailbox. then_no _ _ (λ _. then_no _ _ (λ items. bare_no _ refl))))

fetch_no : (utf8 by_uid : Bool) → NoAppend (IsFetch utf8 by_uid)
fetch_no utf8 by_uid = then_no _ _ (λ _. then_no _ _ (λ set. then_no _ _ (λ items. bare_no _ refl)))

store_no : (by_uid : Bool) → NoAppend (IsStore by_uid)
store_no by_uid = then_no _ _ (λ _. then_no _ _ (λ set. then_no _ _ (λ storing. then_no _ _ (λ _. then_no _ _ (λ flags. is_no _ refl)))))

not_here_no : NoAppend IsNotHere
not_here_no a c is = ap is_append is.1

after_uid_no : (utf8 : Bool) (n : UidName) → NoAppend (IsAfterUid utf8 n)
after_uid_no utf8 uid.Fetch = fetch_no utf8 true
after_uid_no utf8 uid.Store = store_no true
after_uid_no utf8 uid.NotHere = not_here_no

name_no : (utf8 : Bool) (n : Name) → is_append_name n ≡ false → NoAppend (IsAfterName utf8 n)
name_no utf8 name.Capability lacks = bare_no _ refl
name_no utf8 name.Noop lacks = bare_no _ refl
name_no utf8 name.Check lacks = bare_no _ refl
name_no utf8 name.Logout lacks = bare_no _ refl
name_no utf8 name.Login lacks = login_no utf8
name_no utf8 name.Enable lacks = enable_no
name_no utf8 name.Select lacks = naming_no utf8 command.Select (λ v. refl)
name_no utf8 name.Examine lacks = naming_no utf8 command.Examine (λ v. refl)
name_no utf8 name.Create lacks = naming_no utf8 command.Create (λ v. refl)
name_no utf8 name.List lacks = listing_no utf8
name_no utf8 name.Status lacks = status_no utf8
name_no utf8 name.Append lacks = absurd (both_ways true lacks refl)
name_no utf8 name.Fetch lacks = fetch_no utf8 false
name_no utf8 name.Store lacks = store_no false
name_no utf8 name.Uid lacks = then_no _ _ (λ _. then_no _ _ (after_uid_no utf8))
name_no utf8 name.Expunge lacks = bare_no _ refl
name_no utf8 name.Close lacks = bare_no _ refl
name_no utf8 name.NotHere lacks = not_here_no

name_is : (n : Name) → is_append_name n ≡ true → n ≡ name.Append
name_is name.Append e = refl
name_is n e = absurd (both_ways false refl e)

-- ---- the parts of an APPEND

pub record AppendParts (utf8 : Bool) (octets : List ℕ) (c : Tagged) : Type 0 where
  pub head : List ℕ
  pub appends : Appends
  pub content : List ℕ
  pub end : List ℕ
  pub whole : octets ≡ head ++ (content ++ end)
  pub is_head : IsAppending utf8 head appends
  pub is_end : end ≡ data_end appends.front.announced.utf8
  pub is : c ≡ tagged appends.tag (appended appends.front content)

-- a command whose name is APPEND
named_parts : (utf8 : Bool) (octets tag_octets space word arguments : List ℕ) (tag : List ℕ) (c : Command) → octets ≡ tag_octets ++ (space ++ (word ++ arguments))
    → IsTag tag_octets tag → IsSpace space 32 → IsWordOf append_words word name.Append → IsAppend utf8 arguments c → AppendParts utf8 octets (tagged tag c)
named_parts utf8 octets tag_octets space word arguments tag c whole is_tag is_space is_word f =
    let d = f.second in
    let e = d.second in
    let tail : d.back ≡ e.front = e.whole ∙ (ap (λ z. e.front ++ z) e.second.0 ∙ append-nil e.front) in
    record {
      head = tag_octets ++ (space ++ (word ++ f.front));
      appends = record { tag = tag; front = f.value };
      content = d.front;
      end = e.front;
      whole = whole ∙ (ap (λ z. tag_octets ++ (space ++ (word ++ z))) (f.whole ∙ ap (λ z. f.front ++ z) (d.whole ∙ ap (λ z. d.front ++ z) tail)) ∙ regroup tag_octets space word f.front d.front e.front);
      is_head = record {
        value = tag;
        front = tag_octets;
        back = space ++ (word ++ f.front);
        whole = refl;
        first = is_tag;
        second = record {
          value = 32;
          front = space;
          back = word ++ f.front;
          whole = refl;
          first = is_space;
          second = record {
            value = name.Append;
            front = word;
            back = f.front;
            whole = refl;
            first = is_word;
            second = record { value = f.value; front = f.front; back = []; whole = sym (append-nil f.front); first = f.first; second = (refl, refl) };
          };
        };
      };
      is_end = (data_end_is f.value.announced.utf8 e.front e.value e.first).0;
      is = ap (λ z. tagged tag z) (e.second.1 ∙ ap (λ z. appended f.value z) d.first.1);
    }

pub append_parts : (utf8 : Bool) (octets : List ℕ) (c : Tagged) → IsCommand utf8 octets c → is_append c.command ≡ true → AppendParts utf8 octets c
append_parts utf8 octets c is appends = elim (cases_Bool (is_append_name w.value)) [
  | inl given ↦
      let named : w.value ≡ name.Append = name_is w.value given in
      subst (λ z. AppendParts utf8 octets z) (sym b.second.1)
      (named_parts utf8 octets is.front sp.front w.front b.front is.value b.value whole is.first
      (subst (λ z. IsSpace sp.front z) sp.first.1 sp.first) (to_append w.front (subst (λ z. IsWordOf command_names w.front z) named w.first)) (subst (λ z. IsAfterName utf8 z b.front b.value) named b.first))
  | inr lacks ↦ absurd (both_ways (is_append c.command) (ap (λ (z : Tagged). is_append z.command) b.second.1 ∙ name_no utf8 w.value lacks b.front b.value b.first) appends)
]
  where
    sp : After IsSpace (Then (IsWordOf command_names) (λ n. Then (IsAfterName utf8 n) (λ d. Is (tagged is.value d)))) is.back c
    sp = is.second

    w : Then (IsWordOf command_names) (λ n. Then (IsAfterName utf8 n) (λ d. Is (tagged is.value d))) sp.back c
    w = sp.second

    b : Then (IsAfterName utf8 w.value) (λ d. Is (tagged is.value d)) w.back c
    b = w.second

    whole : octets ≡ is.front ++ (sp.front ++ (w.front ++ b.front))
    whole = is.whole ∙ ap (λ z. is.front ++ z) (sp.whole ∙ ap (λ z. sp.front ++ z) (w.whole ∙ ap (λ z. w.front ++ z) (b.whole ∙ (ap (λ z. b.front ++ z) b.second.0 ∙ append-nil b.front))))

-- ---- which stages are those of data

after_data_reads : (mailbox : List ℕ) (flags : ℕ) (date : Option (List ℕ)) (in_utf8 : Bool) (literal : List ℕ)
    → Reads (IsAfterData mailbox flags date in_utf8 literal) never (data_end in_utf8) (command.Append mailbox flags date in_utf8 literal) []
after_data_reads mailbox flags date in_utf8 literal = record {
  word = data_end in_utf8;
  whole = sym (append-nil (data_end in_utf8));
  is_word = record { value = 10; front = data_end in_utf8; back = []; whole = sym (append-nil (data_end in_utf8)); first = data_end_has in_utf8; second = (refl, refl) };
  only = λ more a b w is on e. inl (is.whole ∙ (ap (λ z. is.front ++ z) is.second.0 ∙ (append-nil is.front ∙ (data_end_is in_utf8 is.front is.value is.first).0)), is.second.1);
}

module _ (utf8 : Bool) (tag : List ℕ) (size : ℕ) (a : Awaited) where
  left_reads : (literal rest : List ℕ) (c : Command) → IsLiteralBody size a literal literal → Reads (IsAfterLiteral utf8 a literal) never rest c [] → Reads (left_of utf8 (AfterLiteral tag size a)) never (literal ++ rest) (tagged tag c) []
  left_reads literal rest c body r =
      mapped_reads (IsRestAtLiteral utf8 size a) (tagged tag) never never (literal ++ rest) [] c (λ v b h. h)
      (then_reads (IsLiteralBody size a) (IsAfterLiteral utf8 a) never never (literal ++ rest) rest [] literal c (body_reads size a literal rest body) (λ u. never_avoids _) r)

  module _ (front : List ℕ) (l : Leaves (IsCommand utf8) front (left_of utf8 (AfterLiteral tag size a)) []) where
    whole_reads : (literal rest : List ℕ) (c : Command) → IsLiteralBody size a literal literal → Reads (IsAfterLiteral utf8 a literal) never rest c [] → Reads (IsCommand utf8) never (front ++ (literal ++ rest)) (tagged tag c) []
    whole_reads literal rest c body r = (leaves_later (IsCommand utf8) (left_of utf8 (AfterLiteral tag size a)) front (literal ++ rest) l).reads never (tagged tag c) [] (left_reads literal rest c body r)

-- After what awaits data stands an APPEND up to its data.
pub at_data : (utf8 : Bool) (tag : List ℕ) (size : ℕ) (mailbox : List ℕ) (flags : ℕ) (date : Option (List ℕ)) (in_utf8 : Bool) (front : List ℕ)
    → Leaves (IsCommand utf8) front (left_of utf8 (AfterLiteral tag size (awaited.AppendData mailbox flags date in_utf8))) [] → (appends : Appends) × IsAppending utf8 front appends
at_data utf8 tag size mailbox flags date in_utf8 front l =
    let q = whole_reads utf8 tag size (awaited.AppendData mailbox flags date in_utf8) front l (xs size) (data_end in_utf8) (command.Append mailbox flags date in_utf8 (xs size)) (xs_len size, refl) (after_data_reads mailbox flags date in_utf8 (xs size)) in
    let is : IsCommand utf8 (front ++ (xs size ++ data_end in_utf8)) (tagged tag (command.Append mailbox flags date in_utf8 (xs size))) = subst (λ z. IsCommand utf8 z (tagged tag (command.Append mailbox flags date in_utf8 (xs size)))) (sym (q.whole ∙ append-nil q.word)) q.is_word in
    let p = append_parts utf8 _ _ is refl in
    let content : p.content ≡ xs size = sym (ap (λ (z : Tagged). octets_of z.command) p.is) in
    let form : p.appends.front.announced.utf8 ≡ in_utf8 = sym (ap (λ (z : Tagged). utf8_of z.command) p.is) in
    let end : p.end ≡ data_end in_utf8 = p.is_end ∙ ap data_end form in
    let same : front ≡ p.head = append_cancel_right front p.head (xs size ++ data_end in_utf8) (p.whole ∙ (ap (λ z. p.head ++ (z ++ p.end)) content ∙ ap (λ z. p.head ++ (xs size ++ z)) end)) in
    (p.appends, subst (λ z. IsAppending utf8 z p.appends) (sym same) p.is_head)

module _ (utf8 : Bool) (tag : List ℕ) (size : ℕ) (a : Awaited) (front : List ℕ) (l : Leaves (IsCommand utf8) front (left_of utf8 (AfterLiteral tag size a)) []) (some : IsSized size a) (appends : Appends) (is : IsAppending utf8 front appends) (same : size ≡ appends.front.announced.size) where
  whole_command : IsCommand utf8 (front ++ (xs size ++ data_end appends.front.announced.utf8)) (tagged appends.tag (appended appends.front (xs size)))
  whole_command = appending_command utf8 front appends (xs size) is (xs_len size ∙ same)

  -- where the octet that ends data can't follow
  not_there : (in_utf8 : Bool) → appends.front.announced.utf8 ≡ in_utf8 → (x : ℕ) (rest : List ℕ) → data_end in_utf8 ≡ x ∷ rest → NeverAt (IsAfterLiteral utf8 a (xs size)) x → ⊥
  not_there in_utf8 e x rest begins none =
      no_command_with utf8 tag size a front l (xs size) x rest (body_xs size a some) none (front ++ (xs size ++ data_end appends.front.announced.utf8)) [] _ whole_command
      (append-nil _ ∙ ap (λ z. front ++ (xs size ++ z)) (ap data_end e ∙ begins))

  no_spaced : ((x : ℕ) → (x ≡ 32 → ⊥) → NeverAt (IsAfterLiteral utf8 a (xs size)) x) → ⊥
  no_spaced none = elim (cases_Bool appends.front.announced.utf8) [
    | inl given ↦ not_there true given 41 (13 ∷ 10 ∷ []) refl (none 41 (λ e. omega (arith, e)))
    | inr lacks ↦ not_there false lacks 13 (10 ∷ []) refl (none 13 (λ e. omega (arith, e)))
  ]

  no_bare : (c : Command) → is_append c ≡ false → Reads (IsAfterLiteral utf8 a (xs size)) never (13 ∷ 10 ∷ []) c [] → NeverAt (IsAfterLiteral utf8 a (xs size)) 41 → ⊥
  no_bare c lacks r none = elim (cases_Bool appends.front.announced.utf8) [
    | inl given ↦ not_there true given 41 (13 ∷ 10 ∷ []) refl none
    | inr plain ↦
        let q = whole_reads utf8 tag size a front l (xs size) (13 ∷ 10 ∷ []) c (body_xs size a some) r in
        let is = subst (λ z. IsCommand utf8 (front ++ (xs size ++ z)) (tagged appends.tag (appended appends.front (xs size)))) (ap data_end plain) whole_command in
        let e : tagged appends.tag (appended appends.front (xs size)) ≡ tagged tag c = no_other_word (IsCommand utf8) (front ++ (xs size ++ 13 ∷ 10 ∷ [])) (tagged tag c) q _ is in
        both_ways true (ap (λ (z : Tagged). is_append z.command) e ∙ lacks) refl
  ]

bare_reads : (c : Command) → Reads (IsBareCommand c) never (13 ∷ 10 ∷ []) c []
bare_reads c = record {
  word = 13 ∷ 10 ∷ [];
  whole = refl;
  is_word = record { value = 10; front = 13 ∷ 10 ∷ []; back = []; whole = refl; first = crlf_has; second = (refl, refl) };
  only = λ more a b w is on e. inl (is.whole ∙ (ap (λ z. is.front ++ z) is.second.0 ∙ (append-nil is.front ∙ (crlf_is is.front is.value is.first).0)), is.second.1);
}

named_no : (n : Naming) (v : List ℕ) → is_append (named n v) ≡ false
named_no naming.Select v = refl
named_no naming.Examine v = refl
named_no naming.Create v = refl

-- after the parenthesis that ends names of fields comes a bracket
names_fail : (utf8 : Bool) (so_far : FieldNames) (names : List (List ℕ)) → FailsAt (IsAfterNames utf8 so_far names) never (41 ∷ 13 ∷ 10 ∷ []) 2
names_fail utf8 so_far names =
    then_stops (IsMoreThan IsSpace (IsHeaderName utf8) IsCloseParenthesis names) _ never never (41 ∷ 13 ∷ 10 ∷ []) (13 ∷ 10 ∷ []) names (Bad 2)
    ((list_ending IsSpace (IsHeaderName utf8) IsCloseParenthesis names 41 (13 ∷ 10 ∷ []) (octet_never 32 41 (λ e. omega (arith, e)))).reads never names (13 ∷ 10 ∷ [])
    (then_reads IsCloseParenthesis (λ _. Is names) never never (41 ∷ 13 ∷ 10 ∷ []) (13 ∷ 10 ∷ []) (13 ∷ 10 ∷ []) 41 names (octet_reads 41 (13 ∷ 10 ∷ [])) (λ u. never_avoids _) (is_reads names (13 ∷ 10 ∷ []))))
    (λ u. never_avoids _)
    (fails_first _ never 13 (10 ∷ []) (end_viable utf8 so_far.fetching so_far.peek so_far.path (part.Fields names so_far.negated)) (then_never 93 13 _ (λ e. omega (arith, e))))

sized : (utf8 : Bool) (front : List ℕ) (size : ℕ) → Announces front size → (appends : Appends) → IsAppending utf8 front appends → size ≡ appends.front.announced.size
sized utf8 front size announces appends is = announces_once front size appends.front.announced.size announces (appending_announces utf8 front appends is)

-- Nowhere else does an APPEND up to its data stand.
pub not_data : (utf8 : Bool) (tag : List ℕ) (size : ℕ) (a : Awaited) (front : List ℕ) → Leaves (IsCommand utf8) front (left_of utf8 (AfterLiteral tag size a)) [] → Announces front size → IsSized size a → IsAtData utf8 a front
not_data utf8 tag size (awaited.AppendData mailbox flags date in_utf8) front l announces some = at_data utf8 tag size mailbox flags date in_utf8 front l
not_data utf8 tag size awaited.LoginName front l announces some = λ appends is. no_spaced utf8 tag size awaited.LoginName front l some appends is (sized utf8 front size announces appends is) (λ x other. spaced_never _ x other)
not_data utf8 tag size (awaited.LoginPassword user) front l announces some = λ appends is.
    no_bare utf8 tag size (awaited.LoginPassword user) front l some appends is (sized utf8 front size announces appends is) (command.Login user (xs size)) refl (bare_reads _) (bare_never _ 41 (λ e. omega (arith, e)))
not_data utf8 tag size (awaited.Mailbox n) front l announces some = λ appends is.
    no_bare utf8 tag size (awaited.Mailbox n) front l some appends is (sized utf8 front size announces appends is) (named n (xs size)) (named_no n (xs size)) (bare_reads _) (bare_never _ 41 (λ e. omega (arith, e)))
not_data utf8 tag size awaited.ListReference front l announces some = λ appends is. no_spaced utf8 tag size awaited.ListReference front l some appends is (sized utf8 front size announces appends is) (λ x other. spaced_never _ x other)
not_data utf8 tag size (awaited.ListPattern reference) front l announces some = λ appends is.
    no_bare utf8 tag size (awaited.ListPattern reference) front l some appends is (sized utf8 front size announces appends is) (command.List reference (xs size)) refl (bare_reads _) (bare_never _ 41 (λ e. omega (arith, e)))
not_data utf8 tag size awaited.StatusName front l announces some = λ appends is. no_spaced utf8 tag size awaited.StatusName front l some appends is (sized utf8 front size announces appends is) (λ x other. spaced_never _ x other)
not_data utf8 tag size awaited.AppendName front l announces some = λ appends is. no_spaced utf8 tag size awaited.AppendName front l some appends is (sized utf8 front size announces appends is) (λ x other. append_never (xs size) x other)
not_data utf8 tag size (awaited.FieldName so_far) front l announces some = λ appends is. elim (cases_Bool appends.front.announced.utf8) [
  | inl given ↦
      no_word_before (IsCommand utf8) (front ++ (xs size ++ 41 ∷ 13 ∷ 10 ∷ [])) _
      ((leaves_later (IsCommand utf8) (left_of utf8 (AfterLiteral tag size (awaited.FieldName so_far))) front (xs size ++ 41 ∷ 13 ∷ 10 ∷ []) l).stops never (Bad 2)
      (left_fails utf8 tag size (awaited.FieldName so_far) (xs size) (41 ∷ 13 ∷ 10 ∷ []) 2 (body_xs size (awaited.FieldName so_far) some) (names_fail utf8 so_far (so_far.names ++ xs size ∷ []))))
      (front ++ (xs size ++ data_end appends.front.announced.utf8)) [] _ (whole_command utf8 tag size (awaited.FieldName so_far) front l some appends is (sized utf8 front size announces appends is))
      (append-nil _ ∙ ap (λ z. front ++ (xs size ++ data_end z)) given)
  | inr lacks ↦
      not_there utf8 tag size (awaited.FieldName so_far) front l some appends is (sized utf8 front size announces appends is) false lacks 13 (10 ∷ []) refl
      (seq_never _ _ 13 (names_never IsSpace (IsHeaderName utf8) IsCloseParenthesis (so_far.names ++ xs size ∷ []) 13 (octet_never 32 13 (λ e. omega (arith, e))) (octet_never 41 13 (λ e. omega (arith, e)))))
]
