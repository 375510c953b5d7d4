-- The steps of reading what stands after a literal.
use Rattle.std.proofs.Common.{◌≡◌, ℕ, ◌+◌, ◌-◌, ◌<◌, Bool, true, not, List, [], ◌∷◌, ◌++◌, length, get_or, take, drop, Some, Bor, refl, sym, ap, ◌∙◌, subst, append_assoc, length-append, length-drop, arith, position}
use Rattle.std.proofs.lemmas.Bool.{and_parts, both_ways}
use Rattle.std.proofs.lemmas.List.{take-append-drop, drop_more}
use Rattle.std.specs.List.{list_all}
use Rattle.std.specs.Prelude.{Result, Ok, Err, MatchResult}
use Rattle.mail_wire.proofs.AllLemmas.{pass-append}
use Rattle.imap_words.specs.Languages.{IsViable}
use Rattle.imap_words.specs.Reading.{never, FailsAt, StopsReading}
use Rattle.imap_words.specs.declared.stop.Stop.{Stop}
use Rattle.imap_words.specs.Tokens.{is_name_char}
use Rattle.imap_words.proofs.RunSteps.{all_found}
use Rattle.imap_words.proofs.Going.{never_avoids}
use Rattle.imap_words.proofs.Leaving.{here, leaves_all, leaves_then}
use Rattle.imap_grammar.specs.Awaiting.{Comes, IsLiteralBody, IsAfterLiteral, IsRestAtLiteral, IsSized}
use Rattle.imap_grammar.specs.Standing.{HasBadName}
use Rattle.imap_grammar.specs.declared.command.Command.{Command}
use Rattle.imap_grammar.specs.declared.awaited.Awaited.{Awaited}
use Rattle.imap_grammar.specs.declared.awaited.Awaited.TheVariants as awaited
use Rattle.imap_grammar.specs.declared.awaited.FieldNames.{FieldNames}
use Rattle.imap_grammar.specs.declared.awaited.Next.{Next}
use Rattle.imap_grammar.proofs.CommandSteps.{hands_any}
use Rattle.imap_grammar.proofs.NameListSteps.{letters_ok}
use Rattle.imap_grammar.proofs.StageLaws.{xs, xs_len, body_reads, after_viable}

-- ---- the octets of a literal that is a field's name

pub bad_name : (literal line : List ℕ) (at left : ℕ) → position (λ x. not (is_name_char x)) literal ≡ Some at → left ≡ (length literal - at) + length line → HasBadName literal line left
bad_name literal line at left e so_many =
    let found = all_found is_name_char literal at e in
    record {
      front = take at literal;
      octet = get_or literal at 0;
      back = drop (at + 1) literal;
      whole = sym (take-append-drop at literal) ∙ ap (λ z. take at literal ++ z) (drop_more literal at 0 found.0);
      before = found.1;
      bad = found.2;
      left_is = omega (arith, so_many, found.0, length-drop (at + 1) literal);
    }

-- a name has no other octet
no_name : (front name : List ℕ) (octet : ℕ) (others more : List ℕ) → length front < length name → list_all is_name_char name ≡ true → name ++ others ≡ front ++ octet ∷ more → is_name_char octet ≡ true
no_name front [] octet others more less all e = absurd (omega (arith, less))
no_name [] (y ∷ name) octet others more less all e = subst (λ z. is_name_char z ≡ true) (first e) (and_parts (is_name_char y) (list_all is_name_char name) all).0
  where
    first : y ∷ (name ++ others) ≡ octet ∷ more → y ≡ octet
    first e = cc e
no_name (x ∷ front) (y ∷ name) octet others more less all e = no_name front name octet others more (omega (arith, less)) (and_parts (is_name_char y) (list_all is_name_char name) all).1 (tail e)
  where
    tail : y ∷ (name ++ others) ≡ x ∷ (front ++ octet ∷ more) → name ++ others ≡ front ++ octet ∷ more
    tail e = cc e

-- The first octet that no name has is the first with which the command can't be completed.
module _ (utf8 : Bool) (so_far : FieldNames) (literal line : List ℕ) (left : ℕ) (bad : HasBadName literal line left) where
  abbrev pub NameLeft : List ℕ → Command → Type 0
  NameLeft = IsRestAtLiteral utf8 (length literal) (awaited.FieldName so_far)

  longer : length bad.front < length literal
  longer = omega (arith, ap length bad.whole, length-append bad.front (bad.octet ∷ bad.back))

  -- the literal's octets before it, and others
  abbrev pub completed : List ℕ
  completed = bad.front ++ xs (length literal - length bad.front)

  completed_size : length completed ≡ length literal
  completed_size = omega (arith, length-append bad.front (xs (length literal - length bad.front)), xs_len (length literal - length bad.front), longer)

  front_viable : IsViable NameLeft bad.front
  front_viable =
      let following = after_viable utf8 (awaited.FieldName so_far) completed in
      record {
        rest = xs (length literal - length bad.front) ++ following.rest;
        value = following.value;
        is_word = record {
          value = completed;
          front = completed;
          back = following.rest;
          whole = sym (append_assoc bad.front (xs (length literal - length bad.front)) following.rest);
          first = (
            (completed_size, refl),
            record {
              some = omega (arith, completed_size, longer);
              passes = pass-append is_name_char bad.front (xs (length literal - length bad.front)) bad.before (letters_ok (length literal - length bad.front));
              value_is = refl;
            },
          );
          second = following.is_word;
        };
      }

  none_so : (more a b : List ℕ) (c : Command) → NameLeft a c → a ++ b ≡ bad.front ++ bad.octet ∷ more → ⊥
  none_so more a b c is e =
      let name = is.first in
      both_ways (is_name_char bad.octet) bad.bad
      (no_name bad.front is.front bad.octet (is.back ++ b) more (omega (arith, name.0.0, longer)) (subst (λ z. list_all is_name_char z ≡ true) name.0.1 name.1.passes)
      (sym (append_assoc is.front is.back b) ∙ (ap (λ z. z ++ b) (sym is.whole) ∙ e)))

  pub name_fails : FailsAt NameLeft never (literal ++ line) left
  name_fails = record {
    front = bad.front;
    octet = bad.octet;
    back = bad.back ++ line;
    whole = ap (λ z. z ++ line) bad.whole ∙ append_assoc bad.front (bad.octet ∷ bad.back) line;
    left_is = bad.left_is ∙ sym (length-append (bad.octet ∷ bad.back) line);
    viable = front_viable;
    hopeless = λ more a b c is e. absurd (none_so more a b c is e);
  }

-- ---- what follows the literal

module _ (utf8 : Bool) (literal line : List ℕ) where
  -- what a reader of the line says
  abbrev pub Follows : Awaited → Result (Next × Bor (List ℕ)) Stop → Type 0
  Follows a r = MatchResult r (λ x. Comes utf8 (IsAfterLiteral utf8 a literal) line x.0 x.1.now) (λ stop. StopsReading (IsAfterLiteral utf8 a literal) never line stop)

  -- the same, said of the literal and the line
  abbrev pub Both : Awaited → Result (Next × Bor (List ℕ)) Stop → Type 0
  Both a r = MatchResult r (λ x. IsLiteralBody (length literal) a literal literal × Comes utf8 (IsAfterLiteral utf8 a literal) line x.0 x.1.now) (λ stop. StopsReading (IsRestAtLiteral utf8 (length literal) a) never (literal ++ line) stop)

  follows : (a : Awaited) (r : Result (Next × Bor (List ℕ)) Stop) → IsLiteralBody (length literal) a literal literal → Follows a r → Both a r
  follows a (Ok x) body h = (body, h)
  follows a (Err stop) body h =
      let at = leaves_then (leaves_all (IsRestAtLiteral utf8 (length literal) a) (literal ++ line)) (body_reads (length literal) a literal line body) (λ _. never_avoids _) in
      (here at).stops never stop h

  -- the literal is awaited as this
  pub follows_as : {a this : Awaited} (r : Result (Next × Bor (List ℕ)) Stop) → a ≡ this → IsLiteralBody (length literal) this literal literal → Follows this r → Both a r
  follows_as {a} {this} r e body h = subst (λ z. Both z r) (sym e) (follows this r body h)

  -- the same where what follows doesn't go by the mode
  pub follows_any : {a this : Awaited} (r : Result (Next × Bor (List ℕ)) Stop) → a ≡ this → IsLiteralBody (length literal) this literal literal
      → MatchResult r (λ x. (mode : Bool) → Comes mode (IsAfterLiteral utf8 this literal) line x.0 x.1.now) (λ stop. StopsReading (IsAfterLiteral utf8 this literal) never line stop) → Both a r
  follows_any {a} {this} r e body h = follows_as r e body (hands_any utf8 r (leaves_all (IsAfterLiteral utf8 this literal) line) h)

-- the octets of a literal that is to be a name
pub name_body : {a : Awaited} {so_far : FieldNames} (octets literal : List ℕ) → octets ≡ literal → a ≡ awaited.FieldName so_far → IsSized (length literal) a → list_all is_name_char octets ≡ true
    → IsLiteralBody (length literal) (awaited.FieldName so_far) literal literal
name_body octets literal same e sized all = ((refl, refl), record { some = subst (λ z. IsSized (length literal) z) e sized; passes = subst (λ z. list_all is_name_char z ≡ true) same all; value_is = refl })

pub name_bad : {a : Awaited} {so_far : FieldNames} (utf8 : Bool) (octets literal line : List ℕ) (left : ℕ) → octets ≡ literal → a ≡ awaited.FieldName so_far → HasBadName octets line left
    → FailsAt (IsRestAtLiteral utf8 (length literal) a) never (literal ++ line) left
name_bad {a} {so_far} utf8 octets literal line left same e bad =
    subst (λ z. FailsAt (IsRestAtLiteral utf8 (length literal) z) never (literal ++ line) left) (sym e) (name_fails utf8 so_far literal line left (subst (λ z. HasBadName z line left) same bad))
