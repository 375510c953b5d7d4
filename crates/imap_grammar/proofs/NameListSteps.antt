-- The steps of reading names of fields.
use Rattle.std.proofs.Common.{◌≡◌, ℕ, zero, suc, ◌<◌, Bool, true, false, List, [], ◌∷◌, ◌++◌, length, replicate, inl, inr, refl, sym, ap, ◌∙◌, subst, arith}
use Rattle.std.proofs.lemmas.Bool.{and_from}
use Rattle.std.proofs.lemmas.List.{length-replicate}
use Rattle.std.specs.List.{list_all}
use Rattle.imap_words.specs.Languages.{Then, After, Or, IsMoreThan, IsList, IsViable}
use Rattle.imap_words.specs.Reading.{BeginsIn, never, Reads, StopsReading}
use Rattle.imap_words.specs.Going.{Leaves}
use Rattle.imap_words.specs.declared.stop.Stop.{Stop}
use Rattle.imap_words.specs.declared.stop.Stop.TheVariants.{More}
use Rattle.imap_words.specs.declared.tokens.Kind.TheVariants.{NameAstring}
use Rattle.imap_words.specs.declared.strings.Head.{Head}
use Rattle.imap_words.specs.Tokens.{IsSpace, IsOpenParenthesis, IsCloseParenthesis, IsRunOf, passes, is_name_char, is_atom_char, is_astring_char}
use Rattle.imap_words.specs.Strings.{HeadValue, whole, literal, head_value, IsHeaderName, IsNameHead, after_name_head, NameBodyOf}
use Rattle.imap_words.proofs.Passing.{no_octets}
use Rattle.imap_words.proofs.Composing.{Avoids}
use Rattle.imap_words.proofs.TokenSteps.{octet_viable}
use Rattle.imap_words.proofs.Going.{octet_avoids, then_avoids, then_viable, then_never, never_avoids, is_viable}
use Rattle.imap_words.proofs.Choosing.{octet_at, more_avoids, more_viable}
use Rattle.imap_words.proofs.Leaving.{here, leaves_all, leaves_then}
use Rattle.imap_words.proofs.NameLaws.{name_parts, name_whole}
use Rattle.imap_grammar.specs.declared.command.Command.{Command}
use Rattle.imap_grammar.specs.declared.command.SectionPart.TheVariants as part
use Rattle.imap_grammar.specs.declared.awaited.Fetching.{Fetching}
use Rattle.imap_grammar.specs.declared.awaited.FieldNames.{FieldNames}
use Rattle.imap_grammar.specs.declared.awaited.Awaited.TheVariants as awaited
use Rattle.imap_grammar.specs.declared.fetch.Step.{Step}
use Rattle.imap_grammar.specs.declared.fetch.Step.TheVariants.{Awaits}
use Rattle.imap_grammar.specs.Fetching.{IsHeaderList}
use Rattle.imap_grammar.specs.Awaiting.{IsAfterHeader, IsAfterNames, IsLiteralBody, IsRestAtLiteral}
use Rattle.imap_grammar.specs.FetchParts.{with_name, Goes, IsSectionEnd, AreNames}
use Rattle.imap_grammar.proofs.Sames.{Same, same_on, first_same, second_same, then_apart, is_then, more_steps, viable_same, leaves_same, leaves_left, leaves_right, begun_stops}
use Rattle.imap_grammar.proofs.CommandSteps.{header_word, header_later}
use Rattle.imap_grammar.proofs.FetchEnds.{end_viable}

-- ---- what a name's octets don't go on with

space_ends : passes NameAstring 32 ≡ false
unfolding is_atom_char is_astring_char is_name_char
space_ends = refl

close_ends : passes NameAstring 41 ≡ false
unfolding is_atom_char is_astring_char is_name_char
close_ends = refl

name_a : is_name_char 97 ≡ true
unfolding is_name_char
name_a = refl

pub letters_ok : (n : ℕ) → list_all is_name_char (replicate n 97) ≡ true
letters_ok zero = refl
letters_ok (suc n) = and_from (is_name_char 97) (list_all is_name_char (replicate n 97)) name_a (letters_ok n)

-- a name can be had
one_name : (utf8 : Bool) → IsHeaderName utf8 (97 ∷ []) (97 ∷ [])
unfolding is_atom_char is_astring_char is_name_char
one_name utf8 = record { is_astring = inl (record { some = omega arith; passes = refl; value_is = refl }); is_name = record { some = omega arith; passes = refl; value_is = refl } }

-- a literal that is a name has an octet
name_size : (octets : List ℕ) (n : ℕ) → IsNameHead octets (literal n) → 0 < n
name_size octets n (inl run) = absurd (cc run.second.1)
name_size octets n (inr (inl quoted)) = absurd (cc quoted.second.1)
name_size octets n (inr (inr header)) = let same : n ≡ header.value = cc header.second.1 in subst (λ z. 0 < z) (sym same) header.first.some

-- its header
name_header : {text mid : List ℕ} {n : ℕ} → Reads IsNameHead after_name_head text (literal n) mid → IsAfterHeader text n mid
name_header {text} {mid} {n} r = by r.is_word
  where
    by : IsNameHead r.word (literal n) → IsAfterHeader text n mid
    by (inl run) = absurd (cc run.second.1)
    by (inr (inl quoted)) = absurd (cc quoted.second.1)
    by (inr (inr header)) = header_word r.whole (record { value = header.value; front = header.front; back = header.back; whole = header.whole; first = header.first.is_header; second = header.second })

-- ---- a list of names, and the section's end

module _ (utf8 : Bool) (f : FieldNames) where
  -- after names
  names_avoid : (names : List (List ℕ)) → Avoids (passes NameAstring) (IsAfterNames utf8 f names)
  names_avoid names = then_avoids (passes NameAstring) (IsMoreThan IsSpace (IsHeaderName utf8) IsCloseParenthesis names) _
      (more_avoids IsSpace (IsHeaderName utf8) IsCloseParenthesis (passes NameAstring) names (octet_avoids (passes NameAstring) 32 space_ends) (octet_avoids (passes NameAstring) 41 close_ends))

  pub names_viable : (names : List (List ℕ)) → IsViable (IsAfterNames utf8 f names) []
  names_viable names = then_viable (IsMoreThan IsSpace (IsHeaderName utf8) IsCloseParenthesis names) _ (more_viable IsSpace (IsHeaderName utf8) IsCloseParenthesis names (octet_viable 41)) (λ all. end_viable utf8 f.fetching f.peek f.path (part.Fields all f.negated))

  names_more : (names : List (List ℕ)) (text : List ℕ) → length text ≡ 0 → IsViable (IsAfterNames utf8 f names) text
  names_more names text e = subst (λ z. IsViable (IsAfterNames utf8 f names) z) (sym (no_octets text e)) (names_viable names)

  pub names_stop : (names : List (List ℕ)) {L : List ℕ → Command → Type 0} {text rest : List ℕ} → Leaves L text (IsAfterNames utf8 f names) rest → length rest ≡ 0 → StopsReading L never text More
  names_stop names {L} {text} {rest} l e = (here l).stops never More (names_more names rest e)

  -- after a name
  abbrev pub NextName : List (List ℕ) → List ℕ → List ℕ → Command → Type 0
  NextName names v = IsAfterNames utf8 f (names ++ v ∷ [])

  abbrev pub AtName : List (List ℕ) → List ℕ → Command → Type 0
  AtName names = Then (IsHeaderName utf8) (NextName names)

  abbrev pub AtHead : List (List ℕ) → List ℕ → Command → Type 0
  AtHead names = Then IsNameHead (λ head. Then (NameBodyOf head) (NextName names))

  at_head : (names : List (List ℕ)) → Same (AtName names) (AtHead names)
  at_head names =
      same_on (AtName names) (Then (Then IsNameHead NameBodyOf) (NextName names)) (AtHead names) (first_same (IsHeaderName utf8) (Then IsNameHead NameBodyOf) (NextName names) (name_parts utf8, name_whole utf8))
      (then_apart IsNameHead NameBodyOf (NextName names))

  head_avoids : (names : List (List ℕ)) (head : HeadValue) → Avoids (after_name_head head) (Then (NameBodyOf head) (NextName names))
  head_avoids names (literal n) = never_avoids _
  head_avoids names (whole v) = λ a b w both begin. names_avoid (names ++ v ∷ []) both.back b w (subst (λ z. NextName names z both.back w) both.first.1 both.second)
      (subst (λ z. BeginsIn (passes NameAstring) (z ++ b)) (both.whole ∙ ap (λ z. z ++ both.back) both.first.0) begin)

  body_viable : (octets : List ℕ) (head : HeadValue) → IsNameHead octets head → IsViable (NameBodyOf head) []
  body_viable octets (whole v) is = is_viable v
  body_viable octets (literal n) is = record {
    rest = replicate n 97;
    value = replicate n 97;
    is_word = ((length-replicate n 97, refl), record { some = subst (λ z. 0 < z) (sym (length-replicate n 97)) (name_size octets n is); passes = letters_ok n; value_is = refl });
  }

  head_viable : (names : List (List ℕ)) (octets : List ℕ) (head : HeadValue) → IsNameHead octets head → IsViable (Then (NameBodyOf head) (NextName names)) []
  head_viable names octets head is = then_viable (NameBodyOf head) (NextName names) (body_viable octets head is) (λ v. names_viable (names ++ v ∷ []))

  pub name_viable : (names : List (List ℕ)) → IsViable (AtName names) []
  name_viable names = then_viable (IsHeaderName utf8) (NextName names) (record { rest = 97 ∷ []; value = 97 ∷ []; is_word = one_name utf8 }) (λ v. names_viable (names ++ v ∷ []))

  -- ---- at a name

  module _ {L : List ℕ → Command → Type 0} {text rest : List ℕ} (names : List (List ℕ)) (l : Leaves L text (AtName names) rest) where
    by_head : Leaves L text (AtHead names) rest
    by_head = leaves_same (AtHead names) l (at_head names)

    pub name_stops : (stop : Stop) → StopsReading IsNameHead after_name_head rest stop → StopsReading L never text stop
    name_stops stop stops = (here by_head).stops never stop (begun_stops IsNameHead (λ head. Then (NameBodyOf head) (NextName names)) after_name_head never rest stop stops (head_avoids names) (head_viable names))

    -- all of it was read
    pub name_read : (head : Head) (v mid : List ℕ) → head_value head ≡ whole v → Reads IsNameHead after_name_head rest (head_value head) mid → Leaves L text (NextName names v) mid
    name_read head v mid e r =
        leaves_same (NextName names v) (leaves_then by_head (subst (λ z. Reads IsNameHead after_name_head rest z mid) e r) (head_avoids names)) (is_then v (NextName names))

    -- a literal's header was read
    pub name_awaits : (head : Head) (n : ℕ) (mid : List ℕ) → head_value head ≡ literal n → Reads IsNameHead after_name_head rest (head_value head) mid
        → IsAfterHeader text n mid × (0 < n) × Leaves L text (Then (NameBodyOf (literal n)) (NextName names)) mid
    name_awaits head n mid e r =
        let reads = subst (λ z. Reads IsNameHead after_name_head rest z mid) e r in
        (header_later by_head (name_header reads), name_size reads.word n reads.is_word, leaves_then by_head reads (head_avoids names))

  -- ---- after a name

  abbrev pub Closes : List (List ℕ) → List ℕ → Command → Type 0
  Closes names = After IsCloseParenthesis (IsSectionEnd utf8 f.fetching f.peek f.path (part.Fields names f.negated))

  abbrev pub Spaced : List (List ℕ) → List ℕ → Command → Type 0
  Spaced names = After IsSpace (AtName names)

  names_steps : (names : List (List ℕ)) → Same (IsAfterNames utf8 f names) (Or (Closes names) (Spaced names))
  names_steps names = more_steps IsSpace (IsHeaderName utf8) IsCloseParenthesis (λ all. IsSectionEnd utf8 f.fetching f.peek f.path (part.Fields all f.negated)) names

  module _ {L : List ℕ → Command → Type 0} {text rest : List ℕ} (names : List (List ℕ)) (l : Leaves L text (IsAfterNames utf8 f names) rest) (x : ℕ) (xs : List ℕ) (e : rest ≡ x ∷ xs) where
    pub names_close : (x ≡ 32 → ⊥) → Leaves L text (Closes names) rest
    names_close other = leaves_left (Closes names) (Spaced names) (leaves_same (Or (Closes names) (Spaced names)) l (names_steps names)) x xs e (then_never 32 x (λ _. AtName names) other)

    pub names_next : x ≡ 32 → Leaves L text (AtName names) xs
    names_next same =
        leaves_then
        (leaves_right (Closes names) (Spaced names) (leaves_same (Or (Closes names) (Spaced names)) l (names_steps names)) x xs e (then_never 41 x _ (λ bad. omega (arith, same, bad))))
        (octet_at rest x 32 xs e same) (λ _. never_avoids _)

-- ---- what was read is put last

-- the literal is awaited
pub names_await : {L : List ℕ → Command → Type 0} {text mid : List ℕ} (utf8 : Bool) (f : FieldNames) (n : ℕ)
    → IsAfterHeader text n mid × (0 < n) × Leaves L text (Then (NameBodyOf (literal n)) (NextName utf8 f f.names)) mid → Goes utf8 L text (Awaits n f) mid
names_await {L} {text} {mid} utf8 f n r = (
  r.0,
  r.1,
  leaves_same (IsRestAtLiteral utf8 n (awaited.FieldName f)) r.2
      (first_same (NameBodyOf (literal n)) (IsLiteralBody n (awaited.FieldName f)) (NextName utf8 f f.names)
      ((λ octets v is. (is.0, subst (λ z. IsRunOf is_name_char z z) (sym is.0.1) is.1)), (λ octets v is. (is.0, subst (λ z. IsRunOf is_name_char z z) is.0.1 is.1)))),
)

pub names_put : {L : List ℕ → Command → Type 0} {text mid : List ℕ} {made : FieldNames} (utf8 : Bool) (f : FieldNames) (v : List ℕ) → made ≡ with_name f v → Leaves L text (NextName utf8 f f.names v) mid → Leaves L text (IsAfterNames utf8 made made.names) mid
names_put {L} {text} {mid} utf8 f v e l = subst (λ (z : FieldNames). Leaves L text (IsAfterNames utf8 z z.names) mid) (sym e) l

-- after a name that was put last
pub made_left : {made : FieldNames} (utf8 : Bool) (f : FieldNames) (v text : List ℕ) (step : Step) (rest : List ℕ) → made ≡ with_name f v → Goes utf8 (IsAfterNames utf8 made made.names) text step rest → Goes utf8 (IsAfterNames utf8 f (f.names ++ v ∷ [])) text step rest
made_left {made} utf8 f v text step rest e goes = subst (λ (z : FieldNames). Goes utf8 (IsAfterNames utf8 z z.names) text step rest) e goes

pub made_stops : {made : FieldNames} (utf8 : Bool) (f : FieldNames) (v text : List ℕ) (stop : Stop) → made ≡ with_name f v → StopsReading (IsAfterNames utf8 made made.names) never text stop → StopsReading (IsAfterNames utf8 f (f.names ++ v ∷ [])) never text stop
made_stops {made} utf8 f v text stop e s = subst (λ (z : FieldNames). StopsReading (IsAfterNames utf8 z z.names) never text stop) e s

-- ---- the list's begin

module _ (utf8 : Bool) (g : Fetching) (peek : Bool) (path : List ℕ) (negated : Bool) where
  abbrev pub nameless : List (List ℕ) → FieldNames
  nameless names = record { fetching = g; peek = peek; path = path; negated = negated; names = names }

  abbrev pub NamesEnd : List (List ℕ) → List ℕ → Command → Type 0
  NamesEnd names = IsSectionEnd utf8 g peek path (part.Fields names negated)

  list_same : Same (Then (IsHeaderList utf8) NamesEnd) (After IsOpenParenthesis (AtName utf8 (nameless []) []))
  list_same =
      same_on (Then (IsHeaderList utf8) NamesEnd) (After IsOpenParenthesis (Then (IsList IsSpace (IsHeaderName utf8) IsCloseParenthesis) NamesEnd)) (After IsOpenParenthesis (AtName utf8 (nameless []) [])) (then_apart IsOpenParenthesis (λ _. IsList IsSpace (IsHeaderName utf8) IsCloseParenthesis) NamesEnd)
      (second_same IsOpenParenthesis (λ _. Then (IsList IsSpace (IsHeaderName utf8) IsCloseParenthesis) NamesEnd) (λ _. AtName utf8 (nameless []) []) (λ _. then_apart (IsHeaderName utf8) (λ first. IsMoreThan IsSpace (IsHeaderName utf8) IsCloseParenthesis (first ∷ [])) NamesEnd))

  pub list_viable : IsViable (Then (IsHeaderList utf8) NamesEnd) []
  list_viable = viable_same (Then (IsHeaderList utf8) NamesEnd) (After IsOpenParenthesis (AtName utf8 (nameless []) [])) [] list_same (then_viable IsOpenParenthesis _ (octet_viable 40) (λ _. name_viable utf8 (nameless []) []))

  module _ (text mid : List ℕ) (r : Reads IsSpace never text 32 mid) where
    pub list_left : Leaves (AreNames utf8 g peek path negated) text (After IsOpenParenthesis (AtName utf8 (nameless []) [])) mid
    list_left = leaves_same (After IsOpenParenthesis (AtName utf8 (nameless []) [])) (leaves_then (leaves_all (AreNames utf8 g peek path negated) text) r (λ _. never_avoids _)) list_same

    -- no names were read yet
    pub first_left : (rest : List ℕ) (names : List (List ℕ)) → names ≡ [] → Reads IsOpenParenthesis never mid 40 rest → Leaves (AreNames utf8 g peek path negated) text (AtName utf8 (nameless names) (nameless names).names) rest
    first_left rest names e open_read = subst (λ z. Leaves (AreNames utf8 g peek path negated) text (AtName utf8 (nameless z) z) rest) (sym e) (leaves_then list_left open_read (λ _. never_avoids _))
