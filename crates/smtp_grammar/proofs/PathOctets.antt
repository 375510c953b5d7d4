-- Octets that a path goes on with, and where a path in angle brackets is found whole.
use Rattle.std.proofs.Common.{◌≡◌, ℕ, ◌+◌, ◌<◌, ◌==◌, ◌&&◌, ◌||◌, not, List, [], ◌∷◌, ◌++◌, length, Bool, true, false, Some, None, Option, inl, inr, arith, refl, ap, subst, ◌∙◌, append_assoc, length-append}
use Rattle.std.specs.List.{AllByRecursion, flat_map, list_all, slice_split, join_with_byte}
use Rattle.std.specs.Option.{option_map, option_and_then}
use Rattle.std.specs.Prelude.{map}
use Rattle.std.specs.Char.{to_ascii_lowercase}
use Rattle.std.specs.Str.{bytes_eq}
use Rattle.std.proofs.lemmas.Bool.{and_parts, and_from, cases_Bool, or_cases, or_parts, ne_eqb, not-true}
use Rattle.std.proofs.lemmas.Bool.Decides.{nat_tests}
use Rattle.std.proofs.lemmas.List.{take_at, drop_at}
use Rattle.std.proofs.lemmas.List.Concat.{flat_map-cons}
use Rattle.std.proofs.lemmas.List.Folds.{list_all-append}
use Rattle.std.proofs.lemmas.List.Splits.{join_with_byte-slice_split}
use Rattle.std.proofs.lemmas.Slice.Eq.{bytes_eq-Decides}
use Rattle.mail_wire.specs.Octets.{same_name}
use Rattle.field_tokens.specs.declared.Style.TheVariants.{Mail}
use Rattle.field_tokens.specs.declared.TokenKind.{TokenKind}
use Rattle.field_tokens.specs.declared.TokenKind.TheVariants.{Atom, Quoted, Literal, Special, Gap, Comment}
use Rattle.field_tokens.specs.Groups.{Inside, End, Plain, Pair, Nested, IsInside, inside_octets, depth_of}
use Rattle.field_tokens.specs.TokenOctets.{is_atom_octet}
use Rattle.field_tokens.specs.Tokens.{TokenValue, literal_marks}
use Rattle.address_grammar.specs.declared.Address.{Address}
use Rattle.address_grammar.specs.Addresses.{IsAddress, is_domain, is_dot_atom, is_one_literal, is_some_atom, quoted_octet, quoted_string, local_text, address_text}
use Rattle.address_grammar.specs.private.Lexemes.{are_dotted, said_content, contents, is_literal_kind, is_special_of, is_part}
use Rattle.address_grammar.specs.Paths.{ComesInPath, in_angles}
use Rattle.address_grammar.proofs.SoundLemmas.{IsSound, Shape, contents-words, sound_front, sound_rest, sound_words, tokens_sound}
use Rattle.address_grammar.proofs.WritingLemmas.{mark_is}
use Rattle.smtp_grammar.specs.declared.command.Place.{Place}
use Rattle.smtp_grammar.specs.declared.command.Place.TheVariants as place
use Rattle.smtp_grammar.specs.Commands.{after_word, path_and_rest, path_after, path_in, path_len, path_place_after, ends_word, stands_plain}
use Rattle.field_tokens.specs.Squeezed.{is_atom_kind, words_of}

-- ---- octets that a path goes on with

-- The path goes on after the octets, from one place to another, whatever follows them.
abbrev pub Passes : Place → List ℕ → Place → Type 0
Passes at octets next = (rest : List ℕ) → path_len at (octets ++ rest) ≡ option_map (λ n. n + length octets) (path_len next rest)

-- no octets more
more_none : (len : Option ℕ) → len ≡ option_map (λ n. n + 0) len
more_none None = refl
more_none (Some n) = ap Some (omega arith)

-- octets of two texts more
more_both : (a b c : ℕ) → c ≡ a + b → (len : Option ℕ) → option_map (λ n. n + a) (option_map (λ n. n + b) len) ≡ option_map (λ n. n + c) len
more_both a b c sum None = refl
more_both a b c sum (Some n) = ap Some (omega (arith, sum))

-- no octets change nothing
pub passes_none : (at : Place) → Passes at [] at
passes_none at rest = more_none (path_len at rest)

-- the same, where both places are outside of quotes and of a literal
abbrev pub PassesPlain : List ℕ → Type 0
PassesPlain octets = Passes place.Plain octets place.Plain

pub plain_none : PassesPlain []
plain_none = passes_none place.Plain

-- one octet
pub passes_one : (x : ℕ) (at : Place) → stands_plain 62 at x ≡ false → stands_plain 40 at x ≡ false → Passes at (x ∷ []) (path_place_after at x)
unfolding path_len
passes_one x at goes plain rest = rw (goes, plain) refl

-- two texts, one after the other
pub passes_both : (a b : List ℕ) (at next last : Place) → Passes at a next → Passes next b last → Passes at (a ++ b) last
passes_both a b at next last first second rest =
    ap (path_len at) (append_assoc a b rest) ∙ first (b ++ rest) ∙ ap (option_map (λ n. n + length a)) (second rest)
    ∙ more_both (length a) (length b) (length (a ++ b)) (length-append a b) (path_len last rest)

-- an octet that changes nothing outside of quotes and of a literal
abbrev pub goes_on : ℕ → Bool
goes_on x = not (x == 34) && (not (x == 91) && (not (x == 62) && not (x == 40)))

-- such an octet is none of the four
record GoesOn (x : ℕ) : Type 0 where
  no_quote : (x == 34) ≡ false
  no_literal : (x == 91) ≡ false
  no_end : (x == 62) ≡ false
  no_comment : (x == 40) ≡ false

-- the test says so
going_on : (x : ℕ) → goes_on x ≡ true → GoesOn x
going_on x h =
    let first = and_parts (not (x == 34)) (not (x == 91) && (not (x == 62) && not (x == 40))) h in
    let second = and_parts (not (x == 91)) (not (x == 62) && not (x == 40)) first.1 in
    let third = and_parts (not (x == 62)) (not (x == 40)) second.1 in
    record {
      no_quote = not-true (x == 34) first.0;
      no_literal = not-true (x == 91) second.0;
      no_end = not-true (x == 62) third.0;
      no_comment = not-true (x == 40) third.1;
    }

-- the path goes on after such an octet
pub passes_octet : (x : ℕ) → goes_on x ≡ true → Passes place.Plain (x ∷ []) place.Plain
passes_octet x h =
    let is = going_on x h in
    let stays : path_place_after place.Plain x ≡ place.Plain = rw (is.no_quote, is.no_literal) refl in
    subst (Passes place.Plain (x ∷ [])) stays (passes_one x place.Plain is.no_end is.no_comment)

-- and after several
pub passes_octets : (octets : List ℕ) → list_all goes_on octets ≡ true → Passes place.Plain octets place.Plain
passes_octets [] h = passes_none place.Plain
passes_octets (x ∷ octets) h =
    let parts = and_parts (goes_on x) (list_all goes_on octets) h in
    passes_both (x ∷ []) octets place.Plain place.Plain place.Plain (passes_octet x parts.0) (passes_octets octets parts.1)

-- ---- atoms with dots between them

-- an octet of an atom is one
atom_goes : (x : ℕ) → is_atom_octet Mail x ≡ true → goes_on x ≡ true
atom_goes x atom = grind (arith, nat_tests)

-- and so are those of an atom
pub atoms_go : (octets : List ℕ) → list_all (is_atom_octet Mail) octets ≡ true → list_all goes_on octets ≡ true
atoms_go [] h = refl
atoms_go (x ∷ octets) h =
    let parts = and_parts (is_atom_octet Mail x) (list_all (is_atom_octet Mail) octets) h in
    and_from (goes_on x) (list_all goes_on octets) (atom_goes x parts.0) (atoms_go octets parts.1)

-- also where the test asks for one at least
some_atom_goes : (octets : List ℕ) → is_some_atom octets ≡ true → list_all goes_on octets ≡ true
some_atom_goes [] h = cc
some_atom_goes (x ∷ octets) h = atoms_go (x ∷ octets) h

-- octets of two texts
both_go : (a b : List ℕ) → list_all goes_on a ≡ true → list_all goes_on b ≡ true → list_all goes_on (a ++ b) ≡ true
both_go a b p q = list_all-append goes_on a b ∙ and_from (list_all goes_on a) (list_all goes_on b) p q

-- atoms with dots between them
joined_go : (parts : List (List ℕ)) → list_all is_some_atom parts ≡ true → list_all goes_on (join_with_byte 46 parts) ≡ true
joined_go [] h = refl
joined_go (a ∷ []) h = some_atom_goes a (and_parts (is_some_atom a) true h).0
joined_go (a ∷ b ∷ more) h =
    let parts = and_parts (is_some_atom a) (list_all is_some_atom (b ∷ more)) h in
    both_go a (46 ∷ join_with_byte 46 (b ∷ more)) (some_atom_goes a parts.0) (joined_go (b ∷ more) parts.1)

-- a local part that is atoms divided by dots
dot_atom_goes : (local : List ℕ) → is_dot_atom local ≡ true → list_all goes_on local ≡ true
dot_atom_goes local h =
    subst (λ l. list_all goes_on l ≡ true) (join_with_byte-slice_split 46 local) (joined_go (slice_split (λ x. x == 46) local) h)

-- ---- quoted strings

-- an octet of a quoted string's content
passes_quoted_octet : (x : ℕ) → Passes place.Quoted (quoted_octet x) place.Quoted
passes_quoted_octet x = elim (cases_Bool ((x == 34) || (x == 92))) [
  | inl mark ↦ rw (mark) (passes_both (92 ∷ []) (x ∷ []) place.Quoted place.QuotedPair place.Quoted (passes_one 92 place.Quoted refl refl) (passes_one x place.QuotedPair refl refl))
  | inr other ↦
      let parts = or_parts (x == 34) (x == 92) other in
      let stays : path_place_after place.Quoted x ≡ place.Quoted = rw (parts.0, parts.1) refl in
      rw (other) (subst (Passes place.Quoted (x ∷ [])) stays (passes_one x place.Quoted refl refl))
]

-- the content of a quoted string
passes_content : (octets : List ℕ) → Passes place.Quoted (flat_map quoted_octet octets) place.Quoted
passes_content [] = passes_none place.Quoted
passes_content (x ∷ octets) =
    rw (flat_map-cons quoted_octet x octets)
    (passes_both (quoted_octet x) (flat_map quoted_octet octets) place.Quoted place.Quoted place.Quoted (passes_quoted_octet x) (passes_content octets))

-- a quoted string
passes_quoted : (local : List ℕ) → Passes place.Plain (quoted_string local) place.Plain
passes_quoted local =
    let content = flat_map quoted_octet local in
    passes_both (34 ∷ []) (content ++ 34 ∷ []) place.Plain place.Quoted place.Plain (passes_one 34 place.Plain refl refl)
    (passes_both content (34 ∷ []) place.Quoted place.Quoted place.Plain (passes_content local) (passes_one 34 place.Quoted refl refl))

-- a local part, as it is written
passes_local : (local : List ℕ) → Passes place.Plain (local_text local) place.Plain
passes_local local = elim (cases_Bool (is_dot_atom local)) [
  | inl dotted ↦ rw (dotted) (passes_octets local (dot_atom_goes local dotted))
  | inr other ↦ rw (other) (passes_quoted local)
]

-- ---- domains

-- what an atom says
atom_token_goes : (kind : TokenKind) (octets : List ℕ) → is_atom_kind kind ≡ true → Shape kind octets → list_all goes_on (said_content kind octets) ≡ true
atom_token_goes Atom octets h shape = atoms_go octets shape.1
atom_token_goes Quoted octets h shape = cc h
atom_token_goes Literal octets h shape = cc h
atom_token_goes Special octets h shape = cc h
atom_token_goes Gap octets h shape = refl
atom_token_goes Comment octets h shape = refl

-- what atoms divided by dots say
dotted_go : (ws : List TokenValue) → are_dotted (is_part false) ws ≡ true → AllByRecursion IsSound ws → list_all goes_on (contents ws) ≡ true
dotted_go [] h s = refl
dotted_go (w ∷ []) h s = both_go (said_content w.kind w.octets) [] (atom_token_goes w.kind w.octets h s.0.shape) refl
dotted_go (w ∷ d ∷ ws) h s =
    let parts = and_parts (is_part false w) (is_special_of 46 d && are_dotted (is_part false) ws) h in
    let others = and_parts (is_special_of 46 d) (are_dotted (is_part false) ws) parts.1 in
    rw (mark_is 46 d others.0)
    (both_go (said_content w.kind w.octets) (46 ∷ contents ws) (atom_token_goes w.kind w.octets parts.0 s.0.shape) (dotted_go ws others.1 s.1.1))

-- what stands in a literal, in which no other one may stand
passes_inside : (inside : Inside) → IsInside literal_marks inside → depth_of inside < 1 → Passes place.Literal (inside_octets literal_marks inside) place.Literal
passes_inside End is flat = passes_none place.Literal
passes_inside (Plain x more) is flat =
    let stays : path_place_after place.Literal x ≡ place.Literal = rw (ne_eqb x 93 is.1, ne_eqb x 92 is.2) refl in
    passes_both (x ∷ []) (inside_octets literal_marks more) place.Literal place.Literal place.Literal
    (subst (Passes place.Literal (x ∷ [])) stays (passes_one x place.Literal refl refl)) (passes_inside more is.4 flat)
passes_inside (Pair x more) is flat =
    passes_both (92 ∷ []) (x ∷ inside_octets literal_marks more) place.Literal place.LiteralPair place.Literal (passes_one 92 place.Literal refl refl)
    (passes_both (x ∷ []) (inside_octets literal_marks more) place.LiteralPair place.Literal place.Literal (passes_one x place.LiteralPair refl refl) (passes_inside more is.1 flat))
passes_inside (Nested inside more) is flat = absurd (omega (arith, flat))

-- a literal
pub passes_literal : (kind : TokenKind) (octets : List ℕ) → is_literal_kind kind ≡ true → Shape kind octets → Passes place.Plain (said_content kind octets) place.Plain
passes_literal Literal octets h shape =
    let inside = inside_octets literal_marks shape.inside in
    rw (shape.spelled)
    (passes_both (91 ∷ []) (inside ++ 93 ∷ []) place.Plain place.Literal place.Plain (passes_one 91 place.Plain refl refl)
    (passes_both inside (93 ∷ []) place.Literal place.Literal place.Plain (passes_inside shape.inside shape.is_inside shape.shallow) (passes_one 93 place.Literal refl refl)))
passes_literal Atom octets h shape = cc h
passes_literal Quoted octets h shape = cc h
passes_literal Special octets h shape = cc h
passes_literal Gap octets h shape = cc h
passes_literal Comment octets h shape = cc h

-- a domain that is a literal
passes_one_literal : (ws : List TokenValue) → is_one_literal ws ≡ true → AllByRecursion IsSound ws → Passes place.Plain (contents ws) place.Plain
passes_one_literal [] h s = cc h
passes_one_literal (w ∷ []) h s =
    passes_both (said_content w.kind w.octets) [] place.Plain place.Plain place.Plain (passes_literal w.kind w.octets h s.0.shape) (passes_none place.Plain)
passes_one_literal (w ∷ v ∷ ws) h s = cc h

-- what a domain says
passes_domain : (tokens : List TokenValue) → is_domain tokens ≡ true → AllByRecursion IsSound tokens → Passes place.Plain (contents tokens) place.Plain
passes_domain tokens h s = rw (contents-words tokens) (elim (or_cases (are_dotted (is_part false) (words_of tokens)) (is_one_literal (words_of tokens)) h) [
  | inl dotted ↦ passes_octets (contents (words_of tokens)) (dotted_go (words_of tokens) dotted (sound_words tokens s))
  | inr one ↦ passes_one_literal (words_of tokens) one (sound_words tokens s)
])

-- ---- the whole path

-- an address, as it is written
passes_tokens : (tokens : List TokenValue) (address : Address) → AllByRecursion IsSound tokens → IsAddress tokens address → Passes place.Plain (address_text address) place.Plain
passes_tokens tokens address sound is =
    let parts : AllByRecursion IsSound (is.local ++ is.at ∷ is.domain) = rw is.whole at sound in
    let domain = (sound_rest is.local (is.at ∷ is.domain) parts).1 in
    passes_both (local_text address.local) (64 ∷ address.domain) place.Plain place.Plain place.Plain (passes_local address.local)
    (passes_both (64 ∷ []) address.domain place.Plain place.Plain place.Plain (passes_octet 64 refl) (rw is.domain_says (passes_domain is.domain is.is_domain domain)))

-- an address that comes in some path
pub passes_address : (address : Address) → ComesInPath address → PassesPlain (address_text address)
passes_address address comes =
    let path = comes.1 in
    let sound = tokens_sound path.tokens comes.0 path.has_tokens.are_tokens path.has_tokens.is_line in
    let angled = path.is_path.angled in
    let following = (sound_rest path.is_path.before (angled.open_mark ∷ (path.is_path.inner ++ angled.close_mark ∷ angled.after)) (rw angled.whole at sound)).1 in
    passes_tokens path.is_path.inner address (sound_front path.is_path.inner (angled.close_mark ∷ angled.after) following) path.is_path.holds

-- a path ends with this `>`
ends_here : (rest : List ℕ) → path_len place.Plain (62 ∷ rest) ≡ Some 1
unfolding path_len
ends_here rest = refl

-- how long the path in its angle brackets is
pub written_len : (octets rest : List ℕ) → Passes place.Plain octets place.Plain → path_len place.Plain (in_angles octets ++ rest) ≡ Some (length (in_angles octets))
written_len octets rest passes =
    let all = passes_both (60 ∷ []) octets place.Plain place.Plain place.Plain (passes_octet 60 refl) passes (62 ∷ rest) in
    ap (λ back. path_len place.Plain (60 ∷ back)) (append_assoc octets (62 ∷ []) rest) ∙ all
    ∙ ap (option_map (λ n. n + length (60 ∷ octets))) (ends_here rest) ∙ ap Some (omega (arith, length-append octets (62 ∷ [])))

-- what stands before the place where the path ends, and after it
found_at : (path rest : List ℕ) → ends_word rest ≡ true → path_and_rest (path ++ rest) (length path) ≡ Some (record { path = path; rest = rest })
found_at path rest apart = rw (drop_at path rest (length path) refl, take_at path rest (length path) refl, apart) refl

-- the path is found whole
octets_found : (octets rest : List ℕ) → PassesPlain octets → ends_word rest ≡ true
    → path_in (in_angles octets ++ rest) ≡ Some (record { path = in_angles octets; rest = rest })
octets_found octets rest passes apart =
    ap (option_and_then (path_and_rest (in_angles octets ++ rest))) (written_len octets rest passes) ∙ found_at (in_angles octets) rest apart

-- ---- after a word

-- octets are equal to themselves
same_itself : (xs : List ℕ) → bytes_eq xs xs ≡ true
same_itself xs = (bytes_eq-Decides xs xs).1 refl

-- a word is followed by what stands after it
follows_word : (word text : List ℕ) → after_word word (word ++ 60 ∷ text) ≡ Some (60 ∷ text)
unfolding same_name
follows_word word text =
    rw (take_at word (60 ∷ text) (length word) refl, drop_at word (60 ∷ text) (length word) refl, same_itself (map to_ascii_lowercase word)) refl

-- and so it is where a space stands between
follows_space : (word text : List ℕ) → after_word word (word ++ 32 ∷ text) ≡ Some text
unfolding same_name
follows_space word text =
    rw (take_at word (32 ∷ text) (length word) refl, drop_at word (32 ∷ text) (length word) refl, same_itself (map to_ascii_lowercase word)) refl

-- the path is found after a word
pub found_after : (word octets rest : List ℕ) → PassesPlain octets → ends_word rest ≡ true
    → path_after word (word ++ (in_angles octets ++ rest)) ≡ Some (record { path = in_angles octets; rest = rest })
found_after word octets rest passes apart =
    ap (option_and_then path_in) (follows_word word ((octets ++ 62 ∷ []) ++ rest)) ∙ octets_found octets rest passes apart

-- and after a word and a space
pub found_spaced : (word octets rest : List ℕ) → PassesPlain octets → ends_word rest ≡ true
    → path_after word (word ++ 32 ∷ (in_angles octets ++ rest)) ≡ Some (record { path = in_angles octets; rest = rest })
found_spaced word octets rest passes apart =
    ap (option_and_then path_in) (follows_space word (in_angles octets ++ rest)) ∙ octets_found octets rest passes apart
