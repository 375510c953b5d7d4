-- The text of an address as it is served is read back.
use Rattle.std.proofs.Common.{◌≡◌, ℕ, Bool, true, false, not, ◌||◌, eqb, inl, inr, List, [], ◌∷◌, ◌++◌, Option, Some, None, refl, sym, ap, ◌∙◌, subst, arith}
use Rattle.std.proofs.lemmas.Bool.{and_parts, and_from, cases_Bool}
use Rattle.std.proofs.lemmas.Bool.Decides.{nat_tests}
use Rattle.std.proofs.lemmas.List.{append_assoc}
use Rattle.std.proofs.lemmas.List.Elements.{All-weaker}
use Rattle.std.proofs.lemmas.List.Folds.{list_all-append}
use Rattle.std.proofs.lemmas.List.Sums.{list_all-from_AllPass}
use Rattle.std.specs.List.{AllByRecursion, flat_map, list_all}
use Rattle.mail_wire.specs.Octets.{is_ascii}
use Rattle.mail_wire.proofs.AllLemmas.{pass-weaker}
use Rattle.field_tokens.specs.declared.Style.TheVariants.{Mail}
use Rattle.field_tokens.specs.TokenOctets.{is_atom_octet, is_line_octet}
use Rattle.field_tokens.specs.Tokens.{TokenValue}
use Rattle.ace_domains.specs.Domains.{is_atext as is_name_atom_octet, IsAtom, is_host_octet, normal_form, SameDomain}
use Rattle.ace_domains.proofs.FormLemmas.{form_own, form_name, form_domain}
use Rattle.address_grammar.specs.declared.Address.{Address}
use Rattle.address_grammar.specs.private.Lexemes.{is_blank_token, is_part, contents, are_dotted}
use Rattle.address_grammar.specs.Addresses.{is_domain, IsAddress, is_some_atom, is_dot_atom, quoted_octet, local_text, address_text}
use Rattle.address_lists.specs.ListPieces.{served_domain, with_domain, served_address}
use Rattle.address_grammar.proofs.SoundLemmas.{IsSound, sound_front, sound_rest, contents_line, contents-words}
use Rattle.address_grammar.proofs.WritingLemmas.{Writes, dotted_writes, domain_writes, words_again, dotted_tokens, dotted_shapes, dotted_again, dotted_words, dotted_contents, local_written, mark}
use Rattle.field_tokens.specs.Squeezed.{words_of}

-- a served domain is the same domain
pub served_same : (domain served : List ℕ) → served_domain domain ≡ Some served → SameDomain served domain
served_same domain served e = elim (cases_Bool (list_all is_ascii domain)) [
  | inl ascii ↦ let same : domain ≡ served = cc (rw (ascii) at e) in rw (same) refl
  | inr other ↦
      let form : normal_form domain ≡ Some served = rw (other) at e in
      rw (form, form_own domain served form) refl
]

-- ---- the parts of an address that is served

pub record TellsServed (a served : Address) : Type 0 where
  pub ascii : list_all is_ascii a.local ≡ true
  pub local : served.local ≡ a.local
  pub domain : served_domain a.domain ≡ Some served.domain

with_domain_parts : (local : List ℕ) (o : Option (List ℕ)) (served : Address) → with_domain local o ≡ Some served → (served.local ≡ local) × (o ≡ Some served.domain)
with_domain_parts local None served e = cc e
with_domain_parts local (Some domain) served e =
    let same : record { local = local; domain = domain } ≡ served = cc e in
    (sym (ap (λ (a : Address). a.local) same), ap (λ (a : Address). Some a.domain) same)

pub served_parts : (a served : Address) → served_address a ≡ Some served → TellsServed a served
served_parts a served e = elim (cases_Bool (list_all is_ascii a.local)) [
  | inl ascii ↦ let parts = with_domain_parts a.local (served_domain a.domain) served (rw (ascii) at e) in record { ascii = ascii; local = parts.0; domain = parts.1 }
  | inr other ↦ cc (rw (other) at e)
]

-- what is ASCII is served as it stands
pub served_ascii : (a : Address) → list_all is_ascii a.local ≡ true → list_all is_ascii a.domain ≡ true → served_address a ≡ Some a
served_ascii a local domain = rw (local, domain) (let eta : record { local = a.local; domain = a.domain } ≡ a = refl in ap Some eta)

-- ---- domains

-- tokens of a domain, and its octets
record WritesDomain (domain : List ℕ) : Type 0 where
  tokens : List TokenValue
  writes : Writes domain tokens
  is_domain : is_domain tokens ≡ true
  says : domain ≡ contents tokens
  words : words_of tokens ≡ tokens
  ascii : list_all is_ascii domain ≡ true
  line : list_all is_line_octet domain ≡ true

name_atom : (x : ℕ) → is_name_atom_octet x ≡ true → is_atom_octet Mail x ≡ true
name_atom x h = grind (arith, nat_tests)

name_ascii : (x : ℕ) → is_host_octet x ≡ true → is_ascii x ≡ true
name_ascii x h = grind (arith, nat_tests)

name_line : (x : ℕ) → is_host_octet x ≡ true → is_line_octet x ≡ true
name_line x h = grind (arith, nat_tests)

atom_some : (a : List ℕ) → IsAtom a → is_some_atom a ≡ true
atom_some [] is = absurd (omega (arith, is.some))
atom_some (x ∷ a) is = pass-weaker is_name_atom_octet (is_atom_octet Mail) name_atom (x ∷ a) is.octets

dotted_domain : (ts : List TokenValue) → are_dotted (is_part false) (words_of ts) ≡ true → is_domain ts ≡ true
dotted_domain ts h = rw h refl

form_written : (domain form : List ℕ) → normal_form domain ≡ Some form → WritesDomain form
form_written domain form e =
    let is = form_domain domain form e in
    let name = form_name domain form e in
    let atoms : list_all is_some_atom is.atoms ≡ true = list_all-from_AllPass is_some_atom is.atoms (All-weaker IsAtom (λ a. is_some_atom a ≡ true) atom_some is.atoms is.each) in
    let dotted = dotted_again is.atoms is.some in
    let says : form ≡ contents (dotted_tokens is.atoms) = is.whole ∙ sym (dotted_contents is.atoms) in
    record {
      tokens = dotted_tokens is.atoms;
      writes = record { are_tokens = λ more rest stops are. rw (sym says) at (dotted_writes (dotted_tokens is.atoms) dotted (dotted_shapes is.atoms atoms) more rest stops are) };
      is_domain = dotted_domain (dotted_tokens is.atoms) (rw (dotted_words is.atoms) dotted);
      says = says;
      words = dotted_words is.atoms;
      ascii = pass-weaker is_host_octet is_ascii name_ascii form name.octets;
      line = pass-weaker is_host_octet is_line_octet name_line form name.octets;
    }

own_written : (ts : List TokenValue) (domain : List ℕ) → AllByRecursion IsSound ts → is_domain ts ≡ true → domain ≡ contents ts → list_all is_ascii domain ≡ true → WritesDomain domain
own_written ts domain sound is says ascii = record {
  tokens = words_of ts;
  writes = rw (says) (domain_writes ts is sound);
  is_domain = rw (words_again ts) is;
  says = says ∙ contents-words ts;
  words = words_again ts;
  ascii = ascii;
  line = rw (says) (contents_line ts sound);
}

served_written : (ts : List TokenValue) (domain served : List ℕ) → AllByRecursion IsSound ts → is_domain ts ≡ true → domain ≡ contents ts → served_domain domain ≡ Some served → WritesDomain served
served_written ts domain served sound is says e = elim (cases_Bool (list_all is_ascii domain)) [
  | inl ascii ↦ let same : domain ≡ served = cc (rw (ascii) at e) in rw (← same) (own_written ts domain sound is says ascii)
  | inr other ↦ form_written domain served (rw (other) at e)
]

-- ---- local parts

quoted_all : (q : ℕ → Bool) → q 92 ≡ true → (octets : List ℕ) → list_all q octets ≡ true → list_all q (flat_map quoted_octet octets) ≡ true
quoted_all q slash [] h = refl
quoted_all q slash (x ∷ octets) h =
    let parts = and_parts (q x) (list_all q octets) h in
    let more = and_from (q x) (list_all q (flat_map quoted_octet octets)) parts.0 (quoted_all q slash octets parts.1) in
    elim (cases_Bool (eqb x 34 || eqb x 92)) [
      | inl mark ↦ rw (mark) (and_from (q 92) (list_all q (x ∷ flat_map quoted_octet octets)) slash more)
      | inr other ↦ rw (other) more
    ]

local_all : (q : ℕ → Bool) → q 34 ≡ true → q 92 ≡ true → (local : List ℕ) → list_all q local ≡ true → list_all q (local_text local) ≡ true
local_all q quote slash local h = elim (cases_Bool (is_dot_atom local)) [
  | inl dotted ↦ rw (dotted) h
  | inr other ↦
      let inside : list_all q (flat_map quoted_octet local ++ 34 ∷ []) ≡ true
      = list_all-append q (flat_map quoted_octet local) (34 ∷ []) ∙ and_from (list_all q (flat_map quoted_octet local)) (list_all q (34 ∷ [])) (quoted_all q slash local h) (and_from (q 34) true quote refl) in
      rw (other) (and_from (q 34) (list_all q (flat_map quoted_octet local ++ 34 ∷ [])) quote inside)
]

-- ---- the whole address

-- no token is a gap or a comment
abbrev pub HasNoBlank : List TokenValue → Type 0
HasNoBlank ts = list_all (λ t. not (is_blank_token t)) ts ≡ true

words_pass : (ts : List TokenValue) → HasNoBlank (words_of ts)
words_pass [] = refl
words_pass (t ∷ ts) = elim (cases_Bool (is_blank_token t)) [
  | inl blank ↦ rw (blank) (words_pass ts)
  | inr word ↦ rw (word, word) (words_pass ts)
]

-- tokens of the text of an address, wherever no octet of an atom follows
pub record WritesAddress (served : Address) : Type 0 where
  pub tokens : List TokenValue
  pub writes : Writes (address_text served) tokens
  pub is_address : IsAddress tokens served
  pub no_blank : HasNoBlank tokens
  pub ascii : list_all is_ascii (address_text served) ≡ true
  pub line : list_all is_line_octet (address_text served) ≡ true

both_all : (q : ℕ → Bool) → q 64 ≡ true → (a b : List ℕ) → list_all q a ≡ true → list_all q b ≡ true → list_all q (a ++ 64 ∷ b) ≡ true
both_all q at a b h k = list_all-append q a (64 ∷ b) ∙ and_from (list_all q a) (list_all q (64 ∷ b)) h (and_from (q 64) (list_all q b) at k)

written_from : (served : Address) (domain : WritesDomain served.domain) → list_all is_ascii served.local ≡ true → list_all is_line_octet served.local ≡ true → WritesAddress served
written_from served domain ascii line =
    let local = local_written served.local in
    record {
      tokens = local.0 ++ mark 64 ∷ domain.tokens;
      writes = record {
        are_tokens = λ more rest stops are.
            rw (append_assoc local.0 (mark 64 ∷ domain.tokens) more, append_assoc (local_text served.local) (64 ∷ served.domain) rest)
            (local.1.writes.are_tokens (mark 64 ∷ (domain.tokens ++ more)) (64 ∷ (served.domain ++ rest)) refl (served.domain ++ rest, refl, (64, refl, refl), domain.writes.are_tokens more rest stops are));
      };
      is_address = record {
        local = local.0;
        at = mark 64;
        domain = domain.tokens;
        whole = refl;
        is_at = refl;
        is_local = local.1.is_local;
        is_domain = domain.is_domain;
        local_says = local.1.says;
        domain_says = domain.says;
      };
      no_blank = list_all-append (λ t. not (is_blank_token t)) local.0 (mark 64 ∷ domain.tokens)
          ∙ and_from (list_all (λ t. not (is_blank_token t)) local.0) (list_all (λ t. not (is_blank_token t)) (mark 64 ∷ domain.tokens)) (subst HasNoBlank local.1.words (words_pass local.0))
          (subst HasNoBlank domain.words (words_pass domain.tokens));
      ascii = both_all is_ascii refl (local_text served.local) served.domain (local_all is_ascii refl refl served.local ascii) domain.ascii;
      line = both_all is_line_octet refl (local_text served.local) served.domain (local_all is_line_octet refl refl served.local line) domain.line;
    }

-- an address of sound tokens, as it is served
pub address_served : (ts : List TokenValue) (a served : Address) → AllByRecursion IsSound ts → IsAddress ts a → served_address a ≡ Some served → WritesAddress served
address_served ts a served sound is e =
    let parts = served_parts a served e in
    let all : AllByRecursion IsSound (is.local ++ is.at ∷ is.domain) = rw (is.whole) at sound in
    let line : list_all is_line_octet a.local ≡ true = rw (is.local_says) (contents_line is.local (sound_front is.local (is.at ∷ is.domain) all)) in
    written_from served (served_written is.domain a.domain served.domain (sound_rest is.local (is.at ∷ is.domain) all).1 is.is_domain is.domain_says parts.domain)
    (rw (parts.local) parts.ascii) (rw (parts.local) line)
