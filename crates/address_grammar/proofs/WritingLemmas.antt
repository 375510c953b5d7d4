-- The text of an address is read back.
use Rattle.std.proofs.Common.{◌≡◌, ◌≢◌, ℕ, ◌<◌, true, false, ◌&&◌, ◌||◌, eqb, cond, inl, inr, List, [], ◌∷◌, ◌++◌, length, Some, refl, sym, ap, ◌∙◌, arith}
use Rattle.std.proofs.lemmas.Bool.{and_parts, and_from, cases_Bool, or_cases, or_parts}
use Rattle.std.proofs.lemmas.List.{append_assoc, append-nil}
use Rattle.std.proofs.lemmas.List.Splits.{join_with_byte-slice_split, length-slice_split}
use Rattle.std.proofs.lemmas.Slice.Eq.{bytes_eq-Decides}
use Rattle.std.specs.List.{AllByRecursion, flat_map, list_all, slice_split, join_with_byte}
use Rattle.std.specs.Str.{bytes_eq}
use Rattle.mail_wire.specs.Spans.{Stops}
use Rattle.encoded_words.proofs.WritableUnits.{one_ascii}
use Rattle.field_tokens.specs.declared.Style.TheVariants.{Mail}
use Rattle.field_tokens.specs.declared.TokenKind.{TokenKind}
use Rattle.field_tokens.specs.declared.TokenKind.TheVariants.{Atom, Quoted, Literal, Special, Gap, Comment}
use Rattle.field_tokens.specs.Groups.{Inside, End, Plain, Pair, IsInside, IsEnclosed, inside_octets, depth_of}
use Rattle.field_tokens.specs.TokenOctets.{is_atom_octet, is_line_octet}
use Rattle.field_tokens.specs.Tokens.{TokenValue, AreTokens, IsToken, IsLine, quoted_marks}
use Rattle.address_grammar.specs.declared.Address.{Address}
use Rattle.address_grammar.specs.private.Lexemes.{is_blank_token, is_special_of, is_word_kind, is_literal_kind, is_part, unquoted, said_content, contents, are_dotted}
use Rattle.address_grammar.specs.Addresses.{IsLocal, is_one_literal, is_domain, IsAddress, is_some_atom, is_dot_atom, quoted_octet, quoted_string, local_text, address_text}
use Rattle.address_grammar.specs.Paths.{HasPath, ComesInPath, in_angles}
use Rattle.field_tokens.proofs.TokenLines.{line_append}
use Rattle.address_grammar.proofs.Utf8Lemmas.{quoted_utf8}
use Rattle.address_grammar.proofs.SoundLemmas.{Shape, IsSound, inner-group, tokens_sound, sound_front, sound_rest, sound_words, contents_utf8, contents_line, contents-words}
use Rattle.field_tokens.specs.Squeezed.{is_atom_kind, is_special_kind, words_of}

abbrev pub HasShape : TokenValue → Type 0
HasShape t = Shape t.kind t.octets

sound_shapes : (ts : List TokenValue) → AllByRecursion IsSound ts → AllByRecursion HasShape ts
sound_shapes [] s = tt
sound_shapes (t ∷ ts) s = (s.0.shape, sound_shapes ts s.1)

-- tokens that say the text, wherever no octet of an atom follows
pub record Writes (text : List ℕ) (tokens : List TokenValue) : Type 0 where
  pub are_tokens : (more : List TokenValue) (rest : List ℕ) → Stops (is_atom_octet Mail) rest → AreTokens Mail more rest → AreTokens Mail (tokens ++ more) (text ++ rest)

abbrev atom : List ℕ → TokenValue
atom octets = record { kind = Atom; octets = octets }

abbrev dot : TokenValue
dot = record { kind = Special; octets = 46 ∷ [] }

-- ---- atoms with dots between them

atom_token : (kind : TokenKind) (octets rest : List ℕ) → is_atom_kind kind ≡ true → Shape kind octets → Stops (is_atom_octet Mail) rest → IsToken Mail kind octets rest
atom_token Atom octets rest h shape stops = (shape.0, record { whole = refl; passes = shape.1; stops = stops })
atom_token Quoted octets rest h shape stops = cc h
atom_token Literal octets rest h shape stops = cc h
atom_token Special octets rest h shape stops = cc h
atom_token Gap octets rest h shape stops = cc h
atom_token Comment octets rest h shape stops = cc h

pub atom_content : (kind : TokenKind) (octets : List ℕ) → is_atom_kind kind ≡ true → said_content kind octets ≡ octets
atom_content Atom octets h = refl
atom_content Quoted octets h = cc h
atom_content Literal octets h = cc h
atom_content Special octets h = cc h
atom_content Gap octets h = cc h
atom_content Comment octets h = cc h

pub special_is : (kind : TokenKind) → is_special_kind kind ≡ true → kind ≡ Special
special_is Atom h = cc h
special_is Quoted h = cc h
special_is Literal h = cc h
special_is Special h = refl
special_is Gap h = cc h
special_is Comment h = cc h

-- a mark is the token of its octet
pub mark_is : (m : ℕ) (t : TokenValue) → is_special_of m t ≡ true → t ≡ record { kind = Special; octets = m ∷ [] }
mark_is m t h =
    let parts = and_parts (is_special_kind t.kind) (bytes_eq t.octets (m ∷ [])) h in
    let kind : t.kind ≡ Special = special_is t.kind parts.0 in
    let octets : t.octets ≡ m ∷ [] = (bytes_eq-Decides t.octets (m ∷ [])).0 parts.1 in
    let eta : t ≡ record { kind = Special; octets = m ∷ [] } = rw (← kind, ← octets) refl in eta

pub dotted_writes : (ws : List TokenValue) → are_dotted (is_part false) ws ≡ true → AllByRecursion HasShape ws
    → (more : List TokenValue) (rest : List ℕ) → Stops (is_atom_octet Mail) rest → AreTokens Mail more rest → AreTokens Mail (ws ++ more) (contents ws ++ rest)
dotted_writes [] h s more rest stops are = cc h
dotted_writes (w ∷ []) h s more rest stops are =
    (rest, rw (atom_content w.kind w.octets h, append-nil) refl, atom_token w.kind w.octets rest h s.0 stops, are)
dotted_writes (w ∷ d ∷ ws) h s more rest stops are =
    let parts = and_parts (is_part false w) (is_special_of 46 d && are_dotted (is_part false) ws) h in
    let others = and_parts (is_special_of 46 d) (are_dotted (is_part false) ws) parts.1 in
    let following : AreTokens Mail (ws ++ more) (contents ws ++ rest) = dotted_writes ws others.1 s.1.1 more rest stops are in
    rw (mark_is 46 d others.0) (
      (46 ∷ (contents ws ++ rest)),
      rw (atom_content w.kind w.octets parts.0) (append_assoc w.octets (46 ∷ contents ws) rest),
      atom_token w.kind w.octets (46 ∷ (contents ws ++ rest)) parts.0 s.0 refl,
      (contents ws ++ rest, refl, (46, refl, refl), following),
    )

-- ---- domains

literal_token : (kind : TokenKind) (octets rest : List ℕ) → is_literal_kind kind ≡ true → Shape kind octets → IsToken Mail kind octets rest
literal_token Literal octets rest h shape = (refl, shape)
literal_token Atom octets rest h shape = cc h
literal_token Quoted octets rest h shape = cc h
literal_token Special octets rest h shape = cc h
literal_token Gap octets rest h shape = cc h
literal_token Comment octets rest h shape = cc h

literal_content : (kind : TokenKind) (octets : List ℕ) → is_literal_kind kind ≡ true → said_content kind octets ≡ octets
literal_content Literal octets h = refl
literal_content Atom octets h = cc h
literal_content Quoted octets h = cc h
literal_content Special octets h = cc h
literal_content Gap octets h = cc h
literal_content Comment octets h = cc h

literal_writes : (ws : List TokenValue) → is_one_literal ws ≡ true → AllByRecursion HasShape ws
    → (more : List TokenValue) (rest : List ℕ) → AreTokens Mail more rest → AreTokens Mail (ws ++ more) (contents ws ++ rest)
literal_writes [] h s more rest are = cc h
literal_writes (w ∷ []) h s more rest are = (rest, rw (literal_content w.kind w.octets h, append-nil) refl, literal_token w.kind w.octets rest h s.0, are)
literal_writes (w ∷ v ∷ ws) h s more rest are = cc h

pub words_again : (ts : List TokenValue) → words_of (words_of ts) ≡ words_of ts
words_again [] = refl
words_again (t ∷ ts) = elim (cases_Bool (is_blank_token t)) [
  | inl blank ↦ rw (blank) (words_again ts)
  | inr word ↦ rw (word, word) (ap (λ r. t ∷ r) (words_again ts))
]

pub domain_writes : (ts : List TokenValue) → is_domain ts ≡ true → AllByRecursion IsSound ts → Writes (contents ts) (words_of ts)
domain_writes ts h s = rw (contents-words ts) (record {
  are_tokens = λ more rest stops are. elim (or_cases (are_dotted (is_part false) (words_of ts)) (is_one_literal (words_of ts)) h) [
    | inl dotted ↦ dotted_writes (words_of ts) dotted (sound_shapes (words_of ts) (sound_words ts s)) more rest stops are
    | inr one ↦ literal_writes (words_of ts) one (sound_shapes (words_of ts) (sound_words ts s)) more rest are
  ];
})

-- ---- local parts

-- tokens of a local part, and its text
pub record WritesLocal (local : List ℕ) (tokens : List TokenValue) : Type 0 where
  pub writes : Writes (local_text local) tokens
  pub is_local : IsLocal tokens
  pub says : local ≡ contents tokens
  pub words : words_of tokens ≡ tokens

pub dotted_tokens : List (List ℕ) → List TokenValue
dotted_tokens [] = []
dotted_tokens (a ∷ []) = atom a ∷ []
dotted_tokens (a ∷ b ∷ more) = atom a ∷ dot ∷ dotted_tokens (b ∷ more)

pub some_atom : (a : List ℕ) → is_some_atom a ≡ true → (0 < length a) × (list_all (is_atom_octet Mail) a ≡ true)
some_atom [] h = cc h
some_atom (x ∷ a) h = (omega arith, h)

pub dotted_shapes : (parts : List (List ℕ)) → list_all is_some_atom parts ≡ true → AllByRecursion HasShape (dotted_tokens parts)
unfolding dotted_tokens
dotted_shapes [] h = tt
dotted_shapes (a ∷ []) h = (some_atom a (and_parts (is_some_atom a) true h).0, tt)
dotted_shapes (a ∷ b ∷ more) h =
    let parts = and_parts (is_some_atom a) (list_all is_some_atom (b ∷ more)) h in
    (some_atom a parts.0, (tt, dotted_shapes (b ∷ more) parts.1))

pub dotted_again : (parts : List (List ℕ)) → 0 < length parts → are_dotted (is_part false) (dotted_tokens parts) ≡ true
unfolding dotted_tokens
dotted_again [] some = absurd (omega arith)
dotted_again (a ∷ []) some = refl
dotted_again (a ∷ b ∷ more) some = dotted_again (b ∷ more) (omega arith)

pub dotted_words : (parts : List (List ℕ)) → words_of (dotted_tokens parts) ≡ dotted_tokens parts
unfolding dotted_tokens
dotted_words [] = refl
dotted_words (a ∷ []) = refl
dotted_words (a ∷ b ∷ more) = ap (λ r. atom a ∷ dot ∷ r) (dotted_words (b ∷ more))

pub dotted_contents : (parts : List (List ℕ)) → contents (dotted_tokens parts) ≡ join_with_byte 46 parts
unfolding dotted_tokens
dotted_contents [] = refl
dotted_contents (a ∷ []) = append-nil a
dotted_contents (a ∷ b ∷ more) = ap (λ r. a ++ 46 ∷ r) (dotted_contents (b ∷ more))

atoms_are_words : (kind : TokenKind) → is_atom_kind kind ≡ true → is_word_kind kind ≡ true
atoms_are_words Atom h = refl
atoms_are_words Quoted h = cc h
atoms_are_words Literal h = cc h
atoms_are_words Special h = cc h
atoms_are_words Gap h = cc h
atoms_are_words Comment h = cc h

pub allow_quoted : (ws : List TokenValue) → are_dotted (is_part false) ws ≡ true → are_dotted (is_part true) ws ≡ true
allow_quoted [] h = h
allow_quoted (w ∷ []) h = atoms_are_words w.kind h
allow_quoted (w ∷ d ∷ ws) h =
    let parts = and_parts (is_part false w) (is_special_of 46 d && are_dotted (is_part false) ws) h in
    let others = and_parts (is_special_of 46 d) (are_dotted (is_part false) ws) parts.1 in
    and_from (is_part true w) (is_special_of 46 d && are_dotted (is_part true) ws) (atoms_are_words w.kind parts.0)
    (and_from (is_special_of 46 d) (are_dotted (is_part true) ws) others.0 (allow_quoted ws others.1))

-- tokens of atoms divided by dots, and their text
pub record WritesDotted (octets : List ℕ) (tokens : List TokenValue) : Type 0 where
  pub writes : Writes octets tokens
  pub dotted : are_dotted (is_part false) tokens ≡ true
  pub says : octets ≡ contents tokens
  pub words : words_of tokens ≡ tokens

pub dots_written : (octets : List ℕ) → is_dot_atom octets ≡ true → WritesDotted octets (dotted_tokens (slice_split (λ x. eqb x 46) octets))
dots_written octets h =
    let parts : List (List ℕ) = slice_split (λ x. eqb x 46) octets in
    let some : 0 < length parts = omega (arith, length-slice_split (λ x. eqb x 46) octets) in
    let dotted = dotted_again parts some in
    let says : octets ≡ contents (dotted_tokens parts) = sym (dotted_contents parts ∙ join_with_byte-slice_split 46 octets) in
    record {
      writes = record {
        are_tokens = λ more rest stops are.
            rw (sym says) at (dotted_writes (dotted_tokens parts) dotted (dotted_shapes parts h) more rest stops are);
      };
      dotted = dotted;
      says = says;
      words = dotted_words parts;
    }

atoms_written : (local : List ℕ) → is_dot_atom local ≡ true → WritesLocal local (dotted_tokens (slice_split (λ x. eqb x 46) local))
atoms_written local h =
    let written = dots_written local h in
    record {
      writes = rw (h) written.writes;
      is_local = rw (written.words) (allow_quoted (dotted_tokens (slice_split (λ x. eqb x 46) local)) written.dotted);
      says = written.says;
      words = written.words;
    }

-- a quoted string
abbrev inside_of : List ℕ → Inside
inside_of [] = End
inside_of (x ∷ octets) = cond (eqb x 34 || eqb x 92) (Pair x (inside_of octets)) (Plain x (inside_of octets))

inside_spelled : (octets : List ℕ) → inside_octets quoted_marks (inside_of octets) ≡ flat_map quoted_octet octets
inside_spelled [] = refl
inside_spelled (x ∷ octets) = elim (cases_Bool (eqb x 34 || eqb x 92)) [
  | inl mark ↦ rw (mark) (ap (λ r. 92 ∷ x ∷ r) (inside_spelled octets))
  | inr other ↦ rw (other) (ap (λ r. x ∷ r) (inside_spelled octets))
]

no_mark : (x : ℕ) → (eqb x 34 || eqb x 92) ≡ false → (x ≢ 34) × (x ≢ 92)
no_mark x h =
    let parts = or_parts (eqb x 34) (eqb x 92) h in
    (λ e. cc (sym parts.0 ∙ ap (λ y. eqb y 34) e), λ e. cc (sym parts.1 ∙ ap (λ y. eqb y 92) e))

inside_is : (octets : List ℕ) → IsInside quoted_marks (inside_of octets)
inside_is [] = tt
inside_is (x ∷ octets) = elim (cases_Bool (eqb x 34 || eqb x 92)) [
  | inl mark ↦ rw (mark) ((refl, inside_is octets))
  | inr other ↦ let n = no_mark x other in rw (other) ((n.0, n.0, n.1, refl, inside_is octets))
]

inside_flat : (octets : List ℕ) → depth_of (inside_of octets) ≡ 0
inside_flat [] = refl
inside_flat (x ∷ octets) = elim (cases_Bool (eqb x 34 || eqb x 92)) [
  | inl mark ↦ rw (mark) (inside_flat octets)
  | inr other ↦ rw (other) (inside_flat octets)
]

quoted_group : (local : List ℕ) → IsEnclosed quoted_marks (quoted_string local)
quoted_group local = record {
  inside = inside_of local;
  is_inside = inside_is local;
  shallow = omega (arith, inside_flat local);
  spelled = rw (inside_spelled local) refl;
}

mark_quoted : (x : ℕ) (octets : List ℕ) → unquoted false (92 ∷ x ∷ octets) ≡ x ∷ unquoted false octets
mark_quoted x octets = refl

unquoted_again : (octets : List ℕ) → unquoted false (flat_map quoted_octet octets) ≡ octets
unquoted_again [] = refl
unquoted_again (x ∷ octets) = elim (cases_Bool (eqb x 34 || eqb x 92)) [
  | inl mark ↦ rw (mark) (ap (λ r. x ∷ r) (unquoted_again octets))
  | inr other ↦ let n = or_parts (eqb x 34) (eqb x 92) other in rw (other) (rw (n.1) (ap (λ r. x ∷ r) (unquoted_again octets)))
]

quoted_written : (local : List ℕ) → is_dot_atom local ≡ false → WritesLocal local (record { kind = Quoted; octets = quoted_string local } ∷ [])
quoted_written local h =
    let says : said_content Quoted (quoted_string local) ≡ local = ap (unquoted false) (inner-group (quoted_string local) (flat_map quoted_octet local) refl) ∙ unquoted_again local in
    record {
      writes = record { are_tokens = λ more rest stops are. (rest, rw (h) refl, quoted_group local, are) };
      is_local = refl;
      says = sym (append-nil (said_content Quoted (quoted_string local)) ∙ says);
      words = refl;
    }

pub local_written : (local : List ℕ) → (tokens : List TokenValue) × WritesLocal local tokens
local_written local = elim (cases_Bool (is_dot_atom local)) [
  | inl dotted ↦ (dotted_tokens (slice_split (λ x. eqb x 46) local), atoms_written local dotted)
  | inr other ↦ (record { kind = Quoted; octets = quoted_string local } ∷ [], quoted_written local other)
]

-- ---- lines

quoted_line : (octets : List ℕ) → list_all is_line_octet octets ≡ true → list_all is_line_octet (flat_map quoted_octet octets) ≡ true
quoted_line [] h = refl
quoted_line (x ∷ octets) h =
    let parts = and_parts (is_line_octet x) (list_all is_line_octet octets) h in
    elim (cases_Bool (eqb x 34 || eqb x 92)) [
      | inl mark ↦ rw (mark) (and_from (is_line_octet x) (list_all is_line_octet (flat_map quoted_octet octets)) parts.0 (quoted_line octets parts.1))
      | inr other ↦ rw (other) (and_from (is_line_octet x) (list_all is_line_octet (flat_map quoted_octet octets)) parts.0 (quoted_line octets parts.1))
    ]

one_line : (x : ℕ) → x < 128 → is_line_octet x ≡ true → IsLine (x ∷ [])
one_line x small plain = record { utf8 = one_ascii x small; plain = and_from (is_line_octet x) true plain refl }

quote_line : IsLine (34 ∷ [])
quote_line = one_line 34 (omega arith) refl

pub local_line : (local : List ℕ) → IsLine local → IsLine (local_text local)
local_line local l = elim (cases_Bool (is_dot_atom local)) [
  | inl dotted ↦ rw (dotted) l
  | inr other ↦ rw (other) (line_append (34 ∷ []) (flat_map quoted_octet local ++ 34 ∷ []) quote_line
      (line_append (flat_map quoted_octet local) (34 ∷ []) (record { utf8 = quoted_utf8 local l.utf8; plain = quoted_line local l.plain }) quote_line))
]

contents_is_line : (ts : List TokenValue) → AllByRecursion IsSound ts → IsLine (contents ts)
contents_is_line ts s = record { utf8 = contents_utf8 ts s; plain = contents_line ts s }

-- ---- the whole path

abbrev pub mark : ℕ → TokenValue
mark m = record { kind = Special; octets = m ∷ [] }

-- a path of tokens that say its local part and its domain
pub path_of_parts : (l d : List ℕ) (local domain : List TokenValue) (a : Address) → IsLine (in_angles (l ++ 64 ∷ d)) → Writes l local → Writes d domain
    → IsLocal local → is_domain domain ≡ true → a.local ≡ contents local → a.domain ≡ contents domain → HasPath (in_angles (l ++ 64 ∷ d)) (Some a)
path_of_parts l d local domain a line local_writes domain_writes local_is domain_is p q =
    let following : AreTokens Mail (domain ++ mark 62 ∷ []) (d ++ 62 ∷ []) = domain_writes.are_tokens (mark 62 ∷ []) (62 ∷ []) refl ([], refl, (62, refl, refl), refl) in
    let all : AreTokens Mail (local ++ mark 64 ∷ (domain ++ mark 62 ∷ [])) (l ++ 64 ∷ (d ++ 62 ∷ [])) =
    local_writes.are_tokens (mark 64 ∷ (domain ++ mark 62 ∷ [])) (64 ∷ (d ++ 62 ∷ [])) refl (d ++ 62 ∷ [], refl, (64, refl, refl), following) in
    let text : (l ++ 64 ∷ d) ++ 62 ∷ [] ≡ l ++ 64 ∷ (d ++ 62 ∷ []) = append_assoc l (64 ∷ d) (62 ∷ []) in
    record {
      tokens = mark 60 ∷ (local ++ mark 64 ∷ (domain ++ mark 62 ∷ []));
      has_tokens = record {
        is_line = line;
        are_tokens = ((l ++ 64 ∷ d) ++ 62 ∷ [], refl, (60, refl, refl), rw (text) all);
      };
      is_path = record {
        before = [];
        inner = local ++ mark 64 ∷ domain;
        angled = record {
          open_mark = mark 60;
          close_mark = mark 62;
          after = [];
          whole = ap (λ r. mark 60 ∷ r) (sym (append_assoc local (mark 64 ∷ domain) (mark 62 ∷ [])));
          opens = refl;
          closes = refl;
          following = refl;
        };
        nothing_before = refl;
        holds = record {
          local = local;
          at = mark 64;
          domain = domain;
          whole = refl;
          is_at = refl;
          is_local = local_is;
          is_domain = domain_is;
          local_says = p;
          domain_says = q;
        };
      };
    }

-- an address of sound tokens is read back
address_again : (ts : List TokenValue) (a : Address) → AllByRecursion IsSound ts → IsAddress ts a → HasPath (in_angles (address_text a)) (Some a)
address_again ts a s is =
    let parts : AllByRecursion IsSound (is.local ++ is.at ∷ is.domain) = rw (is.whole) at s in
    let local_sound = sound_front is.local (is.at ∷ is.domain) parts in
    let domain_sound = (sound_rest is.local (is.at ∷ is.domain) parts).1 in
    let written = local_written a.local in
    let domain : Writes a.domain (words_of is.domain) = rw (is.domain_says) (domain_writes is.domain is.is_domain domain_sound) in
    let line : IsLine (in_angles (address_text a)) =
    line_append (60 ∷ []) (address_text a ++ 62 ∷ []) (one_line 60 (omega arith) refl)
    (line_append (address_text a) (62 ∷ [])
    (line_append (local_text a.local) (64 ∷ a.domain) (local_line a.local (rw (is.local_says) (contents_is_line is.local local_sound)))
    (line_append (64 ∷ []) a.domain (one_line 64 (omega arith) refl) (rw (is.domain_says) (contents_is_line is.domain domain_sound))))
    (one_line 62 (omega arith) refl)) in
    path_of_parts (local_text a.local) a.domain written.0 (words_of is.domain) a line written.1.writes domain
    written.1.is_local (rw (words_again is.domain) is.is_domain) written.1.says (is.domain_says ∙ contents-words is.domain)

pub path_again : (a : Address) → ComesInPath a → HasPath (in_angles (address_text a)) (Some a)
path_again a comes =
    let path = comes.1 in
    let sound = tokens_sound path.tokens comes.0 path.has_tokens.are_tokens path.has_tokens.is_line in
    let angled = path.is_path.angled in
    let following = (sound_rest path.is_path.before (angled.open_mark ∷ (path.is_path.inner ++ angled.close_mark ∷ angled.after)) (rw (angled.whole) at sound)).1 in
    address_again path.is_path.inner a (sound_front path.is_path.inner (angled.close_mark ∷ angled.after) following) path.is_path.holds
