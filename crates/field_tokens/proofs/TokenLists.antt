-- Tokens are read one after another, in one way.
use Rattle.std.proofs.Common.{◌≡◌, ℕ, ◌+◌, ◌-◌, ◌<◌, List, [], ◌∷◌, ◌++◌, length, get_or, refl, sym, ap, ◌∙◌, subst, arith, add-zero}
use Rattle.std.specs.List.{flat_map}
use Rattle.std.proofs.lemmas.Grind.{flat_map-append}
use Rattle.std.proofs.lemmas.List.{append_assoc, append-nil, append_cancel_right, length-append, nil_from_length}
use Rattle.encoded_words.proofs.QText.{first_is}
use Rattle.field_tokens.specs.declared.Style.{Style}
use Rattle.field_tokens.specs.declared.TokenKind.{TokenKind}
use Rattle.field_tokens.specs.declared.TokenKind.TheVariants.{Atom, Quoted, Literal, Special, Gap, Comment}
use Rattle.field_tokens.specs.declared.Token.{Token}
use Rattle.field_tokens.specs.Tokens.{IsToken, BeginsToken, TokenValue, AreTokens, tokens_from, IsLine, HasTokens}
use Rattle.field_tokens.proofs.TokenLemmas.{token_once}

abbrev value : TokenKind → List ℕ → TokenValue
value kind octets = record { kind = kind; octets = octets }

abbrev pub token_at : ℕ → TokenValue → Token
token_at at t = record { kind = t.kind; span = record { at = at; len = length t.octets } }

token_is : (t : Token) (at len : ℕ) → t.span.at ≡ at → t.span.len ≡ len → t ≡ record { kind = t.kind; span = record { at = at; len = len } }
token_is t at len p q = rw (← p, ← q) refl

made : (j k : TokenKind) (a b : List ℕ) → j ≡ k → a ≡ b → value j a ≡ value k b
made j k a b e f = cc

-- these tokens are those of the text before rest, and every reading begins with them
pub record ReadsTokens (style : Style) (text : List ℕ) (done : List TokenValue) (rest : List ℕ) : Type 0 where
  pub front : List ℕ
  pub whole : text ≡ front ++ rest
  pub onward : (ts : List TokenValue) → AreTokens style ts rest → AreTokens style (done ++ ts) text
  pub back : (ts : List TokenValue) → AreTokens style ts text → (us : List TokenValue) × AreTokens style us rest × (ts ≡ done ++ us)

pub ReadsTokens-none : (style : Style) (text : List ℕ) → ReadsTokens style text [] text
ReadsTokens-none style text = record { front = []; whole = refl; onward = λ ts are. are; back = λ ts are. (ts, are, refl) }

-- a token by what it begins
abbrev begun : (style : Style) (t : TokenValue) (text rest : List ℕ) → text ≡ t.octets ++ rest → IsToken style t.kind t.octets rest → BeginsToken style t.kind text rest
begun style t text rest e is = record { octets = t.octets; whole = e; is_token = is }

-- what tokens of a text begin with, beside its first token
begins_so : (style : Style) (kind : TokenKind) (text after : List ℕ) (us : List TokenValue) → 0 < length text → (b : BeginsToken style kind text after) → AreTokens style us text
    → (vs : List TokenValue) × AreTokens style vs after × (us ≡ value kind b.octets ∷ vs)
begins_so style kind text after [] some b are = absurd (omega (arith, ap length are))
begins_so style kind text after (u ∷ us) some b are =
    let once = token_once style u.kind kind (get_or text 0 0) text _ are.0 after (first_is text some) (begun style u text are.0 are.1 are.2) b in
    let same : are.0 ≡ after = once.1 in
    let octets : u.octets ≡ b.octets = append_cancel_right u.octets b.octets after (ap (λ r. u.octets ++ r) (sym same) ∙ sym are.1 ∙ b.whole) in
    let head : u ≡ value kind b.octets = made u.kind kind u.octets b.octets once.0 octets in
    (us, subst (AreTokens style us) same are.3, ap (λ t. t ∷ us) head)

pub ReadsTokens-push : (style : Style) (kind : TokenKind) (text rest after : List ℕ) (done : List TokenValue) → ReadsTokens style text done rest → 0 < length rest → (b : BeginsToken style kind rest after)
    → ReadsTokens style text (done ++ value kind b.octets ∷ []) after
ReadsTokens-push style kind text rest after done reads some b = record {
  front = reads.front ++ b.octets;
  whole = reads.whole ∙ rw (append_assoc) (ap (λ r. reads.front ++ r) b.whole);
  onward = λ ts are. rw (append_assoc) (reads.onward (value kind b.octets ∷ ts) (after, b.whole, b.is_token, are));
  back = λ ts are.
      let old = reads.back ts are in
      let first = begins_so style kind rest after old.0 some b old.1 in
      (first.0, first.1, old.2 ∙ rw (append_assoc) (ap (λ us. done ++ us) first.2));
}

-- tokens after others stand after them
abbrev pub all_octets : List TokenValue → List ℕ
all_octets ts = flat_map (λ t. t.octets) ts

tokens_from-append : (at : ℕ) (ts us : List TokenValue) → tokens_from at (ts ++ us) ≡ tokens_from at ts ++ tokens_from (at + length (all_octets ts)) us
tokens_from-append at [] us = rw (add-zero) refl
tokens_from-append at (t ∷ ts) us =
    let place : (at + length t.octets) + length (all_octets ts) ≡ at + length (all_octets (t ∷ ts)) = omega (arith, length-append t.octets (all_octets ts)) in
    ap (λ r. token_at at t ∷ r) (tokens_from-append (at + length t.octets) ts us ∙ rw (place) refl)

-- the tokens read so far, by their places, and what the text holds of them
pub record ReadsSpans (style : Style) (text : List ℕ) (tokens : List Token) (rest : List ℕ) : Type 0 where
  pub done : List TokenValue
  pub reads : ReadsTokens style text done rest
  pub octets : text ≡ all_octets done ++ rest
  pub placed : tokens ≡ tokens_from 0 done

pub ReadsSpans-none : (style : Style) (text : List ℕ) (tokens : List Token) → tokens ≡ [] → ReadsSpans style text tokens text
ReadsSpans-none style text tokens e = record { done = []; reads = ReadsTokens-none style text; octets = refl; placed = e }

pub ReadsSpans-turn : (style : Style) (text rest after : List ℕ) (old new : List Token) (t : Token) → ReadsSpans style text old rest → 0 < length rest
    → BeginsToken style t.kind rest after → t.span.at ≡ length text - length rest → t.span.len ≡ length rest - length after → new ≡ old ++ t ∷ [] → ReadsSpans style text new after
ReadsSpans-turn style text rest after old new t r some b at len pushed =
    let v : TokenValue = value t.kind b.octets in
    let place : t.span.at ≡ 0 + length (all_octets r.done) = omega (arith, ap length r.octets, length-append (all_octets r.done) rest) in
    let size : t.span.len ≡ length b.octets = omega (arith, ap length b.whole, length-append b.octets after) in
    let same : t ≡ token_at (0 + length (all_octets r.done)) v = token_is t (0 + length (all_octets r.done)) (length b.octets) place size in
    record {
      done = r.done ++ v ∷ [];
      reads = ReadsTokens-push style t.kind text rest after r.done r.reads some b;
      octets = r.octets ∙ ap (λ x. all_octets r.done ++ x) b.whole ∙ sym (append_assoc (all_octets r.done) b.octets after)
          ∙ ap (λ x. x ++ after) (ap (λ x. all_octets r.done ++ x) (sym (append-nil b.octets)) ∙ sym (flat_map-append (λ (t : TokenValue). t.octets) r.done (v ∷ [])));
      placed = pushed ∙ ap (λ x. x ++ t ∷ []) r.placed ∙ ap (λ x. tokens_from 0 r.done ++ x ∷ []) same ∙ sym (tokens_from-append 0 r.done (v ∷ []));
    }

pub no_tokens : (style : Style) (text rest : List ℕ) (done : List TokenValue) → ReadsTokens style text done rest → 0 < length rest → ((kind : TokenKind) (after : List ℕ) → BeginsToken style kind rest after → ⊥)
    → (ts : List TokenValue) → AreTokens style ts text → ⊥
no_tokens style text rest done reads some none ts are = let old = reads.back ts are in stuck old.0 old.1
  where
    stuck : (us : List TokenValue) → AreTokens style us rest → ⊥
    stuck [] are = omega (arith, ap length are)
    stuck (u ∷ us) are = none u.kind are.0 (begun style u rest are.0 are.1 are.2)

pub all_tokens : (style : Style) (text rest : List ℕ) (done : List TokenValue) → ReadsTokens style text done rest → length rest ≡ 0 → AreTokens style done text
all_tokens style text rest done reads end = rw append-nil at (reads.onward [] (nil_from_length rest end))

-- a token has octets
pub token_octets_some : (style : Style) (kind : TokenKind) (octets rest : List ℕ) → IsToken style kind octets rest → 0 < length octets
token_octets_some style Gap octets rest is = is.0
token_octets_some style Atom octets rest is = is.0
token_octets_some style Special octets rest is = omega (arith, ap length is.1)
token_octets_some style Comment octets rest is = omega (arith, ap length is.spelled)
token_octets_some style Quoted octets rest is = omega (arith, ap length is.spelled)
token_octets_some style Literal octets rest is = omega (arith, ap length is.1.spelled)

pub token_some : (style : Style) (kind : TokenKind) (text rest : List ℕ) → BeginsToken style kind text rest → length rest < length text
token_some style kind text rest b = omega (arith, token_octets_some style kind b.octets rest b.is_token, ap length b.whole, length-append b.octets rest)

-- A text has one list of tokens at most.
pub AreTokens-once : (style : Style) (text : List ℕ) (ts us : List TokenValue) → AreTokens style ts text → AreTokens style us text → ts ≡ us
AreTokens-once style text [] [] p q = refl
AreTokens-once style text [] (u ∷ us) p q = absurd (omega (arith, ap length p, token_some style u.kind text q.0 (begun style u text q.0 q.1 q.2)))
AreTokens-once style text (t ∷ ts) us p q =
    let b = begun style t text p.0 p.1 p.2 in
    let some : 0 < length text = omega (arith, token_some style t.kind text p.0 b) in
    let first = begins_so style t.kind text p.0 us some b q in
    let rest : ts ≡ first.0 = AreTokens-once style p.0 ts first.0 p.3 first.1 in
    ap (λ r. t ∷ r) rest ∙ sym first.2

-- no line, no tokens
pub no_line : (style : Style) (text : List ℕ) → (IsLine text → ⊥) → (tokens : List Token) → HasTokens style text tokens → ⊥
no_line style text not_line tokens has = not_line has.is_line

pub never_tokens : (style : Style) (text rest : List ℕ) (old : List Token) → ReadsSpans style text old rest → 0 < length rest → ((kind : TokenKind) (after : List ℕ) → BeginsToken style kind rest after → ⊥)
    → (tokens : List Token) → HasTokens style text tokens → ⊥
never_tokens style text rest old r some none tokens has = no_tokens style text rest r.done r.reads some none has.values has.are_tokens

pub tokens_found : (style : Style) (text rest : List ℕ) (tokens : List Token) → IsLine text → ReadsSpans style text tokens rest → length rest ≡ 0 → HasTokens style text tokens
tokens_found style text rest tokens line r end = record { is_line = line; values = r.done; are_tokens = all_tokens style text rest r.done r.reads end; placed = r.placed }

-- A text has one list of tokens at most.
pub HasTokens-once : (style : Style) (text : List ℕ) (ts us : List Token) → HasTokens style text ts → HasTokens style text us → ts ≡ us
HasTokens-once style text ts us p q = p.placed ∙ ap (tokens_from 0) (AreTokens-once style text p.values q.values p.are_tokens q.are_tokens) ∙ sym q.placed
