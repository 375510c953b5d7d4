-- The octets of one atom of a text are changed to as many others: all tokens keep their places.
use Rattle.std.proofs.Common.{◌≡◌, ℕ, ◌+◌, ◌<◌, true, false, List, [], ◌∷◌, ◌++◌, length, refl, sym, ap, ◌∙◌, subst, arith}
use Rattle.std.proofs.lemmas.Bool.{both_ways, and_parts}
use Rattle.std.proofs.lemmas.List.{append_assoc, length-append}
use Rattle.std.specs.List.{AllByRecursion, list_all}
use Rattle.mail_wire.specs.Octets.{is_white}
use Rattle.mail_wire.specs.Spans.{Stops}
use Rattle.field_tokens.specs.declared.Style.{Style}
use Rattle.field_tokens.specs.declared.Token.{Token}
use Rattle.field_tokens.specs.declared.TokenKind.{TokenKind}
use Rattle.field_tokens.specs.declared.TokenKind.TheVariants.{Atom, Quoted, Literal, Special, Gap, Comment}
use Rattle.field_tokens.specs.TokenOctets.{is_atom_octet}
use Rattle.field_tokens.specs.Tokens.{IsToken, TokenValue, AreTokens, tokens_from, octets_at}
use Rattle.field_tokens.specs.Squeezed.{octets_of}
use Rattle.field_tokens.proofs.TokenLists.{token_at}
use Rattle.param_grammar.proofs.SaidTrees.{octets_between}

-- what follows a gap or an atom may follow it too
pub record EndsAlike (style : Style) (x y : List ℕ) : Type 0 where
  pub gap : Stops is_white x → Stops is_white y
  pub atom : Stops (is_atom_octet style) x → Stops (is_atom_octet style) y

token_alike : (style : Style) (kind : TokenKind) (octets x y : List ℕ) → EndsAlike style x y → IsToken style kind octets x → IsToken style kind octets y
token_alike style Gap octets x y alike is = (is.0, record { whole = refl; passes = is.1.passes; stops = alike.gap is.1.stops })
token_alike style Atom octets x y alike is = (is.0, record { whole = refl; passes = is.1.passes; stops = alike.atom is.1.stops })
token_alike style Special octets x y alike is = is
token_alike style Comment octets x y alike is = is
token_alike style Quoted octets x y alike is = is
token_alike style Literal octets x y alike is = is

alike_after : (style : Style) (octets x y : List ℕ) → EndsAlike style x y → EndsAlike style (octets ++ x) (octets ++ y)
alike_after style [] x y alike = alike
alike_after style (b ∷ octets) x y alike = record { gap = λ s. s; atom = λ s. s }

abbrev pub atom_of : List ℕ → TokenValue
atom_of octets = record { kind = Atom; octets = octets }

-- an atom that can stand in place of others
abbrev pub StandsAsAtom : Style → List ℕ → Type 0
StandsAsAtom style octets = (x : ℕ) × (more : List ℕ) × (octets ≡ x ∷ more) × (is_white x ≡ false) × (list_all (is_atom_octet style) octets ≡ true)

no_atom_end : (style : Style) (octets after : List ℕ) → 0 < length octets → list_all (is_atom_octet style) octets ≡ true → Stops (is_atom_octet style) (octets ++ after) → ⊥
no_atom_end style [] after some passes stops = omega (arith, some)
no_atom_end style (x ∷ octets) after some passes stops =
    both_ways (is_atom_octet style x) stops (and_parts (is_atom_octet style x) (list_all (is_atom_octet style) octets) passes).0

-- the tokens of a text with another atom in place of one
pub record Changed (style : Style) (text : List ℕ) (tokens : List TokenValue) : Type 0 where
  pub changed : List ℕ
  pub are_tokens : AreTokens style tokens changed
  pub alike : EndsAlike style text changed

pub atom_changed : (style : Style) (front rest : List TokenValue) (old new text : List ℕ) → StandsAsAtom style new → AreTokens style (front ++ atom_of old ∷ rest) text
    → Changed style text (front ++ atom_of new ∷ rest)
atom_changed style [] rest old new text stands are = record {
  changed = new ++ are.0;
  are_tokens = (are.0, refl, (rw (stands.2) (omega arith), record { whole = refl; passes = stands.4; stops = are.2.1.stops }), are.3);
  alike = record {
    gap = λ stops. rw (stands.2) stands.3;
    atom = λ stops. absurd (no_atom_end style old are.0 are.2.0 are.2.1.passes (subst (Stops (is_atom_octet style)) are.1 stops));
  };
}
atom_changed style (t ∷ front) rest old new text stands are =
    let more = atom_changed style front rest old new are.0 stands are.3 in
    record {
      changed = t.octets ++ more.changed;
      are_tokens = (more.changed, refl, token_alike style t.kind t.octets are.0 more.changed more.alike are.2, more.are_tokens);
      alike = subst (λ x. EndsAlike style x (t.octets ++ more.changed)) (sym are.1) (alike_after style t.octets are.0 more.changed more.alike);
    }

-- ---- places

-- two texts have the same octets at a token's place
abbrev pub IsSameAt : List ℕ → List ℕ → Token → Type 0
IsSameAt text changed token = octets_at text token.span ≡ octets_at changed token.span

abbrev pub AreSameAt : List ℕ → List ℕ → List Token → Type 0
AreSameAt text changed tokens = AllByRecursion (IsSameAt text changed) tokens

-- the same tokens after fronts of one length have the same octets
pub same_places : (a b x y text changed : List ℕ) (ts : List TokenValue) (at : ℕ) → text ≡ a ++ (octets_of ts ++ x) → changed ≡ b ++ (octets_of ts ++ y) → at ≡ length a → at ≡ length b
    → AreSameAt text changed (tokens_from at ts)
same_places a b x y text changed [] at e f p q = tt
same_places a b x y text changed (t ∷ ts) at e f p q =
    let first : text ≡ a ++ (t.octets ++ (octets_of ts ++ x)) = e ∙ ap (λ r. a ++ r) (append_assoc t.octets (octets_of ts) x) in
    let other : changed ≡ b ++ (t.octets ++ (octets_of ts ++ y)) = f ∙ ap (λ r. b ++ r) (append_assoc t.octets (octets_of ts) y) in (
      octets_between a t.octets (octets_of ts ++ x) text at first p ∙ sym (octets_between b t.octets (octets_of ts ++ y) changed at other q),
      same_places (a ++ t.octets) (b ++ t.octets) x y text changed ts (at + length t.octets) (first ∙ sym (append_assoc a t.octets (octets_of ts ++ x)))
          (other ∙ sym (append_assoc b t.octets (octets_of ts ++ y))) (omega (arith, p, length-append a t.octets)) (omega (arith, q, length-append b t.octets)),
    )

pub tokens_from-append : (at : ℕ) (a b : List TokenValue) → tokens_from at (a ++ b) ≡ tokens_from at a ++ tokens_from (at + length (octets_of a)) b
tokens_from-append at [] b = ap (λ n. tokens_from n b) (omega arith)
tokens_from-append at (t ∷ a) b =
    ap (λ r. token_at at t ∷ r) (tokens_from-append (at + length t.octets) a b
    ∙ ap (λ n. tokens_from (at + length t.octets) a ++ tokens_from n b) (omega (arith, length-append t.octets (octets_of a))))

pub tokens_from-start : (a b : List TokenValue) → tokens_from 0 (a ++ b) ≡ tokens_from 0 a ++ tokens_from (length (octets_of a)) b
tokens_from-start a b = tokens_from-append 0 a b ∙ ap (λ n. tokens_from 0 a ++ tokens_from n b) (omega arith)

-- an atom of one length for another doesn't move tokens
pub same_tokens : (at : ℕ) (front rest : List TokenValue) (old new : List ℕ) → length old ≡ length new → tokens_from at (front ++ atom_of old ∷ rest) ≡ tokens_from at (front ++ atom_of new ∷ rest)
same_tokens at [] rest old new e = ap (λ n. record { kind = Atom; span = record { at = at; len = n } } ∷ tokens_from (at + n) rest) e
same_tokens at (t ∷ front) rest old new e = ap (λ r. token_at at t ∷ r) (same_tokens (at + length t.octets) front rest old new e)
