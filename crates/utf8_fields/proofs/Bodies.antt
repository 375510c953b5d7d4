-- The body of a field, from its lines.
use Rattle.std.proofs.Common.{◌≡◌, ℕ, true, false, ◌⊎◌, inl, inr, List, [], ◌∷◌, ◌++◌, refl, ◌∙◌, append_assoc, append-nil}
use Rattle.std.specs.List.{All, list_all, concat}
use Rattle.std.proofs.lemmas.Bool.{and_parts, not-true}
use Rattle.std.proofs.lemmas.List.Elements.{All-head, All-tail}
use Rattle.mail_wire.specs.Octets.{is_white, is_line_end}
use Rattle.mail_wire.specs.Lines.{crlf}
use Rattle.mail_wire.specs.Message.{IsSound}
use Rattle.mail_wire.specs.Folds.{IsFolded}
use Rattle.mail_wire.proofs.Folded.{IsFolded-append, IsFolded-fold, IsFolded-plain}
use Rattle.mail_wire.proofs.OctetLemmas.{white_no_end}
use Rattle.utf8_fields.specs.Lines.{BeginsWhite}
use Rattle.utf8_fields.proofs.LineShapes.{AreLines, is_text, IsTextLine, IsTextLine-sound}

-- What stands after a field's colon is a folded body, and CRLF or nothing.
pub record HasBody (octets : List ℕ) : Type 0 where
  pub body : List ℕ
  pub ending : List ℕ
  pub whole : octets ≡ body ++ ending
  pub folded : IsFolded body
  pub ends : (ending ≡ []) ⊎ (ending ≡ crlf)

-- a line without its first octet
pub IsTextLine-drop : (x : ℕ) (line : List ℕ) (after : List (List ℕ)) → is_line_end x ≡ false → IsTextLine (x ∷ line) after → IsTextLine line after
IsTextLine-drop x line after h is = by is.text is.whole is.plain
  where
    no_ending : x ∷ line ≡ is.ending → (is.ending ≡ crlf) ⊎ ((is.ending ≡ []) × (after ≡ [])) → ⊥
    no_ending e (inl ends) =
        let all : x ∷ line ≡ 13 ∷ 10 ∷ [] = e ∙ ends in
        let cr : x ≡ 13 = cc in
        let clash : true ≡ false = rw cr at h in cc clash
    no_ending e (inr none) =
        let all : x ∷ line ≡ [] = e ∙ none.0 in cc all

    by : (text : List ℕ) → x ∷ line ≡ text ++ is.ending → list_all is_text text ≡ true → IsTextLine line after
    by [] e plain = absurd (no_ending e is.ends)
    by (y ∷ text) e plain =
        let rest : line ≡ text ++ is.ending = cc e in
        record { text = text; ending = is.ending; whole = rest; plain = (and_parts (is_text y) (list_all is_text text) plain).1; ends = is.ends }

-- a line without a front of text
pub IsTextLine-following : (front line : List ℕ) (after : List (List ℕ)) → list_all is_text front ≡ true → IsTextLine (front ++ line) after → IsTextLine line after
IsTextLine-following [] line after all is = is
IsTextLine-following (x ∷ front) line after all is =
    let parts = and_parts (is_text x) (list_all is_text front) all in
    IsTextLine-following front line after parts.1 (IsTextLine-drop x (front ++ line) after (not-true (is_line_end x) parts.0) is)

-- further lines, each after its first octet, which is white
pub body_of : (line : List ℕ) (more : List (List ℕ)) → IsTextLine line more → AreLines more → All IsSound more → All BeginsWhite more → HasBody (line ++ concat more)
body_of line [] is are sound white = record {
  body = is.text;
  ending = is.ending;
  whole = append-nil line ∙ is.whole;
  folded = IsFolded-plain is.text is.plain;
  ends = elim is.ends [ inl ended ↦ inr ended | inr last ↦ inl last.0 ];
}
body_of line ([] ∷ more) is are sound white = absurd (All-head BeginsWhite [] more white)
body_of line ((w ∷ next) ∷ more) is are sound white =
    let white_first : is_white w ≡ true = All-head BeginsWhite (w ∷ next) more white in
    let next_is = IsTextLine-drop w next more (white_no_end w white_first) (IsTextLine-sound (w ∷ next) more (All-head IsSound (w ∷ next) more sound) are.0) in
    let following = body_of next more next_is are.1 (All-tail IsSound (w ∷ next) more sound) (All-tail BeginsWhite (w ∷ next) more white) in
    by is.ends white_first following
  where
    by : (is.ending ≡ crlf) ⊎ ((is.ending ≡ []) × ((w ∷ next) ∷ more ≡ [])) → is_white w ≡ true → HasBody (next ++ concat more) → HasBody (line ++ concat ((w ∷ next) ∷ more))
    by (inl ended) white_first following = record {
      body = is.text ++ 13 ∷ 10 ∷ w ∷ following.body;
      ending = following.ending;
      whole = rw (is.whole, ended, append_assoc is.text (13 ∷ 10 ∷ w ∷ following.body) following.ending, append_assoc is.text crlf (w ∷ (next ++ concat more)), following.whole) refl;
      folded = IsFolded-append is.text (13 ∷ 10 ∷ w ∷ following.body) (IsFolded-plain is.text is.plain) (IsFolded-fold w following.body white_first following.folded);
      ends = following.ends;
    }
    by (inr last) white_first following = let none = last.1 in cc none
