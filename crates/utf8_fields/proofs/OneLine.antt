-- A body of one line is unfolded already.
use Rattle.std.proofs.Common.{◌≡◌, ℕ, ◌<◌, Bool, true, false, List, [], ◌∷◌, length, take, drop, Result, Ok, Err, refl, sym, ap, ◌∙◌, subst, arith}
use Rattle.std.proofs.Math.Seq.{take-length, drop-length}
use Rattle.std.specs.Prelude.{IfOk}
use Rattle.mail_wire.specs.Folds.{begins_fold, unfolded}
use Rattle.mail_wire.specs.Lines.{lines_of, put_before, is_crlf}
use Rattle.mail_wire.specs.Octets.{is_white}
use Rattle.mail_wire.specs.Spans.{IsTrimmed}
use Rattle.mail_wire.proofs.FirstLine.{lines_of-crlf, lines_of-other}
use Rattle.mail_wire.proofs.Unfolded.{unfolded-nil, unfolded-other}
use Rattle.utf8_fields.specs.Parts.{HasValue}
use Rattle.utf8_fields.proofs.Heads.{first_line_begins, lines_of-nil}

no_fold : (x y : ℕ) (rest : List ℕ) → is_crlf x y ≡ false → begins_fold (x ∷ y ∷ rest) ≡ false
no_fold x y [] other = refl
no_fold x y (z ∷ rest) other = rw other refl

unfolded-one : (x : ℕ) → unfolded (x ∷ []) ≡ x ∷ []
unfolded-one x = unfolded-other x [] refl ∙ ap (λ s. x ∷ s) unfolded-nil

unfolded-two : (x y : ℕ) → unfolded (x ∷ y ∷ []) ≡ x ∷ y ∷ []
unfolded-two x y = unfolded-other x (y ∷ []) refl ∙ ap (λ s. x ∷ s) (unfolded-one y)

line_after : (x y : ℕ) (rest more : List ℕ) (lines : List (List ℕ)) → lines_of (y ∷ rest) ≡ (y ∷ more) ∷ lines → put_before x (lines_of (y ∷ rest)) ≡ (x ∷ y ∷ rest) ∷ []
    → lines_of (y ∷ rest) ≡ (y ∷ rest) ∷ []
line_after x y rest more lines split e =
    let h = rw split at e in
    let same : more ≡ rest = cc h in
    let none : lines ≡ [] = cc h in
    split ∙ rw (same, none) refl

line_by : (x y : ℕ) (rest : List ℕ) → (lines_of (y ∷ rest) ≡ (y ∷ rest) ∷ [] → unfolded (y ∷ rest) ≡ y ∷ rest) → lines_of (x ∷ y ∷ rest) ≡ (x ∷ y ∷ rest) ∷ []
    → (b : Bool) → is_crlf x y ≡ b → unfolded (x ∷ y ∷ rest) ≡ x ∷ y ∷ rest
line_by x y rest later e true h =
    let f = sym (lines_of-crlf x y rest h) ∙ e in
    let none : [] ≡ rest = cc f in
    subst (λ s. unfolded (x ∷ y ∷ s) ≡ x ∷ y ∷ s) none (unfolded-two x y)
line_by x y rest later e false h =
    let first = first_line_begins y rest in
    let following = line_after x y rest first.0 first.1 first.2 (sym (lines_of-other x y rest h) ∙ e) in
    unfolded-other x (y ∷ rest) (no_fold x y rest h) ∙ ap (λ s. x ∷ s) (later following)

one_line : (body : List ℕ) → lines_of body ≡ body ∷ [] → unfolded body ≡ body
one_line [] e = unfolded-nil
one_line (x ∷ []) e = unfolded-one x
one_line (x ∷ y ∷ rest) e = line_by x y rest (one_line (y ∷ rest)) e (is_crlf x y) refl

-- the first line is the whole body
line_unfolded : (body : List ℕ) → (0 < length body → lines_of body ≡ take (length body) body ∷ lines_of (drop (length body) body)) → unfolded body ≡ body
line_unfolded [] lines = unfolded-nil
line_unfolded (x ∷ rest) lines =
    let h = rw (take-length (x ∷ rest), drop-length (x ∷ rest)) at (lines (omega arith)) in
    one_line (x ∷ rest) (h ∙ ap (λ more. (x ∷ rest) ∷ more) (lines_of-nil [] refl))

pub line_value : (body text : List ℕ) (n : ℕ) → n ≡ length body → (0 < length body → lines_of body ≡ take n body ∷ lines_of (drop n body)) → IsTrimmed is_white body text → HasValue body text
line_value body text n whole lines trimmed =
    let first = subst (λ k. 0 < length body → lines_of body ≡ take k body ∷ lines_of (drop k body)) whole lines in
    subst (λ s. IsTrimmed is_white s text) (sym (line_unfolded body first)) trimmed

-- a copy of the value is the value
pub copied_value : {E : Type 0} (body text : List ℕ) (made : Result (List ℕ) E) → HasValue body text → IfOk made (λ value. value ≡ text) → IfOk made (HasValue body)
copied_value body text (Ok value) has same = subst (HasValue body) (sym same) has
copied_value body text (Err fault) has same = tt
