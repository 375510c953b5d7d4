-- Lines that a boundary marks.
use Rattle.std.proofs.Common.{◌≡◌, ℕ, zero, suc, ◌+◌, ◌<◌, List, [], ◌∷◌, ◌++◌, length, take, drop, Bool, true, false, ◌&&◌, ◌||◌, nat_eq, arith, refl, sym, ap, ◌∙◌, Option, Some, None, append_assoc}
use Rattle.std.specs.Prelude.{if◌then◌else◌}
use Rattle.std.specs.List.{starts_with, list_all}
use Rattle.std.proofs.lemmas.Bool.{and_parts}
use Rattle.std.proofs.lemmas.Bool.Decides.{nat_tests}
use Rattle.std.specs.Prelude.{is_some}
use Rattle.std.proofs.Common.{get_or}
use Rattle.std.proofs.lemmas.List.{take_more, take-append-drop}
use Rattle.std.proofs.lemmas.List.Folds.{list_any-append}
use Rattle.mail_wire.specs.Octets.{is_white}
use Rattle.mime_tree.specs.declared.marks.Mark.{Mark}
use Rattle.mime_tree.specs.declared.marks.Mark.TheVariants.{Delimiter, Close}
use Rattle.mime_tree.specs.Marks.{dashes, is_padded}
use Rattle.mime_tree.specs.private.Open.{mark_by, is_marked_text}

and_assoc : (a b c : Bool) → (a && (b && c)) ≡ ((a && b) && c)
and_assoc true b c = refl
and_assoc false b c = refl

pub starts_with-append : (p q t : List ℕ) → starts_with nat_eq t (p ++ q) ≡ (starts_with nat_eq t p && starts_with nat_eq (drop (length p) t) q)
starts_with-append [] q t = refl
starts_with-append (x ∷ p) q [] = refl
starts_with-append (x ∷ p) q (y ∷ t) = ap (λ more. nat_eq x y && more) (starts_with-append p q t) ∙ and_assoc (nat_eq x y) _ _

drop_nil : (n : ℕ) → ◌≡◌ {A = List ℕ} [] (drop n [])
drop_nil zero = refl
drop_nil (suc n) = refl

length-append-drop : (p q t : List ℕ) → drop (length (p ++ q)) t ≡ drop (length q) (drop (length p) t)
length-append-drop [] q t = refl
length-append-drop (x ∷ p) q [] = drop_nil (length q)
length-append-drop (x ∷ p) q (y ∷ t) = length-append-drop p q t

pub is_padded-append : (p q t : List ℕ) → is_padded (p ++ q) t ≡ (starts_with nat_eq t p && is_padded q (drop (length p) t))
is_padded-append p q t =
    rw (starts_with-append p q t, length-append-drop p q t) (sym (and_assoc (starts_with nat_eq t p) (starts_with nat_eq (drop (length p) t) q) (list_all is_white (drop (length q) (drop (length p) t)))))

begins_dashes : (t : List ℕ) → list_all is_white t ≡ true → starts_with nat_eq t dashes ≡ true → ⊥
begins_dashes [] white begins = cc
begins_dashes (x ∷ t) white begins = grind (arith, nat_tests)

-- no line is both
pub one_mark : (boundary text : List ℕ) → is_padded (dashes ++ boundary) text ≡ true → is_padded (dashes ++ boundary ++ dashes) text ≡ true → ⊥
one_mark boundary text delimiter close =
    let p : List ℕ = dashes ++ boundary in
    let white = (and_parts (starts_with nat_eq text p) (list_all is_white (drop (length p) text)) delimiter).1 in
    let both = is_padded-append p dashes text ∙ refl in
    let after = (and_parts (starts_with nat_eq text p) (is_padded dashes (drop (length p) text)) (sym both ∙ close)).1 in
    let begins = (and_parts (starts_with nat_eq (drop (length p) text) dashes) (list_all is_white (drop 2 (drop (length p) text))) after).0 in
    begins_dashes (drop (length p) text) white begins

-- by the steps that the reader takes
pub delimiter_steps : (boundary text : List ℕ) → is_padded (dashes ++ boundary) text ≡ (starts_with nat_eq text dashes && (starts_with nat_eq (drop 2 text) boundary && list_all is_white (drop (length boundary) (drop 2 text))))
delimiter_steps boundary text = is_padded-append dashes boundary text

pub close_steps : (boundary text : List ℕ) → is_padded (dashes ++ boundary ++ dashes) text
    ≡ (starts_with nat_eq text dashes && (starts_with nat_eq (drop 2 text) boundary && (starts_with nat_eq (drop (length boundary) (drop 2 text)) dashes && list_all is_white (drop 2 (drop (length boundary) (drop 2 text))))))
close_steps boundary text =
    ap (λ all. is_padded all text) (append_assoc dashes boundary dashes) ∙ is_padded-append dashes (boundary ++ dashes) text
    ∙ ap (λ more. starts_with nat_eq text dashes && more) (is_padded-append boundary dashes (drop 2 text))

abbrev pub steps : Bool → Bool → Bool → Bool → Bool → Option Mark
steps s t w u v = if s && (t && w) then Some Delimiter else (if s && (t && (u && v)) then Some Close else None)

pub mark_by-steps : (boundary text : List ℕ) (s t w u v : Bool) → starts_with nat_eq text dashes ≡ s → starts_with nat_eq (drop 2 text) boundary ≡ t → list_all is_white (drop (length boundary) (drop 2 text)) ≡ w
    → starts_with nat_eq (drop (length boundary) (drop 2 text)) dashes ≡ u → list_all is_white (drop 2 (drop (length boundary) (drop 2 text))) ≡ v → mark_by boundary text ≡ steps s t w u v
mark_by-steps boundary text s t w u v s_is t_is w_is u_is v_is = rw (delimiter_steps boundary text, close_steps boundary text, s_is, t_is, w_is, u_is, v_is) refl

-- what the reader has found of a text: what stands after the hyphens, and after the boundary
pub record HasTail (boundary text dashed tail : List ℕ) : Type 0 where
  pub dashes_first : starts_with nat_eq text dashes ≡ true
  pub dashed_is : dashed ≡ drop 2 text
  pub boundary_next : starts_with nat_eq dashed boundary ≡ true
  pub tail_is : tail ≡ drop (length boundary) dashed
  pub not_blank : false ≡ list_all is_white tail

pub no_boundary : (boundary text dashed : List ℕ) → starts_with nat_eq text dashes ≡ true → dashed ≡ drop 2 text → starts_with nat_eq dashed boundary ≡ false → None ≡ mark_by boundary text
no_boundary boundary text dashed first is none = sym (mark_by-steps boundary text true false _ _ _ first (rw is at none) refl refl refl)

by_tail : (boundary text dashed tail : List ℕ) (u v : Bool) → HasTail boundary text dashed tail → starts_with nat_eq tail dashes ≡ u → list_all is_white (drop 2 tail) ≡ v
    → mark_by boundary text ≡ steps true true false u v
by_tail boundary text dashed tail u v has u_is v_is =
    let tail_is = rw has.dashed_is at has.tail_is in
    mark_by-steps boundary text true true false u v has.dashes_first (rw has.dashed_is at has.boundary_next) (rw (← tail_is) (sym has.not_blank)) (rw (← tail_is) u_is) (rw (← tail_is) v_is)

pub no_dashes : (boundary text dashed tail : List ℕ) → HasTail boundary text dashed tail → starts_with nat_eq tail dashes ≡ false → None ≡ mark_by boundary text
no_dashes boundary text dashed tail has none = sym (by_tail boundary text dashed tail false _ has none refl)

pub is_close_mark : (boundary text dashed tail rest : List ℕ) → HasTail boundary text dashed tail → starts_with nat_eq tail dashes ≡ true → rest ≡ drop 2 tail → true ≡ list_all is_white rest
    → Some Close ≡ mark_by boundary text
is_close_mark boundary text dashed tail rest has dashed_too is blank = sym (by_tail boundary text dashed tail true true has dashed_too (rw is at (sym blank)))

pub not_close_mark : (boundary text dashed tail rest : List ℕ) → HasTail boundary text dashed tail → starts_with nat_eq tail dashes ≡ true → rest ≡ drop 2 tail → false ≡ list_all is_white rest
    → None ≡ mark_by boundary text
not_close_mark boundary text dashed tail rest has dashed_too is blank = sym (by_tail boundary text dashed tail true false has dashed_too (rw is at (sym blank)))

-- a line that doesn't begin with two hyphens is marked by no boundary
pub unmarked_plain : (boundaries : List (List ℕ)) (text : List ℕ) → starts_with nat_eq text dashes ≡ false → is_marked_text boundaries text ≡ false
unfolding is_marked_text
unmarked_plain [] text plain = refl
unmarked_plain (boundary ∷ boundaries) text plain = rw (delimiter_steps boundary text, close_steps boundary text, plain) (unmarked_plain boundaries text plain)

-- that a boundary marks the line, by the reader's test
pub marked_by : (boundary text : List ℕ) → (is_padded (dashes ++ boundary) text || is_padded (dashes ++ boundary ++ dashes) text) ≡ is_some (mark_by boundary text)
marked_by boundary text = go (is_padded (dashes ++ boundary) text) (is_padded (dashes ++ boundary ++ dashes) text)
  where
    go : (d c : Bool) → (d || c) ≡ is_some (if d then Some Delimiter else (if c then Some Close else None))
    go true c = refl
    go false true = refl
    go false false = refl

pub or_false : (b : Bool) → (b || false) ≡ b
or_false true = refl
or_false false = refl

pub one_more_boundary : (boundaries : List (List ℕ)) (i : ℕ) (d boundary text : List ℕ) (mark : Option Mark) → i < length boundaries
    → is_marked_text (take i boundaries) text ≡ false → boundary ≡ get_or boundaries i d → mark ≡ mark_by boundary text
    → is_marked_text (take (i + 1) boundaries) text ≡ is_some mark
unfolding is_marked_text
one_more_boundary boundaries i d boundary text mark lt none boundary_is is =
    let here : List ℕ = get_or boundaries i d in
    rw (take_more boundaries i d lt, list_any-append, none) (or_false (is_padded (dashes ++ here) text || is_padded (dashes ++ here ++ dashes) text)
    ∙ marked_by here text ∙ ap is_some (ap (λ all. mark_by all text) (sym boundary_is) ∙ sym is))

pub marked_longer : (boundaries : List (List ℕ)) (i : ℕ) (text : List ℕ) → is_marked_text (take i boundaries) text ≡ true → is_marked_text boundaries text ≡ true
unfolding is_marked_text
marked_longer boundaries i text marked =
    rw (← take-append-drop i boundaries) (rw (list_any-append, marked) refl)

pub delimiter-plain : (boundary text : List ℕ) → starts_with nat_eq text dashes ≡ false → false ≡ is_padded (dashes ++ boundary) text
delimiter-plain boundary text none = sym (delimiter_steps boundary text ∙ rw none refl)

pub delimiter-other : (boundary text dashed : List ℕ) → dashed ≡ drop 2 text → starts_with nat_eq text dashes ≡ true → starts_with nat_eq dashed boundary ≡ false → false ≡ is_padded (dashes ++ boundary) text
delimiter-other boundary text dashed is some none = sym (delimiter_steps boundary text ∙ rw (some, ← is, none) refl)

pub delimiter-tail : (boundary text dashed tail : List ℕ) → dashed ≡ drop 2 text → starts_with nat_eq text dashes ≡ true → starts_with nat_eq dashed boundary ≡ true → tail ≡ drop (length boundary) dashed
    → list_all is_white tail ≡ is_padded (dashes ++ boundary) text
delimiter-tail boundary text dashed tail is some begins tail_is = sym (delimiter_steps boundary text ∙ rw (some, ← is, begins, ← tail_is) refl)
