-- A text that begins as no gap, no comment and no type of what is opened doesn't open an entity.
use Rattle.std.proofs.Common.{◌≡◌, ◌≢◌, ℕ, ◌+◌, ◌<◌, ◌≤◌, true, false, not, inl, inr, List, [], ◌∷◌, ◌++◌, length, take, refl, sym, ap, ◌∙◌, subst, arith}
use Rattle.std.proofs.lemmas.Bool.{cases_Bool, and_parts}
use Rattle.std.proofs.lemmas.Bool.Decides.{nat_tests}
use Rattle.std.proofs.lemmas.List.Splits.{slice_split-cons_yes, slice_split-cons_no}
use Rattle.std.proofs.Math.Seq.{take-append_seam}
use Rattle.std.specs.Prelude.{nat_le, ◌==◌}
use Rattle.std.specs.Char.{to_ascii_lowercase}
use Rattle.std.specs.Str.{str_to_ascii_lowercase}
use Rattle.std.specs.List.{list_all, slice_split, onto_first}
use Rattle.mail_wire.specs.Octets.{is_white}
use Rattle.field_tokens.specs.declared.Style.TheVariants.{Mime}
use Rattle.field_tokens.specs.declared.Token.{Token}
use Rattle.field_tokens.specs.declared.TokenKind.{TokenKind}
use Rattle.field_tokens.specs.declared.TokenKind.TheVariants.{Atom, Quoted, Literal, Special, Gap, Comment}
use Rattle.field_tokens.specs.declared.groups.Marks.{Marks}
use Rattle.field_tokens.specs.Groups.{IsEnclosed}
use Rattle.field_tokens.specs.Tokens.{comment_marks, quoted_marks, literal_marks, TokenValue, IsToken, AreTokens, tokens_from, octets_at}
use Rattle.field_tokens.specs.Squeezed.{is_blank, run_octets}
use Rattle.param_grammar.specs.declared.ParamKind.TheVariants.{Content}
use Rattle.param_grammar.specs.Bodies.{is_mark_at, sections_of, solid, is_main}
use Rattle.param_grammar.specs.Joining.{ParamValue, SaysParams}
use Rattle.field_tokens.specs.Comments.{CommentValue}
use Rattle.param_grammar.proofs.DecideParams.{decide_params}
use Rattle.mime_tree.specs.declared.openings.Opening.TheVariants.{Nothing}
use Rattle.mime_tree.specs.Openings.{opening_said, OpensByText}
use Rattle.mime_tree.specs.private.Types.{begins_other}
use Rattle.mime_tree.proofs.OpeningLemmas.{said-other}

-- what the first token is of a text that begins with this octet
record BeginsAtom (x : ℕ) (kind : TokenKind) (octets : List ℕ) : Type 0 where
  solid_kind : is_blank kind ≡ false
  more : List ℕ
  octets_are : octets ≡ x ∷ more

not_white : (x : ℕ) → 97 ≤ x → is_white x ≡ true → ⊥
not_white x high w = grind (arith, nat_tests)

no_group : (m : Marks) (x : ℕ) (after octets rest : List ℕ) → 97 ≤ x → m.open_mark < 97 → x ∷ after ≡ octets ++ rest → IsEnclosed m octets → ⊥
no_group m x after octets rest high low e g = let h = rw (g.spelled) at e in let same : x ≡ m.open_mark = cc h in omega (arith, high, low, same)

first_token : (x : ℕ) (kind : TokenKind) (after octets rest : List ℕ) → 97 ≤ x → x ∷ after ≡ octets ++ rest → IsToken Mime kind octets rest → BeginsAtom x kind octets
first_token x Gap after [] rest high e is = absurd (omega (arith, is.0))
first_token x Gap after (y ∷ octets) rest high e is =
    let same : y ≡ x = cc e in
    absurd (not_white x high (subst (λ z. is_white z ≡ true) same (and_parts (is_white y) (list_all is_white octets) is.1.passes).0))
first_token x Atom after [] rest high e is = absurd (omega (arith, is.0))
first_token x Atom after (y ∷ octets) rest high e is = record { solid_kind = refl; more = octets; octets_are = cc e }
first_token x Special after octets rest high e is = let h = rw (is.1) at e in let same : is.0 ≡ x = cc h in record { solid_kind = refl; more = []; octets_are = is.1 ∙ ap (λ y. y ∷ []) same }
first_token x Comment after octets rest high e is = absurd (no_group comment_marks x after octets rest high (omega arith) e is)
first_token x Quoted after octets rest high e is = absurd (no_group quoted_marks x after octets rest high (omega arith) e is)
first_token x Literal after octets rest high e is = absurd (no_group literal_marks x after octets rest high (omega arith) e is.1)

-- the first part of parts that a token is put before
first_part : (token : Token) (parts : List (List Token)) (first : List Token) (others : List (List Token)) → onto_first token parts ≡ first ∷ others → (part : List Token) × (first ≡ token ∷ part)
first_part token [] first others e = ([], cc e)
first_part token (part ∷ parts) first others e = (part, cc e)

no_main : (text : List ℕ) (first : List Token) (others rest : List (List Token)) → [] ∷ rest ≡ first ∷ others → is_main Content text (solid first) ≡ true → ⊥
no_main text first others rest e main = let none : first ≡ [] = cc e in let h = rw (none) at main in cc h

-- the main part of a text begins as the text
main_begins : (text : List ℕ) (x : ℕ) (after : List ℕ) → text ≡ x ∷ after → 97 ≤ x → (values : List TokenValue) → AreTokens Mime values text → (first : List Token) (others : List (List Token))
    → sections_of text (tokens_from 0 values) ≡ first ∷ others → is_main Content text (solid first) ≡ true → (more : List ℕ) × (run_octets text (solid first) ≡ x ∷ more)
main_begins text x after is high [] are first others sections main = absurd (no_main text first others [] sections main)
main_begins text x after is high (t ∷ ts) are first others sections main =
    let token : Token = record { kind = t.kind; span = record { at = 0; len = length t.octets } } in
    let following : List Token = tokens_from (0 + length t.octets) ts in
    let p = is_mark_at text 59 in
    let begins = first_token x t.kind after t.octets are.0 high (sym is ∙ are.1) are.2 in
    let own : octets_at text token.span ≡ x ∷ begins.more = ap (λ all. take (length t.octets) all) are.1 ∙ take-append_seam t.octets are.0 ∙ begins.octets_are in
    elim (cases_Bool (p token)) [
      | inl ends ↦ absurd (no_main text first others (slice_split p following) (sym (slice_split-cons_yes p token following ends) ∙ sections) main)
      | inr goes ↦
          let part = first_part token (slice_split p following) first others (sym (slice_split-cons_no p token following goes) ∙ sections) in
          let solids : solid (token ∷ part.0) ≡ token ∷ solid part.0 = rw (begins.solid_kind) refl in (
            begins.more ++ run_octets text (solid part.0),
            ap (λ f. run_octets text (solid f)) part.1 ∙ ap (run_octets text) solids ∙ ap (λ octets. octets ++ run_octets text (solid part.0)) own,
          )
    ]

lower_high : (x : ℕ) → 97 ≤ x → to_ascii_lowercase x ≡ x
lower_high x high = grind (arith, nat_tests)

-- a main part that doesn't begin with `m` opens nothing
other_main : (main : List ℕ) (params : List ParamValue) (x : ℕ) (more : List ℕ) → main ≡ x ∷ more → x ≢ 109 → Nothing ≡ opening_said main params
other_main main params x more e other =
    let message : (x == 109) ≡ false = grind (arith, nat_tests) in
    let parts : (109 == x) ≡ false = grind (arith, nat_tests) in
    said-other main params (rw (e, message) refl) (rw (e, parts) refl)

other_says : (x : ℕ) (after main : List ℕ) (params : List ParamValue) (comments : List CommentValue) → begins_other (x ∷ after) ≡ true → SaysParams Content (x ∷ after) main params comments
    → Nothing ≡ opening_said main params
other_says x after main params comments begins says =
    let p = and_parts (nat_le 97 x) (not (x == 109)) begins in
    let high : 97 ≤ x = grind (arith, nat_tests) in
    let other : x ≢ 109 = λ e. grind (arith, nat_tests) in
    let body = says.body.is_body in
    let tokens = says.body.has_tokens in
    let run = main_begins (x ∷ after) x after refl high tokens.values tokens.are_tokens body.first body.others (sym (ap (sections_of (x ∷ after)) tokens.placed) ∙ body.sections) body.is_main_part in
    let begun : main ≡ x ∷ str_to_ascii_lowercase run.0 = body.main_is ∙ ap str_to_ascii_lowercase run.1 ∙ ap (λ y. y ∷ str_to_ascii_lowercase run.0) (lower_high x high) in
    other_main main params x (str_to_ascii_lowercase run.0) begun other

pub other-opens : (text : List ℕ) → begins_other text ≡ true → OpensByText text Nothing
other-opens [] begins = cc begins
other-opens (x ∷ after) begins = elim (decide_params Content (x ∷ after)) [
  | inl says ↦ inl (says.0, says.1, says.2, says.3, other_says x after says.0 says.1 says.2 begins says.3)
  | inr malformed ↦ inr (malformed, refl)
]
