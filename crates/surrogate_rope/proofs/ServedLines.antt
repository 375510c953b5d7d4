-- Served fields keep the lines of the fields that they stand for, and so the tree.
use Rattle.std.proofs.Common.{◌≡◌, ◌≢◌, ℕ, ◌<◌, Bool, true, false, ◌⊎◌, inl, inr, List, [], ◌∷◌, ◌++◌, length, nat_eq, refl, sym, ◌∙◌, arith}
use Rattle.std.specs.List.{starts_with, list_all}
use Rattle.std.proofs.lemmas.Bool.{both_ways, cases_Bool}
use Rattle.std.proofs.lemmas.Bool.Decides.{nat_tests}
use Rattle.mail_wire.specs.Message.{IsNul}
use Rattle.mail_wire.specs.Octets.{is_ascii}
use Rattle.utf8_fields.specs.Parts.{FieldParts, field_octets}
use Rattle.param_grammar.specs.declared.ParamKind.TheVariants.{Content}
use Rattle.field_downgrade.specs.declared.kind.Kind.{Kind}
use Rattle.field_downgrade.specs.declared.kind.Kind.TheVariants.{Unstructured, Params}
use Rattle.field_downgrade.specs.Stands.{BeginsHyphen, HasFieldLayout, Copied, Changed, Made, NamesMessage, with_body}
use Rattle.field_downgrade.specs.Message.{IsServedField}
use Rattle.field_downgrade.proofs.StructuredFields.{structured_no_hyphen}
use Rattle.mime_tree.specs.Marks.{dashes}
use Rattle.mime_tree.specs.Rewriting.{KeepsLine, KeepsTrees}
use Rattle.surrogate_rope.specs.Layout.{InEntity}
use Rattle.surrogate_rope.proofs.SameOpenings.{same_openings}

-- octets that begin with a name that doesn't begin with `-` don't begin with two of these
name_apart : (name rest : List ℕ) → 0 < length name → ¬ BeginsHyphen name → starts_with nat_eq (name ++ rest) dashes ≡ false
name_apart [] rest some other = absurd (omega (arith, some))
name_apart (x ∷ name) rest some other =
    let differ : nat_eq 45 x ≡ false = grind (arith, nat_tests, other) in rw differ refl

field_apart : (f : FieldParts) (made : List ℕ) → made ≡ field_octets f → 0 < length f.name → ¬ BeginsHyphen f.name → starts_with nat_eq made dashes ≡ false
field_apart f made is some other = rw is (name_apart f.name (f.white ++ 58 ∷ (f.body ++ f.ending)) some other)

-- the type of a message has such a name
params_other : (kind : Kind) → kind ≡ Params Content → kind ≢ Unstructured
params_other kind e u = let no = sym e ∙ u in cc no

named_apart : (raw made : List ℕ) → NamesMessage raw made → starts_with nat_eq made dashes ≡ false
named_apart raw made n =
    field_apart (with_body n.f n.changed) made n.made_is n.is_field.is_field.named (structured_no_hyphen n.f.name (params_other _ n.kind))

-- an ASCII field is the same then, or it is such a type
ascii_apart : (open_global : Bool) (raw made : List ℕ) → list_all is_ascii raw ≡ true → HasFieldLayout open_global raw made → (made ≡ raw) ⊎ (starts_with nat_eq made dashes ≡ false)
ascii_apart open_global raw made ascii (Copied is unchanged same) = inl same
ascii_apart open_global raw made ascii (Changed opened names) = inr (named_apart raw made names)
ascii_apart open_global raw made ascii (Made f g high layout is) = absurd (both_ways (list_all is_ascii raw) high.high ascii)

served_apart : (open_global : Bool) (raw made : List ℕ) → IsServedField open_global raw made → (made ≡ raw) ⊎ (starts_with nat_eq made dashes ≡ false)
served_apart open_global raw made is = elim (cases_Bool (list_all is_ascii raw)) [
  | inl ascii ↦ ascii_apart open_global raw made ascii is.layout
  | inr high ↦ inr (field_apart is.lines.g made is.lines.made_field.spelled is.lines.made_field.named (is.lines.no_hyphen high))
]

-- a served field has no NUL where the other one has none
served_no_nul : (open_global : Bool) (raw made : List ℕ) → IsServedField open_global raw made → ((place : ℕ) → ¬ IsNul raw place) → (place : ℕ) → ¬ IsNul made place
served_no_nul open_global raw made is = is.lines.no_nul

served_line : (open_global : Bool) (raw made : List ℕ) → IsServedField open_global raw made → KeepsLine raw made
served_line open_global raw made is = record {
  f = is.lines.f;
  g = is.lines.g;
  is_field = is.lines.is_field;
  made_field = is.lines.made_field;
  ending = is.lines.ending;
  no_nul = served_no_nul open_global raw made is;
  no_dashes = served_apart open_global raw made is;
}

pub served_keeps_trees : (msg : List ℕ) → KeepsTrees (InEntity IsServedField msg) msg
served_keeps_trees msg = record {
  lines = λ entity raw made is. served_line is.open_global raw made is.holds;
  opens = same_openings msg;
}
