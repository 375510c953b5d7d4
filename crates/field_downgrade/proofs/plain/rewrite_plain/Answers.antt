use Rattle.std.proofs.Common.{◌≡◌, true, refl, sym, ap, ◌∙◌}
use Rattle.std.proofs.lemmas.Bool.{true≢false}
use Rattle.std.specs.List.{list_all}
use Rattle.mail_wire.specs.Octets.{is_ascii}
use Rattle.field_tokens.specs.Tokens.{HasTokenValues}
use Rattle.field_tokens.specs.Lexemes.{values_of}
use Rattle.field_tokens.proofs.TokenLines.{comments_are_writable}
use Rattle.field_downgrade.specs.PlainTexts.{style_where}
use Rattle.field_downgrade.specs.private.PlainSteps.{IsOneAtom}
use Rattle.field_downgrade.proofs.PlainReading.{plain_written, not_ascii, not_atom}
use Rattle.field_downgrade.proofs.plain.rewrite_plain.Goals.{else-is_encoding-via-then-is_encoding+else-not-is_one_atom, else-is_encoding-via-else-is_encoding}
use Rattle.field_downgrade.proofs.plain.rewrite_plain.Goals as goal

pub returns-then-not-is_one_atom : goal.returns-then-not-is_one_atom
returns-then-not-is_one_atom c =
    let has : HasTokenValues (style_where c.args.is_encoding) c.args.text.now (values_of c.new-tokens.result) = rw (c.new-tokens.ensures, c.deref.ensures.value) (rw (c.style_where.ensures, c.in-Some.is) at c.in_ok-marks.ensures.some) in
    (not_atom c.args.is_encoding c.args.text.now _ has c.if-is_encoding.true (λ one. true≢false (sym (c.is_one_atom.ensures.1 one) ∙ c.if-not-is_one_atom.true)), refl)

pub returns-then-not-is_ascii : goal.returns-then-not-is_ascii
returns-then-not-is_ascii c =
    let has : HasTokenValues (style_where c.args.is_encoding) c.args.text.now (values_of c.new-tokens.result) = rw (c.new-tokens.ensures, c.deref.ensures.value) (rw (c.style_where.ensures, c.in-Some.is) at c.in_ok-marks.ensures.some) in
    (not_ascii c.args.is_encoding c.args.text.now c.in_ok-said.said _ has c.in_ok-said.ensures (sym (ap (list_all is_ascii) c.as_slice.ensures) ∙ sym c.is_ascii.ensures ∙ c.if-not-is_ascii.true), refl)

pub write_comments-requires : goal.write_comments-requires
write_comments-requires c =
    let has : HasTokenValues (style_where c.args.is_encoding) c.args.text.now (values_of c.new-tokens.result) = rw (c.new-tokens.ensures, c.deref.ensures.value) (rw (c.style_where.ensures, c.in-Some.is) at c.in_ok-marks.ensures.some) in
    comments_are_writable (style_where c.args.is_encoding) _ c.args.text.now has.are_tokens has.is_line

pub returns : goal.returns
returns c =
    let has : HasTokenValues (style_where c.args.is_encoding) c.args.text.now (values_of c.new-tokens.result) = rw (c.new-tokens.ensures, c.deref.ensures.value) (rw (c.style_where.ensures, c.in-Some.is) at c.in_ok-marks.ensures.some) in
    let ascii : list_all is_ascii c.in_ok-said.said ≡ true = sym (ap (list_all is_ascii) c.as_slice.ensures) ∙ sym c.is_ascii.ensures ∙ c.if-not-is_ascii.false in
    let atom : (c.args.is_encoding ≡ true → IsOneAtom (values_of c.new-tokens.result)) = elim c.else-is_encoding.branch [
      | else-is_encoding-via-then-is_encoding+else-not-is_one_atom w ↦ λ e. w.is_one_atom.ensures.0 w.if-not-is_one_atom.false
      | else-is_encoding-via-else-is_encoding w ↦ λ e. absurd (true≢false (sym e ∙ w.if-is_encoding.false))
    ] in
    plain_written c.args.is_encoding c.args.text.now c.in_ok-said.said _ c.args.made.now c.push_text.new.made c.write_comments.new.made has c.in_ok-said.ensures ascii atom
    (rw (c.as_slice-2.ensures) at c.in_ok-push_text.ensures) c.in_ok-write_comments.ensures
