use Rattle.field_tokens.proofs.TokenLemmas.{comment_none, quoted_none, literal_none, literal_octet, special_found, no_class, class_none}
use Rattle.std.proofs.Common.{sym}
use Rattle.encoded_words.proofs.QText.{first_is}
use Rattle.field_tokens.proofs.reading.first_token.Goals as goal

pub returns-in_default-clause-none : goal.returns-in_default-clause-none
returns-in_default-clause-none c = comment_none c.args.style _ c.args.text.now _ (first_is c.args.text.now c.requires) c.if-octet-eq40.true c.in_default.ensures.none

pub returns-in_default-group_rest-clause-none : goal.returns-in_default-group_rest-clause-none
returns-in_default-group_rest-clause-none c = quoted_none c.args.style _ c.args.text.now _ (first_is c.args.text.now c.requires) c.if-octet-eq34.true c.in_default-group_rest.ensures.none

pub returns-in_default-group_rest-2-clause-none : goal.returns-in_default-group_rest-2-clause-none
returns-in_default-group_rest-2-clause-none c =
    literal_none c.args.style _ c.args.text.now _ (first_is c.args.text.now c.requires) (literal_octet c.args.style _ (sym c.if-opens_literal.ensures)) c.in_default-group_rest-2.ensures.none

pub returns-then-is_special-clause-found : goal.returns-then-is_special-clause-found
returns-then-is_special-clause-found c = special_found c.args.style _ c.args.text.now _ (first_is c.args.text.now c.requires) (sym c.if-is_special.ensures)

pub returns-clause-none : goal.returns-clause-none
returns-clause-none c = no_class c.args.style _ c.args.text.now _ (first_is c.args.text.now c.requires) (class_none c.args.style _ (sym c.if-is_white.ensures) c.if-octet-eq40.false c.if-octet-eq34.false
    (sym c.if-opens_literal.ensures) (sym c.if-is_special.ensures) (sym c.if-is_atom_octet.ensures))
