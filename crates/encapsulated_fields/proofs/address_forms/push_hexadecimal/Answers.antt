use Rattle.encapsulated_fields.proofs.HexLemmas.{hexadecimal-put}
use Rattle.encapsulated_fields.proofs.address_forms.push_hexadecimal.Goals as goal

pub returns : goal.returns
returns c =
    let a = c.in_ok-push_leading.ensures in
    let b = c.in_ok-push_leading-2.ensures in
    let d = c.in_ok-push_leading-3.ensures in
    let e = c.in_ok-push_leading-4.ensures in
    let f = c.in_ok-push_digit.ensures in
    hexadecimal-put c.push_digit-2.result c.args.number _ _ _ _ _ _ _ a b d e f c.push_digit-2.ensures
