use Rattle.std.proofs.Common.{refl}
use Rattle.encapsulated_fields.specs.Xtext.{ReadsAs}
use Rattle.encapsulated_fields.proofs.XtextLemmas.{ReadsAs-utf8}
use Rattle.field_downgrade.proofs.TypedLemmas.{not-TypedPieces-type, not-TypedPieces-read, typed_written}
use Rattle.field_downgrade.proofs.typed.rewrite_typed.Goals as goal

pub returns-in_default : goal.returns-in_default
returns-in_default c = (not-TypedPieces-type c.args.value.now c.in_default.ensures.none, refl)

pub returns-in_default-2 : goal.returns-in_default-2
returns-in_default-2 c = (not-TypedPieces-read c.args.value.now c.in-Some.written.now c.in-Some.ensures.found (rw (c.in_default-2.is) at c.in_ok-address.ensures.none), refl)

pub push_typed-requires : goal.push_typed-requires
push_typed-requires c =
    let reads : ReadsAs c.in-Some.written.now c.in-Some-2.address = rw (c.in-Some-2.is) at c.in_ok-address.ensures.found in
    rw (c.as_slice.ensures) (ReadsAs-utf8 c.in-Some.written.now c.in-Some-2.address reads).1

pub returns : goal.returns
returns c =
    let reads : ReadsAs c.in-Some.written.now c.in-Some-2.address = rw (c.in-Some-2.is) at c.in_ok-address.ensures.found in
    typed_written c.args.value.now c.in-Some.written.now c.in-Some-2.address _ _ c.in-Some.ensures.found reads (rw (c.as_slice.ensures) at c.in_ok-push_typed.ensures)
