use Rattle.std.proofs.Common.{◌≡◌, ◌<◌, All, length, map, not, refl, sym, ap, ◌∙◌, subst, arith}
use Rattle.std.specs.Prelude.{nat_lt}
use Rattle.std.specs.List.{list_all, slice_get}
use Rattle.std.proofs.lemmas.List.Elements.{All-filter}
use Rattle.param_grammar.specs.Joining.{AreNumbered}
use Rattle.param_grammar.specs.Places.{piece_in}
use Rattle.param_grammar.specs.private.Ordered.{ascii_in, numbered_in}
use Rattle.param_grammar.proofs.RunLemmas.{SetsRoles-put, none_given, parts_are, some_given}
use Rattle.param_grammar.proofs.role.set_roles.Goals as goal

pub in_order-requires : goal.in_order-requires
in_order-requires c =
    subst (All (λ number. number < length c.args.named.places.now)) (sym (c.deref.ensures.value ∙ c.in_ok-parts.ensures))
    (All-filter (numbered_in c.args.named.places.now) (λ number. number < length c.args.named.places.now) c.args.run.now c.requires.within)

pub returns-then-is_none-clause-none : goal.returns-then-is_none-clause-none
returns-then-is_none-clause-none c pieces first are is e numbers =
    let parts = ap (map (piece_in pieces)) (c.deref.ensures.value ∙ c.in_ok-parts.ensures) ∙ parts_are c.args.text.now c.args.named.lower.now c.args.named.places.now pieces are c.args.run.now first is in
    none_given c.in_ok-in_order.field-0 (c.is_none.ensures ∙ ap not c.if-is_none.true) (c.in_ok-in_order.ensures.none pieces are.are_placed) (subst AreNumbered (sym parts) numbers)

pub returns-clause-set : goal.returns-clause-set
returns-clause-set c pieces first are is e =
    let places = c.args.named.places.now in
    let run = c.args.run.now in
    let numbers = some_given c.in_ok-in_order.field-0 (c.is_none.ensures ∙ ap not c.if-is_none.false) (c.in_ok-in_order.ensures.numbered pieces are.are_placed) in
    let parts_count : c.len.result ≡ length c.in_ok-parts.parts.items = omega (arith, c.len.ensures, c.in_ok-parts.parts.ok) in
    SetsRoles-put c.args.text.now c.args.named.lower.now places pieces are run _ first c.args.roles.now.items c.put_roles.new.roles.items is
    (record {
      first = c.copied.ensures ∙ c.first.ensures.value ∙ ap (λ xs. slice_get xs 0) (c.deref-2.ensures.value ∙ c.in_ok-parts.ensures);
      is_ascii = c.are_ascii.ensures ∙ ap (list_all (ascii_in places)) (c.deref-3.ensures.value ∙ c.in_ok-parts.ensures);
      has_whole = ap (λ k. nat_lt k (length run)) (parts_count ∙ ap length c.in_ok-parts.ensures);
      is_doubled = refl;
    })
    c.requires.counted (subst AreNumbered (ap (map (piece_in pieces)) (c.deref.ensures.value ∙ c.in_ok-parts.ensures)) numbers) c.put_roles.ensures.put
