use Rattle.std.proofs.Common.{sym, ap, ◌∙◌, map-id}
use Rattle.std.proofs.lemmas.Iterator.{YieldsList-from_chars}
use Rattle.std.proofs.lemmas.Iterator.Consumers.{YieldsList-end}
use Rattle.std.specs.List.{flat_map}
use Rattle.encapsulated_fields.specs.AddressForms.{unitext_char}
use Rattle.encapsulated_fields.proofs.FormLemmas.{ReadsAs-unitext}
use Rattle.encapsulated_fields.proofs.address_forms.unitext_of.Goals as goal

pub returns-clause-form : goal.returns-clause-form
returns-clause-form c =
    let end = YieldsList-end (YieldsList-from_chars c.args.address.now c.requires (cc c.in-Ok.ensures.cases.0)) c.loop-character.yielded _ c.loop-character.yielded_by _ _ c.in-None.is c.next.ensures.steps in
    c.loop-character.invariant ∙ ap (flat_map unitext_char) (sym (map-id c.loop-character.yielded) ∙ end.0)

pub returns-clause-read_back : goal.returns-clause-read_back
returns-clause-read_back c = let form = returns-clause-form c in rw form (ReadsAs-unitext c.args.address.now c.requires)
