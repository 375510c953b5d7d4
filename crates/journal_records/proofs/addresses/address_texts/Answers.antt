use Rattle.std.proofs.Common.{sym, subst}
use Rattle.std.proofs.lemmas.List.Elements.{All-get_or}
use Rattle.address_grammar.specs.Paths.{ComesInPath}
use Rattle.journal_records.proofs.addresses.address_texts.Goals as goal

pub write_address-requires : goal.write_address-requires
write_address-requires c =
    subst ComesInPath (sym c.address-item.is) (All-get_or ComesInPath c.args.addresses.now c.loop-address.address-index c.address-item.result c.loop-address-test.true c.requires)
