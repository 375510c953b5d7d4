use Rattle.address_lists.proofs.AddressListTexts.{AddressesPieces-says}
use Rattle.address_lists.proofs.DecideAddresses.{decide_addresses}
use Rattle.address_lists.proofs.ListPiecesSome.{AddressesPieces-some}
use Rattle.address_lists.proofs.laws.addresses_are_there.Goals as goal

pub returns-clause-decided : goal.returns-clause-decided
returns-clause-decided c = decide_addresses

pub returns-clause-pieces : goal.returns-clause-pieces
returns-clause-pieces c = AddressesPieces-some

pub returns-clause-addresses : goal.returns-clause-addresses
returns-clause-addresses c = AddressesPieces-says
