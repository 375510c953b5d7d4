use Rattle.address_lists.proofs.PlacesAgain.{AddressesPieces-read}
use Rattle.address_lists.proofs.laws.written_addresses_are_read_back.Goals as goal

pub returns : goal.returns
returns c = AddressesPieces-read
