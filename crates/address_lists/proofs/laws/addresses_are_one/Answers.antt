use Rattle.address_lists.proofs.AddressListTexts.{SaysAddresses-once}
use Rattle.address_lists.proofs.ListPiecesOnce.{AddressesPieces-once}
use Rattle.address_lists.proofs.laws.addresses_are_one.Goals as goal

pub returns-clause-elements : goal.returns-clause-elements
returns-clause-elements c = λ text es fs cs ds p q. (SaysAddresses-once text es fs cs ds p q).elements

pub returns-clause-comments : goal.returns-clause-comments
returns-clause-comments c = λ text es fs cs ds p q. (SaysAddresses-once text es fs cs ds p q).comments

pub returns-clause-pieces : goal.returns-clause-pieces
returns-clause-pieces c = AddressesPieces-once
