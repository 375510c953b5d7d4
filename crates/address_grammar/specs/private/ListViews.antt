-- What the lists of the code say.
use Rattle.std.specs.Prelude.{List, map}
use Rattle.encoded_words.specs.declared.Unit.{Unit}
use Rattle.encoded_words.specs.Words.{UnitValue}
use Rattle.encoded_words.specs.private.Values.{value_of}
use Rattle.field_tokens.specs.declared.Comment.{Comment}
use Rattle.field_tokens.specs.Trees.{Tree, tree_of}
use Rattle.address_grammar.specs.declared.Mailbox.{Mailbox}
use Rattle.address_grammar.specs.declared.Element.{Element}
use Rattle.address_grammar.specs.declared.Element.TheVariants.{Mailbox as OneMailbox, Group as GroupOf}
use Rattle.address_grammar.specs.AddressLists.{MailboxValue, ElementValue, One, Group}

abbrev pub unit_values : List Unit → List UnitValue
unit_values units = map value_of units

abbrev pub mailbox_value : Mailbox → MailboxValue
mailbox_value m = record { phrase = m.phrase; display = unit_values m.display; angle = m.angle; address = m.address }

abbrev pub mailbox_values : List Mailbox → List MailboxValue
mailbox_values ms = map mailbox_value ms

abbrev pub element_value : Element → ElementValue
element_value (OneMailbox m) = One (mailbox_value m)
element_value (GroupOf name members) = Group (unit_values name) (mailbox_values members)

abbrev pub element_values : List Element → List ElementValue
element_values es = map element_value es

abbrev pub trees_of : List Comment → List Tree
trees_of comments = map tree_of comments
