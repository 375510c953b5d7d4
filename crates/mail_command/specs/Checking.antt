-- What `check` tells of a message.
use Rattle.std.specs.Prelude.{◌≡◌, ℕ, List, ◌++◌, Bool, true, false, length, codes, decimal}
use Rattle.mail_wire.specs.Lines.{crlf}
use Rattle.mime_tree.specs.Tree.{has_high_block}
use Rattle.field_downgrade.specs.Stands.{HasFieldLayout}
use Rattle.surrogate_rope.specs.Layout.{HasSurrogate, InEntity}
use Rattle.surrogate_rope.specs.Ropes.{CountsChanged}
use Rattle.mail_command.specs.declared.figures.Figures.{Figures}

-- The figures of a message: how many octets it has and how many its surrogate, how many entities, how many of the fields that the layout
-- rule gives are others than the message's, and whether an octet above 127 stands in a header block.
pub record HasFigures (msg : List ℕ) (figures : Figures) : Type 0 where
  pub made : List ℕ
  pub surrogate : HasSurrogate msg made
  pub octets : figures.octets ≡ length msg
  pub served : figures.served ≡ length made
  pub entities : figures.entities ≡ length surrogate.entities
  pub rewritten : CountsChanged (InEntity HasFieldLayout msg) msg surrogate.entities figures.rewritten
  pub utf8 : figures.utf8 ≡ has_high_block msg surrogate.entities

-- a word, a number, and the end of the line
abbrev pub number_line : List ℕ → ℕ → List ℕ
number_line word number = word ++ (decimal number ++ crlf)

-- The line that tells whether the message needs UTF-8.
abbrev pub utf8_line : Bool → List ℕ
utf8_line true = codes "utf8 yes" ++ crlf
utf8_line false = codes "utf8 no" ++ crlf

-- their five lines
abbrev pub figures_text : Figures → List ℕ
figures_text figures =
    number_line (codes "octets ") figures.octets ++ (number_line (codes "served ") figures.served ++ (number_line (codes "entities ") figures.entities
    ++ (number_line (codes "rewritten ") figures.rewritten ++ utf8_line figures.utf8)))

-- the text is that of the message's figures
pub record TellsFigures (msg text : List ℕ) : Type 0 where
  pub figures : Figures
  pub has : HasFigures msg figures
  pub text_is : text ≡ figures_text figures
