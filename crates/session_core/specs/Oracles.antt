-- What sessions take from other definitions: what surrogate a message has, what a text says that may be a path, which octets have a
-- tree of entities, which entities these are and what mark the octets have, what is due first in a stream of IMAP commands, which mailbox a
-- text names, and the views of octets.
use Rattle.std.specs.Prelude.{ℕ, List, Bool, Option, IsTrue, ◌↔◌}
use Rattle.address_grammar.specs.declared.Address.{Address}
use Rattle.address_grammar.specs.Paths.{ReadsPaths}
use Rattle.journal_records.specs.Stored.{HasMark, IsStored}
use Rattle.mime_tree.specs.Outlines.{Outline}
use Rattle.surrogate_cache.specs.Served.{GivesSurrogates}
use Rattle.imap_grammar.specs.FirstDue.{Due, ReadsCommands}
use Rattle.imap_mailboxes.specs.Names.{ReadsMailboxes}
use Rattle.imap_views.specs.Views.{View, GivesViews, GivesOutlines}

-- What sessions take from other definitions: surrogates, paths, trees, marks, commands, names and views.
pub record Oracles : Type 0 where
  -- the surrogate of a message
  pub surrogate : List ℕ → List ℕ
  -- what a text says that may be a path; the null path has no address
  pub path_of : List ℕ → Option (Option Address)
  -- whether octets have a tree of entities, and these entities
  pub has_tree : List ℕ → Bool
  pub outlines : List ℕ → List Outline
  -- the mark of octets that have a tree
  pub mark_of : List ℕ → ℕ
  -- what is due first, by whether the session has enabled UTF-8, what was seen of a command, and what follows
  pub event_of : Bool → List ℕ → List ℕ → Option Due
  -- the mailbox that a text names, by whether the session has enabled UTF-8
  pub name_of : Bool → List ℕ → Option (List ℕ)
  -- a view of octets
  pub view_of : View → List ℕ → List ℕ

-- the function tells which octets have a tree of entities
abbrev pub TellsTrees : (List ℕ → Bool) → Type 0
TellsTrees has_tree = (octets : List ℕ) → IsTrue (has_tree octets) ↔ IsStored octets

-- the function tells the marks of octets that have a tree
abbrev pub TellsMarks : (List ℕ → ℕ) → Type 0
TellsMarks mark_of = (octets : List ℕ) → IsStored octets → HasMark octets (mark_of octets)

-- The functions are right: they give surrogates, read paths, tell trees, their entities and marks, read commands and names, and give views.
pub record AreOracles (oracles : Oracles) : Type 0 where
  pub surrogates : GivesSurrogates oracles.surrogate
  pub paths : ReadsPaths oracles.path_of
  pub trees : TellsTrees oracles.has_tree
  pub entities : GivesOutlines oracles.outlines
  pub marks : TellsMarks oracles.mark_of
  pub commands : ReadsCommands oracles.event_of
  pub names : ReadsMailboxes oracles.name_of
  pub views : GivesViews oracles.view_of

-- whatever functions do so
abbrev pub WithOracles : (Oracles → Type 0) → Type 0
WithOracles P = (oracles : Oracles) → AreOracles oracles → P oracles
