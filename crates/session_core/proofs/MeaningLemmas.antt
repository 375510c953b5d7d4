-- There are functions that give surrogates, read paths, tell trees, entities and marks, read commands and names, and give views.
use Rattle.std.proofs.Common.{ℕ, List, Bool, true, false, refl, rules, ◌⊎◌, inl, inr}
use Rattle.std.specs.Prelude.{IsTrue, ◌↔◌}
use Rattle.mime_tree.specs.declared.entity.Entity.{Entity}
use Rattle.mime_tree.specs.Tree.{HasTree}
use Rattle.mime_tree.proofs.DecidingTrees.{decide_tree}
use Rattle.journal_records.specs.Stored.{HasMark, IsStored, mark_in}
use Rattle.surrogate_cache.proofs.ServedLemmas.{surrogates_given}
use Rattle.address_grammar.proofs.DecidePaths.{paths_read}
use Rattle.imap_grammar.proofs.DecidingDue.{commands_read}
use Rattle.imap_mailboxes.proofs.ReadMailboxes.{mailboxes_read}
use Rattle.imap_views.proofs.GivenViews.{outlines_given, views_given}
use Rattle.session_core.specs.Oracles.{Oracles, AreOracles}

-- octets have a tree of entities, or none
abbrev Decided : List ℕ → Type 0
Decided octets = ((entities : List Entity) × HasTree octets entities) ⊎ ((entities : List Entity) → ¬ HasTree octets entities)

-- whether there is a tree
told : (octets : List ℕ) → Decided octets → Bool
told octets (inl tree) = true
told octets (inr none) = false

-- which tells whether the octets may be kept
told_is : (octets : List ℕ) (decided : Decided octets) → IsTrue (told octets decided) ↔ IsStored octets
unfolding told
told_is octets (inl tree) = (λ is. record { entities = tree.0; tree = tree.1 }, λ stored. search rules)
told_is octets (inr none) = (λ is. absurd (search rules), λ stored. absurd (none stored.entities stored.tree))

-- the mark of octets that have a tree
marked : (octets : List ℕ) → Decided octets → ℕ
marked octets (inl tree) = mark_in octets tree.0
marked octets (inr none) = 0

-- which is theirs
marked_is : (octets : List ℕ) (decided : Decided octets) → IsStored octets → HasMark octets (marked octets decided)
unfolding marked
marked_is octets (inl tree) stored = record { entities = tree.0; tree = tree.1; mark_is = refl }
marked_is octets (inr none) stored = absurd (none stored.entities stored.tree)

pub oracles_given : (oracles : Oracles) × AreOracles oracles
oracles_given = (
  record {
    surrogate = surrogates_given.0;
    path_of = paths_read.0;
    has_tree = λ octets. told octets (decide_tree octets);
    outlines = outlines_given.0;
    mark_of = λ octets. marked octets (decide_tree octets);
    event_of = commands_read.0;
    name_of = mailboxes_read.0;
    view_of = views_given.0;
  },
  record {
    surrogates = surrogates_given.1;
    paths = paths_read.1;
    trees = λ octets. told_is octets (decide_tree octets);
    entities = outlines_given.1;
    marks = λ octets. marked_is octets (decide_tree octets);
    commands = commands_read.1;
    names = mailboxes_read.1;
    views = views_given.1;
  },
)
