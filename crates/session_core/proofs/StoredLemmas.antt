-- The octets and the dates of a store's messages, also of none, and what a legacy session is shown of them.
use Rattle.std.proofs.Common.{◌≡◌, ℕ, zero, suc, List, [], ◌∷◌, false, true, Some, None, refl, sym, subst, ◌∙◌, inl, inr, arith}
use Rattle.std.specs.Prelude.{slice_get}
use Rattle.std.specs.List.{AllByRecursion, list_all}
use Rattle.std.specs.Option.{option_map_or}
use Rattle.std.proofs.lemmas.List.Elements.{recursion_from_All}
use Rattle.std.proofs.lemmas.Option.{slice_get_past}
use Rattle.mail_wire.specs.Lines.{lines_of}
use Rattle.mail_wire.specs.Message.{IsFaulty, StandsAt}
use Rattle.mail_wire.specs.Octets.{is_ascii}
use Rattle.mime_tree.specs.Openings.{Opens}
use Rattle.mime_tree.specs.Tree.{IsEntity}
use Rattle.mime_tree.specs.declared.entity.Entity.{Entity}
use Rattle.mime_tree.specs.declared.entity.Shape.TheVariants.{Leaf}
use Rattle.mime_tree.specs.declared.openings.Opening.TheVariants.{Nothing}
use Rattle.surrogate_rope.specs.Layout.{HasAsciiBlocks, HasSurrogate}
use Rattle.surrogate_rope.proofs.AllSurrogates.{some_surrogate}
use Rattle.surrogate_rope.proofs.SurrogateBlocks.{surrogate_blocks}
use Rattle.journal_records.specs.Grammar.{IsDate}
use Rattle.journal_records.specs.Stored.{IsStored}
use Rattle.mail_store.specs.Changing.{expunged}
use Rattle.kept_mail.specs.Kept.{Kept, after_all, change_at, gone}
use Rattle.mail_store.specs.StoreState.{StoreState, AreStored}
use Rattle.kept_mail.specs.declared.kept.Message.{Message}
use Rattle.kept_mail.proofs.SameMessages.{AreSameMessages-gone}
use Rattle.kept_mail.proofs.DateLemmas.{date_ascii}
use Rattle.mail_store.proofs.IndexLemmas.{AreStored-same}
use Rattle.session_core.specs.Desks.{stored_date, stored_octets}
use Rattle.session_core.specs.Oracles.{Oracles, AreOracles}

-- ---- no octets

nothing_stands : (at x : ℕ) → StandsAt [] at x → ⊥
nothing_stands at x stands = let none : slice_get {X = ℕ} [] at ≡ None = slice_get_past [] at (omega arith) in let apart : Some x ≡ None = sym stands ∙ none in cc

nothing_faulty : (at : ℕ) → IsFaulty [] at → ⊥
nothing_faulty at (inl nul) = nothing_stands at 0 nul
nothing_faulty at (inr (inl cr)) = nothing_stands at 13 cr.0
nothing_faulty at (inr (inr lf)) = nothing_stands at 10 lf.0

pub opens_nothing : Opens false [] Nothing
opens_nothing = record { encoding = None; is_encoding = refl; opened = inl (tt, (None, refl, refl)) }

-- the one entity of no octets
abbrev only_entity : Entity
only_entity = record { parent = None; depth = 1; at = 0; body = 0; end = 0; shape = Leaf; block = record { fields = []; end = 0 } }

-- no octets are a message with nothing in it
pub stored-nothing : IsStored []
unfolding lines_of IsEntity
stored-nothing = record {
  entities = only_entity ∷ [];
  tree = record {
    is_message = nothing_faulty;
    root = (
      record {
        entity = only_entity;
        content = [];
        inner = [];
        entities_are = refl;
        head = record { has_block = record { header = []; rest = []; lines = refl; fields_are = (refl, refl); ends = tt }; content_is = refl; body_is = refl };
        parent_is = refl;
        depth_is = refl;
        at_is = refl;
        end_is = refl;
      },
      Nothing,
      opens_nothing,
      (refl, refl),
    );
  };
}

-- ---- the messages of a store

abbrev AllStored : List Message → Type 0
AllStored messages = AllByRecursion (λ (message : Message). IsStored message.octets) messages

stored_get : (messages : List Message) (id : ℕ) → AllStored messages → IsStored (option_map_or (λ (message : Message). message.octets) (slice_get messages id) [])
stored_get [] zero all = stored-nothing
stored_get [] (suc id) all = stored-nothing
stored_get (message ∷ messages) zero all = all.0
stored_get (message ∷ messages) (suc id) all = stored_get messages id all.1

-- what stands at any number
pub stored_at : (store : StoreState) (id : ℕ) → AreStored store.kept.messages → IsStored (stored_octets store id)
stored_at store id are = stored_get store.kept.messages id (recursion_from_All (λ (message : Message). IsStored message.octets) store.kept.messages are.each)

dated_get : (messages : List Message) (id : ℕ) → AllByRecursion (λ (message : Message). IsDate message.date) messages
    → list_all is_ascii (option_map_or (λ (message : Message). message.date) (slice_get messages id) []) ≡ true
dated_get [] zero all = refl
dated_get [] (suc id) all = refl
dated_get (message ∷ messages) zero all = date_ascii message.date all.0
dated_get (message ∷ messages) (suc id) all = dated_get messages id all.1

-- the date of what stands at any number is ASCII
pub dated_at : (store : StoreState) (id : ℕ) → AreStored store.kept.messages → list_all is_ascii (stored_date store id) ≡ true
dated_at store id are = dated_get store.kept.messages id (recursion_from_All (λ (message : Message). IsDate message.date) store.kept.messages are.dated)

-- so it is after messages that were taken out
pub stored-expunged : (kept : Kept) (ids : List ℕ) → AreStored kept.messages → AreStored (after_all kept (expunged ids)).messages
stored-expunged kept [] are = are
stored-expunged kept (id ∷ ids) are =
    stored-expunged (record kept { messages = change_at gone kept.messages id }) ids (AreStored-same kept.messages (change_at gone kept.messages id) are (AreSameMessages-gone kept.messages id))

-- ---- what is shown

-- a legacy session is shown the surrogate, whose headers are ASCII
pub surrogate_shown : (oracles : Oracles) → AreOracles oracles → (msg : List ℕ) → IsStored msg → HasSurrogate msg (oracles.surrogate msg) × HasAsciiBlocks (oracles.surrogate msg)
surrogate_shown oracles are msg stored =
    let made = some_surrogate msg stored.entities stored.tree in
    let same : made.0 ≡ oracles.surrogate msg = are.surrogates msg made.0 made.1 in
    let has : HasSurrogate msg (oracles.surrogate msg) = subst (λ s. HasSurrogate msg s) same made.1 in
    (has, surrogate_blocks msg (oracles.surrogate msg) has)
