-- The steps of reading STORE and what stands after UID.
use Rattle.std.proofs.Common.{ℕ, Bool, List, [], ◌∷◌, Option, inl, refl}
use Rattle.imap_words.specs.Languages.{Then, After, Is, IsOctet, IsViable}
use Rattle.imap_words.specs.Going.{Continues}
use Rattle.imap_words.specs.Tokens.{IsSpace}
use Rattle.imap_words.specs.Keywords.{IsTable, IsWordOf}
use Rattle.imap_words.specs.Sets.{IsSeqNumber, IsSeqRange, IsSetAndSpace}
use Rattle.imap_words.proofs.Composing.{Avoids}
use Rattle.imap_words.proofs.TokenSteps.{octet_viable}
use Rattle.imap_words.proofs.Going.{octet_avoids, then_avoids, then_viable, is_viable}
use Rattle.imap_words.proofs.Choosing.{more_viable}
use Rattle.imap_words.proofs.KeywordSteps.{word_viable}
use Rattle.imap_words.proofs.TableSteps.{is_table}
use Rattle.imap_words.proofs.SetSteps.{seq_number_viable}
use Rattle.imap_words.proofs.Parting.{through_value}
use Rattle.imap_grammar.specs.declared.command.Command.{Command}
use Rattle.imap_grammar.specs.declared.command.Command.TheVariants as command
use Rattle.imap_grammar.specs.declared.command.StoreOp.{StoreOp}
use Rattle.imap_grammar.specs.Flags.{IsFlagsToEnd, HasFlags, flags_of, storing_words, after_storing}
use Rattle.imap_grammar.proofs.FlagSteps.{to_end_word}

pub range_viable : IsViable IsSeqRange []
range_viable = then_viable IsSeqNumber _ seq_number_viable (λ first. record { rest = []; value = (first, first); is_word = inl (refl, refl) })

pub set_viable : IsViable IsSetAndSpace []
set_viable = then_viable IsSeqRange _ range_viable (λ range. more_viable (IsOctet 44) IsSeqRange IsSpace (range ∷ []) (octet_viable 32))

storing_table : IsTable storing_words
storing_table = is_table _ _ refl refl

module _ (by_uid : Bool) (set : List (Option ℕ × Option ℕ)) where
  abbrev pub Stored : StoreOp × Bool → ℕ → Command
  Stored storing flags = command.Store by_uid (record { ranges = set }) storing.0 storing.1 flags

  abbrev pub IsAfterWord : StoreOp × Bool → List ℕ → Command → Type 0
  IsAfterWord storing = After IsSpace (Then IsFlagsToEnd (λ flags. Is (Stored storing (flags_of flags))))

  pub word_avoids : (storing : StoreOp × Bool) → Avoids (after_storing storing) (IsAfterWord storing)
  word_avoids storing = then_avoids (after_storing storing) (IsOctet 32) _ (octet_avoids (after_storing storing) 32 refl)

  pub flags_viable : (storing : StoreOp × Bool) → IsViable (Then IsFlagsToEnd (λ flags. Is (Stored storing (flags_of flags)))) []
  flags_viable storing = then_viable IsFlagsToEnd _ to_end_word (λ flags. is_viable (Stored storing (flags_of flags)))

  pub after_word_viable : (storing : StoreOp × Bool) → IsViable (IsAfterWord storing) []
  after_word_viable storing = then_viable IsSpace _ (octet_viable 32) (λ _. flags_viable storing)

  pub after_set_viable : IsViable (Then (IsWordOf storing_words) IsAfterWord) []
  after_set_viable = then_viable (IsWordOf storing_words) IsAfterWord (word_viable storing_words storing_table) after_word_viable

  -- the flags are told by their bits
  pub told_by_bits : (storing : StoreOp × Bool) (text : List ℕ) → Continues (Then IsFlagsToEnd (λ flags. Is (Stored storing (flags_of flags)))) text (Then (HasFlags IsFlagsToEnd) (λ n. Is (Stored storing n))) text
  told_by_bits storing text = through_value IsFlagsToEnd flags_of (λ n. Is (Stored storing n)) text

pub store_viable : (by_uid : Bool) → IsViable (Then IsSetAndSpace (λ set. Then (IsWordOf storing_words) (IsAfterWord by_uid set))) []
store_viable by_uid = then_viable IsSetAndSpace _ set_viable (after_set_viable by_uid)
