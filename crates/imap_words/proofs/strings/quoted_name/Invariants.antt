use Rattle.std.proofs.Common.{◌≡◌, true, length}
use Rattle.std.specs.List.{list_all}
use Rattle.imap_words.specs.Tokens.{is_name_char}
use Rattle.imap_words.specs.Strings.{IsQuotedName}
use Rattle.imap_words.specs.Going.{Continues}
use Rattle.imap_words.proofs.NameSteps.{IsRestName}
use Rattle.imap_words.proofs.strings.quoted_name.Given as goal

abbrev pub invariant-loop-first : goal.invariant-loop-first
invariant-loop-first l = (list_all is_name_char l.value ≡ true) × Continues IsQuotedName l.text (IsRestName l.value) l.rest

abbrev pub decreases-loop-first : goal.decreases-loop-first
decreases-loop-first l = length l.rest
