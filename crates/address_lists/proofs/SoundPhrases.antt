-- What stands in a text can be written.
use Rattle.std.proofs.Common.{◌≡◌, ℕ, true, List, [], ◌∷◌}
use Rattle.std.specs.List.{AllByRecursion, list_all}
use Rattle.std.specs.Str.{IsUtf8}
use Rattle.encoded_words.specs.PhraseUnits.{IsUtf8Item}
use Rattle.encoded_words.proofs.PhraseSources.{AtomHas}
use Rattle.field_tokens.specs.declared.Style.TheVariants.{Mail}
use Rattle.field_tokens.specs.declared.TokenKind.{TokenKind}
use Rattle.field_tokens.specs.declared.TokenKind.TheVariants.{Atom, Quoted, Literal, Special, Gap, Comment}
use Rattle.field_tokens.specs.TokenOctets.{is_atom_octet}
use Rattle.field_tokens.specs.Tokens.{TokenValue}
use Rattle.field_tokens.specs.Squeezed.{comments_of}
use Rattle.field_tokens.specs.Comments.{AreWritableComments}
use Rattle.field_tokens.proofs.TokenLines.{comments_are_writable}
use Rattle.address_grammar.specs.private.Lexemes.{HasMailTokens, said_content}
use Rattle.address_grammar.specs.Phrases.{item_of, phrase_items}
use Rattle.address_grammar.proofs.SoundLemmas.{Shape, IsSound, tokens_sound}

item_utf8 : (kind : TokenKind) (octets : List ℕ) → IsUtf8 (said_content kind octets) → IsUtf8Item (item_of kind octets)
item_utf8 Atom octets u = u
item_utf8 Quoted octets u = u
item_utf8 Literal octets u = u
item_utf8 Special octets u = tt
item_utf8 Gap octets u = tt
item_utf8 Comment octets u = tt

pub sound_items : (ts : List TokenValue) → AllByRecursion IsSound ts → AllByRecursion IsUtf8Item (phrase_items ts)
sound_items [] s = tt
sound_items (t ∷ ts) s = (item_utf8 t.kind t.octets s.0.utf8, sound_items ts s.1)

pub text_items : (text : List ℕ) (ts : List TokenValue) → HasMailTokens text ts → AllByRecursion IsUtf8Item (phrase_items ts)
text_items text ts has = sound_items ts (tokens_sound ts text has.are_tokens has.is_line)

pub text_comments : (text : List ℕ) (ts : List TokenValue) → HasMailTokens text ts → AreWritableComments (comments_of ts)
text_comments text ts has = comments_are_writable Mail ts text has.are_tokens has.is_line

-- the octets of an atom
abbrev pub AreAtomOctets : List ℕ → Type 0
AreAtomOctets octets = list_all (is_atom_octet Mail) octets ≡ true

atom_item : (kind : TokenKind) (octets : List ℕ) → Shape kind octets → AtomHas AreAtomOctets (item_of kind octets)
atom_item Atom octets shape = shape.1
atom_item Quoted octets shape = tt
atom_item Literal octets shape = tt
atom_item Special octets shape = tt
atom_item Gap octets shape = tt
atom_item Comment octets shape = tt

pub sound_atoms : (ts : List TokenValue) → AllByRecursion IsSound ts → AllByRecursion (AtomHas AreAtomOctets) (phrase_items ts)
sound_atoms [] s = tt
sound_atoms (t ∷ ts) s = (atom_item t.kind t.octets s.0.shape, sound_atoms ts s.1)

pub text_atoms : (text : List ℕ) (ts : List TokenValue) → HasMailTokens text ts → AllByRecursion (AtomHas AreAtomOctets) (phrase_items ts)
text_atoms text ts has = sound_atoms ts (tokens_sound ts text has.are_tokens has.is_line)
