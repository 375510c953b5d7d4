-- The parts of a path's address are UTF-8.
use Rattle.std.proofs.Common.{◌≡◌, ℕ, List, [], ◌∷◌, ◌++◌, Some, subst}
use Rattle.std.specs.List.{AllByRecursion}
use Rattle.std.specs.Str.{IsUtf8}
use Rattle.field_tokens.specs.Tokens.{TokenValue}
use Rattle.address_grammar.specs.declared.Address.{Address}
use Rattle.address_grammar.specs.Addresses.{IsAddress}
use Rattle.address_grammar.specs.Paths.{HasPath}
use Rattle.address_grammar.proofs.SoundLemmas.{IsSound, tokens_sound, sound_front, sound_rest, contents_utf8}

-- what stands before and after a token
sound_before : (ts a b : List TokenValue) (t : TokenValue) → ts ≡ a ++ t ∷ b → AllByRecursion IsSound ts → AllByRecursion IsSound a
sound_before ts a b t whole sound = sound_front a (t ∷ b) (subst (AllByRecursion IsSound) whole sound)

sound_behind : (ts a b : List TokenValue) (t : TokenValue) → ts ≡ a ++ t ∷ b → AllByRecursion IsSound ts → AllByRecursion IsSound b
sound_behind ts a b t whole sound = sound_rest (t ∷ []) b (sound_rest a (t ∷ b) (subst (AllByRecursion IsSound) whole sound))

address_utf8 : (ts : List TokenValue) (a : Address) → AllByRecursion IsSound ts → IsAddress ts a → IsUtf8 a.local × IsUtf8 a.domain
address_utf8 ts a sound is = (
  rw (is.local_says) (contents_utf8 is.local (sound_before ts is.local is.domain is.at is.whole sound)),
  rw (is.domain_says) (contents_utf8 is.domain (sound_behind ts is.local is.domain is.at is.whole sound)),
)

pub path_parts : (text : List ℕ) (a : Address) → HasPath text (Some a) → IsUtf8 a.local × IsUtf8 a.domain
path_parts text a path =
    let is = path.is_path in
    let sound = tokens_sound path.tokens text path.has_tokens.are_tokens path.has_tokens.is_line in
    let behind = sound_behind path.tokens is.before (is.inner ++ is.angled.close_mark ∷ is.angled.after) is.angled.open_mark is.angled.whole sound in
    address_utf8 is.inner a (sound_front is.inner (is.angled.close_mark ∷ is.angled.after) behind) is.holds

pub path_utf8 : (text : List ℕ) (a : Address) → HasPath text (Some a) → IsUtf8 a.domain
path_utf8 text a path = (path_parts text a path).1
