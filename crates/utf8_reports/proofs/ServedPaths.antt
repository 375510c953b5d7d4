-- The path to which a report goes: an address as it is served, or one that can't be.
use Rattle.std.proofs.Common.{◌≡◌, ℕ, Bool, true, false, List, ◌∷◌, ◌++◌, Option, Some, None, refl, sym, ap, subst, ◌∙◌}
use Rattle.std.proofs.lemmas.Bool.{and_parts}
use Rattle.std.specs.List.{AllByRecursion, list_all}
use Rattle.std.specs.Prelude.{option_map}
use Rattle.mail_wire.specs.Octets.{is_ascii}
use Rattle.mail_wire.proofs.AllLemmas.{pass-back}
use Rattle.address_grammar.specs.declared.Address.{Address}
use Rattle.address_grammar.specs.Addresses.{local_text, address_text}
use Rattle.address_grammar.specs.Paths.{ComesInPath}
use Rattle.address_grammar.proofs.SoundLemmas.{IsSound, tokens_sound, sound_front, sound_rest}
use Rattle.address_lists.specs.ListPieces.{served_address}
use Rattle.address_lists.proofs.PathPiecesAgain.{PathPieces-read}
use Rattle.address_lists.proofs.PathPiecesLemmas.{PathPieces-some, path_says}
use Rattle.address_lists.proofs.ServedLemmas.{WritesAddress, address_served, served_ascii, served_parts}
use Rattle.utf8_reports.specs.Destinations.{is_global, shown_path}
use Rattle.utf8_reports.specs.private.Reading.{SpellsAddress, IsShownText}

-- ---- an address as it is served

-- the tokens within the brackets of its path are sound
sound_inner : (a : Address) (comes : ComesInPath a) → AllByRecursion IsSound comes.1.is_path.inner
sound_inner a comes =
    let path = comes.1 in
    let is = path.is_path in
    let angled = is.angled in
    let sound : AllByRecursion IsSound (is.before ++ angled.open_mark ∷ (is.inner ++ angled.close_mark ∷ angled.after))
    = rw (angled.whole) at (tokens_sound path.tokens comes.0 path.has_tokens.are_tokens path.has_tokens.is_line) in
    sound_front is.inner (angled.close_mark ∷ angled.after) (sound_rest is.before (angled.open_mark ∷ (is.inner ++ angled.close_mark ∷ angled.after)) sound).1

-- its text is written
pub served_writes : (a served : Address) → ComesInPath a → served_address a ≡ Some served → WritesAddress served
served_writes a served comes e = address_served comes.1.is_path.inner a served (sound_inner a comes) comes.1.is_path.holds e

-- it comes in a path
pub served_comes : (a served : Address) → ComesInPath a → served_address a ≡ Some served → ComesInPath served
served_comes a served comes e =
    let path = comes.1 in
    let says = path_says comes.0 path.tokens (Some a) path.has_tokens path.is_path in
    let pieces = PathPieces-some comes.0 a served says.0 says.1 e in
    let again = PathPieces-read comes.0 pieces.0 a says.0 pieces.1 says.1 in
    let same : again.served ≡ served = one (sym again.is_served ∙ e) in
    subst ComesInPath same (_, record { tokens = again.says.tokens; has_tokens = again.says.has; is_path = again.says.is_path })
  where
    one : {b c : Address} → Some b ≡ Some c → b ≡ c
    one h = cc

-- and is served as it stands
pub served_again : (a served : Address) → ComesInPath a → served_address a ≡ Some served → served_address served ≡ Some served
served_again a served comes e =
    let parts = served_parts a served e in
    let domain = pass-back is_ascii (local_text served.local) (64 ∷ served.domain) (served_writes a served comes e).ascii in
    served_ascii served (ap (list_all is_ascii) parts.local ∙ parts.ascii) (and_parts (is_ascii 64) (list_all is_ascii served.domain) domain).1

-- ---- its text, where it has one

pub no_text : (a : Address) → None ≡ option_map address_text (served_address a) → served_address a ≡ None
no_text a e = by (served_address a) e
  where
    by : (s : Option Address) → None ≡ option_map address_text s → s ≡ None
    by None h = refl
    by (Some served) h = cc

pub some_text : (a : Address) (text : List ℕ) → Some text ≡ option_map address_text (served_address a) → (served : Address) × (served_address a ≡ Some served) × (text ≡ address_text served)
some_text a text e = by_case (served_address a) refl e
  where
    by_case : (s : Option Address) → served_address a ≡ s → Some text ≡ option_map address_text s → (served : Address) × (served_address a ≡ Some served) × (text ≡ address_text served)
    by_case None is h = cc
    by_case (Some served) is h = (served, is, cc)

-- ---- the text of a path to which a report goes

-- the address that such a text spells
pub record IsShown (text : List ℕ) (global : Bool) (address : Address) : Type 0 where
  pub spells : SpellsAddress text address
  pub shown : text ≡ shown_path address
  pub global_is : global ≡ is_global address

pub shown_address : (text : List ℕ) (global : Bool) → IsShownText text global → (address : Address) × IsShown text global address
shown_address text global is = by_case (served_address is.path) refl
  where
    by_case : (s : Option Address) → served_address is.path ≡ s → (address : Address) × IsShown text global address
    by_case None none = (
      is.path,
      record { spells = record { comes = is.comes; text_is = let shown = is.text_is in rw none at shown }; shown = is.text_is; global_is = is.global_is },
    )
    by_case (Some served) some =
        let again = served_again is.path served is.comes some in
        let text_is : text ≡ address_text served = (let shown = is.text_is in rw some at shown) in
        let local : global ≡ false = (let global_is = is.global_is in rw some at global_is) in (
          served,
          record { spells = record { comes = served_comes is.path served is.comes some; text_is = text_is }; shown = rw again text_is; global_is = rw again local },
        )

-- Such a text is the one of a path that can't be served, or that of its address as it is served.
pub shown_global : (text : List ℕ) (global : Bool) (address : Address) → IsShown text global address → None ≡ option_map address_text (served_address address) → true ≡ global
shown_global text global address is e = let none = no_text address e in let global_is = is.global_is in sym (rw none at global_is)

pub shown_served : (text served : List ℕ) (global : Bool) (address : Address) → IsShown text global address → Some served ≡ option_map address_text (served_address address)
    → (false ≡ global) × (served ≡ text)
shown_served text served global address is e =
    let some = some_text address served e in
    let global_is = is.global_is in
    let shown = is.shown in
    (sym (rw some.1 at global_is), some.2 ∙ sym (rw some.1 at shown))
