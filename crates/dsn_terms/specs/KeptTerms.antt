-- Terms that can be kept, since they can be written so that they are read back.
use Rattle.std.specs.Prelude.{◌≡◌, ◌⊎◌, ℕ, ◌<◌, ◌≤◌, true, List, [], ◌++◌, length, codes, IsUtf8}
use Rattle.std.specs.List.{list_all}
use Rattle.encapsulated_fields.specs.AddressForms.{xtext_form}
use Rattle.dsn_terms.specs.Xtexts.{is_printable, shortest_xtext}
use Rattle.dsn_terms.specs.declared.Asked.{Asked}

-- No identifier, or one whose shortest xtext has at most 100 octets (RFC 3461, 5.4).
pub record CanKeepEnvid (envid : List ℕ) : Type 0 where
  pub printable : list_all is_printable envid ≡ true
  pub most : length (shortest_xtext envid) ≤ 100

-- an address of type `rfc822` whose shortest xtext has at most 500 octets
pub record KeepsRfc822 (orcpt : List ℕ) : Type 0 where
  pub address : List ℕ
  pub spelled : orcpt ≡ codes "rfc822;" ++ address
  pub printable : list_all is_printable address ≡ true
  pub most : length (shortest_xtext address) ≤ 500

-- an address of type `utf-8` whose ASCII form has at most 500 octets
pub record KeepsUtf8 (orcpt : List ℕ) : Type 0 where
  pub address : List ℕ
  pub spelled : orcpt ≡ codes "utf-8;" ++ address
  pub utf8 : IsUtf8 address
  pub most : length (xtext_form address) ≤ 500

-- No original recipient, or one whose address has a form of at most 500 octets (RFC 3461, 4.2).
abbrev pub CanKeepOrcpt : List ℕ → Type 0
CanKeepOrcpt orcpt = (orcpt ≡ []) ⊎ (KeepsRfc822 orcpt ⊎ KeepsUtf8 orcpt)

-- What is asked for a recipient can be kept: four bits, and an original recipient or none.
pub record CanKeepAsked (asked : Asked) : Type 0 where
  pub notify : asked.notify < 16
  pub orcpt : CanKeepOrcpt asked.orcpt
