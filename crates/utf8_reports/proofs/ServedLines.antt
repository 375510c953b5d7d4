-- The address of a path as a report shows it.
use Rattle.std.proofs.Common.{◌≡◌, true, false, not, Option, Some, None, refl}
use Rattle.std.specs.Prelude.{is_some, unwrap_or}
use Rattle.std.specs.List.{list_all}
use Rattle.mail_wire.specs.Octets.{is_ascii}
use Rattle.address_grammar.specs.declared.Address.{Address}
use Rattle.address_grammar.specs.Addresses.{address_text}
use Rattle.address_grammar.specs.Paths.{ComesInPath}
use Rattle.address_lists.specs.ListPieces.{served_address}
use Rattle.utf8_reports.specs.Destinations.{is_global, shown_path}
use Rattle.utf8_reports.proofs.ServedPaths.{served_comes, served_writes}

shown_by : (path : Address) (found : Option Address) → ComesInPath path → served_address path ≡ found → ComesInPath (unwrap_or found path)
shown_by path None comes is = comes
shown_by path (Some served) comes is = served_comes path served comes is

-- an address that is shown comes in a path
pub shown_comes : (path : Address) → ComesInPath path → ComesInPath (unwrap_or (served_address path) path)
shown_comes path comes = shown_by path (served_address path) comes refl

ascii_by : (path : Address) (found : Option Address) → ComesInPath path → served_address path ≡ found → not (is_some found) ≡ false → list_all is_ascii (address_text (unwrap_or found path)) ≡ true
ascii_by path None comes is local = cc
ascii_by path (Some served) comes is local = (served_writes path served comes is).ascii

-- and is ASCII where the report is
pub shown_ascii : (path : Address) → ComesInPath path → is_global path ≡ false → list_all is_ascii (shown_path path) ≡ true
shown_ascii path comes local = ascii_by path (served_address path) comes refl local
