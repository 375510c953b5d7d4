-- The fields that are put before the data of a message (RFC 5321, 4.4; RFC 6531, 4.3).
use Rattle.std.specs.Prelude.{ℕ, ◌++◌, List, Bool, codes, Option, if◌then◌else◌}
use Rattle.mail_wire.specs.Lines.{crlf}
use Rattle.address_grammar.specs.declared.Address.{Address}
use Rattle.journal_records.specs.Addresses.{path_text}

-- the protocol that a message came by (RFC 3848; RFC 6531, 4.3)
abbrev pub protocol : Bool → Bool → List ℕ
protocol smtputf8 extended = if smtputf8 then codes "UTF8SMTP" else if extended then codes "ESMTP" else codes "SMTP"

-- The field Return-Path (RFC 5321, 4.4).
abbrev pub return_path : Option Address → List ℕ
return_path path = codes "Return-Path: <" ++ path_text path ++ codes ">" ++ crlf

-- `Received: from CLIENT by NAME with PROTOCOL; DATE`
abbrev pub received : (client name protocol date : List ℕ) → List ℕ
received client name protocol date =
    codes "Received: from " ++ client ++ codes " by " ++ name ++ codes " with " ++ protocol ++ codes "; " ++ date ++ crlf
