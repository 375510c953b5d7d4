-- The kinds of fields, by their names (RFC 5322, 3.6; RFC 2045, 3). Names are compared without regard to ASCII case.
use Rattle.std.specs.Prelude.{ℕ, List, [], ◌∷◌, codes, unwrap_or}
use Rattle.mail_wire.specs.Tables.{Named, said_by}
use Rattle.field_downgrade.specs.declared.kind.Kind.{Kind}
use Rattle.field_downgrade.specs.declared.kind.Kind.TheVariants.{Unstructured, Addresses, Phrases, Params, Ids, Path, Typed, Trace, Plain}
use Rattle.param_grammar.specs.declared.ParamKind.TheVariants.{Content, Disposition}

-- what the values of fields of these names are read as
abbrev pub field_kinds : List (Named Kind)
field_kinds =
    -- originators and destinations (RFC 5322, 3.6.2 and 3.6.3), also of one who resent the message (3.6.6)
    record { word = codes "From"; says = Addresses }
    ∷ record { word = codes "Sender"; says = Addresses }
    ∷ record { word = codes "Reply-To"; says = Addresses }
    ∷ record { word = codes "To"; says = Addresses }
    ∷ record { word = codes "Cc"; says = Addresses }
    ∷ record { word = codes "Bcc"; says = Addresses }
    ∷ record { word = codes "Resent-From"; says = Addresses }
    ∷ record { word = codes "Resent-Sender"; says = Addresses }
    ∷ record { word = codes "Resent-Reply-To"; says = Addresses }
    ∷ record { word = codes "Resent-To"; says = Addresses }
    ∷ record { word = codes "Resent-Cc"; says = Addresses }
    ∷ record { word = codes "Resent-Bcc"; says = Addresses }
    -- RFC 5322, 3.6.5
    ∷ record { word = codes "Keywords"; says = Phrases }
    -- RFC 2045, 5
    ∷ record { word = codes "Content-Type"; says = Params Content }
    -- RFC 2183
    ∷ record { word = codes "Content-Disposition"; says = Params Disposition }
    -- RFC 5322, 3.6.4 and 3.6.6, and RFC 2045, 7
    ∷ record { word = codes "Message-ID"; says = Ids }
    ∷ record { word = codes "Resent-Message-ID"; says = Ids }
    ∷ record { word = codes "In-Reply-To"; says = Ids }
    ∷ record { word = codes "References"; says = Ids }
    ∷ record { word = codes "Content-ID"; says = Ids }
    -- RFC 5322, 3.6.7
    ∷ record { word = codes "Return-Path"; says = Path }
    -- RFC 3464, 2.3
    ∷ record { word = codes "Original-Recipient"; says = Typed }
    ∷ record { word = codes "Final-Recipient"; says = Typed }
    -- RFC 5322, 3.6.7
    ∷ record { word = codes "Received"; says = Trace }
    -- RFC 5322, 3.6.1 and 3.6.6, and RFC 2045, 4 and 6
    ∷ record { word = codes "Date"; says = Plain }
    ∷ record { word = codes "Resent-Date"; says = Plain }
    ∷ record { word = codes "MIME-Version"; says = Plain }
    ∷ record { word = codes "Content-Transfer-Encoding"; says = Plain } ∷ []

-- fields of other names are unstructured (RFC 5322, 3.6.8)
unfoldable pub kind_named : List ℕ → Kind
kind_named name = unwrap_or (said_by field_kinds name) Unstructured
