-- The text of an address is ASCII where its parts are; and the replies to EHLO and HELO.
use Rattle.std.proofs.Common.{◌≡◌, ℕ, List, [], ◌∷◌, ◌++◌, Bool, true, false, refl, sym, subst, ap, ◌&&◌, ◌||◌, ◌==◌, ◌∙◌, append_assoc, codes}
use Rattle.std.specs.Prelude.{Result, Ok, Err, IfOk, decimal}
use Rattle.std.specs.List.{list_all, flat_map}
use Rattle.std.proofs.lemmas.List.Folds.{list_all-append}
use Rattle.mail_wire.specs.Octets.{is_ascii}
use Rattle.mail_wire.specs.Lines.{crlf}
use Rattle.mail_wire.specs.declared.values.Memory.{Memory}
use Rattle.address_grammar.specs.declared.Address.{Address}
use Rattle.address_grammar.specs.Addresses.{address_text, local_text, quoted_octet, quoted_string, is_dot_atom}
use Rattle.kept_mail.specs.Kept.{name_of}
use Rattle.mail_store.specs.StoreState.{StoreState}
use Rattle.smtp_session.specs.Machine.{offers}
use Rattle.smtp_session.specs.Session.{reply_octets}

and_true : (b : Bool) → (b && true) ≡ b
and_true true = refl
and_true false = refl

-- an octet of a quoted string is ASCII where what it quotes is
ascii-quoted_by : (x : ℕ) (b : Bool) → ((x == 34) || (x == 92)) ≡ b → list_all is_ascii (quoted_octet x) ≡ is_ascii x
ascii-quoted_by x true is = rw is (and_true (is_ascii x))
ascii-quoted_by x false is = rw is (and_true (is_ascii x))

-- quoting adds octets that are ASCII alone
ascii-quoted : (octets : List ℕ) → list_all is_ascii (flat_map quoted_octet octets) ≡ list_all is_ascii octets
ascii-quoted [] = refl
ascii-quoted (x ∷ octets) =
    list_all-append is_ascii (quoted_octet x) (flat_map quoted_octet octets)
    ∙ (rw (ascii-quoted_by x ((x == 34) || (x == 92)) refl, ascii-quoted octets) refl)

-- a quoted string is ASCII where its content is
ascii-string : (octets : List ℕ) → list_all is_ascii (quoted_string octets) ≡ list_all is_ascii octets
ascii-string octets =
    list_all-append is_ascii (flat_map quoted_octet octets) (34 ∷ []) ∙ (and_true (list_all is_ascii (flat_map quoted_octet octets)) ∙ ascii-quoted octets)

-- a local part as text is ASCII where it is
ascii-local : (octets : List ℕ) (b : Bool) → is_dot_atom octets ≡ b → list_all is_ascii (local_text octets) ≡ list_all is_ascii octets
ascii-local octets true is = rw is refl
ascii-local octets false is = rw is (ascii-string octets)

-- the text of an address is ASCII exactly where both parts are
pub ascii-address : (address : Address) → list_all is_ascii (address_text address) ≡ (list_all is_ascii address.local && list_all is_ascii address.domain)
ascii-address address =
    list_all-append is_ascii (local_text address.local) (64 ∷ address.domain) ∙ ap (λ b. b && list_all is_ascii address.domain) (ascii-local address.local (is_dot_atom address.local) refl)

-- the octets of the reply to HELO
name_octets : (name : List ℕ) → codes "250 " ++ (name ++ crlf) ≡ reply_octets ((codes "250 " ++ name) ∷ [])
name_octets name = simp append_assoc

-- what was made of the store's name is the reply to HELO
pub name_made : (store : StoreState) (result : Result (List ℕ) Memory) (octets text name : List ℕ) → IfOk result (λ made. made ≡ octets) → octets ≡ text
    → text ≡ codes "250 " ++ (name ++ crlf) → name ≡ name_of store.kept → IfOk result (λ reply. reply ≡ reply_octets ((codes "250 " ++ name_of store.kept) ∷ []))
name_made store (Ok made) octets text name is made_of spelled named =
    subst (λ (n : List ℕ). made ≡ reply_octets ((codes "250 " ++ n) ∷ [])) named (is ∙ (made_of ∙ (spelled ∙ name_octets name)))
name_made store (Err fault) octets text name is made_of spelled named = tt

-- the octets of the reply to EHLO
offers_octets : (name size : List ℕ)
    → codes "250-" ++ (name ++ (codes "\r\n250-8BITMIME\r\n250-SIZE " ++ (size ++ codes "\r\n250-SMTPUTF8\r\n250 ENHANCEDSTATUSCODES\r\n")))
    ≡ reply_octets ((codes "250-" ++ name) ∷ codes "250-8BITMIME" ∷ (codes "250-SIZE " ++ size) ∷ codes "250-SMTPUTF8" ∷ codes "250 ENHANCEDSTATUSCODES" ∷ [])
offers_octets name size =
    let following = codes "250-SMTPUTF8\r\n250 ENHANCEDSTATUSCODES\r\n" in
    ap (λ t. codes "250-" ++ (name ++ (codes "\r\n250-8BITMIME\r\n250-SIZE " ++ t))) (sym (append_assoc size crlf following))
    ∙ ap (λ t. codes "250-" ++ t) (sym (append_assoc name crlf (codes "250-8BITMIME\r\n250-SIZE " ++ ((size ++ crlf) ++ following))))

-- with the name and the limit of the store it is the reply to EHLO
offers_of_parts : (store : StoreState) (name : List ℕ) (max : ℕ) → name ≡ name_of store.kept → max ≡ store.message_max
    → reply_octets ((codes "250-" ++ name) ∷ codes "250-8BITMIME" ∷ (codes "250-SIZE " ++ decimal max) ∷ codes "250-SMTPUTF8" ∷ codes "250 ENHANCEDSTATUSCODES" ∷ [])
    ≡ reply_octets (offers store)
offers_of_parts store name max named sized = cc

-- what was made of the store's name and limit is the reply to EHLO
pub offers_made : (store : StoreState) (result : Result (List ℕ) Memory) (octets text name : List ℕ) (max : ℕ) → IfOk result (λ made. made ≡ octets) → octets ≡ text
    → text ≡ codes "250-" ++ (name ++ (codes "\r\n250-8BITMIME\r\n250-SIZE " ++ (decimal max ++ codes "\r\n250-SMTPUTF8\r\n250 ENHANCEDSTATUSCODES\r\n")))
    → name ≡ name_of store.kept → max ≡ store.message_max → IfOk result (λ reply. reply ≡ reply_octets (offers store))
offers_made store (Ok made) octets text name max is made_of spelled named sized =
    is ∙ (made_of ∙ (spelled ∙ (offers_octets name (decimal max) ∙ offers_of_parts store name max named sized)))
offers_made store (Err fault) octets text name max is made_of spelled named sized = tt
