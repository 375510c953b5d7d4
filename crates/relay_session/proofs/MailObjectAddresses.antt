-- What is known of a queue makes mail objects.
use Rattle.std.proofs.Common.{◌≡◌, ℕ, zero, suc, ◌+◌, ◌<◌, List, [], ◌∷◌, ◌++◌, length, take, get_or, Option, None, Some, IfSome, All, slice_get, refl, sym, ap, ◌∙◌, arith}
use Rattle.std.specs.List.{AllZip}
use Rattle.std.proofs.lemmas.List.{take_more}
use Rattle.std.proofs.lemmas.List.Elements.{All-map, All-weaker}
use Rattle.std.proofs.lemmas.Slice.Zip.{all_zipped_more}
use Rattle.std.proofs.lemmas.Str.{is_utf8-from_IsUtf8}
use Rattle.address_grammar.specs.declared.Address.{Address}
use Rattle.address_grammar.specs.Paths.{ComesInPath}
use Rattle.address_grammar.proofs.PathParts.{path_utf8}
use Rattle.journal_records.specs.Stored.{HasMark, mark_in}
use Rattle.mime_tree.specs.declared.entity.Entity.{Entity as MimeEntity}
use Rattle.kept_mail.specs.declared.kept.Entry.{Entry}
use Rattle.kept_mail.specs.Kept.{Kept}
use Rattle.mail_store.specs.declared.queue.Queued.{Queued}
use Rattle.mail_store.specs.declared.queue.Unsettled.{Unsettled}
use Rattle.relay_choice.specs.MailObjects.{HasTextDomain, mail_object_of}
use Rattle.relay_choice.specs.declared.mail_objects.MailObject.{MailObject}
use Rattle.relay_session.specs.MailObjects.{IsMailObjectAt, addresses_of}

-- ---- addresses that come in paths

-- the domain is text
pub text_domain : (address : Address) → ComesInPath address → HasTextDomain address
text_domain address comes = is_utf8-from_IsUtf8 address.domain (path_utf8 comes.0 address comes.1)

pub text_path : (path : Option Address) → IfSome path ComesInPath → IfSome path HasTextDomain
text_path None comes = tt
text_path (Some address) comes = text_domain address comes

pub text_addresses : (unsettled : List Unsettled) → All (λ (one : Unsettled). ComesInPath one.address) unsettled → All HasTextDomain (addresses_of unsettled)
text_addresses unsettled all =
    All-map HasTextDomain (λ (one : Unsettled). one.address) unsettled
    (All-weaker (λ (one : Unsettled). ComesInPath one.address) (λ (one : Unsettled). HasTextDomain one.address) (λ one comes. text_domain one.address comes) unsettled all)

-- ---- the mail object of an entry

-- an entry that is there, whose octets have this mark
pub entry_marked : (entries : List Entry) (number mark : ℕ) → number < length entries → IfSome (slice_get entries number) (λ (entry : Entry). HasMark entry.octets mark)
    → (entry : Entry) × (slice_get entries number ≡ Some entry) × HasMark entry.octets mark
entry_marked [] number mark there has = absurd (omega (arith, there))
entry_marked (entry ∷ entries) zero mark there has = (entry, refl, has)
entry_marked (entry ∷ entries) (suc number) mark there has = entry_marked entries number mark (omega (arith, there)) has

pub mail_object_there : (kept : Kept) (queued : Queued) (path : Option Address) (addresses : List Address) (mark : ℕ) (mail_object : MailObject) → queued.entry < length kept.entries
    → IfSome (slice_get kept.entries queued.entry) (λ (entry : Entry). HasMark entry.octets mark) → path ≡ queued.path → addresses ≡ addresses_of queued.unsettled
    → ((octets : List ℕ) (entities : List MimeEntity) → mark ≡ mark_in octets entities → mail_object ≡ mail_object_of path addresses octets entities) → IsMailObjectAt kept queued mail_object
mail_object_there kept queued path addresses mark mail_object there has path_is addresses_are is =
    let found = entry_marked kept.entries queued.entry mark there has in
    let marked = found.2 in
    record {
      entry = found.0;
      there = found.1;
      entities = marked.entities;
      tree = marked.tree;
      is = is found.0.octets marked.entities marked.mark_is ∙ rw (path_is, addresses_are) refl;
    }

-- and those of the entries before the next
pub mail_objects_more : (kept : Kept) (queue : List Queued) (at : ℕ) (queued : Queued) (mail_objects more : List MailObject) (mail_object : MailObject) → at < length queue → queued ≡ get_or queue at queued
    → more ≡ mail_objects ++ mail_object ∷ [] → AllZip (IsMailObjectAt kept) (take at queue) mail_objects → IsMailObjectAt kept queued mail_object → AllZip (IsMailObjectAt kept) (take (at + 1) queue) more
mail_objects_more kept queue at queued mail_objects more mail_object here is more_are before one =
    let longer : take (at + 1) queue ≡ take at queue ++ queued ∷ [] = take_more queue at queued here ∙ ap (λ (q : Queued). take at queue ++ q ∷ []) (sym is) in
    rw (longer, more_are) (all_zipped_more (IsMailObjectAt kept) (take at queue) mail_objects queued mail_object before one)
