-- Envelopes are put together.
use Rattle.std.proofs.Common.{◌≡◌, ℕ, List, [], ◌∷◌, ◌++◌, codes, refl, sym, ap, ◌∙◌}
use Rattle.std.proofs.lemmas.List.{append-nil}
use Rattle.imap_views.specs.Strings.{AddsText, spaced}
use Rattle.imap_views.specs.Structures.{after_spaces}
use Rattle.imap_views.specs.Envelopes.{IsStringOf, AreAddressesOf, AreAddressesOr, IsEnvelope}
use Rattle.imap_views.specs.private.Reading.{AddsAfterSpace, HasAllAddresses, HasSenders}
use Rattle.imap_views.proofs.SpacedLemmas.{after_put, spaced_one, spaced_more, spaced_put}

pub senders_put : (raws : List (List ℕ)) (from old a b new : List ℕ) → AreAddressesOf (codes "From") raws from → a ≡ old ++ 32 ∷ from
    → AddsAfterSpace (AreAddressesOr from (codes "Sender") raws) a b → AddsAfterSpace (AreAddressesOr from (codes "Reply-To") raws) b new → AddsText (HasSenders raws) old new
senders_put raws from old a b new is_from is_a sender reply_to = (
  after_spaces (from ∷ sender.0 ∷ reply_to.0 ∷ []),
  record {
    from = from;
    is_from = is_from;
    sender = sender.0;
    is_sender = sender.1;
    reply_to = reply_to.0;
    is_reply_to = reply_to.1;
    text_is = refl;
  },
  after_put old (from ∷ sender.0 ∷ []) reply_to.0 b new (after_put old (from ∷ []) sender.0 a b (after_put old [] from old a (sym (append-nil old)) is_a) sender.2) reply_to.2,
)

pub all_addresses : (raws : List (List ℕ)) (old a b c new : List ℕ) → AddsText (HasSenders raws) old a → AddsAfterSpace (AreAddressesOf (codes "To") raws) a b
    → AddsAfterSpace (AreAddressesOf (codes "Cc") raws) b c → AddsAfterSpace (AreAddressesOf (codes "Bcc") raws) c new → AddsText (HasAllAddresses raws) old new
all_addresses raws old a b c new senders to cc bcc =
    let said = senders.1 in
    let is_a : a ≡ old ++ after_spaces (said.from ∷ said.sender ∷ said.reply_to ∷ []) = senders.2 ∙ ap (λ m. old ++ m) said.text_is in (
      after_spaces (said.from ∷ said.sender ∷ said.reply_to ∷ to.0 ∷ cc.0 ∷ bcc.0 ∷ []),
      record {
        from = said.from;
        is_from = said.is_from;
        sender = said.sender;
        is_sender = said.is_sender;
        reply_to = said.reply_to;
        is_reply_to = said.is_reply_to;
        to = to.0;
        is_to = to.1;
        cc = cc.0;
        is_cc = cc.1;
        bcc = bcc.0;
        is_bcc = bcc.1;
        text_is = refl;
      },
      after_put old (said.from ∷ said.sender ∷ said.reply_to ∷ to.0 ∷ cc.0 ∷ []) bcc.0 c new (after_put old (said.from ∷ said.sender ∷ said.reply_to ∷ to.0 ∷ []) cc.0 b c
          (after_put old (said.from ∷ said.sender ∷ said.reply_to ∷ []) to.0 a b is_a to.2) cc.2) bcc.2,
    )

pub envelope_made : (raws : List (List ℕ)) (old start a b c d e made : List ℕ) → old ≡ [] → start ≡ old ++ 40 ∷ [] → AddsText (IsStringOf (codes "Date") raws) start a
    → AddsAfterSpace (IsStringOf (codes "Subject") raws) a b → AddsText (HasAllAddresses raws) b c → AddsAfterSpace (IsStringOf (codes "In-Reply-To") raws) c d
    → AddsAfterSpace (IsStringOf (codes "Message-ID") raws) d e → made ≡ e ++ 41 ∷ [] → IsEnvelope raws made
envelope_made raws old start a b c d e made empty is_start date subject addresses in_reply_to message_id is_made = record {
  date = date.0;
  is_date = date.1;
  subject = subject.0;
  is_subject = subject.1;
  from = all.from;
  is_from = all.is_from;
  sender = all.sender;
  is_sender = all.is_sender;
  reply_to = all.reply_to;
  is_reply_to = all.is_reply_to;
  to = all.to;
  is_to = all.is_to;
  cc = all.cc;
  is_cc = all.is_cc;
  bcc = all.bcc;
  is_bcc = all.is_bcc;
  in_reply_to = in_reply_to.0;
  is_in_reply_to = in_reply_to.1;
  message_id = message_id.0;
  is_message_id = message_id.1;
  text_is = is_made ∙ ap (λ m. m ++ 41 ∷ []) words;
}
  where
    all : HasAllAddresses raws addresses.0
    all = addresses.1

    begun : a ≡ (40 ∷ []) ++ date.0
    begun = date.2 ∙ ap (λ m. m ++ date.0) (is_start ∙ ap (λ m. m ++ 40 ∷ []) empty)

    first : b ≡ (40 ∷ []) ++ spaced (date.0 ∷ subject.0 ∷ [])
    first = spaced_put (40 ∷ []) date.0 [] subject.0 a b (spaced_one (40 ∷ []) date.0 a begun) subject.2

    middle : c ≡ (40 ∷ []) ++ spaced (date.0 ∷ subject.0 ∷ all.from ∷ all.sender ∷ all.reply_to ∷ all.to ∷ all.cc ∷ all.bcc ∷ [])
    middle = spaced_more (40 ∷ []) date.0 (subject.0 ∷ []) (all.from ∷ all.sender ∷ all.reply_to ∷ all.to ∷ all.cc ∷ all.bcc ∷ []) b c first (addresses.2 ∙ ap (λ m. b ++ m) all.text_is)

    words : e ≡ (40 ∷ []) ++ spaced (date.0 ∷ subject.0 ∷ all.from ∷ all.sender ∷ all.reply_to ∷ all.to ∷ all.cc ∷ all.bcc ∷ in_reply_to.0 ∷ message_id.0 ∷ [])
    words = spaced_put (40 ∷ []) date.0 _ message_id.0 d e (spaced_put (40 ∷ []) date.0 _ in_reply_to.0 c d middle in_reply_to.2) message_id.2
