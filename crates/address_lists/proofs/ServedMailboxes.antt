-- Mailboxes are written.
use Rattle.std.proofs.Common.{◌≡◌, ◌≢◌, ℕ, true, false, inl, inr, List, [], ◌∷◌, ◌++◌, Option, Some, None, refl, sym, ap, ◌∙◌, subst}
use Rattle.std.proofs.lemmas.Bool.{both_ways}
use Rattle.std.proofs.lemmas.List.{append_assoc}
use Rattle.std.specs.List.{list_all}
use Rattle.mail_wire.specs.Octets.{is_ascii}
use Rattle.encoded_words.specs.Folding.{lines_of, AddsLines}
use Rattle.encoded_words.proofs.LineLemmas.{adds_both}
use Rattle.field_tokens.specs.declared.TokenKind.{TokenKind}
use Rattle.field_tokens.specs.declared.TokenKind.TheVariants.{Atom, Quoted, Literal, Special, Gap, Comment}
use Rattle.field_tokens.specs.Tokens.{TokenValue}
use Rattle.field_tokens.specs.Squeezed.{is_comment, octets_of, comments_of}
use Rattle.field_tokens.specs.Comments.{CommentsPieces}
use Rattle.field_tokens.proofs.Parts.{comments_of-append}
use Rattle.address_grammar.specs.declared.Address.{Address}
use Rattle.address_grammar.specs.declared.FoundMailbox.{FoundMailbox}
use Rattle.address_grammar.specs.Found.{found_value}
use Rattle.address_grammar.specs.private.Lexemes.{is_special_of, SplitsAt}
use Rattle.address_grammar.specs.Addresses.{address_text}
use Rattle.address_grammar.specs.Paths.{in_angles}
use Rattle.address_lists.specs.PhrasePieces.{HasCore, PhrasePieces}
use Rattle.address_grammar.specs.AddressLists.{MailboxValue, IsBare, IsNamed, IsMailbox}
use Rattle.address_lists.specs.ListPieces.{served_address, MailboxPieces}
use Rattle.address_lists.specs.private.ListWriting.{NamedPieces}
use Rattle.address_lists.specs.private.Emptied.{GivesMailboxUnits, NoMembersPieces}
use Rattle.address_grammar.proofs.LexemeLemmas.{cut_once}
use Rattle.address_grammar.proofs.MailboxLemmas.{named_angles}
use Rattle.address_lists.proofs.PhraseWriting.{no_comment, CommentsPieces-append}
use Rattle.address_lists.proofs.AddedPieces.{adds_piece, some_after}

pub none_where : {A : Type 0} (o : Option A) → ((x : A) → o ≡ Some x → ⊥) → o ≡ None
none_where None none = refl
none_where (Some x) none = absurd (none x refl)

-- ---- which kind of mailbox

pub is_bare : (ts : List TokenValue) (m : MailboxValue) → m.angle ≡ false → IsMailbox ts m → IsBare ts m
is_bare ts m h (inl is) = is
is_bare ts m h (inr is) = absurd (both_ways m.angle h is.named.angle)

pub in_brackets : (ts : List TokenValue) (m : MailboxValue) → m.angle ≡ true → IsMailbox ts m → IsNamed ts m
in_brackets ts m h (inl is) = absurd (both_ways m.angle is.angle h)
in_brackets ts m h (inr is) = is

-- ---- pieces

pub bare_adds : (ts : List TokenValue) (m : MailboxValue) (served : Address) (old mid new : List ℕ) → IsBare ts m → served_address m.address ≡ Some served → mid ≡ old ++ lines_of (address_text served ∷ [])
    → AddsLines (CommentsPieces (comments_of ts)) mid new → AddsLines (MailboxPieces ts) old new
bare_adds ts m served old mid new is s e a = adds_both (λ xs comments p q. MailboxPieces.Bare m served comments is s q (ap (λ r. r ++ comments) p)) (adds_piece (address_text served) old mid e) a

pub angled_adds : (ts : List TokenValue) (m : MailboxValue) (served : Address) (old mid new : List ℕ) → IsNamed ts m → m.phrase ≡ false → served_address m.address ≡ Some served
    → mid ≡ old ++ lines_of (in_angles (address_text served) ∷ []) → AddsLines (CommentsPieces (comments_of ts)) mid new → AddsLines (MailboxPieces ts) old new
angled_adds ts m served old mid new is unnamed s e a = adds_both
    (λ xs comments p q. MailboxPieces.Angled m served is.before is.inner comments is.angled is.named unnamed s q (ap (λ r. r ++ comments) p)) (adds_piece (in_angles (address_text served)) old mid e) a

-- the comments of tokens and of others after them
comments_both : (front following : List TokenValue) (old mid new : List ℕ) → AddsLines (CommentsPieces (comments_of front)) old mid → AddsLines (CommentsPieces (comments_of following)) mid new
    → AddsLines (CommentsPieces (comments_of (front ++ following))) old new
comments_both front following old mid new a b = adds_both
    (λ xs ys p q. subst (λ r. CommentsPieces r (xs ++ ys)) (sym (comments_of-append front following)) (CommentsPieces-append (comments_of front) (comments_of following) xs ys p q)) a b

pub named_made : (before following core trail : List TokenValue) (address : List ℕ) (old a b c new : List ℕ) → HasCore before core trail
    → AddsLines (PhrasePieces (list_all is_ascii (octets_of core)) core) old a → b ≡ a ++ lines_of (in_angles address ∷ []) → AddsLines (CommentsPieces (comments_of trail)) b c
    → AddsLines (CommentsPieces (comments_of following)) c new → AddsLines (NamedPieces before following address) old new
named_made before following core trail address old a b c new has p e q r = adds_both {Q = Rest}
    (λ first xs ph x. record { core = core; trail = trail; has_core = has; first = first; comments = x.0; phrase = ph; comments_are = x.1; pieces_are = ap (λ ys. first ++ ys) x.2 }) p
    (adds_both {R = Rest} (λ xs comments is are. (comments, are, ap (λ ys. ys ++ comments) is)) (adds_piece (in_angles address) a b e) (comments_both trail following b c new q r))
  where
    Rest : List (List ℕ) → Type 0
    Rest pieces = (comments : List (List ℕ)) × CommentsPieces (comments_of (trail ++ following)) comments × (pieces ≡ in_angles address ∷ comments)

mark_kind : (k : TokenKind) (octets : List ℕ) (n : ℕ) → is_special_of n (record { kind = k; octets = octets }) ≡ true → is_comment k ≡ false
mark_kind Special octets n h = refl
mark_kind Atom octets n h = refl
mark_kind Quoted octets n h = refl
mark_kind Literal octets n h = refl
mark_kind Gap octets n h = refl
mark_kind Comment octets n h = sym h

mark_no_comment : (n : ℕ) (t : TokenValue) (ts : List TokenValue) → is_special_of n t ≡ true → comments_of (t ∷ ts) ≡ comments_of ts
mark_no_comment n t ts h = comments_of-append (t ∷ []) ts ∙ ap (λ r. r ++ comments_of ts) (no_comment t (mark_kind t.kind t.octets n h))

pub named_pieces : (ts before following : List TokenValue) (m : MailboxValue) (served : Address) (ps : List (List ℕ)) → SplitsAt 60 ts before following → IsNamed ts m → m.phrase ≡ true → served_address m.address ≡ Some served
    → NamedPieces before following (address_text served) ps → MailboxPieces ts ps
named_pieces ts before following m served ps s is phrase address n =
    let a = is.angled in
    let cut = cut_once 60 before is.before s.at a.open_mark following (is.inner ++ a.close_mark ∷ a.after) s.first (named_angles ts m is).first_open s.is_at a.opens (sym s.whole ∙ a.whole) in
    let all : comments_of (n.trail ++ following) ≡ comments_of ((n.trail ++ is.inner) ++ a.after)
    = ap (λ r. comments_of (n.trail ++ r)) cut.rest ∙ ap comments_of (sym (append_assoc n.trail is.inner (a.close_mark ∷ a.after))) ∙ comments_of-append (n.trail ++ is.inner) (a.close_mark ∷ a.after)
    ∙ ap (λ r. comments_of (n.trail ++ is.inner) ++ r) (mark_no_comment 62 a.close_mark a.after a.closes) ∙ sym (comments_of-append (n.trail ++ is.inner) a.after) in
    MailboxPieces.Named m served is.before is.inner n.core n.trail n.first n.comments a is.named phrase (subst (λ r. HasCore r n.core n.trail) cut.front n.has_core) n.phrase address
    (subst (λ r. CommentsPieces r n.comments) all n.comments_are) n.pieces_are

pub emptied_mailbox : (ts : List TokenValue) (m : FoundMailbox) (old mid new : List ℕ) → served_address m.address ≡ None → AddsLines (GivesMailboxUnits ts m) old mid → AddsLines (NoMembersPieces ts) mid new
    → AddsLines (MailboxPieces ts) old new
emptied_mailbox ts m old mid new none a b = adds_both (λ words rest p q. MailboxPieces.Emptied (found_value m p.display) words q.0 p.is_mailbox none p.write q.1 (ap (λ r. words ++ r) q.2)) a b

-- a mailbox has a piece
pub mailbox_some : (ts : List TokenValue) (ps : List (List ℕ)) → MailboxPieces ts ps → ps ≢ []
mailbox_some ts ps (MailboxPieces.Bare m served comments is s cs e) = λ none. some_after [] comments (address_text served) (sym e ∙ none)
mailbox_some ts ps (MailboxPieces.Angled m served before inner comments a is p s cs e) = λ none. some_after [] comments (in_angles (address_text served)) (sym e ∙ none)
mailbox_some ts ps (MailboxPieces.Named m served before inner core trail first comments a is p h ph s cs e) = λ none. some_after first comments (in_angles (address_text served)) (sym e ∙ none)
mailbox_some ts ps (MailboxPieces.Emptied m words comments is s w cs e) = λ none. some_after words comments _ (sym e ∙ none)
