-- The steps of reading a command: what is left after a part of it, and what comes of the rest.
use Rattle.std.proofs.Common.{◌≡◌, ℕ, Bool, false, List, [], ◌∷◌, ◌++◌, inl, inr, refl, sym, ap, ◌∙◌, subst, append_assoc, append-nil, Bor}
use Rattle.std.specs.Prelude.{Result, Ok, Err, MatchResult, ⊤}
use Rattle.imap_words.specs.Languages.{Then, After, Is, IsOctet, IsCounted, IsMoreThan, IsViable}
use Rattle.imap_words.specs.Reading.{always, never, Reads, StopsReading}
use Rattle.imap_words.specs.Going.{Leaves}
use Rattle.imap_words.specs.declared.stop.Stop.{Stop}
use Rattle.imap_words.specs.declared.tokens.Kind.{Kind}
use Rattle.imap_words.specs.declared.tokens.Kind.TheVariants.{Atom, Astring, ListMailbox, Tag, FieldName, NameAstring}
use Rattle.imap_words.specs.Tokens.{passes, IsImapAtom, IsSpace, IsCrlf, IsOpenParenthesis, IsCloseParenthesis, is_atom_char, is_astring_char, is_list_char, is_tag_char, is_name_char}
use Rattle.imap_words.specs.Keywords.{IsTable, IsWordOf}
use Rattle.imap_words.specs.Strings.{IsAstring, IsListMailbox, IsHead, IsHeader, after_head, whole, literal}
use Rattle.imap_words.proofs.Composing.{Avoids}
use Rattle.imap_words.proofs.TokenSteps.{octet_viable}
use Rattle.imap_words.proofs.RunSteps.{run_viable}
use Rattle.imap_words.proofs.Going.{octet_avoids, then_avoids, then_viable, is_viable}
use Rattle.imap_words.proofs.Choosing.{more_viable}
use Rattle.imap_words.proofs.Leaving.{here, leaves_on}
use Rattle.imap_words.proofs.HeaderSteps.{crlf_viable}
use Rattle.imap_words.proofs.KeywordSteps.{word_viable}
use Rattle.imap_words.proofs.TableSteps.{is_table}
use Rattle.imap_words.proofs.StringLaws.{astring_parts, astring_whole, list_mailbox_parts, list_mailbox_whole}
use Rattle.imap_words.proofs.StringThen.{EndsRun, string_viable, string_stops, string_read, string_awaits}
use Rattle.imap_grammar.specs.declared.command.Command.{Command}
use Rattle.imap_grammar.specs.declared.awaited.Next.{Next}
use Rattle.imap_grammar.specs.declared.awaited.Next.TheVariants.{Whole, Awaits}
use Rattle.imap_grammar.specs.Commands.{Announced, IsDataFront, IsBareCommand, IsAtoms, IsStatusItems, status_words}
use Rattle.imap_grammar.specs.Awaiting.{Comes, IsAfterHeader, IsAfterUser, IsAfterReference, IsAfterStatusName}

-- ---- what comes of the rest comes of the text

pub header_later : {P Q : List ℕ → Command → Type 0} {text mid rest : List ℕ} {size : ℕ} → Leaves P text Q mid → IsAfterHeader mid size rest → IsAfterHeader text size rest
header_later {P} {Q} {text} {mid} {rest} {size} l h = record {
  front = l.front ++ h.front;
  header = h.header;
  whole = l.whole ∙ (ap (λ z. l.front ++ z) h.whole ∙ sym (append_assoc l.front h.front (h.header ++ rest)));
  is_header = h.is_header;
}

-- a word that is a literal's header
pub header_word : {text word mid : List ℕ} {n : ℕ} → text ≡ word ++ mid → Then IsHeader (λ size. Is (literal size)) word (literal n) → IsAfterHeader text n mid
header_word {text} {word} {mid} {n} e h = record {
  front = [];
  header = h.front;
  whole = e ∙ ap (λ z. z ++ mid) (h.whole ∙ (ap (λ z. h.front ++ z) h.second.0 ∙ append-nil h.front));
  is_header = subst (λ z. IsHeader h.front z) (same h.value h.second.1) h.first;
}
  where
    same : (m : ℕ) → literal n ≡ literal m → m ≡ n
    same m e = cc e

-- a head that is a literal's header
pub head_header : (utf8 : Bool) (kind : Kind) {text mid : List ℕ} {n : ℕ} → Reads (IsHead utf8 kind) (after_head kind) text (literal n) mid → IsAfterHeader text n mid
head_header utf8 kind {text} {mid} {n} r = by r.is_word
  where
    by : IsHead utf8 kind r.word (literal n) → IsAfterHeader text n mid
    by (inl run) = absurd (no_whole run.value run.second.1)
      where
        no_whole : (v : List ℕ) → literal n ≡ whole v → ⊥
        no_whole v e = cc e
    by (inr (inl quoted)) = absurd (no_whole quoted.value quoted.second.1)
      where
        no_whole : (v : List ℕ) → literal n ≡ whole v → ⊥
        no_whole v e = cc e
    by (inr (inr h)) = header_word r.whole h

pub comes_on : (utf8 : Bool) (P Q : List ℕ → Command → Type 0) (text mid : List ℕ) (next : Next) (rest : List ℕ) → Leaves P text Q mid → Comes utf8 Q mid next rest → Comes utf8 P text next rest
comes_on utf8 P Q text mid (Whole c) rest l r = (here l).reads never c rest r
comes_on utf8 P Q text mid (Awaits size a) rest l r = (header_later l r.0, r.1, leaves_on P Q _ text mid rest l r.2)

pub hands_on : {P Q : List ℕ → Command → Type 0} {text mid : List ℕ} (utf8 : Bool) (r : Result (Next × Bor (List ℕ)) Stop) → Leaves P text Q mid
    → MatchResult r (λ x. Comes utf8 Q mid x.0 x.1.now) (λ stop. StopsReading Q never mid stop) → MatchResult r (λ x. Comes utf8 P text x.0 x.1.now) (λ stop. StopsReading P never text stop)
hands_on {P} {Q} {text} {mid} utf8 (Ok x) l h = comes_on utf8 P Q text mid x.0 x.1.now l h
hands_on {P} {Q} {text} {mid} utf8 (Err stop) l h = (here l).stops never stop h

-- where the rest doesn't go by the mode
pub hands_any : {P Q : List ℕ → Command → Type 0} {text mid : List ℕ} (utf8 : Bool) (r : Result (Next × Bor (List ℕ)) Stop) → Leaves P text Q mid
    → MatchResult r (λ x. (mode : Bool) → Comes mode Q mid x.0 x.1.now) (λ stop. StopsReading Q never mid stop) → MatchResult r (λ x. Comes utf8 P text x.0 x.1.now) (λ stop. StopsReading P never text stop)
hands_any {P} {Q} {text} {mid} utf8 (Ok x) l h = comes_on utf8 P Q text mid x.0 x.1.now l (h utf8)
hands_any {P} {Q} {text} {mid} utf8 (Err stop) l h = (here l).stops never stop h

pub hands_all : {P Q : List ℕ → Command → Type 0} {text mid : List ℕ} (r : Result (Next × Bor (List ℕ)) Stop) → Leaves P text Q mid
    → MatchResult r (λ x. (mode : Bool) → Comes mode Q mid x.0 x.1.now) (λ stop. StopsReading Q never mid stop) → MatchResult r (λ x. (mode : Bool) → Comes mode P text x.0 x.1.now) (λ stop. StopsReading P never text stop)
hands_all {P} {Q} {text} {mid} (Ok x) l h = λ mode. comes_on mode P Q text mid x.0 x.1.now l (h mode)
hands_all {P} {Q} {text} {mid} (Err stop) l h = (here l).stops never stop h

-- what stands before the data of APPEND ends with a header
pub data_header : {text rest : List ℕ} {announced : Announced} → Reads IsDataFront never text announced rest → IsAfterHeader text announced.size rest
data_header {text} {rest} {announced} r = by r.is_word
  where
    regroup : (a b c d k : List ℕ) → a ++ (b ++ (c ++ (d ++ k))) ≡ (a ++ (b ++ (c ++ d))) ++ k
    regroup a b c d k = sym (append_assoc a (b ++ (c ++ d)) k ∙ ap (λ z. a ++ z) (append_assoc b (c ++ d) k ∙ ap (λ z. b ++ z) (append_assoc c d k)))

    by : IsDataFront r.word announced → IsAfterHeader text announced.size rest
    by (inl plain) = record {
      front = [];
      header = plain.front;
      whole = r.whole ∙ ap (λ z. z ++ rest) (plain.whole ∙ (ap (λ z. plain.front ++ z) plain.second.0 ∙ append-nil plain.front));
      is_header = subst (λ z. IsHeader plain.front z) (sym (ap (λ (a : Announced). a.size) plain.second.1)) plain.first;
    }
    by (inr formed) =
        let space = formed.second in
        let paren = space.second in
        let all = paren.second in
        let eight = all.first in
        let word : r.word ≡ (formed.front ++ (space.front ++ (paren.front ++ eight.front))) ++ eight.back
        = formed.whole ∙ (ap (λ z. formed.front ++ z) (space.whole ∙ ap (λ z. space.front ++ z) (paren.whole ∙ ap (λ z. paren.front ++ z) (all.whole ∙ (ap (λ z. all.front ++ z) all.second.0 ∙ (append-nil all.front ∙ eight.whole)))))
        ∙ regroup formed.front space.front paren.front eight.front eight.back) in
        record {
          front = formed.front ++ (space.front ++ (paren.front ++ eight.front));
          header = eight.back;
          whole = r.whole ∙ (ap (λ z. z ++ rest) word ∙ append_assoc (formed.front ++ (space.front ++ (paren.front ++ eight.front))) eight.back rest);
          is_header = subst (λ z. IsHeader eight.back z) (sym (ap (λ (a : Announced). a.size) all.second.1)) eight.second;
        }

-- ---- what follows a string

space_ends : (kind : Kind) → passes kind 32 ≡ false
unfolding is_atom_char is_astring_char is_list_char is_tag_char is_name_char
space_ends Atom = refl
space_ends Astring = refl
space_ends ListMailbox = refl
space_ends Tag = refl
space_ends FieldName = refl
space_ends NameAstring = refl

return_ends : (kind : Kind) → passes kind 13 ≡ false
unfolding is_atom_char is_astring_char is_list_char is_tag_char is_name_char
return_ends Atom = refl
return_ends Astring = refl
return_ends ListMailbox = refl
return_ends Tag = refl
return_ends FieldName = refl
return_ends NameAstring = refl

pub spaced_avoids : {V : Type 0} (kind : Kind) (Q : List ℕ → V → Type 0) → Avoids (passes kind) (After IsSpace Q)
spaced_avoids kind Q = then_avoids (passes kind) (IsOctet 32) (λ _. Q) (octet_avoids (passes kind) 32 (space_ends kind))

pub space_avoids : (kind : Kind) → Avoids (passes kind) IsSpace
space_avoids kind = octet_avoids (passes kind) 32 (space_ends kind)

pub crlf_avoids : (kind : Kind) → Avoids (passes kind) IsCrlf
crlf_avoids kind = then_avoids (passes kind) (IsOctet 13) (λ _. IsOctet 10) (octet_avoids (passes kind) 13 (return_ends kind))

pub bare_avoids : (kind : Kind) (c : Command) → Avoids (passes kind) (IsBareCommand c)
bare_avoids kind c = then_avoids (passes kind) IsCrlf (λ _. Is c) (crlf_avoids kind)

pub bare_viable : (c : Command) → IsViable (IsBareCommand c) []
bare_viable c = then_viable IsCrlf (λ _. Is c) crlf_viable (λ _. is_viable c)

-- ---- strings

module _ (utf8 : Bool) (Q : List ℕ → List ℕ → Command → Type 0) (some : (v : List ℕ) → IsViable (Q v) []) where
  pub astring_viable : IsViable (Then (IsAstring utf8) Q) []
  astring_viable = string_viable utf8 Astring (IsAstring utf8) (astring_parts utf8) (astring_whole utf8) Q some

  pub pattern_viable : IsViable (Then (IsListMailbox utf8) Q) []
  pattern_viable = string_viable utf8 ListMailbox (IsListMailbox utf8) (list_mailbox_parts utf8) (list_mailbox_whole utf8) Q some

module _ (utf8 : Bool) (Q : List ℕ → List ℕ → Command → Type 0) (ends : EndsRun Astring Q) {P : List ℕ → Command → Type 0} {text rest : List ℕ} (l : Leaves P text (Then (IsAstring utf8) Q) rest) where
  pub astring_stops : ((v : List ℕ) → IsViable (Q v) []) → (stop : Stop) → StopsReading (IsHead utf8 Astring) (after_head Astring) rest stop → StopsReading P never text stop
  astring_stops some stop stops = string_stops utf8 Astring (IsAstring utf8) (astring_parts utf8) (astring_whole utf8) Q ends l some stop stops

  pub astring_read : (v mid : List ℕ) → Reads (IsHead utf8 Astring) (after_head Astring) rest (whole v) mid → Leaves P text (Q v) mid
  astring_read v mid r = string_read utf8 Astring (IsAstring utf8) (astring_parts utf8) (astring_whole utf8) Q ends l v mid r

  pub astring_awaits : (n : ℕ) (mid : List ℕ) → Reads (IsHead utf8 Astring) (after_head Astring) rest (literal n) mid → IsAfterHeader text n mid × ⊤ × Leaves P text (Then (IsCounted n) Q) mid
  astring_awaits n mid r = (header_later l (head_header utf8 Astring r), tt, string_awaits utf8 Astring (IsAstring utf8) (astring_parts utf8) (astring_whole utf8) Q ends l n mid r)

module _ (utf8 : Bool) (Q : List ℕ → List ℕ → Command → Type 0) (ends : EndsRun ListMailbox Q) {P : List ℕ → Command → Type 0} {text rest : List ℕ} (l : Leaves P text (Then (IsListMailbox utf8) Q) rest) where
  pub pattern_stops : ((v : List ℕ) → IsViable (Q v) []) → (stop : Stop) → StopsReading (IsHead utf8 ListMailbox) (after_head ListMailbox) rest stop → StopsReading P never text stop
  pattern_stops some stop stops = string_stops utf8 ListMailbox (IsListMailbox utf8) (list_mailbox_parts utf8) (list_mailbox_whole utf8) Q ends l some stop stops

  pub pattern_read : (v mid : List ℕ) → Reads (IsHead utf8 ListMailbox) (after_head ListMailbox) rest (whole v) mid → Leaves P text (Q v) mid
  pattern_read v mid r = string_read utf8 ListMailbox (IsListMailbox utf8) (list_mailbox_parts utf8) (list_mailbox_whole utf8) Q ends l v mid r

  pub pattern_awaits : (n : ℕ) (mid : List ℕ) → Reads (IsHead utf8 ListMailbox) (after_head ListMailbox) rest (literal n) mid → IsAfterHeader text n mid × ⊤ × Leaves P text (Then (IsCounted n) Q) mid
  pattern_awaits n mid r = (header_later l (head_header utf8 ListMailbox r), tt, string_awaits utf8 ListMailbox (IsListMailbox utf8) (list_mailbox_parts utf8) (list_mailbox_whole utf8) Q ends l n mid r)

-- ---- the commands with strings

pub after_user_viable : (utf8 : Bool) (user : List ℕ) → IsViable (IsAfterUser utf8 user) []
after_user_viable utf8 user = then_viable IsSpace _ (octet_viable 32) (λ _. astring_viable utf8 _ (λ v. bare_viable _))

pub after_reference_viable : (utf8 : Bool) (reference : List ℕ) → IsViable (IsAfterReference utf8 reference) []
after_reference_viable utf8 reference = then_viable IsSpace _ (octet_viable 32) (λ _. pattern_viable utf8 _ (λ v. bare_viable _))

pub atoms_follow : (begun : List (List ℕ)) → IsViable (IsMoreThan IsSpace IsImapAtom IsCrlf begun) []
atoms_follow begun = more_viable IsSpace _ IsCrlf begun crlf_viable

-- the octets of an atom are taken over
pub atom_read : {text v rest octets : List ℕ} → octets ≡ v → Reads IsImapAtom (always is_atom_char) text v rest → Reads IsImapAtom (always is_atom_char) text octets rest
atom_read {text} {v} {rest} e r = subst (λ z. Reads IsImapAtom (always is_atom_char) text z rest) (sym e) r

pub atoms_viable : IsViable IsAtoms []
atoms_viable = then_viable IsImapAtom _ (run_viable Atom) (λ first. atoms_follow (first ∷ []))

pub status_table : IsTable status_words
status_table = is_table _ _ refl refl

pub statuses_viable : IsViable IsStatusItems []
statuses_viable = then_viable IsOpenParenthesis _ (octet_viable 40) (λ _. then_viable (IsWordOf status_words) _ (word_viable status_words status_table) (λ first. more_viable IsSpace (IsWordOf status_words) IsCloseParenthesis (first ∷ []) (octet_viable 41)))

pub after_status_viable : (mailbox : List ℕ) → IsViable (IsAfterStatusName mailbox) []
after_status_viable mailbox = then_viable IsSpace _ (octet_viable 32) (λ _. then_viable IsStatusItems _ statuses_viable (λ items. bare_viable _))
