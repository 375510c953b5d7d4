-- The recipients of a report are read back, one after the other.
use Rattle.std.proofs.Common.{◌≡◌, ℕ, ◌<◌, inl, inr, Bool, List, [], ◌∷◌, ◌++◌, length, Some, refl, sym, ap, subst, ◌∙◌, arith, slice_get}
use Rattle.std.proofs.lemmas.List.{append_assoc, append-nil, length-append}
use Rattle.std.proofs.lemmas.List.Elements.{All-head, All-tail, All-push}
use Rattle.std.specs.List.{All, flat_map}
use Rattle.utf8_reports.specs.declared.failure.FailedRecipient.{FailedRecipient}
use Rattle.utf8_reports.specs.Recipients.{IsFailed, recipient_fields}
use Rattle.utf8_reports.specs.private.Reading.{EndsRecipient, BeginsRecipient, BeginsRecipients}
use Rattle.utf8_reports.proofs.OutcomeLines.{first_is}

abbrev fields_of : Bool → List FailedRecipient → List ℕ
fields_of global failed = flat_map (recipient_fields global) failed

fields-append : (global : Bool) (a b : List FailedRecipient) → fields_of global (a ++ b) ≡ fields_of global a ++ fields_of global b
fields-append global [] b = refl
fields-append global (one ∷ a) b =
    ap (λ l. recipient_fields global one ++ l) (fields-append global a b) ∙ sym (append_assoc (recipient_fields global one) (fields_of global a) (fields_of global b))

fields-push : (global : Bool) (failed : List FailedRecipient) (one : FailedRecipient) → fields_of global (failed ++ one ∷ []) ≡ fields_of global failed ++ recipient_fields global one
fields-push global failed one = fields-append global failed (one ∷ []) ∙ ap (λ l. fields_of global failed ++ l) (append-nil (recipient_fields global one))

-- the fields of a recipient begin with an empty line
fields_begin : (global : Bool) (one : FailedRecipient) → (tail : List ℕ) × (recipient_fields global one ≡ 13 ∷ 10 ∷ tail)
unfolding recipient_fields
fields_begin global one = (_, refl)

-- recipients that are left, and what follows their fields
pub record AreLeft (global : Bool) (octets : List ℕ) (more : List FailedRecipient) (last : List ℕ) : Type 0 where
  pub are_failed : All IsFailed more
  pub whole : octets ≡ fields_of global more ++ last
  pub ends : slice_get last 0 ≡ Some 45

-- Those that the octets tell of are these, and some that are left.
pub record GoesOn (global : Bool) (rest : List ℕ) (failed all : List FailedRecipient) (last : List ℕ) : Type 0 where
  pub more : List FailedRecipient
  pub all_are : all ≡ failed ++ more
  pub left : AreLeft global rest more last

-- The fields of these recipients were read, and rest follows them.
pub record HasReadRecipients (global : Bool) (octets : List ℕ) (failed : List FailedRecipient) (rest : List ℕ) : Type 0 where
  pub are_failed : All IsFailed failed
  pub whole : octets ≡ fields_of global failed ++ rest
  pub others : (all : List FailedRecipient) (last : List ℕ) → BeginsRecipients global octets all last → GoesOn global rest failed all last

-- ---- what is left

left_begins : (global : Bool) (last : List ℕ) (one : FailedRecipient) (more : List FailedRecipient) → (tail : List ℕ) × (fields_of global (one ∷ more) ++ last ≡ 13 ∷ 10 ∷ tail)
left_begins global last one more =
    let begins = fields_begin global one in
    (_, ap (λ l. (l ++ fields_of global more) ++ last) begins.1)

left_ends : (global : Bool) (last : List ℕ) (more : List FailedRecipient) → slice_get last 0 ≡ Some 45 → EndsRecipient (fields_of global more ++ last)
left_ends global last [] ends = inr ends
left_ends global last (one ∷ more) ends = inl (ap (λ l. slice_get l 0) (left_begins global last one more).1)

-- the next of those that are left, where an empty line comes first
pub record IsNext (global : Bool) (rest last : List ℕ) (more : List FailedRecipient) : Type 0 where
  pub one : FailedRecipient
  pub others : List FailedRecipient
  pub following : List ℕ
  pub more_are : more ≡ one ∷ others
  pub begins : BeginsRecipient global rest one following
  pub ends : EndsRecipient following
  pub left : AreLeft global following others last

next_of : (global : Bool) (rest last tail : List ℕ) (more : List FailedRecipient) → rest ≡ 13 ∷ 10 ∷ tail → AreLeft global rest more last → IsNext global rest last more
next_of global rest last tail [] empty left = let same = first_is 13 45 (10 ∷ tail) last (sym left.whole ∙ empty) left.ends in absurd (omega arith)
next_of global rest last tail (one ∷ others) empty left = record {
  one = one;
  others = others;
  following = fields_of global others ++ last;
  more_are = refl;
  begins = record { is_failed = All-head IsFailed one others left.are_failed; whole = left.whole ∙ append_assoc (recipient_fields global one) (fields_of global others) last };
  ends = left_ends global last others left.ends;
  left = record { are_failed = All-tail IsFailed one others left.are_failed; whole = refl; ends = left.ends };
}

-- the next recipient that the octets tell of
pub next_there : (global : Bool) (octets rest last tail : List ℕ) (failed all : List FailedRecipient) → HasReadRecipients global octets failed rest → rest ≡ 13 ∷ 10 ∷ tail
    → BeginsRecipients global octets all last → (more : List FailedRecipient) × IsNext global rest last more
next_there global octets rest last tail failed all read empty is =
    let go = read.others all last is in
    (go.more, next_of global rest last tail go.more empty go.left)

-- one recipient more was read
pub read_next : (global : Bool) (octets rest after tail : List ℕ) (failed new : List FailedRecipient) (one : FailedRecipient) → HasReadRecipients global octets failed rest
    → rest ≡ 13 ∷ 10 ∷ tail → BeginsRecipient global rest one after
    → ((other : FailedRecipient) (following : List ℕ) → BeginsRecipient global rest other following → EndsRecipient following → (one ≡ other) × (after ≡ following))
    → new ≡ failed ++ one ∷ [] → HasReadRecipients global octets new after
read_next global octets rest after tail failed new one read empty begins exact pushed = rw pushed (record {
  are_failed = All-push IsFailed failed one read.are_failed begins.is_failed;
  whole = read.whole
      ∙ (ap (λ l. fields_of global failed ++ l) begins.whole
      ∙ (sym (append_assoc (fields_of global failed) (recipient_fields global one) after) ∙ ap (λ l. l ++ after) (sym (fields-push global failed one))));
  others = λ all last is.
      let go = read.others all last is in
      let next = next_of global rest last tail go.more empty go.left in
      let same = exact next.one next.following next.begins next.ends in
      record {
        more = next.others;
        all_are = go.all_are
            ∙ (ap (λ m. failed ++ m) (next.more_are ∙ ap (λ o. o ∷ next.others) (sym same.0)) ∙ sym (append_assoc failed (one ∷ []) next.others));
        left = subst (λ b. AreLeft global b next.others last) (sym same.1) next.left;
      };
})

pub recipient_shortens : (global : Bool) (octets rest : List ℕ) (one : FailedRecipient) → BeginsRecipient global octets one rest → length rest < length octets
recipient_shortens global octets rest one is =
    let begins = fields_begin global one in
    let size = ap length (is.whole ∙ ap (λ l. l ++ rest) begins.1) in
    let more = length-append begins.0 rest in
    omega arith

-- ---- after the last recipient

ended : (global : Bool) (rest last : List ℕ) (more : List FailedRecipient) → ((tail : List ℕ) → rest ≡ 13 ∷ 10 ∷ tail → ⊥) → AreLeft global rest more last → (more ≡ []) × (rest ≡ last)
ended global rest last [] none left = (refl, left.whole)
ended global rest last (one ∷ others) none left =
    let begins = left_begins global last one others in
    absurd (none begins.0 (left.whole ∙ begins.1))

-- all that the octets tell of were read
pub all_read : (global : Bool) (octets rest last : List ℕ) (failed all : List FailedRecipient) → HasReadRecipients global octets failed rest
    → ((tail : List ℕ) → rest ≡ 13 ∷ 10 ∷ tail → ⊥) → BeginsRecipients global octets all last → (failed ≡ all) × (rest ≡ last)
all_read global octets rest last failed all read none is =
    let go = read.others all last is in
    let end = ended global rest last go.more none go.left in
    (sym (go.all_are ∙ (ap (λ m. failed ++ m) end.0 ∙ append-nil failed)), end.1)
