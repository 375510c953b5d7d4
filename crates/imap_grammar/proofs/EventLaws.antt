-- What is due: nothing within a line or a literal but that there are too many octets, and how many of them count.
use Rattle.std.proofs.Common.{◌≡◌, ℕ, zero, suc, ◌+◌, ◌-◌, ◌<◌, ◌≤◌, Bool, true, false, List, [], ◌∷◌, ◌++◌, length, take, drop, Option, Some, None, ◌⊎◌, inl, inr, refl, sym, ap, ◌∙◌, subst, append_assoc, append-nil, length-append, if◌then◌else◌, arith}
use Rattle.std.proofs.lemmas.Bool.{both_ways}
use Rattle.std.proofs.lemmas.List.{append_cancel_left, take-append-drop, take_at, drop_at, length-take-le, length-drop}
use Rattle.mail_wire.specs.Lines.{Cut, first_line}
use Rattle.mail_wire.specs.declared.framing.TheConstants.{LINE_MAX}
use Rattle.mail_wire.proofs.FirstLineLemmas.{first_line-cut}
use Rattle.imap_words.specs.Languages.{IsViable}
use Rattle.imap_words.specs.Reading.{never, FailsAt}
use Rattle.imap_words.proofs.TokenSteps.{Compared, Same, Longer, Shorter, compared}
use Rattle.imap_words.proofs.Starting.{below_or_not}
use Rattle.imap_grammar.specs.Events.{IsWholeLine, EndsCommandLine, IsFirstBad, Appends, IsAppending, HasData, Counts, IsDue, NothingBefore}
use Rattle.imap_grammar.specs.Standing.{Reached, HasNoDataBefore, size_of, is_data}
use Rattle.imap_grammar.specs.declared.awaited.Awaited.TheVariants as awaited
use Rattle.imap_grammar.specs.declared.reader.Stage.{Stage}
use Rattle.imap_grammar.specs.declared.reader.Stage.TheVariants.{Begin, AfterLiteral}
use Rattle.imap_grammar.specs.declared.event.Event.{Event}
use Rattle.imap_grammar.specs.declared.event.Event.TheVariants as event
use Rattle.imap_grammar.proofs.LineLaws.{cut_same, right_empty, LineAfter, ends_after, ends_begins, ends_some, announces_ends, announces_once}
use Rattle.imap_grammar.proofs.Closing.{command_ends, appending_announces}

-- ---- the place of the first bad octet

pub first_bad : {V : Type 0} (P : List ℕ → V → Type 0) (octets : List ℕ) (left : ℕ) (f : FailsAt P never octets left) → IsFirstBad P octets (length octets - left)
first_bad P octets left f = record {
  below = omega (arith, len, f.left_is);
  viable = subst (λ z. IsViable P z) (sym until) f.viable;
  bad = λ v. f.hopeless v.rest (take (length octets - left + 1) octets ++ v.rest) [] v.value v.is_word
      (append-nil _ ∙ (ap (λ z. z ++ v.rest) with_it ∙ append_assoc f.front (f.octet ∷ []) v.rest));
}
  where
    len : length octets ≡ length f.front + length (f.octet ∷ f.back)
    len = ap length f.whole ∙ length-append f.front (f.octet ∷ f.back)

    until : take (length octets - left) octets ≡ f.front
    until = ap (λ z. take (length octets - left) z) f.whole ∙ take_at f.front _ _ (omega (arith, len, f.left_is))

    with_it : take (length octets - left + 1) octets ≡ f.front ++ f.octet ∷ []
    with_it = ap (λ z. take (length octets - left + 1) z) (f.whole ∙ sym (append_assoc f.front (f.octet ∷ []) f.back))
        ∙ take_at (f.front ++ f.octet ∷ []) f.back _ (length-append f.front (f.octet ∷ []) ∙ omega (arith, len, f.left_is))

-- fronts of what can be completed can be completed
pub viable_front : {V : Type 0} (P : List ℕ → V → Type 0) (text : List ℕ) (n : ℕ) → IsViable P text → IsViable P (take n text)
viable_front P text n v = record {
  rest = drop n text ++ v.rest;
  value = v.value;
  is_word = subst (λ z. P z v.value) (ap (λ z. z ++ v.rest) (sym (take-append-drop n text)) ∙ append_assoc (take n text) (drop n text) v.rest) v.is_word;
}

-- ---- lines and their fronts

none_some : (found : Option Cut) (cut : Cut) → found ≡ None → found ≡ Some cut → ⊥
none_some found cut none some = lacks (sym none ∙ some)
  where
    lacks : None ≡ Some cut → ⊥
    lacks e = cc e

found_or_none : (found : Option Cut) → ((cut : Cut) → found ≡ Some cut → ⊥) → found ≡ None
found_or_none None lacks = refl
found_or_none (Some cut) lacks = absurd (lacks cut refl)

-- fronts of octets without a line have none
pub front_none : (a b : List ℕ) → first_line (a ++ b) ≡ None → first_line a ≡ None
front_none a b none = found_or_none (first_line a) (λ cut some. none_some (first_line (a ++ b)) _ none ((first_line-cut a cut some).longer b))

-- nor has a front of a line that isn't all of it
pub line_front_none : (a b : List ℕ) → IsWholeLine (a ++ b) → 0 < length b → first_line a ≡ None
line_front_none a b is some = found_or_none (first_line a) (λ cut found. longer cut (first_line-cut a cut found).parts (ap (λ c. c.rest) (cut_same (sym ((first_line-cut a cut found).longer b) ∙ is))))
  where
    longer : (cut : Cut) → a ≡ cut.line ++ cut.rest → cut.rest ++ b ≡ [] → ⊥
    longer cut parts e = omega (arith, some, length-append cut.rest b, ap length e)

pub drop_append : (n : ℕ) (a b : List ℕ) → drop n (a ++ b) ≡ drop n a ++ drop (n - length a) b
drop_append zero a b = let e : 0 ≡ 0 - length a = omega arith in ap (λ m. a ++ drop m b) e
drop_append (suc n) [] b = let e : suc n ≡ suc n - 0 = omega arith in ap (λ m. drop m b) e
drop_append (suc n) (x ∷ a) b = let e : n - length a ≡ suc n - suc (length a) = omega arith in drop_append n a b ∙ ap (λ m. drop n a ++ drop m b) e

-- ---- after a stage

-- how many octets count
abbrev pub count_of : Stage → (front body : List ℕ) → ℕ
count_of stage front body = if is_data stage then length front + length (drop (size_of stage) body) else length front + length body

-- after the literal no line is whole yet
abbrev pub Quiet : Stage → List ℕ → Type 0
Quiet stage body = first_line (drop (size_of stage) body) ≡ None

pub ends_in : (utf8 : Bool) (stage : Stage) (front more : List ℕ) → Reached utf8 stage front → EndsCommandLine (front ++ more) → (more ≡ [] → ⊥) → LineAfter (size_of stage) more
ends_in utf8 Begin front more reached is some =
    let found = ends_begins more (subst (λ z. EndsCommandLine (z ++ more)) reached is) in
    record { literal = []; others = more; cut = found.0; whole = refl; sized = refl; first = found.1 }
ends_in utf8 (AfterLiteral tag size a) front more reached is some = ends_after front more size reached.0 is some

others_are : (size : ℕ) (more : List ℕ) (l : LineAfter size more) → drop size more ≡ l.others
others_are size more l = ap (λ z. drop size z) l.whole ∙ drop_at l.literal l.others size l.sized

-- No line ends within a literal or before the line after it is whole.
pub quiet_no_end : (utf8 : Bool) (stage : Stage) (front body : List ℕ) → Reached utf8 stage front → Quiet stage body → (body ≡ [] → ⊥) → EndsCommandLine (front ++ body) → ⊥
quiet_no_end utf8 stage front body reached quiet some is =
    let l = ends_in utf8 stage front body reached is some in
    none_some (first_line (drop (size_of stage) body)) l.cut quiet (ap (λ z. first_line z) (others_are (size_of stage) body l) ∙ l.first)

-- ---- where an APPEND up to its data may stand

appending_ends : (utf8 : Bool) (head : List ℕ) (a : Appends) → IsAppending utf8 head a → EndsCommandLine head
appending_ends utf8 head a is = announces_ends head a.front.announced.size (appending_announces utf8 head a is)

-- the front itself, or up to the end of the line after it
pub data HeadAt (stage : Stage) (front body head rest : List ℕ) : Type 0 where
  AtFront : head ≡ front → rest ≡ body → HeadAt stage front body head rest
  AtLine : (others : List ℕ) (cut : Cut) → drop (size_of stage) body ≡ others ++ rest → first_line others ≡ Some cut → HeadAt stage front body head rest

pub head_at : (utf8 : Bool) (stage : Stage) (front body head rest : List ℕ) (a : Appends) → Reached utf8 stage front → HasNoDataBefore utf8 front → IsAppending utf8 head a → head ++ rest ≡ front ++ body → HeadAt stage front body head rest
head_at utf8 stage front body head rest a reached alone is e = by (compared head front rest body e)
  where
    some : (y : ℕ) (c : List ℕ) → y ∷ c ≡ [] → ⊥
    some y c e = cc e

    by : Compared head front rest body → HeadAt stage front body head rest
    by (Same s) = AtFront s (append_cancel_left front rest body (ap (λ z. z ++ rest) (sym s) ∙ e))
    by (Shorter y c s t) = absurd (some y c (alone head (y ∷ c) a s is))
    by (Longer y c s t) =
        let l = ends_in utf8 stage front (y ∷ c) reached (subst EndsCommandLine s (appending_ends utf8 head a is)) (some y c) in
        AtLine l.others l.cut
        (ap (λ z. drop (size_of stage) z) (t ∙ (ap (λ z. z ++ rest) l.whole ∙ append_assoc l.literal l.others rest)) ∙ drop_at l.literal (l.others ++ rest) (size_of stage) l.sized)
        l.first

-- of quiet octets it is the front
quiet_front : (utf8 : Bool) (stage : Stage) (front body head rest : List ℕ) → Quiet stage body → HeadAt stage front body head rest → (head ≡ front) × (rest ≡ body)
quiet_front utf8 stage front body head rest quiet (AtFront s r) = (s, r)
quiet_front utf8 stage front body head rest quiet (AtLine others cut e found) = absurd (none_some (first_line (drop (size_of stage) body)) _ quiet (ap (λ z. first_line z) e ∙ (first_line-cut others cut found).longer rest))

-- ---- how many octets count

no_data_counts : (utf8 : Bool) (stage : Stage) (front body : List ℕ) → Reached utf8 stage front → HasNoDataBefore utf8 front → Quiet stage body → ((a : Appends) → IsAppending utf8 front a → ⊥) → Counts utf8 (front ++ body) (length front + length body)
no_data_counts utf8 stage front body reached alone quiet none = inr (λ others has. nowhere others has, sym (length-append front body))
  where
    nowhere : (others : ℕ) → HasData utf8 (front ++ body) others → ⊥
    nowhere others has =
        let at = quiet_front utf8 stage front body has.head (has.content ++ has.back) quiet (head_at utf8 stage front body has.head (has.content ++ has.back) has.appends reached alone has.is_head (sym has.whole)) in
        none has.appends (subst (λ z. IsAppending utf8 z has.appends) at.0 has.is_head)

data_counts : (utf8 : Bool) (front body : List ℕ) (size : ℕ) (a : Appends) → IsAppending utf8 front a → size ≡ a.front.announced.size → Counts utf8 (front ++ body) (length front + length (drop size body))
data_counts utf8 front body size a is same = inl (record {
  head = front;
  content = take size body;
  back = drop size body;
  appends = a;
  whole = ap (λ z. front ++ z) (sym (take-append-drop size body));
  is_head = is;
  sized = elim (below_or_not (length body) size) [
    | inl less ↦ inr (omega (arith, less, same, taken, len), nothing (drop size body) (omega (arith, less, length-drop size body)))
    | inr more ↦ inl (length-take-le size body more ∙ same)
  ];
  count = refl;
})
  where
    nothing : (octets : List ℕ) → length octets ≡ 0 → octets ≡ []
    nothing [] e = refl
    nothing (x ∷ octets) e = absurd (omega (arith, e))

    len : length (take size body) + length (drop size body) ≡ length body
    len = sym (length-append (take size body) (drop size body)) ∙ ap length (take-append-drop size body)

    taken : length (drop size body) ≡ length body - size
    taken = length-drop size body

pub nowhere_front : (utf8 : Bool) (front : List ℕ) → front ≡ [] → (a : Appends) → IsAppending utf8 front a → ⊥
nowhere_front utf8 front none a is = ends_some front (appending_ends utf8 front a is) none

-- data are awaited, or none
pub data AtStage (utf8 : Bool) (stage : Stage) (front : List ℕ) : Type 0 where
  IsData : is_data stage ≡ true → (a : Appends) → IsAppending utf8 front a → size_of stage ≡ a.front.announced.size → AtStage utf8 stage front
  NoData : is_data stage ≡ false → ((a : Appends) → IsAppending utf8 front a → ⊥) → AtStage utf8 stage front

pub at_stage : (utf8 : Bool) (stage : Stage) (front : List ℕ) → Reached utf8 stage front → AtStage utf8 stage front
at_stage utf8 Begin front reached = NoData refl (nowhere_front utf8 front reached)
at_stage utf8 (AfterLiteral tag size (awaited.AppendData mailbox flags date in_utf8)) front reached =
    IsData refl reached.3.0 reached.3.1 (announces_once front size reached.3.0.front.announced.size reached.0 (appending_announces utf8 front reached.3.0 reached.3.1))
at_stage utf8 (AfterLiteral tag size awaited.LoginName) front reached = NoData refl reached.3
at_stage utf8 (AfterLiteral tag size (awaited.LoginPassword user)) front reached = NoData refl reached.3
at_stage utf8 (AfterLiteral tag size (awaited.Mailbox n)) front reached = NoData refl reached.3
at_stage utf8 (AfterLiteral tag size awaited.ListReference) front reached = NoData refl reached.3
at_stage utf8 (AfterLiteral tag size (awaited.ListPattern reference)) front reached = NoData refl reached.3
at_stage utf8 (AfterLiteral tag size awaited.StatusName) front reached = NoData refl reached.3
at_stage utf8 (AfterLiteral tag size awaited.AppendName) front reached = NoData refl reached.3
at_stage utf8 (AfterLiteral tag size (awaited.FieldName so_far)) front reached = NoData refl reached.3

if_true : (b : Bool) (m n : ℕ) → b ≡ true → m ≡ (if b then m else n)
if_true true m n e = refl
if_true false m n e = absurd (both_ways false refl e)

pub if_false : (b : Bool) (m n : ℕ) → b ≡ false → n ≡ (if b then m else n)
if_false false m n e = refl
if_false true m n e = absurd (both_ways true e refl)

pub data_count : (utf8 : Bool) (stage : Stage) (front body : List ℕ) (a : Appends) → is_data stage ≡ true → IsAppending utf8 front a → size_of stage ≡ a.front.announced.size → Counts utf8 (front ++ body) (count_of stage front body)
data_count utf8 stage front body a given is same =
    subst (λ z. Counts utf8 (front ++ body) z) (if_true (is_data stage) (length front + length (drop (size_of stage) body)) (length front + length body) given) (data_counts utf8 front body (size_of stage) a is same)

pub plain_count : (utf8 : Bool) (stage : Stage) (front body : List ℕ) → is_data stage ≡ false → Counts utf8 (front ++ body) (length front + length body) → Counts utf8 (front ++ body) (count_of stage front body)
plain_count utf8 stage front body lacks counts =
    subst (λ z. Counts utf8 (front ++ body) z) (if_false (is_data stage) (length front + length (drop (size_of stage) body)) (length front + length body) lacks) counts

pub quiet_counts : (utf8 : Bool) (stage : Stage) (front body : List ℕ) → Reached utf8 stage front → HasNoDataBefore utf8 front → Quiet stage body → Counts utf8 (front ++ body) (count_of stage front body)
quiet_counts utf8 stage front body reached alone quiet = by (at_stage utf8 stage front reached)
  where
    by : AtStage utf8 stage front → Counts utf8 (front ++ body) (count_of stage front body)
    by (IsData given a is same) = data_count utf8 stage front body a given is same
    by (NoData lacks none) = plain_count utf8 stage front body lacks (no_data_counts utf8 stage front body reached alone quiet none)

-- ---- and no fewer

count_bound : (b : Bool) (f d w : ℕ) → d ≤ w → (if b then f + d else f + w) ≤ f + w
count_bound true f d w less = omega (arith, less)
count_bound false f d w less = omega arith

not_more : (stage : Stage) (front body : List ℕ) → count_of stage front body ≤ length front + length body
not_more stage front body = count_bound (is_data stage) (length front) (length (drop (size_of stage) body)) (length body) (omega (arith, length-drop (size_of stage) body))

data_least : (size : ℕ) (front body content back : List ℕ) (announced : ℕ) → size ≡ announced → content ++ back ≡ body → (length content ≡ announced) ⊎ ((length content < announced) × (back ≡ [])) → length front + length (drop size body) ≤ length front + length back
data_least size front body content back announced same whole (inl all) = omega (arith, same, ap length whole, length-append content back, all, length-drop size body)
data_least size front body content back announced same whole (inr part) = omega (arith, same, ap length whole, length-append content back, part.0, ap length part.1, length-drop size body)

least_at : (utf8 : Bool) (stage : Stage) (front body content back : List ℕ) (a : Appends) → Reached utf8 stage front → IsAppending utf8 front a → content ++ back ≡ body
    → (length content ≡ a.front.announced.size) ⊎ ((length content < a.front.announced.size) × (back ≡ [])) → count_of stage front body ≤ length front + length back
least_at utf8 stage front body content back a reached is whole sized = by (at_stage utf8 stage front reached)
  where
    by : AtStage utf8 stage front → count_of stage front body ≤ length front + length back
    by (IsData given b its same) =
        subst (λ z. z ≤ length front + length back) (if_true (is_data stage) (length front + length (drop (size_of stage) body)) (length front + length body) given)
        (data_least (size_of stage) front body content back a.front.announced.size
        (same ∙ announces_once front b.front.announced.size a.front.announced.size (appending_announces utf8 front b its) (appending_announces utf8 front a is)) whole sized)
    by (NoData lacks none) = absurd (none a is)

-- No count of quiet octets, or of those that end a line, is less.
pub least : (utf8 : Bool) (stage : Stage) (front body : List ℕ) → Reached utf8 stage front → HasNoDataBefore utf8 front → Quiet stage body ⊎ IsWholeLine (drop (size_of stage) body) → (m : ℕ) → Counts utf8 (front ++ body) m → count_of stage front body ≤ m
least utf8 stage front body reached alone at m (inr all) = omega (arith, not_more stage front body, all.1, length-append front body)
least utf8 stage front body reached alone at m (inl has) = by (head_at utf8 stage front body has.head (has.content ++ has.back) has.appends reached alone has.is_head (sym has.whole)) at
  where
    by : HeadAt stage front body has.head (has.content ++ has.back) → Quiet stage body ⊎ IsWholeLine (drop (size_of stage) body) → count_of stage front body ≤ m
    by (AtFront s r) either =
        omega (arith, least_at utf8 stage front body has.content has.back has.appends reached (subst (λ z. IsAppending utf8 z has.appends) s has.is_head) r has.sized, has.count, ap length s)
    by (AtLine others cut e found) (inl quiet) = absurd (none_some (first_line (drop (size_of stage) body)) _ quiet (ap (λ z. first_line z) e ∙ (first_line-cut others cut found).longer (has.content ++ has.back)))
    by (AtLine others cut e found) (inr line) =
        let none = right_empty cut.rest (has.content ++ has.back) (ap (λ c. c.rest) (cut_same (sym ((first_line-cut others cut found).longer (has.content ++ has.back)) ∙ (ap (λ z. first_line z) (sym e) ∙ line)))) in
        omega (arith, not_more stage front body, has.count, ap length has.whole, length-append front body, length-append has.head (has.content ++ has.back), ap length none)

-- ---- nothing is due

pub nothing_due : (utf8 : Bool) (octets : List ℕ) (n : ℕ) → (EndsCommandLine octets → ⊥) → Counts utf8 octets n → n ≤ LINE_MAX → (e : Event) → IsDue utf8 octets e → ⊥
nothing_due utf8 octets n no_end counts few event.More due = due
nothing_due utf8 octets n no_end counts few event.Go due = no_end due.1.ends
nothing_due utf8 octets n no_end counts few (event.Command tag c) due = no_end (command_ends utf8 octets _ due.1)
nothing_due utf8 octets n no_end counts few (event.Bad tag at) due = no_end due.1
nothing_due utf8 octets n no_end counts few (event.TooLarge tag) due = no_end (appending_ends utf8 octets due.1.0 due.1.1)
nothing_due utf8 octets n no_end counts few event.TooLong due = due (n, counts, few)

-- Before so many octets of the piece nothing is due, where they are quiet and few.
pub nothing_before : (utf8 : Bool) (stage : Stage) (front body piece : List ℕ) (used : ℕ) → Reached utf8 stage front → HasNoDataBefore utf8 front → used ≤ length piece + 1
    → ((n : ℕ) → n < used → Quiet stage (body ++ take n piece) × count_of stage front (body ++ take n piece) ≤ LINE_MAX) → NothingBefore utf8 (front ++ body) piece used
nothing_before utf8 stage front body piece used reached alone fits each n some less e due =
    let q = each n less in
    nothing_due utf8 (front ++ (body ++ take n piece)) (count_of stage front (body ++ take n piece)) (quiet_no_end utf8 stage front (body ++ take n piece) reached q.0 filled) (quiet_counts utf8 stage front (body ++ take n piece) reached alone q.0) q.1 e
    (subst (λ z. IsDue utf8 z e) (append_assoc front body (take n piece)) due)
  where
    filled : body ++ take n piece ≡ [] → ⊥
    filled none = omega (arith, some, less, fits, ap length none, length-append body (take n piece), length-take-le n piece (omega (arith, less, fits)))
