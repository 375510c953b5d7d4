-- What calls do by acts that are due.
use Rattle.std.proofs.Common.{◌≡◌, ℕ, List, [], ◌∷◌, ◌++◌, Option, Some, refl, sym, ap, ◌∙◌, append-nil, append_assoc}
use Rattle.std.specs.Prelude.{map}
use Rattle.std.specs.List.{flat_map}
use Rattle.std.proofs.lemmas.List.Concat.{flat_map-append}
use Rattle.mail_wire.specs.declared.outside.Fault.{Fault}
use Rattle.mail_wire.specs.declared.outside.Fault.TheVariants as fault
use Rattle.session_core.specs.Acts.{Act, gives, changes, asks, acts_of, asked_in, asking, changes_in, act_octets}
use Rattle.session_core.specs.Done.{given_by, StopsIn, FailsIn, IsDone}
use Rattle.mail_store.specs.Following.{records_of, Follows}
use Rattle.mail_store.specs.StoreState.{StoreState}
use Rattle.journal_records.specs.declared.records.Record.{Record}
use Rattle.surrogate_cache.specs.Caching.{Asked}
use Rattle.mail_store.proofs.FollowLemmas.{Follows-nil, Follows-more, Breaks-more, records_of-append}

-- ---- acts

pub changes_in-append : {P : Type 0} (xs ys : List (Act P)) → changes_in (xs ++ ys) ≡ changes_in xs ++ changes_in ys
changes_in-append [] ys = refl
changes_in-append (gives part ∷ xs) ys = changes_in-append xs ys
changes_in-append (changes records ∷ xs) ys = ap (λ l. records ∷ l) (changes_in-append xs ys)
changes_in-append (asks asked ∷ xs) ys = changes_in-append xs ys

pub asked_in-append : {P : Type 0} (xs ys : List (Act P)) → asked_in (xs ++ ys) ≡ asked_in xs ++ asked_in ys
asked_in-append [] ys = refl
asked_in-append (gives part ∷ xs) ys = asked_in-append xs ys
asked_in-append (changes records ∷ xs) ys = asked_in-append xs ys
asked_in-append (asks asked ∷ xs) ys = ap (λ l. asked ∷ l) (asked_in-append xs ys)

of_reply : {P : Type 0} (reply : List P) → changes_in (map gives reply) ≡ []
of_reply [] = refl
of_reply (part ∷ reply) = of_reply reply

pub changes_in-acts : {P : Type 0} (made : List (List Record)) (reply : List P) → changes_in (acts_of made reply) ≡ made
changes_in-acts [] reply = of_reply reply
changes_in-acts (records ∷ made) reply = ap (λ l. records ∷ l) (changes_in-acts made reply)

changes_alone : (P : Type 0) (made : List (List Record)) → changes_in {P = P} (map changes made) ≡ made
changes_alone P [] = refl
changes_alone P (records ∷ made) = ap (λ l. records ∷ l) (changes_alone P made)

-- changes give nothing
nothing_given : {P : Type 0} (spelled : P → List ℕ) (made : List (List Record)) → given_by spelled (map changes made) ≡ []
nothing_given spelled [] = refl
nothing_given spelled (records ∷ made) = nothing_given spelled made

octets_of_reply : {P : Type 0} (spelled : P → List ℕ) (reply : List P) → given_by spelled (map gives reply) ≡ flat_map spelled reply
octets_of_reply spelled [] = refl
octets_of_reply spelled (part ∷ reply) = ap (λ l. spelled part ++ l) (octets_of_reply spelled reply)

pub octets_of_acts : {P : Type 0} (spelled : P → List ℕ) (made : List (List Record)) (reply : List P) → given_by spelled (acts_of made reply) ≡ flat_map spelled reply
octets_of_acts spelled [] reply = octets_of_reply spelled reply
octets_of_acts spelled (records ∷ made) reply = octets_of_acts spelled made reply

none_asked : {P : Type 0} (reply : List P) → asked_in (map gives reply) ≡ []
none_asked [] = refl
none_asked (part ∷ reply) = none_asked reply

-- changes and a reply ask for no message
pub asked_in-acts : {P : Type 0} (made : List (List Record)) (reply : List P) → asked_in (acts_of made reply) ≡ []
asked_in-acts [] reply = none_asked reply
asked_in-acts (records ∷ made) reply = asked_in-acts made reply

pub given_by-append : {P : Type 0} (spelled : P → List ℕ) (xs ys : List (Act P)) → given_by spelled (xs ++ ys) ≡ given_by spelled xs ++ given_by spelled ys
given_by-append spelled xs ys = flat_map-append (act_octets spelled) xs ys

-- the records of acts after others
pub records_in-append : {P : Type 0} (xs ys : List (Act P)) → records_of (changes_in (xs ++ ys)) ≡ records_of (changes_in xs) ++ records_of (changes_in ys)
records_in-append xs ys = ap (λ (l : List (List Record)). records_of l) (changes_in-append xs ys) ∙ records_of-append (changes_in xs) (changes_in ys)

-- ---- acts after the messages that are asked for

pub asked_in-asking : {P : Type 0} (asked : List Asked) (acts : List (Act P)) → asked_in (asking asked acts) ≡ asked ++ asked_in acts
asked_in-asking [] acts = refl
asked_in-asking (one ∷ asked) acts = ap (λ l. one ∷ l) (asked_in-asking asked acts)

pub changes_in-asking : {P : Type 0} (asked : List Asked) (acts : List (Act P)) → changes_in (asking asked acts) ≡ changes_in acts
changes_in-asking [] acts = refl
changes_in-asking (one ∷ asked) acts = changes_in-asking asked acts

pub given_by-asking : {P : Type 0} (spelled : P → List ℕ) (asked : List Asked) (acts : List (Act P)) → given_by spelled (asking asked acts) ≡ given_by spelled acts
given_by-asking spelled [] acts = refl
given_by-asking spelled (one ∷ asked) acts = given_by-asking spelled asked acts

-- ---- one call

-- nothing was done
pub StopsIn-none : {P : Type 0} (spelled : P → List ℕ) (old : StoreState) (had : Option (List ℕ)) (acts : List (Act P)) → StopsIn spelled old old had had acts []
StopsIn-none spelled old had acts =
    record { done = []; cut = []; left = acts; acts_are = refl; unchanged = refl; begun = []; missing = []; cut_is = refl; given_is = refl; follows = Follows-nil old had }

-- the changes were made, and of the reply a prefix was given
pub StopsIn-reply : {P : Type 0} (spelled : P → List ℕ) (old new : StoreState) (had has : Option (List ℕ)) (made : List (List Record)) (reply : List P) (given missing : List ℕ)
    → Follows old new had has (records_of made) → given ++ missing ≡ flat_map spelled reply → StopsIn spelled old new had has (acts_of made reply) given
StopsIn-reply {P = P} spelled old new had has made reply given missing follows whole = record {
  done = map changes made;
  cut = map gives reply;
  left = [];
  acts_are = ap (λ l. map changes made ++ l) (sym (append-nil (map gives reply)));
  unchanged = of_reply reply;
  begun = given;
  missing = missing;
  cut_is = octets_of_reply spelled reply ∙ sym whole;
  given_is = ap (λ l. l ++ given) (sym (nothing_given spelled made));
  follows = rw (changes_alone P made) follows;
}

-- of a reply after the messages that are asked for a prefix was given
pub StopsIn-asked : {P : Type 0} (spelled : P → List ℕ) (old : StoreState) (had : Option (List ℕ)) (asked : List Asked) (reply : List P) (given missing : List ℕ) → given ++ missing ≡ flat_map spelled reply
    → StopsIn spelled old old had had (asking asked (acts_of [] reply)) given
StopsIn-asked spelled old had asked reply given missing whole = record {
  done = [];
  cut = asking asked (acts_of [] reply);
  left = [];
  acts_are = sym (append-nil (asking asked (acts_of [] reply)));
  unchanged = changes_in-asking asked (acts_of [] reply) ∙ of_reply reply;
  begun = given;
  missing = missing;
  cut_is = given_by-asking spelled asked (acts_of [] reply) ∙ octets_of_reply spelled reply ∙ sym whole;
  given_is = refl;
  follows = Follows-nil old had;
}

-- ---- acts after others, and before others

after_and_before : {A : Type 0} (front done mid left more : List A) → front ++ ((done ++ (mid ++ left)) ++ more) ≡ (front ++ done) ++ (mid ++ (left ++ more))
after_and_before front done mid left more =
    ap (λ l. front ++ l) (append_assoc done (mid ++ left) more ∙ ap (λ l. done ++ l) (append_assoc mid left more)) ∙ sym (append_assoc front done (mid ++ (left ++ more)))

front_given : {P : Type 0} (spelled : P → List ℕ) (front done : List (Act P)) (begun : List ℕ) → given_by spelled front ++ (given_by spelled done ++ begun) ≡ given_by spelled (front ++ done) ++ begun
front_given spelled front done begun =
    sym (append_assoc (given_by spelled front) (given_by spelled done) begun) ∙ ap (λ l. l ++ begun) (sym (given_by-append spelled front done))

StopsIn-more : {P : Type 0} (spelled : P → List ℕ) (old mid new : StoreState) (had has having : Option (List ℕ)) (front acts more : List (Act P)) (given : List ℕ)
    → Follows old mid had has (records_of (changes_in front)) → StopsIn spelled mid new has having acts given
    → StopsIn spelled old new had having (front ++ (acts ++ more)) (given_by spelled front ++ given)
StopsIn-more spelled old mid new had has having front acts more given first stops = record {
  done = front ++ stops.done;
  cut = stops.cut;
  left = stops.left ++ more;
  acts_are = ap (λ l. front ++ (l ++ more)) stops.acts_are ∙ after_and_before front stops.done stops.cut stops.left more;
  unchanged = stops.unchanged;
  begun = stops.begun;
  missing = stops.missing;
  cut_is = stops.cut_is;
  given_is = ap (λ l. given_by spelled front ++ l) stops.given_is ∙ front_given spelled front stops.done stops.begun;
  follows = rw (records_in-append front stops.done)
      (Follows-more old mid new had has having (records_of (changes_in front)) (records_of (changes_in stops.done)) first stops.follows);
}

FailsIn-more : {P : Type 0} (spelled : P → List ℕ) (old mid new : StoreState) (had has having : Option (List ℕ)) (front acts more : List (Act P)) (given : List ℕ)
    → Follows old mid had has (records_of (changes_in front)) → FailsIn spelled mid new has having acts given
    → FailsIn spelled old new had having (front ++ (acts ++ more)) (given_by spelled front ++ given)
FailsIn-more spelled old mid new had has having front acts more given first fails = record {
  done = front ++ fails.done;
  failing = fails.failing;
  left = fails.left ++ more;
  acts_are = ap (λ l. front ++ (l ++ more)) fails.acts_are ∙ after_and_before front fails.done (changes fails.failing ∷ []) fails.left more;
  given_is = ap (λ l. given_by spelled front ++ l) fails.given_is ∙ sym (given_by-append spelled front fails.done);
  breaks = rw (records_in-append front fails.done)
      (Breaks-more old mid new had has having (records_of (changes_in front)) (records_of (changes_in fails.done)) fails.failing first fails.breaks);
}

-- what a fault leaves of acts that stand between others, the first of which were done
pub IsDone-more : {P : Type 0} (spelled : P → List ℕ) (old mid new : StoreState) (had has having : Option (List ℕ)) (met : Fault) (front acts more : List (Act P)) (given : List ℕ)
    → Follows old mid had has (records_of (changes_in front)) → IsDone spelled mid new has having (Some met) acts given
    → IsDone spelled old new had having (Some met) (front ++ (acts ++ more)) (given_by spelled front ++ given)
IsDone-more spelled old mid new had has having fault.Keeper front acts more given first done = FailsIn-more spelled old mid new had has having front acts more given first done
IsDone-more spelled old mid new had has having fault.Wire front acts more given first done = StopsIn-more spelled old mid new had has having front acts more given first done
IsDone-more spelled old mid new had has having fault.Memory front acts more given first done = StopsIn-more spelled old mid new had has having front acts more given first done
