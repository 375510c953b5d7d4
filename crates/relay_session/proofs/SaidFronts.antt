-- What was given is a front of what the client says.
use Rattle.std.proofs.Common.{◌≡◌, inl, inr, ℕ, List, [], ◌∷◌, ◌++◌, Option, None, Some, Result, Ok, Err, refl, sym, ap, ◌∙◌, append_assoc, append-nil}
use Rattle.std.specs.Io.KnownBytes.{Consumes}
use Rattle.std.proofs.lemmas.List.Concat.{flat_map-append}
use Rattle.std.proofs.lemmas.Option.{none-some, same_Some}
use Rattle.address_grammar.specs.declared.Address.{Address}
use Rattle.mail_store.specs.StoreState.{StoreState}
use Rattle.mail_wire.specs.Transcript.{given_of, taken_of}
use Rattle.mail_wire.specs.declared.outside.Entry.{Entry}
use Rattle.mail_wire.specs.declared.outside.Fault.{Fault}
use Rattle.mail_wire.specs.declared.outside.Fault.TheVariants as fault
use Rattle.mail_wire.proofs.Moving.{Moves-nil}
use Rattle.relay_choice.specs.Relay.{act_octets, sent_octets}
use Rattle.relay_choice.specs.declared.mail_objects.Act.{Act as ClientAct}
use Rattle.relay_choice.specs.declared.replies.Reply.{Reply}
use Rattle.relay_choice.proofs.GoingOnLemmas.{relay_grows}
use Rattle.session_core.specs.Acts.{Act, changes}
use Rattle.session_core.specs.Around.{Around}
use Rattle.session_core.specs.Done.{IsDone, StopsIn, given_by}
use Rattle.session_core.proofs.DoneLemmas.{given_by-append}
use Rattle.session_core.proofs.MeaningLemmas.{oracles_given}
use Rattle.kept_mail.specs.Kept.{name_of}
use Rattle.relay_session.specs.MailObjects.{Mailbag, messages_of}
use Rattle.relay_session.specs.Relaying.{AnswersRelay, BreaksRunOff, Carried, EndsRun, Relays, RelaysBy, SaysFrontOf, begun, idle, run_of, unbegun}
use Rattle.relay_session.specs.Streams.{AreAllReplies}
use Rattle.relay_session.specs.declared.ends.LeftCause.{LeftCause}
use Rattle.relay_session.specs.declared.ends.LeftCause.TheVariants as cause
use Rattle.relay_session.specs.declared.ends.RelayEnd.{RelayEnd}
use Rattle.relay_session.proofs.RunSteps.{Carries-given}
use Rattle.relay_session.proofs.SameReplies.{replies_front}

-- ---- acts that were broken off

-- octets that others follow
abbrev pub IsFrontOf : (given whole : List ℕ) → Type 0
IsFrontOf given whole = (missing : List ℕ) × (whole ≡ given ++ missing)

abbrev plain : List ℕ → List ℕ
plain octets = octets

stops_front : (old new : StoreState) (had has : Option (List ℕ)) (acts : List (Act (List ℕ))) (given : List ℕ) → StopsIn plain old new had has acts given → IsFrontOf given (given_by plain acts)
stops_front old new had has acts given stops =
    let done = given_by plain stops.done in
    let left = given_by plain stops.left in (
      stops.missing ++ left,
      ap (λ (l : List (Act (List ℕ))). given_by plain l) stops.acts_are ∙ given_by-append plain stops.done (stops.cut ++ stops.left)
          ∙ ap (λ (l : List ℕ). done ++ l) (given_by-append plain stops.cut stops.left ∙ ap (λ (l : List ℕ). l ++ left) stops.cut_is ∙ append_assoc stops.begun stops.missing left)
          ∙ sym (append_assoc done stops.begun (stops.missing ++ left)) ∙ ap (λ (l : List ℕ). l ++ (stops.missing ++ left)) (sym stops.given_is),
    )

-- whatever broke them off, what was given is a front of what they give
done_front : (old new : StoreState) (had has : Option (List ℕ)) (met : Option Fault) (acts : List (Act (List ℕ))) (given : List ℕ) → IsDone plain old new had has met acts given → IsFrontOf given (given_by plain acts)
done_front old new had has None acts given done = ([], sym done.0 ∙ sym (append-nil given))
done_front old new had has (Some fault.Keeper) acts given fails = (
  given_by plain (changes fails.failing ∷ fails.left),
  ap (λ (l : List (Act (List ℕ))). given_by plain l) fails.acts_are ∙ given_by-append plain fails.done (changes fails.failing ∷ fails.left)
      ∙ ap (λ (l : List ℕ). l ++ given_by plain (changes fails.failing ∷ fails.left)) (sym fails.given_is),
)
done_front old new had has (Some fault.Wire) acts given stops = stops_front old new had has acts given stops
done_front old new had has (Some fault.Memory) acts given stops = stops_front old new had has acts given stops

-- ---- by the answer

-- what was given is a front of what the client says to these replies
abbrev Says : (before : Around) → Mailbag before.desk.store.kept → List Reply → (given : List ℕ) → Type 0
Says before bag replies given = IsFrontOf given (sent_octets (messages_of before.desk.store.kept bag.queue) (run_of before bag.mail_objects replies).acts)

carried_says : (path_of : List ℕ → Option (Option Address)) (before : Around) (bag : Mailbag before.desk.store.kept) (replies : List Reply) (first : List ClientAct) (acts : List (Act (List ℕ))) (count : ℕ) (given : List ℕ)
    → Carried path_of before bag replies first acts count → IsFrontOf given (given_by plain acts) → Says before bag replies given
carried_says path_of before bag replies first acts count given carried (missing, is) =
    let messages = messages_of before.desk.store.kept bag.queue in
    let said = Carries-given path_of before.desk.store bag.queue messages carried.told first acts count carried.carries in
    let others = sent_octets messages carried.others in (
      missing ++ others,
      ap (λ (l : List ClientAct). sent_octets messages l) carried.run_acts ∙ flat_map-append (act_octets messages) first carried.others
          ∙ ap (λ (l : List ℕ). l ++ others) (sym said ∙ is) ∙ append_assoc given missing others,
    )

breaks_says : (path_of : List ℕ → Option (Option Address)) (before now : Around) (bag : Mailbag before.desk.store.kept) (replies : List Reply) (given : List ℕ) (met : Fault)
    → BreaksRunOff path_of before now bag replies given met → Says before bag replies given
breaks_says path_of before now bag replies given met breaks =
    carried_says path_of before bag replies breaks.first breaks.acts breaks.count given breaks.carried
    (done_front before.desk.store now.desk.store before.keeper.octets now.keeper.octets (Some met) breaks.acts given breaks.done)

ends_says : (path_of : List ℕ → Option (Option Address)) (before now : Around) (bag : Mailbag before.desk.store.kept) (entries : List Entry) (replies : List Reply) (following : List ℕ) (end : RelayEnd) (why : Option LeftCause)
    → EndsRun path_of before now bag entries replies following end why → Says before bag replies (given_of entries)
ends_says path_of before now bag entries replies following end None ends =
    carried_says path_of before bag replies (run_of before bag.mail_objects replies).acts ends.leaves.acts ends.leaves.count (given_of entries) ends.leaves.carried (ends.leaves.missing, ends.leaves.given_is)
ends_says path_of before now bag entries replies following end (Some cause.Dial) ends = absurd ends
ends_says path_of before now bag entries replies following end (Some cause.Wire) ends = breaks_says path_of before now bag replies (given_of entries) fault.Wire ends.breaks
ends_says path_of before now bag entries replies following end (Some (cause.Reply octets)) ends =
    carried_says path_of before bag replies (run_of before bag.mail_objects replies).acts ends.does.acts ends.does.count (given_of entries) ends.does.carried
    (done_front before.desk.store now.desk.store before.keeper.octets now.keeper.octets None ends.does.acts (given_of entries) ends.does.done)

answers_says : (path_of : List ℕ → Option (Option Address)) (before now : Around) (bag : Mailbag before.desk.store.kept) (entries : List Entry) (replies : List Reply) (following : List ℕ) (result : Result RelayEnd Fault)
    → AnswersRelay path_of before now bag entries replies following result → Says before bag replies (given_of entries)
answers_says path_of before now bag entries replies following (Ok end) answers = ends_says path_of before now bag entries replies following end end.cause answers
answers_says path_of before now bag entries replies following (Err fault.Wire) answers = absurd answers
answers_says path_of before now bag entries replies following (Err fault.Keeper) answers = breaks_says path_of before now bag replies (given_of entries) fault.Keeper answers
answers_says path_of before now bag entries replies following (Err fault.Memory) answers = breaks_says path_of before now bag replies (given_of entries) fault.Memory answers

-- ---- over all that is sent

taken_front : (old new : Option (List ℕ)) (octets taken : List ℕ) → old ≡ Some octets → Consumes old new taken → (rest : List ℕ) × (octets ≡ taken ++ rest)
taken_front None new octets taken is consumes = absurd (none-some octets is)
taken_front (Some xs) None octets taken is consumes = absurd consumes
taken_front (Some xs) (Some ys) octets taken is consumes = (ys, sym (same_Some xs octets is) ∙ consumes)

-- what is said to the first replies is a front of what is said to all
says_on : (before : Around) (bag : Mailbag before.desk.store.kept) (replies all left : List Reply) (given : List ℕ) → all ≡ replies ++ left → Says before bag replies given → Says before bag all given
says_on before bag replies all left given whole (missing, is) =
    let messages = messages_of before.desk.store.kept bag.queue in
    let grown = relay_grows (name_of before.desk.store.kept) bag.mail_objects replies left in
    let more = sent_octets messages grown.0 in (
      missing ++ more,
      ap (λ (l : List Reply). sent_octets messages (run_of before bag.mail_objects l).acts) whole ∙ ap (λ (l : List ClientAct). sent_octets messages l) grown.1
          ∙ flat_map-append (act_octets messages) (run_of before bag.mail_objects replies).acts grown.0 ∙ ap (λ (l : List ℕ). l ++ more) is ∙ append_assoc given missing more,
    )

relays_front : (path_of : List ℕ → Option (Option Address)) (before now : Around) (result : Result RelayEnd Fault) (octets : List ℕ) (all : List Reply) → RelaysBy path_of before now result
    → before.wire.left ≡ Some octets → AreAllReplies octets all → SaysFrontOf before now all
relays_front path_of before now result octets all (unbegun is same) left every = record { entries = []; moves = rw same (Moves-nil before.wire); says = inl refl }
relays_front path_of before now result octets all (idle none same is) left every = record { entries = []; moves = rw same (Moves-nil before.wire); says = inl refl }
relays_front path_of before now result octets all (begun bag some relays) left every =
    let taken = taken_front before.wire.left now.wire.left octets (taken_of relays.entries) left relays.moves.left in
    let found = replies_front octets (taken_of relays.entries) taken.0 relays.replies all relays.following taken.1 relays.are every in
    let says = says_on before bag relays.replies all found.0 (given_of relays.entries) found.1 (answers_says path_of before now bag relays.entries relays.replies relays.following result relays.answers) in
    record { entries = relays.entries; moves = relays.moves; says = inr (bag, says.0, says.1) }

-- whatever function reads paths: there is one
pub says_front : (before now : Around) (result : Result RelayEnd Fault) (octets : List ℕ) (replies : List Reply) → Relays before now result → before.wire.left ≡ Some octets → AreAllReplies octets replies
    → SaysFrontOf before now replies
says_front before now result octets replies relays left every =
    relays_front oracles_given.0.path_of before now result octets replies (relays oracles_given.0.path_of oracles_given.1.paths) left every
