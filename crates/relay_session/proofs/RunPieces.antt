-- A run that takes pieces, and how it ends.
use Rattle.std.proofs.Common.{◌≡◌, ◌⊎◌, ℕ, List, [], ◌∷◌, ◌++◌, take, Option, None, Some, Result, Ok, Err, refl, sym, ap, subst, ◌∙◌, append-nil, append_assoc, inl, inr, arith}
use Rattle.std.specs.Io.KnownBytes.{IsAtEnd}
use Rattle.std.specs.List.{concat}
use Rattle.address_grammar.specs.declared.Address.{Address}
use Rattle.journal_records.specs.Addresses.{WithPaths}
use Rattle.kept_mail.specs.Kept.{name_of}
use Rattle.mail_store.specs.StoreState.{StoreState}
use Rattle.mail_store.specs.declared.queue.Queued.{Queued}
use Rattle.mail_wire.specs.Moves.{Moves, TakesNothing, TakesPiece}
use Rattle.mail_wire.specs.Transcript.{given_of, taken_of}
use Rattle.mail_wire.specs.declared.outside.Entry.{Entry}
use Rattle.mail_wire.specs.declared.outside.Entry.TheVariants.{Taken}
use Rattle.mail_wire.specs.declared.outside.Fault.{Fault}
use Rattle.mail_wire.specs.declared.outside.Fault.TheVariants as fault
use Rattle.mail_wire.proofs.Moving.{GoesOn-of, HasWireCause-fine, Moves-none, Moves-take, Moves-trans, Rose-earlier, given_of-append, taken_of-append}
use Rattle.relay_choice.specs.declared.replies.Reply.{Reply}
use Rattle.session_core.specs.Acts.{Act}
use Rattle.session_core.specs.Around.{Around, LeavesDesk}
use Rattle.session_core.specs.Done.{IsDone, StopsIn, given_by}
use Rattle.session_core.specs.Keeps.{Keeps, answer_of}
use Rattle.session_core.specs.declared.desk.Desk.{Desk}
use Rattle.session_core.proofs.KeepsLemmas.{Keeps-nil, Keeps-then, keeper_fine}
use Rattle.relay_session.specs.MailObjects.{Mailbag, messages_of}
use Rattle.relay_session.specs.Relaying.{Done, IsAnswered, RelaysTo, SpeaksInTurn, by_end, run_of}
use Rattle.relay_session.specs.Streams.{AreReplies}
use Rattle.relay_session.specs.declared.ends.LeftCause.TheVariants as cause
use Rattle.relay_session.specs.declared.ends.RelayEnd.{RelayEnd}
use Rattle.relay_session.specs.declared.running.Run.{Run}
use Rattle.relay_session.specs.private.Acting.{AreKnown, AreOpenFrom, settled_count}
use Rattle.relay_session.specs.private.Running.{IsAtWork, IsRunning, IsWireCause, end_of}
use Rattle.relay_session.proofs.ListEnds.{heads, tails}

-- ---- one take

-- where an entry stands in a list with a last one: it is the last one, or stands before it
split_last : (xs before after : List Entry) (x y : Entry) → xs ++ x ∷ [] ≡ before ++ y ∷ after
    → ((xs ≡ before) × (x ≡ y)) ⊎ ((more : List Entry) × (xs ≡ before ++ y ∷ more))
split_last [] [] after x y h = inl (refl, heads h)
split_last [] (b ∷ []) after x y h = let none = tails h in cc
split_last [] (b ∷ c ∷ before) after x y h = let none = tails h in cc
split_last (a ∷ xs) [] after x y h = inr (xs, ap (λ entry. entry ∷ xs) (heads h))
split_last (a ∷ xs) (b ∷ before) after x y h =
    let first : a ≡ b = heads h in
    elim (split_last xs before after x y (tails h)) [
      | inl found ↦ inl (rw (first, found.0) refl, found.1)
      | inr found ↦ inr (found.0, rw (first, found.1) refl)
    ]

-- a take, where all that was taken is answered
SpeaksInTurn-take : (before : Around) (bag : Mailbag before.desk.store.kept) (xs : List Entry) (piece : List ℕ) → SpeaksInTurn before bag xs → IsAnswered before bag (taken_of xs) (given_of xs)
    → SpeaksInTurn before bag (xs ++ Taken piece ∷ [])
SpeaksInTurn-take before bag xs piece turns answered front octets rest h =
    elim (split_last xs front rest (Taken piece) (Taken octets) h) [
      | inl found ↦ subst (λ (l : List Entry). IsAnswered before bag (taken_of l) (given_of l)) found.0 answered
      | inr found ↦ turns front octets found.0 found.1
    ]

AreReplies-piece : (octets piece : List ℕ) (replies : List Reply) (following : List ℕ) → AreReplies octets replies following → AreReplies (octets ++ piece) replies (following ++ piece)
AreReplies-piece octets piece replies following are = record {
  texts = are.texts;
  are = are.are;
  whole = ap (λ (l : List ℕ). l ++ piece) are.whole ∙ append_assoc (concat are.texts) following piece;
}

-- what was taken is answered before the next take
work_answered : (before a : Around) (bag : Mailbag before.desk.store.kept) (run : Run) (work : IsAtWork before a bag run []) → IsAnswered before bag (taken_of work.entries) (given_of work.entries)
work_answered before a bag run work = record {
  replies = work.replies;
  following = run.reader.octets;
  are = subst (λ (l : List ℕ). AreReplies (taken_of work.entries) work.replies l) (append-nil run.reader.octets) work.are;
  undecided = inr work.begun.begun;
  waits_for_more = work.waiting;
  given_is = work.given;
}

replies_taken : (before a : Around) (bag : Mailbag before.desk.store.kept) (run : Run) (octets : List ℕ) (work : IsAtWork before a bag run [])
    → AreReplies (taken_of (work.entries ++ Taken octets ∷ [])) work.replies (run.reader.octets ++ octets)
replies_taken before a bag run octets work =
    let plain = subst (λ (l : List ℕ). AreReplies (taken_of work.entries) work.replies l) (append-nil run.reader.octets) work.are in
    let taken : taken_of work.entries ++ octets ≡ taken_of (work.entries ++ Taken octets ∷ []) =
    sym (taken_of-append work.entries (Taken octets ∷ []) ∙ ap (λ (l : List ℕ). taken_of work.entries ++ l) (append-nil octets)) in
    subst (λ (l : List ℕ). AreReplies l work.replies (run.reader.octets ++ octets)) taken (AreReplies-piece (taken_of work.entries) octets work.replies run.reader.octets plain)

given_still : (entries : List Entry) (octets : List ℕ) → given_of (entries ++ Taken octets ∷ []) ≡ given_of entries
given_still entries octets = given_of-append entries (Taken octets ∷ []) ∙ append-nil (given_of entries)

-- a piece is taken, and wasn't looked at
abbrev work_taken : (before a b : Around) (bag : Mailbag before.desk.store.kept) (run : Run) (n : ℕ) (into : List ℕ) → TakesPiece a.wire b.wire n into → LeavesDesk a b → Keeps a b None
    → IsAtWork before a bag run [] → IsAtWork before b bag run (take n into)
work_taken before a b bag run n into piece leaves keeps work = record {
  entries = work.entries ++ Taken (take n into) ∷ [];
  moves = Moves-trans before.wire a.wire b.wire work.entries (Taken (take n into) ∷ []) work.moves (Moves-take a.wire b.wire (take n into) piece.left piece.noted);
  in_turn = SpeaksInTurn-take before bag work.entries (take n into) work.in_turn (work_answered before a bag run work);
  faults = let early = work.faults in let late = keeps.wire.later in omega (arith, early, late);
  replies = work.replies;
  are = replies_taken before a bag run (take n into) work;
  begun = work.begun;
  given = given_still work.entries (take n into) ∙ work.given;
  messages = ap (λ (desk : Desk). messages_of desk.store.kept bag.queue) leaves.desk ∙ work.messages;
  name = ap (λ (desk : Desk). name_of desk.store.kept) leaves.desk ∙ work.name;
  clock = keeps.clock ∙ work.clock;
  few = work.few;
  few_mail_objects = work.few_mail_objects;
  known = subst (λ (desk : Desk). AreKnown desk.store.kept bag.queue) (sym leaves.desk) work.known;
  unsettled = subst (λ (desk : Desk). AreOpenFrom desk.store.kept bag.queue (settled_count (run_of before bag.mail_objects work.replies).acts)) (sym leaves.desk) work.unsettled;
  waiting = work.waiting;
  goes = work.goes;
  sent = work.sent;
  left = work.left;
  reported = work.reported;
}

-- what was done stays so where the desk is left
done_left : (before a b : Around) (met : Option Fault) (acts : List (Act (List ℕ))) (given : List ℕ) → LeavesDesk a b → Done before a met acts given → Done before b met acts given
done_left before a b met acts given leaves done = rw (leaves.desk, leaves.keeper) done

running_taken : (path_of : List ℕ → Option (Option Address)) (before a b : Around) (bag : Mailbag before.desk.store.kept) (run : Run) (n : ℕ) (into : List ℕ) → TakesPiece a.wire b.wire n into → LeavesDesk a b
    → Keeps a b None → IsRunning path_of before a bag run [] → IsRunning path_of before b bag run (take n into)
running_taken path_of before a b bag run n into piece leaves keeps running =
    let given : given_of running.work.entries ≡ given_of (running.work.entries ++ Taken (take n into) ∷ []) = sym (given_still running.work.entries (take n into)) in
    record {
      work = work_taken before a b bag run n into piece leaves keeps running.work;
      does = record {
        acts = running.does.acts;
        count = running.does.count;
        carried = running.does.carried;
        done = subst (λ (l : List ℕ). Done before b None running.does.acts l) given (done_left before a b None running.does.acts (given_of running.work.entries) leaves running.does.done);
      };
      reported = running.reported;
    }

-- ---- ends

-- all these acts were done, and nothing after them
pub stopped_after : (old new : StoreState) (had has : Option (List ℕ)) (acts : List (Act (List ℕ))) (given : List ℕ) → IsDone (λ octets. octets) old new had has None acts given
    → StopsIn (λ octets. octets) old new had has acts given
stopped_after old new had has acts given done = record {
  done = acts;
  cut = [];
  left = [];
  acts_are = sym (append-nil acts);
  unchanged = refl;
  begun = [];
  missing = [];
  cut_is = refl;
  given_is = done.0 ∙ sym (append-nil (given_by (λ octets. octets) acts));
  follows = done.1;
}

moved_nothing : (before a b : Around) (entries : List Entry) → Moves before.wire a.wire entries → TakesNothing a.wire b.wire → Moves before.wire b.wire entries
moved_nothing before a b entries moves none =
    subst (λ (l : List Entry). Moves before.wire b.wire l) (append-nil entries) (Moves-trans before.wire a.wire b.wire entries [] moves (Moves-none a.wire b.wire none.left none.noted))

stopped_left : (before a b : Around) (acts : List (Act (List ℕ))) (given : List ℕ) → LeavesDesk a b → Done before a None acts given
    → StopsIn (λ octets. octets) before.desk.store b.desk.store before.keeper.octets b.keeper.octets acts given
stopped_left before a b acts given leaves done =
    stopped_after before.desk.store b.desk.store before.keeper.octets b.keeper.octets acts given (done_left before a b None acts given leaves done)

-- the wire failed
wire_fails : (path_of : List ℕ → Option (Option Address)) (before a b : Around) (bag : Mailbag before.desk.store.kept) (run : Run) → TakesNothing a.wire b.wire → LeavesDesk a b
    → IsRunning path_of before a bag run [] → RelaysTo path_of before b bag (Ok (end_of run.tally (Some cause.Wire)))
wire_fails path_of before a b bag run none leaves running = record {
  entries = running.work.entries;
  moves = moved_nothing before a b running.work.entries running.work.moves none;
  in_turn = running.work.in_turn;
  replies = running.work.replies;
  following = run.reader.octets ++ [];
  are = running.work.are;
  answers = record {
    goes_on = running.work.waiting;
    breaks = record {
      first = (run_of before bag.mail_objects running.work.replies).acts;
      acts = running.does.acts;
      count = running.does.count;
      carried = running.does.carried;
      done = stopped_left before a b running.does.acts (given_of running.work.entries) leaves running.does.done;
    };
    counts = record { sent = running.work.sent; reported = running.reported; left = running.work.left };
  };
}

-- there was no memory
memory_fails : (path_of : List ℕ → Option (Option Address)) (before a b : Around) (bag : Mailbag before.desk.store.kept) (run : Run) → TakesNothing a.wire b.wire → LeavesDesk a b
    → IsRunning path_of before a bag run [] → RelaysTo path_of before b bag (Err fault.Memory)
memory_fails path_of before a b bag run none leaves running = record {
  entries = running.work.entries;
  moves = moved_nothing before a b running.work.entries running.work.moves none;
  in_turn = running.work.in_turn;
  replies = running.work.replies;
  following = run.reader.octets ++ [];
  are = running.work.are;
  answers = record {
    first = (run_of before bag.mail_objects running.work.replies).acts;
    acts = running.does.acts;
    count = running.does.count;
    carried = running.does.carried;
    done = stopped_left before a b running.does.acts (given_of running.work.entries) leaves running.does.done;
  };
}

-- nothing more comes
end_comes : (path_of : List ℕ → Option (Option Address)) (before b : Around) (bag : Mailbag before.desk.store.kept) (run : Run) (pending : List ℕ) → pending ≡ [] → IsAtEnd b.wire.left
    → IsRunning path_of before b bag run pending → RelaysTo path_of before b bag (Ok (end_of run.tally (Some (cause.Reply run.reader.octets))))
end_comes path_of before b bag run pending nothing at_end running = record {
  entries = running.work.entries;
  moves = running.work.moves;
  in_turn = running.work.in_turn;
  replies = running.work.replies;
  following = run.reader.octets ++ pending;
  are = running.work.are;
  answers = record {
    stops = by_end running.work.waiting (ap (λ (l : List ℕ). run.reader.octets ++ l) nothing ∙ append-nil run.reader.octets) (inr running.work.begun.begun) at_end;
    does = running.does;
    counts = record { sent = running.work.sent; reported = running.reported; left = running.work.left };
  };
}

-- ---- takes in order

-- what a run that began so came to
abbrev pub RelaysFrom : (start now : Around) (queue : List Queued) (first : Run) → Result RelayEnd Fault → Type 0
RelaysFrom start now queue first result =
    WithPaths (λ path_of. (before : Around) (bag : Mailbag before.desk.store.kept) → bag.queue ≡ queue → IsRunning path_of before start bag first [] → RelaysTo path_of before now bag result)

-- the run goes on
pub record RunsOn (start now : Around) (queue : List Queued) (first run : Run) : Type 0 where
  pub work : (before : Around) × (bag : Mailbag before.desk.store.kept) × (bag.queue ≡ queue) × IsAtWork before now bag run []
  pub stays : WithPaths (λ path_of. (before : Around) (bag : Mailbag before.desk.store.kept) → bag.queue ≡ queue → IsRunning path_of before start bag first [] → IsRunning path_of before now bag run [])
  pub keeps : Keeps start now None

pub RunsOn-first : (start : Around) (queue : List Queued) (run : Run) → (before : Around) × (bag : Mailbag before.desk.store.kept) × (bag.queue ≡ queue) × IsAtWork before start bag run []
    → RunsOn start start queue run run
RunsOn-first start queue run work = record { work = work; stays = λ path_of reads before bag same running. running; keeps = Keeps-nil start }

-- a call that took a piece
pub record TakesTo (a b : Around) (n : ℕ) (into : List ℕ) : Type 0 where
  pub takes : TakesPiece a.wire b.wire n into
  pub leaves : LeavesDesk a b
  pub keeps : Keeps a b None

pub work_next : (start a b : Around) (queue : List Queued) (first run : Run) (n : ℕ) (into : List ℕ) → TakesTo a b n into → RunsOn start a queue first run
    → (before : Around) × (bag : Mailbag before.desk.store.kept) × (bag.queue ≡ queue) × IsAtWork before b bag run (take n into)
work_next start a b queue first run n into taken runs =
    (runs.work.0, runs.work.1, runs.work.2, work_taken runs.work.0 a b runs.work.1 run n into taken.takes taken.leaves taken.keeps runs.work.3)

pub RunsOn-next : (start a b d : Around) (queue : List Queued) (first run next : Run) (n : ℕ) (into : List ℕ) → TakesTo a b n into → Keeps b d None
    → WithPaths (λ path_of. (before : Around) (bag : Mailbag before.desk.store.kept) → bag.queue ≡ queue → IsRunning path_of before b bag run (take n into) → IsRunning path_of before d bag next [])
    → ((before : Around) (bag : Mailbag before.desk.store.kept) → bag.queue ≡ queue → IsAtWork before b bag run (take n into) → IsAtWork before d bag next [])
    → RunsOn start a queue first run → RunsOn start d queue first next
RunsOn-next start a b d queue first run next n into taken keeps advance works runs =
    let more = work_next start a b queue first run n into taken runs in
    record {
      work = (more.0, more.1, more.2, works more.0 more.1 more.2 more.3);
      stays = λ path_of reads before bag same running.
          advance path_of reads before bag same (running_taken path_of before a b bag run n into taken.takes taken.leaves taken.keeps (runs.stays path_of reads before bag same running));
      keeps = Keeps-then start b d None (Keeps-then start a b None runs.keeps taken.keeps) keeps;
    }

-- the run came to its end by a piece
pub RunsOn-ends : (start a b d : Around) (queue : List Queued) (first run : Run) (n : ℕ) (into : List ℕ) (result : Result RelayEnd Fault) → TakesTo a b n into
    → WithPaths (λ path_of. (before : Around) (bag : Mailbag before.desk.store.kept) → bag.queue ≡ queue → IsRunning path_of before b bag run (take n into) → RelaysTo path_of before d bag result)
    → RunsOn start a queue first run → RelaysFrom start d queue first result
RunsOn-ends start a b d queue first run n into result taken advance runs path_of reads before bag same running =
    advance path_of reads before bag same (running_taken path_of before a b bag run n into taken.takes taken.leaves taken.keeps (runs.stays path_of reads before bag same running))

pub RunsOn-wire : (start a b : Around) (queue : List Queued) (first run : Run) → TakesNothing a.wire b.wire → LeavesDesk a b → RunsOn start a queue first run
    → RelaysFrom start b queue first (Ok (end_of run.tally (Some cause.Wire)))
RunsOn-wire start a b queue first run none leaves runs path_of reads before bag same running = wire_fails path_of before a b bag run none leaves (runs.stays path_of reads before bag same running)

pub RunsOn-memory : (start a b : Around) (queue : List Queued) (first run : Run) → TakesNothing a.wire b.wire → LeavesDesk a b → RunsOn start a queue first run
    → RelaysFrom start b queue first (Err fault.Memory)
RunsOn-memory start a b queue first run none leaves runs path_of reads before bag same running = memory_fails path_of before a b bag run none leaves (runs.stays path_of reads before bag same running)

no_piece : (n : ℕ) (into : List ℕ) → n ≡ 0 → take n into ≡ []
no_piece n into none = rw none refl

pub RunsOn-input : (start a b : Around) (queue : List Queued) (first run : Run) (n : ℕ) (into : List ℕ) → n ≡ 0 → TakesTo a b n into → RunsOn start a queue first run
    → RelaysFrom start b queue first (Ok (end_of run.tally (Some (cause.Reply run.reader.octets))))
RunsOn-input start a b queue first run n into none taken runs path_of reads before bag same running =
    end_comes path_of before b bag run (take n into) (no_piece n into none) (taken.takes.end none)
    (running_taken path_of before a b bag run n into taken.takes taken.leaves taken.keeps (runs.stays path_of reads before bag same running))

-- ---- why it ends

pub IsWireCause-failed : (a b : Around) (end : RelayEnd) → Keeps a b (Some fault.Wire) → IsWireCause a b end
IsWireCause-failed a b end keeps is = (keeps.wire.rose refl, λ never. (keeps.wire.sure never).1 refl)

pub IsWireCause-then : (a b d : Around) (end : RelayEnd) → Keeps a b None → IsWireCause b d end → IsWireCause a d end
IsWireCause-then a b d end keeps late is =
    let why = late is in
    (Rose-earlier a.wire.faults b.wire.faults d.wire.faults keeps.wire.later why.0, λ never. why.1 (keeps.wire.sure never).0)

-- an answer that passes over a fault of the wire
pub Keeps-past : (a b : Around) → Keeps a b (Some fault.Wire) → Keeps a b None
Keeps-past a b kept = record {
  wire = HasWireCause-fine a.wire b.wire (answer_of None) fault.Wire (GoesOn-of a.wire b.wire (answer_of (Some fault.Wire)) fault.Wire kept.wire) (λ bad. cc);
  keeper = keeper_fine a.keeper b.keeper (answer_of (Some fault.Wire)) None fault.Keeper kept.keeper (λ bad. cc);
  works = λ fine opens. kept.works (λ bad. cc) opens;
  limit = kept.limit;
  name = kept.name;
  limits = kept.limits;
  clock = kept.clock;
  loans = kept.loans;
}
