-- The rows of each state, as they are carried out.
use Rattle.std.proofs.Common.{◌≡◌, ℕ, zero, suc, ◌-◌, ◌*◌, ◌^◌, ◌<◌, ◌≤◌, List, [], length, min, arith, ap, sym, ◌∙◌, ◌⊎◌, inl, inr, Bool, true, false, refl, Some, None, Option, Ok, Err, Result}
use Rattle.std.specs.Prelude.{IfOk, nat_le, option_and_then, slice_get}
use Rattle.std.specs.Option.{option_map}
use Rattle.std.proofs.Math.Nat.{min-eq_left}
use Rattle.std.proofs.lemmas.Bool.Decides.{nat_tests}
use Rattle.std.proofs.lemmas.List.Elements.{All-nil}
use Rattle.std.proofs.lemmas.Option.{slice_get_past, slice_get_within}
use Rattle.mail_wire.specs.Numbers.{number_of}
use Rattle.mail_wire.specs.declared.outside.Fault.{Fault}
use Rattle.mail_wire.specs.declared.outside.Fault.TheVariants as fault
use Rattle.mail_store.specs.Following.{records_of}
use Rattle.kept_mail.specs.Kept.{change_at}
use Rattle.mail_store.specs.StoreState.{StoreState, with_records}
use Rattle.kept_mail.specs.declared.kept.Listed.{Listed}
use Rattle.session_core.proofs.DoneLemmas.{changes_in-acts, changes_in-asking}
use Rattle.surrogate_cache.specs.Caching.{Asked}
use Rattle.surrogate_cache.specs.Served.{Mode}
use Rattle.session_core.specs.Around.{Around}
use Rattle.session_core.specs.Acts.{asking}
use Rattle.session_core.specs.Doing.{AsksAndReplies, Does, Replies}
use Rattle.session_core.specs.Grammar.{Answers, AnswersBy, StandsNext}
use Rattle.session_core.specs.Keeps.{fault_of}
use Rattle.session_core.specs.Oracles.{Oracles, WithOracles}
use Rattle.session_core.specs.Moments.{Moment, IsTold}
use Rattle.session_core.proofs.AskingLemmas.{AsksAndReplies-replies, Does-asked_reply}
use Rattle.session_core.proofs.DoingLemmas.{DoesFirst-none}
use Rattle.pop_session.specs.declared.command.Keyword.{Keyword}
use Rattle.pop_session.specs.declared.command.Keyword.TheVariants as keyword
use Rattle.pop_session.specs.declared.command.TopNumbers.{TopNumbers}
use Rattle.pop_session.specs.declared.states.MaildropMessage.{MaildropMessage}
use Rattle.pop_session.specs.declared.states.PopState.{PopState}
use Rattle.pop_session.specs.Commands.{command_of}
use Rattle.pop_session.specs.Machine.{ReplyPart, Step, acts_in, answers, asked_of, dele_step, done, marked, unless_deleted, with_deleted, listed_at, no_such_message, out_of_order, syntax_error, transaction_asks, transaction, transaction_step, transaction_reply, step}
use Rattle.pop_session.specs.Replies.{part_octets, reply_octets}
use Rattle.pop_session.specs.Session.{PopStands, TakesStep, after_step, pop_grammar}
use Rattle.pop_session.specs.States.{KnowsState, state_of, state_or_ended}
use Rattle.pop_session.specs.private.Saturated.{saturated}

-- the rows that change the state
abbrev pub is_changing : Keyword → Option (List ℕ) → Bool
is_changing keyword.Dele (Some text) = true
is_changing keyword.Rset None = true
is_changing keyword.Quit None = true
is_changing word argument = false

pub transaction_step-other : (oracles : Oracles) (mode : Mode) (maildrop : List MaildropMessage) (store : StoreState) (word : Keyword) (argument : Option (List ℕ)) → is_changing word argument ≡ false
    → transaction_step oracles mode maildrop store word argument ≡ answers (transaction_reply oracles mode maildrop store word argument) (transaction mode maildrop)
transaction_step-other oracles mode maildrop store keyword.Dele None is = refl
transaction_step-other oracles mode maildrop store keyword.Dele (Some text) is = cc
transaction_step-other oracles mode maildrop store keyword.Rset None is = cc
transaction_step-other oracles mode maildrop store keyword.Rset (Some text) is = refl
transaction_step-other oracles mode maildrop store keyword.Quit None is = cc
transaction_step-other oracles mode maildrop store keyword.Quit (Some text) is = refl
transaction_step-other oracles mode maildrop store keyword.User argument is = refl
transaction_step-other oracles mode maildrop store keyword.Pass argument is = refl
transaction_step-other oracles mode maildrop store keyword.Utf8 argument is = refl
transaction_step-other oracles mode maildrop store keyword.Stat argument is = refl
transaction_step-other oracles mode maildrop store keyword.List argument is = refl
transaction_step-other oracles mode maildrop store keyword.Retr argument is = refl
transaction_step-other oracles mode maildrop store keyword.Capa argument is = refl
transaction_step-other oracles mode maildrop store keyword.Uidl argument is = refl
transaction_step-other oracles mode maildrop store keyword.Top argument is = refl
transaction_step-other oracles mode maildrop store keyword.Noop argument is = refl
transaction_step-other oracles mode maildrop store keyword.Http argument is = refl
transaction_step-other oracles mode maildrop store keyword.Other argument is = refl

-- ---- steps that were carried out

-- messages that are asked for, and a reply, and nothing is changed
pub takes_asking : (a b : Around) (result : Result (Option PopState) Fault) (asked : List Asked) (taken : Oracles → Step) → ((oracles : Oracles) → (taken oracles).changes ≡ [])
    → WithOracles (λ oracles. AsksAndReplies a b (fault_of result) asked (reply_octets oracles (taken oracles).reply)) → WithOracles (λ oracles. IfOk result (λ next. state_or_ended next ≡ (taken oracles).state))
    → IfOk result (λ next. KnowsState b.desk.store (state_or_ended next)) → TakesStep a b result asked taken
takes_asking a b result asked taken none replies next known = record {
  does = λ oracles are. rw (none oracles) (Does-asked_reply (part_octets oracles) a b (fault_of result) asked (taken oracles).reply (replies oracles are));
  next = next;
  known = known;
}

-- or a fault in them
pub takes_failed_asking : (a b : Around) (met : Fault) (asked : List Asked) (taken : Oracles → Step) → ((oracles : Oracles) → (taken oracles).changes ≡ [])
    → WithOracles (λ oracles. AsksAndReplies a b (Some met) asked (reply_octets oracles (taken oracles).reply)) → TakesStep a b (Err met) asked taken
takes_failed_asking a b met asked taken none replies = takes_asking a b (Err met) asked taken none replies (λ oracles are. tt) tt

-- a reply alone
pub takes_reply : (a b : Around) (result : Result (Option PopState) Fault) (taken : Oracles → Step) → ((oracles : Oracles) → (taken oracles).changes ≡ [])
    → WithOracles (λ oracles. Replies a b (fault_of result) (reply_octets oracles (taken oracles).reply)) → WithOracles (λ oracles. IfOk result (λ next. state_or_ended next ≡ (taken oracles).state))
    → IfOk result (λ next. KnowsState b.desk.store (state_or_ended next)) → TakesStep a b result [] taken
takes_reply a b result taken none replies next known =
    takes_asking a b result [] taken none (λ oracles are. AsksAndReplies-replies a b (fault_of result) (reply_octets oracles (taken oracles).reply) (replies oracles are)) next known

-- or a fault in it
pub takes_failed : (a b : Around) (met : Fault) (taken : Oracles → Step) → ((oracles : Oracles) → (taken oracles).changes ≡ [])
    → WithOracles (λ oracles. Replies a b (Some met) (reply_octets oracles (taken oracles).reply)) → TakesStep a b (Err met) [] taken
takes_failed a b met taken none replies = takes_reply a b (Err met) taken none replies (λ oracles are. tt) tt

-- a fault before it
pub takes_stop : (a : Around) (met : Fault) (asked : List Asked) (taken : Oracles → Step) → (met ≡ fault.Keeper → ⊥) → TakesStep a a (Err met) asked taken
takes_stop a met asked taken fine = record {
  does = λ oracles are. DoesFirst-none (part_octets oracles) a met (asking asked (acts_in (taken oracles))) fine;
  next = λ oracles are. tt;
  known = tt;
}

-- the same of a step that is told otherwise
pub takes_as : (a b : Around) (result : Result (Option PopState) Fault) (asked : List Asked) (taken other : Oracles → Step) → ((oracles : Oracles) → other oracles ≡ taken oracles) → TakesStep a b result asked taken
    → TakesStep a b result asked other
takes_as a b result asked taken other same takes = record {
  does = λ oracles are. rw (same oracles) (takes.does oracles are);
  next = λ oracles are. rw (same oracles) (takes.next oracles are);
  known = takes.known;
}

-- the session after a step stands for what it leaves
stands_after : (a b : Around) (found : Option PopState) (taken : Step) (more : List Moment) → state_or_ended found ≡ taken.state → b.desk.store ≡ with_records a.desk.store (records_of taken.changes)
    → StandsNext pop_grammar PopStands more found b.desk (after_step a.desk.store taken)
stands_after a b None taken more next store = rw (← next) refl
stands_after a b (Some session) taken more next store = rw (← next, ← store) refl

row_done : (oracles : Oracles) (a b : Around) (result : Result (Option PopState) Fault) (more : List Moment) (asked : List Asked) (taken : Step)
    → Does (part_octets oracles) a b (fault_of result) (asking asked (acts_in taken)) → IfOk result (λ next. state_or_ended next ≡ taken.state)
    → AnswersBy pop_grammar PopStands oracles a b result more (record { acts = asking asked (acts_in taken); after = after_step a.desk.store taken })
row_done oracles a b (Ok found) more asked taken does next = record {
  does = does;
  next = stands_after a b found taken more next (rw (changes_in-asking {P = ReplyPart} asked (acts_in taken), changes_in-acts {P = ReplyPart} taken.changes taken.reply) at does.follows.store);
}
row_done oracles a b (Err met) more asked taken does next = record { does = does; next = tt }

-- the step of a line is its row
pub answers_step : (a b : Around) (session : PopState) (text : List ℕ) (result : Result (Option PopState) Fault)
    → TakesStep a b result (asked_of (state_of session) a.desk.store (command_of text)) (λ oracles. step oracles (state_of session) a.desk.store (command_of text))
    → Answers pop_grammar PopStands a b session text result
answers_step a b session text result takes = record {
  told = [];
  are_told = All-nil (IsTold a.clock);
  answers = λ oracles are more machine stood.
      rw stood (row_done oracles a b result more (asked_of (state_of session) a.desk.store (command_of text)) (step oracles (state_of session) a.desk.store (command_of text))
      (takes.does oracles are) (takes.next oracles are));
}

-- ---- rows that leave the state

-- what was done of one
abbrev pub DoesRow : Oracles → Mode → List MaildropMessage → Around → Around → Option Fault → Keyword → Option (List ℕ) → Type 0
DoesRow oracles mode maildrop a b met word argument =
    AsksAndReplies a b met (transaction_asks mode maildrop a.desk.store word argument) (reply_octets oracles (transaction_reply oracles mode maildrop a.desk.store word argument))

-- the commands of AUTHORIZATION alone
abbrev pub IsOfAuthorization : Keyword → Type 0
IsOfAuthorization word = (word ≡ keyword.User) ⊎ (word ≡ keyword.Pass) ⊎ (word ≡ keyword.Utf8)

pub row_out_of_order : (oracles : Oracles) (mode : Mode) (maildrop : List MaildropMessage) (a b : Around) (met : Option Fault) (word : Keyword) (argument : Option (List ℕ)) → IsOfAuthorization word
    → Replies a b met (reply_octets oracles out_of_order) → DoesRow oracles mode maildrop a b met word argument
row_out_of_order oracles mode maildrop a b met word argument (inl is) replies = rw is (AsksAndReplies-replies a b met (reply_octets oracles out_of_order) replies)
row_out_of_order oracles mode maildrop a b met word argument (inr (inl is)) replies = rw is (AsksAndReplies-replies a b met (reply_octets oracles out_of_order) replies)
row_out_of_order oracles mode maildrop a b met word argument (inr (inr is)) replies = rw is (AsksAndReplies-replies a b met (reply_octets oracles out_of_order) replies)

-- ---- LIST, UIDL and RETR of one message

abbrev pub NamesOne : Keyword → Type 0
NamesOne word = (word ≡ keyword.List) ⊎ (word ≡ keyword.Uidl) ⊎ (word ≡ keyword.Retr)

-- the text is no number
pub one_unread : (oracles : Oracles) (mode : Mode) (maildrop : List MaildropMessage) (a b : Around) (met : Option Fault) (word : Keyword) (text : List ℕ) → NamesOne word → number_of text ≡ None
    → Replies a b met (reply_octets oracles syntax_error) → DoesRow oracles mode maildrop a b met word (Some text)
one_unread oracles mode maildrop a b met word text (inl is) none replies = rw (is, none) (AsksAndReplies-replies a b met (reply_octets oracles syntax_error) replies)
one_unread oracles mode maildrop a b met word text (inr (inl is)) none replies = rw is (rw none (AsksAndReplies-replies a b met (reply_octets oracles syntax_error) replies))
one_unread oracles mode maildrop a b met word text (inr (inr is)) none replies = rw (is, none) (AsksAndReplies-replies a b met (reply_octets oracles syntax_error) replies)

-- there is no such message
pub one_missing : (oracles : Oracles) (mode : Mode) (maildrop : List MaildropMessage) (a b : Around) (met : Option Fault) (word : Keyword) (text : List ℕ) (n : ℕ) → NamesOne word → number_of text ≡ Some n
    → listed_at maildrop n ≡ None → Replies a b met (reply_octets oracles no_such_message) → DoesRow oracles mode maildrop a b met word (Some text)
one_missing oracles mode maildrop a b met word text n (inl is) number none replies = rw (is, number, none) (AsksAndReplies-replies a b met (reply_octets oracles no_such_message) replies)
one_missing oracles mode maildrop a b met word text n (inr (inl is)) number none replies = rw is (rw (number, none) (AsksAndReplies-replies a b met (reply_octets oracles no_such_message) replies))
one_missing oracles mode maildrop a b met word text n (inr (inr is)) number none replies = rw (is, number, none) (AsksAndReplies-replies a b met (reply_octets oracles no_such_message) replies)

-- ---- rows without a reply of their own

-- the row has one
abbrev pub has_reply : Keyword → Option (List ℕ) → Bool
has_reply keyword.User argument = true
has_reply keyword.Pass argument = true
has_reply keyword.Utf8 argument = true
has_reply keyword.Capa None = true
has_reply keyword.Noop None = true
has_reply keyword.Stat None = true
has_reply keyword.List argument = true
has_reply keyword.Uidl argument = true
has_reply keyword.Retr (Some text) = true
has_reply keyword.Top (Some text) = true
has_reply word argument = false

-- else it is a syntax error
pub no_reply : (oracles : Oracles) (mode : Mode) (maildrop : List MaildropMessage) (a b : Around) (met : Option Fault) (word : Keyword) (argument : Option (List ℕ)) → has_reply word argument ≡ false
    → Replies a b met (reply_octets oracles syntax_error) → DoesRow oracles mode maildrop a b met word argument
no_reply oracles mode maildrop a b met keyword.Capa None none replies = cc
no_reply oracles mode maildrop a b met keyword.Capa (Some text) none replies = AsksAndReplies-replies a b met (reply_octets oracles syntax_error) replies
no_reply oracles mode maildrop a b met keyword.Utf8 argument none replies = cc
no_reply oracles mode maildrop a b met keyword.User argument none replies = cc
no_reply oracles mode maildrop a b met keyword.Pass argument none replies = cc
no_reply oracles mode maildrop a b met keyword.Quit argument none replies = AsksAndReplies-replies a b met (reply_octets oracles syntax_error) replies
no_reply oracles mode maildrop a b met keyword.Stat None none replies = cc
no_reply oracles mode maildrop a b met keyword.Stat (Some text) none replies = AsksAndReplies-replies a b met (reply_octets oracles syntax_error) replies
no_reply oracles mode maildrop a b met keyword.List argument none replies = cc
no_reply oracles mode maildrop a b met keyword.Uidl argument none replies = cc
no_reply oracles mode maildrop a b met keyword.Retr None none replies = AsksAndReplies-replies a b met (reply_octets oracles syntax_error) replies
no_reply oracles mode maildrop a b met keyword.Retr (Some text) none replies = cc
no_reply oracles mode maildrop a b met keyword.Top None none replies = AsksAndReplies-replies a b met (reply_octets oracles syntax_error) replies
no_reply oracles mode maildrop a b met keyword.Top (Some text) none replies = cc
no_reply oracles mode maildrop a b met keyword.Dele argument none replies = AsksAndReplies-replies a b met (reply_octets oracles syntax_error) replies
no_reply oracles mode maildrop a b met keyword.Rset argument none replies = AsksAndReplies-replies a b met (reply_octets oracles syntax_error) replies
no_reply oracles mode maildrop a b met keyword.Noop None none replies = cc
no_reply oracles mode maildrop a b met keyword.Noop (Some text) none replies = AsksAndReplies-replies a b met (reply_octets oracles syntax_error) replies
no_reply oracles mode maildrop a b met keyword.Http argument none replies = AsksAndReplies-replies a b met (reply_octets oracles syntax_error) replies
no_reply oracles mode maildrop a b met keyword.Other argument none replies = AsksAndReplies-replies a b met (reply_octets oracles syntax_error) replies

-- ---- TOP

-- a number past the end, and one that was brought down to the greatest of 64 bits, name nothing
past_end : (maildrop : List MaildropMessage) (n : ℕ) → length maildrop < n → listed_at maildrop n ≡ None
past_end maildrop zero past = absurd (omega arith)
past_end maildrop (suc place) past = rw (slice_get_past maildrop place (omega arith)) refl

capped_by : (maildrop : List MaildropMessage) (n : ℕ) → length maildrop * 16 < 9223372036854775808 → (n ≤ 2 ^ 64 - 1) ⊎ (2 ^ 64 - 1 ≤ n) → listed_at maildrop (min n (2 ^ 64 - 1)) ≡ listed_at maildrop n
capped_by maildrop n small (inl low) = ap (listed_at maildrop) (min-eq_left low)
capped_by maildrop n small (inr high) = past_end maildrop (min n (2 ^ 64 - 1)) (omega arith) ∙ sym (past_end maildrop n (omega arith))

at_most : (n m : ℕ) → (n ≤ m) ⊎ (m ≤ n)
at_most n m = decide (nat_le n m) refl
  where
    decide : (b : Bool) → nat_le n m ≡ b → (n ≤ m) ⊎ (m ≤ n)
    decide true is = inl (grind (arith, nat_tests))
    decide false is = inr (grind (arith, nat_tests))

-- a maildrop has no message of so great a number
capped_at : (maildrop : List MaildropMessage) (n : ℕ) → length maildrop * 16 < 9223372036854775808 → listed_at maildrop (min n (2 ^ 64 - 1)) ≡ listed_at maildrop n
capped_at maildrop n small = capped_by maildrop n small (at_most n (2 ^ 64 - 1))

same_numbers : (numbers n : TopNumbers) → Some numbers ≡ Some (saturated n) → numbers ≡ saturated n
same_numbers numbers n h = cc

-- TOP whose numbers aren't read
pub top-unread : (found : Option TopNumbers) → None ≡ option_map saturated found → found ≡ None
top-unread None is = refl
top-unread (Some n) is = cc

-- TOP of a message that isn't there
pub record TopMissing (maildrop : List MaildropMessage) (found : Option TopNumbers) : Type 0 where
  pub written : TopNumbers
  pub found_is : found ≡ Some written
  pub message : listed_at maildrop written.number ≡ None

pub top-missing : (maildrop : List MaildropMessage) (found : Option TopNumbers) (numbers : TopNumbers) → length maildrop * 16 < 9223372036854775808
    → Some numbers ≡ option_map saturated found → None ≡ listed_at maildrop numbers.number → TopMissing maildrop found
top-missing maildrop None numbers small is missing = cc
top-missing maildrop (Some n) numbers small is missing =
    let number = ap (λ (t : TopNumbers). t.number) (same_numbers numbers n is) in
    record { written = n; found_is = refl; message = sym (capped_at maildrop n.number small) ∙ ap (listed_at maildrop) (sym number) ∙ sym missing }

-- the message that TOP was asked for, and its two numbers as they were written
pub record TopFound (maildrop : List MaildropMessage) (found : Option TopNumbers) (numbers : TopNumbers) (one : Listed) : Type 0 where
  pub written : TopNumbers
  pub found_is : found ≡ Some written
  pub message : listed_at maildrop written.number ≡ Some one
  pub lines : min written.lines (2 ^ 64 - 1) ≡ numbers.lines

pub top-found : (maildrop : List MaildropMessage) (found : Option TopNumbers) (numbers : TopNumbers) (one : Listed) → length maildrop * 16 < 9223372036854775808
    → Some numbers ≡ option_map saturated found → Some one ≡ listed_at maildrop numbers.number → TopFound maildrop found numbers one
top-found maildrop None numbers one small is message = cc
top-found maildrop (Some n) numbers one small is message =
    let number = ap (λ (t : TopNumbers). t.number) (same_numbers numbers n is) in
    record {
      written = n;
      found_is = refl;
      message = sym (capped_at maildrop n.number small) ∙ ap (listed_at maildrop) (sym number) ∙ sym message;
      lines = sym (ap (λ (t : TopNumbers). t.lines) (same_numbers numbers n is));
    }

-- ---- DELE

found_within_by : (maildrop : List MaildropMessage) (place : ℕ) (one : Listed) (found : Option MaildropMessage) → slice_get maildrop place ≡ found → option_and_then unless_deleted found ≡ Some one → place < length maildrop
found_within_by maildrop place one None is message = cc
found_within_by maildrop place one (Some x) is message = slice_get_within maildrop place x is

-- a message that was found is there
pub found_within : (maildrop : List MaildropMessage) (number : ℕ) (one : Listed) → listed_at maildrop number ≡ Some one → number - 1 < length maildrop
found_within maildrop zero one message = cc
found_within maildrop (suc place) one message = let inside = found_within_by maildrop place one (slice_get maildrop place) refl message in omega (arith, inside)

-- and is marked at its place
pub marked_at : (maildrop : List MaildropMessage) (number : ℕ) (one : Listed) → listed_at maildrop number ≡ Some one → with_deleted number maildrop ≡ change_at (marked true) maildrop (number - 1)
marked_at maildrop zero one message = cc
marked_at maildrop (suc place) one message = let same : place ≡ suc place - 1 = omega arith in ap (change_at (marked true) maildrop) same

-- the step of such a DELE
pub dele_found : (mode : Mode) (maildrop : List MaildropMessage) (number : Option ℕ) (n : ℕ) (one : Listed) → number ≡ Some n → listed_at maildrop n ≡ Some one
    → dele_step mode maildrop number ≡ answers done (transaction mode (change_at (marked true) maildrop (n - 1)))
dele_found mode maildrop number n one is message = rw (is, message) (ap (λ m. answers done (transaction mode m)) (marked_at maildrop n one message))
