-- The totals of the sizes of messages, and what is told of them.
use Rattle.std.proofs.Common.{◌≡◌, ◌<◌, ◌≤◌, ℕ, ◌+◌, List, [], ◌∷◌, ◌++◌, length, codes, false, Option, None, Some, Err, refl, ap, inl, inr, ◌∙◌, arith, add-one, length-append}
use Rattle.std.specs.Prelude.{decimal, nat_lt}
use Rattle.std.specs.Io.KnownBytes.{Consumes}
use Rattle.std.proofs.lemmas.Bool.Decides.{nat_tests}
use Rattle.std.proofs.lemmas.Fmt.{length-decimal-le}
use Rattle.std.proofs.lemmas.List.Elements.{AllZip-push}
use Rattle.std.proofs.lemmas.List.Sums.{sum_by_push}
use Rattle.mail_wire.specs.declared.outside.Fault.{Fault}
use Rattle.mail_wire.specs.declared.outside.Fault.TheVariants as fault
use Rattle.mail_wire.specs.Lines.{crlf}
use Rattle.mail_wire.specs.Octets.{same_name}
use Rattle.mail_wire.specs.Transcript.{taken_of}
use Rattle.journal_records.specs.Grammar.{IsDate, fits_letter}
use Rattle.imap_session.specs.laws.CommandLaws.{is_date_date}
use Rattle.imap_session.specs.Session.{fits_shape}
use Rattle.surrogate_rope.specs.Layout.{HasSurrogate}
use Rattle.kept_mail.specs.declared.limits.TheConstants.{THINGS_MAX}
use Rattle.mail_store.specs.Changing.{append_refusal}
use Rattle.mail_store.specs.StoreState.{StoreState}
use Rattle.session_core.specs.Around.{Around}
use Rattle.session_core.specs.Changes.{append_changes}
use Rattle.session_core.specs.Desks.{IsOpen}
use Rattle.session_core.specs.Doing.{IsChanged}
use Rattle.session_core.specs.Keeps.{Keeps}
use Rattle.session_core.specs.Protocol.{Protocol}
use Rattle.session_core.specs.Serving.{ServesBy}
use Rattle.session_core.specs.declared.desk.Limits.{Limits}
use Rattle.session_core.specs.declared.desk.TheConstants.{LIMITS}
use Rattle.session_core.specs.declared.serving.Served.TheVariants.{Limit}
use Rattle.session_core.proofs.MeaningLemmas.{oracles_given}
use Rattle.setup_command.specs.Running.{IsBrokenOff}
use Rattle.setup_command.specs.Statuses.{status_of}
use Rattle.mail_command.specs.declared.generating.Sizes.{Sizes}
use Rattle.mail_command.specs.Checking.{number_line}
use Rattle.mail_command.specs.Generating.{AreTotals, generated, generated_messages, space_and_e_acute}
use Rattle.mail_command.specs.private.Sizes.{AreSizes}
use Rattle.mail_command.specs.private.Sure.{IsSure}

-- the date of each message is one
pub date_is : IsDate (codes "01-Jan-1970 00:00:00 +0000")
unfolding fits_letter fits_shape same_name
date_is = is_date_date (codes "01-Jan-1970 00:00:00 +0000") refl

-- ---- messages that there is room for

-- its number is spelled by ten digits at most
pub generated_short : (number : ℕ) → number ≤ 100000 → length (generated number) ≤ 100
generated_short number few =
    let digits = length-decimal-le 10 number (omega arith) (omega (arith, few)) (omega (arith, few)) in
    let last = length-append (decimal number) crlf in
    let middle = length-append (decimal number) (space_and_e_acute ++ (crlf ++ (crlf ++ (decimal number ++ crlf)))) in
    omega (arith, digits, last, middle)

pub room_there : (store : StoreState) (octets : List ℕ) → store.message_max ≡ LIMITS.message_max → length store.kept.messages < 100000 → length octets ≤ 100 → append_refusal store octets ≡ None
room_there store octets limit few short =
    let max : store.message_max ≡ 33554432 = limit in
    let size : nat_lt store.message_max (length octets) ≡ false = grind (arith, nat_tests) in
    let many : nat_lt THINGS_MAX (length store.kept.messages + 1) ≡ false = grind (arith, nat_tests) in
    rw (size, many) refl

-- one more is there
pub append_counts : (old new : StoreState) (had has : Option (List ℕ)) (folder flags mark : ℕ) (date octets : List ℕ) → append_refusal old octets ≡ None
    → IsChanged old new had has None (append_changes old folder flags mark date octets) → length new.kept.messages ≡ length old.kept.messages + 1
append_counts old new had has folder flags mark date octets none changed =
    let follows = rw none at changed in
    ap (λ (store : StoreState). length store.kept.messages) follows.store ∙ length-append old.kept.messages _

-- ---- what goes on over calls

-- over calls that met no fault an open desk stays one
pub opens_still : (before now : Around) → Keeps before now None → IsOpen before.desk → IsOpen now.desk
opens_still before now keeps opens = keeps.works (λ bad. cc) opens

-- and what never fails goes on so
pub sure_still : (before now : Around) → Keeps before now None → IsSure before → IsSure now
sure_still before now keeps sure = record { wire = (keeps.wire.sure sure.wire).0; keeper = (keeps.keeper.sure sure.keeper).0 }

-- ---- a client that says less than a session may take

-- a command that names a message by its number
pub line_short : (number : ℕ) → number ≤ 100000 → length (number_line (codes "RETR ") number) ≤ 64
line_short number few =
    let digits = length-decimal-le 10 number (omega arith) (omega (arith, few)) (omega (arith, few)) in
    omega (arith, digits, length-append (decimal number) crlf)

-- no more is taken than there was
consumed : (input taken : List ℕ) (old new : Option (List ℕ)) → old ≡ Some input → Consumes old new taken → length taken ≤ length input
consumed input taken None new same is = absurd cc
consumed input taken (Some xs) None same is = absurd is
consumed input taken (Some xs) (Some ys) same is =
    let whole : input ≡ taken ++ ys = cc in
    let sizes = ap length whole in
    omega (arith, sizes, length-append taken ys)

-- its session doesn't end at the limit
pub limit_not_reached : (protocol : Protocol) (before now : Around) (input : List ℕ) → before.wire.left ≡ Some input → before.desk.limits ≡ LIMITS → length input < LIMITS.session_max
    → ServesBy protocol before now Limit → ⊥
limit_not_reached protocol before now input left limits short serves =
    let up_to = (serves.holds oracles_given.0 oracles_given.1 []).serves.limit refl in
    let taken = consumed input (taken_of up_to.entries) before.wire.left now.wire.left left up_to.moves.left in
    let full = up_to.full in
    let most : before.desk.limits.session_max ≡ LIMITS.session_max = ap (λ (limits : Limits). limits.session_max) limits in
    omega (arith, taken, full, short, most)

-- ---- the totals

pub no_totals : AreTotals 0 (record { stored = 0; served = 0 })
no_totals = record { surrogates = []; are = tt; stored = refl; served = refl }

-- one more message
pub totals_more : (number stored served : ℕ) (sizes : Sizes) → AreTotals number (record { stored = stored; served = served }) → AreSizes (generated number) sizes
    → AreTotals (number + 1) (record { stored = stored + sizes.stored; served = served + sizes.served })
totals_more number stored served sizes are more =
    rw (add-one)
    (record {
      surrogates = are.surrogates ++ more.surrogate ∷ [];
      are = AllZip-push HasSurrogate (generated_messages number) are.surrogates (generated number) more.surrogate are.are more.is;
      stored = let all = sum_by_push length (generated_messages number) (generated number) in let one = more.stored in let before = are.stored in omega (arith, all, one, before);
      served = let all = sum_by_push length are.surrogates more.surrogate in let one = more.served in let before = are.served in omega (arith, all, one, before);
    })

-- a fault that isn't the keeper's breaks a command off
pub broken_by : (met : Fault) → ¬ (met ≡ fault.Keeper) → IsBrokenOff (status_of (Err met))
broken_by fault.Wire fine = inl refl
broken_by fault.Memory fine = inr refl
broken_by fault.Keeper fine = absurd (fine refl)
