-- The first mail object that is sent to somebody, and what is done without one.
use Rattle.std.proofs.Common.{◌≡◌, ℕ, ◌+◌, ◌<◌, ◌≤◌, List, [], ◌∷◌, ◌++◌, length, get_or, drop, refl, ap, sym, subst, ◌∙◌, arith}
use Rattle.std.specs.List.{All}
use Rattle.std.proofs.lemmas.List.{append_assoc, drop_all, append-nil}
use Rattle.relay_choice.specs.declared.plans.Offer.{Offer}
use Rattle.relay_choice.specs.declared.replies.Reply.{Reply}
use Rattle.relay_choice.specs.declared.mail_objects.Recipient.{Recipient}
use Rattle.relay_choice.specs.declared.mail_objects.MailObject.{MailObject}
use Rattle.relay_choice.specs.declared.mail_objects.Act.{Act}
use Rattle.relay_choice.specs.declared.mail_objects.Act.TheVariants.{Say}
use Rattle.relay_choice.specs.declared.states.Client.{Client}
use Rattle.relay_choice.specs.declared.states.Awaited.TheVariants.{Mail}
use Rattle.relay_choice.specs.MailObjects.{IsAddressed}
use Rattle.relay_choice.specs.Said.{mail_line, quit_line}
use Rattle.relay_choice.specs.Relay.{Run, Transaction, finished, after_acts, transaction_to, followed, mail_objects_run, mail_transaction, says, sent_to}
use Rattle.relay_choice.specs.Standing.{ClientState, first_run, rest_by, run_from, standing_of}
use Rattle.relay_choice.specs.private.Turns.{FirstIsSent, PassesUnsent}
use Rattle.relay_choice.proofs.TurnLemmas.{after_followed, letter_first}

pub addressed_at : (mail_objects : List MailObject) (at : ℕ) (x : MailObject) → All IsAddressed mail_objects → at < length mail_objects → x ≡ get_or mail_objects at x → IsAddressed x
addressed_at mail_objects at x all lt is = subst IsAddressed (sym is) (all at x lt)

-- where acts are put after others, the run goes on after all of them
after_more : (old made more : List Act) (run : Run) → after_acts old (after_acts made (after_acts more run)) ≡ after_acts ((old ++ made) ++ more) run
after_more old made more run = ap (λ (l : List Act). record { acts = l; end = run.end }) (sym (append_assoc old made (more ++ run.acts)) ∙ sym (append_assoc (old ++ made) more run.acts))

-- from this number on, the acts that were made come first
passed_to : (client : Client) (from at : ℕ) (old new more : List Act) (run : Run) (left : List Reply) → PassesUnsent client from old new at
    → run_from (standing_of client) at left ≡ after_acts more run
    → after_acts old (run_from (standing_of client) from left) ≡ after_acts (new ++ more) run
passed_to client from at old new more run left passed goes =
    ap (after_acts old) (passed.run left ∙ ap (after_acts passed.made) goes) ∙ after_more old passed.made more run
    ∙ ap (λ (l : List Act). after_acts (l ++ more) run) (sym passed.new_is)

-- no mail object is left
quits : (client : ClientState) (at : ℕ) (left : List Reply) → length client.mail_objects ≤ at → run_from client at left ≡ after_acts (Say quit_line ∷ []) (record { acts = []; end = finished })
unfolding mail_objects_run
quits client at left past = ap (λ (l : List MailObject). mail_objects_run client.offer at l left) (drop_all at client.mail_objects past)

pub none_left : (client : Client) (from at : ℕ) (old new : List Act) → PassesUnsent client from old new at → length client.mail_objects ≤ at → (left : List Reply)
    → after_acts old (run_from (standing_of client) from left) ≡ record { acts = new ++ Say quit_line ∷ []; end = finished }
none_left client from at old new passed past left =
    passed_to client from at old new (Say quit_line ∷ []) (record { acts = []; end = finished }) left passed (quits (standing_of client) at left past)
    ∙ ap (λ (l : List Act). record { acts = l; end = finished }) (append-nil (new ++ Say quit_line ∷ []))

-- a mail object that is sent to somebody begins with MAIL
transaction_says : (offer : Offer) (number : ℕ) (mail_object : MailObject) (sent : List Recipient) (left : List Reply) → 0 < length sent
    → transaction_to offer number mail_object sent left ≡ says (mail_line offer mail_object sent) (mail_transaction offer number sent left)
transaction_says offer number mail_object [] left some = absurd (omega arith)
transaction_says offer number mail_object (recipient ∷ recipients) left some = refl

-- the same of the run
mail_object_begins : (client : ClientState) (at : ℕ) (x : MailObject) (left : List Reply) → at < length client.mail_objects → x ≡ get_or client.mail_objects at x → 0 < length (sent_to client.offer x)
    → run_from client at left ≡ after_acts (Say (mail_line client.offer x (sent_to client.offer x)) ∷ [])
    (rest_by Mail (record { name = client.name; mail_objects = client.mail_objects; at = at; offer = client.offer; awaited = Mail; answers = [] }) left)
unfolding mail_objects_run
mail_object_begins client at x left lt is some =
    let next : List Reply → Run = mail_objects_run client.offer (at + 1) (drop (at + 1) client.mail_objects) in
    let begun : ClientState = record { name = client.name; mail_objects = client.mail_objects; at = at; offer = client.offer; awaited = Mail; answers = [] } in
    ap (λ (l : List MailObject). mail_objects_run client.offer at l left) (letter_first client.mail_objects at x lt is)
    ∙ ap (λ (t : Transaction). followed client.offer at x t next) (transaction_says client.offer at x (sent_to client.offer x) left some)
    ∙ after_followed begun x (Say (mail_line client.offer x (sent_to client.offer x))) (mail_transaction client.offer at (sent_to client.offer x) left) next
    ∙ ap (after_acts (Say (mail_line client.offer x (sent_to client.offer x)) ∷ []))
    (sym (ap (first_run begun (λ mail_object. mail_transaction client.offer at (sent_to client.offer mail_object) left)) (letter_first client.mail_objects at x lt is)))

pub next_begins : (client : Client) (from at : ℕ) (old new : List Act) (x : MailObject) → PassesUnsent client from old new at → at < length client.mail_objects → x ≡ get_or client.mail_objects at x
    → (left : List Reply) → after_acts old (run_from (standing_of client) from left) ≡ after_acts (new ++ Say (mail_line client.offer x (sent_to client.offer x)) ∷ [])
    (rest_by Mail (record { name = client.name; mail_objects = client.mail_objects; at = at; offer = client.offer; awaited = Mail; answers = [] }) left)
next_begins client from at old new x passed lt is left =
    let some : 0 < length (sent_to client.offer x) = subst (FirstIsSent client) (letter_first client.mail_objects at x lt is) passed.first in
    passed_to client from at old new (Say (mail_line client.offer x (sent_to client.offer x)) ∷ [])
    (rest_by Mail (record { name = client.name; mail_objects = client.mail_objects; at = at; offer = client.offer; awaited = Mail; answers = [] }) left)
    left passed (mail_object_begins (standing_of client) at x left lt is some)
