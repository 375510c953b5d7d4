-- What stands after a path, and what a reply leaves.
use Rattle.std.proofs.Common.{◌≡◌, ℕ, suc, List, [], ◌∷◌, ◌==◌, not, length, Bool, true, false, arith, refl, ap, sym, subst, Some, None, Option, ◌∙◌}
use Rattle.std.specs.Prelude.{Result, Ok, Err, IfOk}
use Rattle.std.specs.List.{list_all, filter, slice_split, onto_first}
use Rattle.std.proofs.lemmas.Bool.Decides.{nat_tests}
use Rattle.std.proofs.lemmas.List.Splits.{slice_split-cons_no}
use Rattle.mail_wire.specs.Octets.{is_white}
use Rattle.mail_wire.specs.declared.values.Memory.{Memory}
use Rattle.mail_store.specs.StoreState.{StoreState}
use Rattle.smtp_grammar.specs.Commands.{PathAndRest, white_words}
use Rattle.smtp_session.specs.declared.rows.Reply.{Reply}
use Rattle.smtp_session.specs.declared.states.SmtpState.{SmtpState}
use Rattle.smtp_session.specs.Machine.{State, alone}
use Rattle.smtp_session.specs.Session.{KnowsState, reply_octets, state_of, state_or_ended}

pub not_zero : (n : ℕ) → (suc n == 0) ≡ false
not_zero n = grind (arith, nat_tests)

-- where an octet is put before the first part, some word is left
some_by : (x : ℕ) (parts : List (List ℕ)) → (length (filter (λ word. not (length word == 0)) (onto_first x parts)) == 0) ≡ false
some_by x [] = refl
some_by x (part ∷ parts) = rw (not_zero (length part)) (not_zero (length (filter (λ word. not (length word == 0)) parts)))

-- what blank_words says, with one octet more
blank_by : (x : ℕ) (text : List ℕ) (b : Bool) → is_white x ≡ b → list_all is_white text ≡ (length (white_words text) == 0)
    → list_all is_white (x ∷ text) ≡ (length (white_words (x ∷ text)) == 0)
blank_by x text true is rest = rw is rest
blank_by x text false is rest =
    let none : list_all is_white (x ∷ text) ≡ false = rw is refl in
    let words = ap (λ parts. length (filter (λ (word : List ℕ). not (length word == 0)) parts) == 0) (slice_split-cons_no is_white x text is) in
    none ∙ sym (words ∙ some_by x (slice_split is_white text))

-- a text has no words where all of it is white
pub blank_words : (text : List ℕ) → list_all is_white text ≡ (length (white_words text) == 0)
blank_words [] = refl
blank_words (x ∷ text) = blank_by x text (is_white x) refl (blank_words text)

-- a path alone
pub alone-blank : (following : Option PathAndRest) (given : PathAndRest) → following ≡ Some given → list_all is_white given.rest ≡ true → alone following ≡ Some given
alone-blank following given is blank = rw (is, sym (blank_words given.rest) ∙ blank) refl

-- a path with something after it
pub alone-more : (following : Option PathAndRest) (given : PathAndRest) → following ≡ Some given → list_all is_white given.rest ≡ false → alone following ≡ None
alone-more following given is more = rw (is, sym (blank_words given.rest) ∙ more) refl

-- a reply leaves what is known of its state
pub says-known : (store : StoreState) (result : Result Reply Memory) (next : SmtpState) → IfOk result (λ reply. reply.next ≡ Some next) → KnowsState store (state_of next)
    → IfOk result (λ reply. KnowsState store (state_or_ended reply.next))
says-known store (Ok reply) next is known = subst (λ (o : Option SmtpState). KnowsState store (state_or_ended o)) (sym is) known
says-known store (Err fault) next is known = tt

-- a reply leaves its state
pub says-next : (result : Result Reply Memory) (next : SmtpState) (state : State) → IfOk result (λ reply. reply.next ≡ Some next) → state_of next ≡ state
    → IfOk result (λ reply. state_or_ended reply.next ≡ state)
says-next (Ok reply) next state is same = subst (λ (o : Option SmtpState). state_or_ended o ≡ state) (sym is) same
says-next (Err fault) next state is same = tt

-- a reply says its lines
pub says-reply : (result : Result Reply Memory) (octets : List ℕ) (lines : List (List ℕ)) → IfOk result (λ reply. reply.octets ≡ octets) → octets ≡ reply_octets lines
    → IfOk result (λ reply. reply.octets ≡ reply_octets lines)
says-reply (Ok reply) octets lines is same = is ∙ same
says-reply (Err fault) octets lines is same = tt
