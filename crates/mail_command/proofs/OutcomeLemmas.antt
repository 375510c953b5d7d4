-- A command comes to one outcome.
use Rattle.std.proofs.Common.{◌≡◌, ℕ, ◌≤◌, List, ◌++◌, length, codes, sym, ap, ◌∙◌, arith, length-append, subst, ◌⊎◌, inl, inr}
use Rattle.std.specs.Prelude.{◌≢◌}
use Rattle.mime_tree.specs.declared.entity.Entity.{Entity}
use Rattle.mime_tree.specs.declared.entity.TreeFault.{TreeFault}
use Rattle.mime_tree.specs.declared.entity.TreeFault.TheVariants.{Memory as NoMemory}
use Rattle.mime_tree.specs.Completing.{IsCompleted}
use Rattle.mime_tree.specs.Faults.{IsTreeFault}
use Rattle.mime_tree.specs.Tree.{HasTree}
use Rattle.mime_tree.proofs.NoFaults.{no_tree_fault}
use Rattle.mime_tree.proofs.OneTreeFault.{one_tree_fault}
use Rattle.mail_command.specs.declared.tasks.Task.{Task}
use Rattle.mail_command.specs.declared.tasks.Task.TheVariants.{Downgrade, Check}
use Rattle.mail_command.specs.Outcome.{message_max, refusal_line, fault_line, IsGivenBy, Outcome, TooLarge, Refused, Done}
use Rattle.mail_command.proofs.FigureLemmas.{told_once}
use Rattle.surrogate_rope.proofs.SurrogateBlocks.{one_surrogate}

-- the last line of a message is ended in one way
one_completed : (octets one two : List ℕ) → IsCompleted octets one → IsCompleted octets two → one ≡ two
one_completed octets one two (inl a) (inl b) = a.1 ∙ sym b.1
one_completed octets one two (inl a) (inr b) = absurd (b.0 a.0)
one_completed octets one two (inr a) (inl b) = absurd (a.0 b.0)
one_completed octets one two (inr a) (inr b) = a.1 ∙ sym b.1

-- a message with a fault has no tree
none_refused : (octets one two : List ℕ) (fault : TreeFault) (entities : List Entity) → IsCompleted octets one → IsCompleted octets two → IsTreeFault one fault → fault ≢ NoMemory → HasTree two entities → ⊥
none_refused octets one two fault entities is also found some tree =
    some (no_tree_fault one entities fault (subst (λ msg. HasTree msg entities) (one_completed octets two one also is) tree) found)

-- one fault, and so one line
one_line : (octets one two : List ℕ) (fault other : TreeFault) → IsCompleted octets one → IsCompleted octets two → IsTreeFault one fault → IsTreeFault two other
    → fault ≢ NoMemory → other ≢ NoMemory → fault_line fault ≡ fault_line other
one_line octets one two fault other is also found found' some some' =
    ap fault_line (one_tree_fault one fault other found (subst (λ msg. IsTreeFault msg other) (one_completed octets two one also is) found') some some')

-- what is given of a message
given_once : (task : Task) (msg made other : List ℕ) → IsGivenBy task msg made → IsGivenBy task msg other → made ≡ other
given_once Downgrade msg made other is also = one_surrogate msg made other is also
given_once Check msg made other is also = told_once msg made other is also

same_given : (task : Task) (octets one two made other : List ℕ) → IsCompleted octets one → IsCompleted octets two → IsGivenBy task one made → IsGivenBy task two other → made ≡ other
same_given task octets one two made other is also given given' = given_once task one made other given (subst (λ msg. IsGivenBy task msg other) (one_completed octets two one also is) given')

-- of a message
given_tree : (task : Task) (msg given : List ℕ) → IsGivenBy task msg given → (entities : List Entity) × HasTree msg entities
given_tree Downgrade msg given is = (is.entities, is.tree)
given_tree Check msg given is = (is.has.surrogate.entities, is.has.surrogate.tree)

none_given : (task : Task) (octets one two given : List ℕ) (fault : TreeFault) → IsCompleted octets one → IsCompleted octets two → IsTreeFault one fault → fault ≢ NoMemory → IsGivenBy task two given → ⊥
none_given task octets one two given fault is also found some of = let tree = given_tree task two given of in none_refused octets one two fault tree.0 is also found some tree.1

-- two outcomes are the same
pub record IsSame (status other : ℕ) (given others : List ℕ) : Type 0 where
  pub status_is : status ≡ other
  pub given_is : given ≡ others

same_as : (n : ℕ) (xs : List ℕ) (status other : ℕ) (given others : List ℕ) → status ≡ n → other ≡ n → given ≡ xs → others ≡ xs → IsSame status other given others
same_as n xs status other given others s o g h = record { status_is = s ∙ sym o; given_is = g ∙ sym h }

pub outcome_once : (task : Task) (octets : List ℕ) (status other : ℕ) (given others : List ℕ) → Outcome task octets status given → Outcome task octets other others → IsSame status other given others
outcome_once task octets status other given others (TooLarge past s g) (TooLarge past' o h) = same_as 7 (refusal_line message_max (codes "too large")) status other given others s o g h
outcome_once task octets status other given others (TooLarge past s g) (Refused msg fault fits is found some o h) = absurd (omega arith)
outcome_once task octets status other given others (TooLarge past s g) (Done msg fits is of o) = absurd (omega arith)
outcome_once task octets status other given others (Refused msg fault fits is found some s g) (TooLarge past o h) = absurd (omega arith)
outcome_once task octets status other given others (Refused msg fault fits is found some s g) (Refused msg' fault' fits' is' found' some' o h) =
    same_as 7 (fault_line fault) status other given others s o g (h ∙ sym (one_line octets msg msg' fault fault' is is' found found' some some'))
outcome_once task octets status other given others (Refused msg fault fits is found some s g) (Done msg' fits' is' of o) = absurd (none_given task octets msg msg' others fault is is' found some of)
outcome_once task octets status other given others (Done msg fits is of s) (TooLarge past o h) = absurd (omega arith)
outcome_once task octets status other given others (Done msg fits is of s) (Refused msg' fault fits' is' found some o h) = absurd (none_given task octets msg' msg given fault is' is found some of)
outcome_once task octets status other given others (Done msg fits is of s) (Done msg' fits' is' of' o) =
    record { status_is = s ∙ sym o; given_is = same_given task octets msg msg' given others is is' of of' }

-- What was taken is all of the octets, or more than a message may have.
pub record IsEnough (octets taken : List ℕ) : Type 0 where
  pub more : List ℕ
  pub begins : octets ≡ taken ++ more
  pub whole : length taken ≤ message_max → octets ≡ taken

-- the outcome of what was taken is that of all the octets
pub outcome_whole : (task : Task) (octets taken : List ℕ) (status : ℕ) (given : List ℕ) → IsEnough octets taken → Outcome task taken status given → Outcome task octets status given
outcome_whole task octets taken status given enough (TooLarge past s g) =
    let len = ap length enough.begins in
    TooLarge (omega (arith, length-append taken enough.more)) s g
outcome_whole task octets taken status given enough (Refused msg fault fits is found some s g) =
    let P : List ℕ → Type 0 = λ os. Outcome task os status given in subst P (sym (enough.whole fits)) (Refused msg fault fits is found some s g)
outcome_whole task octets taken status given enough (Done msg fits is of s) =
    let P : List ℕ → Type 0 = λ os. Outcome task os status given in subst P (sym (enough.whole fits)) (Done msg fits is of s)

-- no outcome is that of a command that was broken off
pub outcome_fine : (task : Task) (octets : List ℕ) (status : ℕ) (given : List ℕ) → Outcome task octets status given → (status ≡ 7) ⊎ (status ≡ 0)
outcome_fine task octets status given (TooLarge past s g) = inl s
outcome_fine task octets status given (Refused msg fault fits is found some s g) = inl s
outcome_fine task octets status given (Done msg fits is of s) = inr s
