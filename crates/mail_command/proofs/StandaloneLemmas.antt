-- The words of the commands that leave the keeper alone.
use Rattle.std.proofs.Common.{◌≡◌, ℕ, List, [], ◌∷◌, codes, subst, sym, ◌∙◌, arith}
use Rattle.std.proofs.lemmas.Fmt.{decimal_injective}
use Rattle.mail_wire.specs.WireState.{WireState}
use Rattle.setup_command.specs.WordForms.{IsHelpCommand}
use Rattle.mail_command.specs.declared.standalone.Standalone.{Standalone}
use Rattle.mail_command.specs.declared.standalone.Standalone.TheVariants as standalone
use Rattle.mail_command.specs.declared.roles.Role.{Role}
use Rattle.mail_command.specs.declared.roles.Role.TheVariants as role
use Rattle.mail_command.specs.declared.tasks.Task.TheVariants as task
use Rattle.mail_command.specs.Running.{GivesHelp, RunsStandalone, RunsCheck, RunsDowngrade, RunsGen}
use Rattle.mail_command.specs.Words.{IsStandalone, IsCheck, IsDowngrade, IsGen, IsNoCommand, IsSession, OpensJournal, TakesPassword, OfSession, OfAccount, OfDomain, OfRelay}
use Rattle.mail_command.specs.private.Few.{MakesFew}
use Rattle.mail_command.proofs.WordsLemmas.{differ_first, fewer}

-- the words of `gen` say one number
gen_text : (a b : List ℕ) → codes "gen" ∷ a ∷ [] ≡ codes "gen" ∷ b ∷ [] → a ≡ b
gen_text a b same = cc

pub gen_once : (words : List (List ℕ)) (number other : ℕ) → IsGen words number → IsGen words other → number ≡ other
gen_once words number other one also =
    let texts : one.text ≡ also.text = gen_text one.text also.text (sym one.words_are ∙ also.words_are) in
    let bound = one.number_is.bound in
    let bound' = also.number_is.bound in
    decimal_injective number other (omega (arith, bound)) (omega (arith, bound')) (sym one.number_is.text_is ∙ texts ∙ also.number_is.text_is)

-- and no more than it may
pub standalone_few : (words : List (List ℕ)) (one : Standalone) → IsStandalone words one → MakesFew one
standalone_few words (standalone.Message one) is = tt
standalone_few words (standalone.Gen number) is = is.number_is.bound
standalone_few words standalone.Help is = tt

-- ---- they are the words of no other command

pub standalone_names : (words : List (List ℕ)) (one : Standalone) → IsStandalone words one → IsNoCommand words → ⊥
standalone_names words (standalone.Message task.Downgrade) is none = none.downgrade is
standalone_names words (standalone.Message task.Check) is none = none.check is
standalone_names words (standalone.Gen number) is none = none.gen number is
standalone_names words standalone.Help is none = none.help is

standalone_session : (words : List (List ℕ)) (one : Standalone) (role : Role) → IsStandalone words one → IsSession words role → ⊥
standalone_session words (standalone.Message task.Downgrade) role.Pop is also = differ_first words _ _ is also (omega arith)
standalone_session words (standalone.Message task.Downgrade) role.Smtp is also = differ_first words _ _ is also (omega arith)
standalone_session words (standalone.Message task.Downgrade) role.Imap is also = differ_first words _ _ is also (omega arith)
standalone_session words (standalone.Message task.Check) role.Pop is also = differ_first words _ _ is also (omega arith)
standalone_session words (standalone.Message task.Check) role.Smtp is also = differ_first words _ _ is also (omega arith)
standalone_session words (standalone.Message task.Check) role.Imap is also = differ_first words _ _ is also (omega arith)
standalone_session words (standalone.Gen number) role.Pop is also = differ_first words _ _ is.words_are also (omega arith)
standalone_session words (standalone.Gen number) role.Smtp is also = differ_first words _ _ is.words_are also (omega arith)
standalone_session words (standalone.Gen number) role.Imap is also = differ_first words _ _ is.words_are also (omega arith)
standalone_session words standalone.Help role.Pop is also = differ_first words _ _ is also (omega arith)
standalone_session words standalone.Help role.Smtp is also = differ_first words _ _ is also (omega arith)
standalone_session words standalone.Help role.Imap is also = differ_first words _ _ is also (omega arith)

pub standalone_opens : (words : List (List ℕ)) (one : Standalone) → IsStandalone words one → OpensJournal words → ⊥
standalone_opens words one is (OfSession role also) = standalone_session words one role is also
standalone_opens words (standalone.Message task.Downgrade) is (OfAccount address password also) = differ_first words _ _ also.words_are is (omega arith)
standalone_opens words (standalone.Message task.Check) is (OfAccount address password also) = differ_first words _ _ also.words_are is (omega arith)
standalone_opens words (standalone.Gen number) is (OfAccount address password also) = differ_first words _ _ also.words_are is.words_are (omega arith)
standalone_opens words standalone.Help is (OfAccount address password also) = differ_first words _ _ also.words_are is (omega arith)
standalone_opens words (standalone.Message task.Downgrade) is (OfDomain name also) = fewer words _ _ is also.words_are (omega arith)
standalone_opens words (standalone.Message task.Check) is (OfDomain name also) = fewer words _ _ is also.words_are (omega arith)
standalone_opens words (standalone.Gen number) is (OfDomain name also) = differ_first words _ _ also.words_are is.words_are (omega arith)
standalone_opens words standalone.Help is (OfDomain name also) = fewer words _ _ is also.words_are (omega arith)
standalone_opens words (standalone.Message task.Downgrade) is (OfRelay host also) = fewer words _ _ is also.words_are (omega arith)
standalone_opens words (standalone.Message task.Check) is (OfRelay host also) = fewer words _ _ is also.words_are (omega arith)
standalone_opens words (standalone.Gen number) is (OfRelay host also) = differ_first words _ _ is.words_are also.words_are (omega arith)
standalone_opens words standalone.Help is (OfRelay host also) = fewer words _ _ is also.words_are (omega arith)

pub standalone_takes : (words : List (List ℕ)) (one : Standalone) → IsStandalone words one → TakesPassword words → ⊥
standalone_takes words (standalone.Message task.Downgrade) is also = fewer words _ _ is also.1.words_are (omega arith)
standalone_takes words (standalone.Message task.Check) is also = fewer words _ _ is also.1.words_are (omega arith)
standalone_takes words (standalone.Gen number) is also = differ_first words _ _ also.1.words_are is.words_are (omega arith)
standalone_takes words standalone.Help is also = fewer words _ _ is also.1.words_are (omega arith)

-- ---- what the words say was run

pub standalone_downgrade : (words : List (List ℕ)) (one : Standalone) (a b : WireState) (status : ℕ) → IsStandalone words one → RunsStandalone one a b status → IsDowngrade words → RunsDowngrade a b status
standalone_downgrade words (standalone.Message task.Downgrade) a b status is runs also = runs
standalone_downgrade words (standalone.Message task.Check) a b status is runs also = absurd (differ_first words _ _ is also (omega arith))
standalone_downgrade words (standalone.Gen number) a b status is runs also = absurd (differ_first words _ _ also is.words_are (omega arith))
standalone_downgrade words standalone.Help a b status is runs also = absurd (differ_first words _ _ also is (omega arith))

pub standalone_check : (words : List (List ℕ)) (one : Standalone) (a b : WireState) (status : ℕ) → IsStandalone words one → RunsStandalone one a b status → IsCheck words → RunsCheck a b status
standalone_check words (standalone.Message task.Downgrade) a b status is runs also = absurd (differ_first words _ _ also is (omega arith))
standalone_check words (standalone.Message task.Check) a b status is runs also = runs
standalone_check words (standalone.Gen number) a b status is runs also = absurd (differ_first words _ _ also is.words_are (omega arith))
standalone_check words standalone.Help a b status is runs also = absurd (differ_first words _ _ also is (omega arith))

pub standalone_gen : (words : List (List ℕ)) (one : Standalone) (a b : WireState) (status : ℕ) → IsStandalone words one → RunsStandalone one a b status → (number : ℕ) → IsGen words number → RunsGen number a b status
standalone_gen words (standalone.Message task.Downgrade) a b status is runs number also = absurd (differ_first words _ _ is also.words_are (omega arith))
standalone_gen words (standalone.Message task.Check) a b status is runs number also = absurd (differ_first words _ _ is also.words_are (omega arith))
standalone_gen words (standalone.Gen other) a b status is runs number also = subst (λ n. RunsGen n a b status) (gen_once words other number is also) runs
standalone_gen words standalone.Help a b status is runs number also = absurd (differ_first words _ _ also.words_are is (omega arith))

pub standalone_help : (words : List (List ℕ)) (one : Standalone) (a b : WireState) (status : ℕ) → IsStandalone words one → RunsStandalone one a b status → IsHelpCommand words → GivesHelp a b status
standalone_help words (standalone.Message task.Downgrade) a b status is runs also = absurd (differ_first words _ _ is also (omega arith))
standalone_help words (standalone.Message task.Check) a b status is runs also = absurd (differ_first words _ _ is also (omega arith))
standalone_help words (standalone.Gen number) a b status is runs also = absurd (differ_first words _ _ is.words_are also (omega arith))
standalone_help words standalone.Help a b status is runs also = runs
