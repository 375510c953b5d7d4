-- What holds of the toy's rows.
use Rattle.std.proofs.Common.{◌≡◌, ℕ, List, [], ◌∷◌, Some, refl}
use Rattle.std.specs.List.{AllByRecursion}
use Rattle.session_core.specs.Acts.{Act, IsFitAct, gives, changes, asks}
use Rattle.session_core.specs.Grammar.{LongRowsFit, RowsFit}
use Rattle.session_core.specs.declared.desk.Desk.{Desk}
use Rattle.session_tests.specs.Echo.{EchoStands, State, echo_grammar, row_of, state_of, wanted_by, wants_of}
use Rattle.session_tests.specs.declared.echo.Echo.{Echo}
use Rattle.session_tests.specs.declared.echo.Echo.TheVariants as echo
use Rattle.session_core.specs.Moments.{Moment}

wants_by : (session : Echo) → wants_of (state_of session) ≡ Some (wanted_by session)
wants_by (echo.Saying said) = refl
wants_by (echo.Literal said n) = refl

pub agrees_by : (more : List Moment) (session : Echo) (desk : Desk) (state : State) → EchoStands more session desk state → wants_of state ≡ Some (wanted_by session)
agrees_by more session desk state is = rw is (wants_by session)

all_fit : (acts : List (Act (List ℕ))) → AllByRecursion (IsFitAct (λ part. Unit {0})) acts
all_fit [] = tt
all_fit (gives part ∷ acts) = (tt, all_fit acts)
all_fit (changes records ∷ acts) = (tt, all_fit acts)
all_fit (asks asked ∷ acts) = (tt, all_fit acts)

pub rows_fit_by : RowsFit echo_grammar
rows_fit_by oracles are state unit sound = record { fit = all_fit (row_of state unit).acts; sound = tt }

pub lines_fit : LongRowsFit echo_grammar
lines_fit oracles are state sound = record { fit = (tt, tt); sound = tt }
