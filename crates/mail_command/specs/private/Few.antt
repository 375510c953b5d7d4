-- How many messages a command may make.
use Rattle.std.specs.Prelude.{◌≤◌}
use Rattle.mail_command.specs.declared.standalone.Standalone.{Standalone}
use Rattle.mail_command.specs.declared.standalone.Standalone.TheVariants as standalone

-- as many as its words may say
abbrev pub MakesFew : Standalone → Type 0
MakesFew (standalone.Message one) = Unit {0}
MakesFew (standalone.Gen number) = number ≤ 100000
MakesFew standalone.Help = Unit {0}
