use Rattle.std.proofs.Common.{sym, ap, ◌∙◌}
use Rattle.std.specs.Option.{option_copied}
use Rattle.dsn_terms.proofs.NotifyFacts.{not-NotifySays}
use Rattle.dsn_terms.proofs.recipient_terms.read_notify.Goals as goal

pub returns-clause-none : goal.returns-clause-none
returns-clause-none c =
    not-NotifySays c.read_list.result (option_copied c.args.value) c.in-Some.value.now (ap option_copied c.in-Some.is) (sym c.is_same_name.ensures ∙ c.if-is_same_name.false) c.read_list.ensures.none
