use Rattle.std.proofs.Common.{subst, inl, inr}
use Rattle.std.specs.Prelude.{IfSome, string_bytes}
use Rattle.std.proofs.lemmas.Result.{err_from_is_err_and}
use Rattle.ace_domains.specs.Domains.{compared_form}
use Rattle.address_grammar.specs.Addresses.{address_text}
use Rattle.mail_store.specs.Changing.{account_refusal, domain_refusal}
use Rattle.journal_records.specs.declared.records.Record.TheVariants as records
use Rattle.session_core.specs.Serving.{OfInstance}
use Rattle.session_core.proofs.MeaningLemmas.{oracles_given}
use Rattle.session_core.specs.declared.desk.TheConstants.{LIMITS}
use Rattle.setup_command.specs.AddingRuns.{RunsAdding, IsExactAdding}
use Rattle.setup_command.specs.Statuses.{status_of}
use Rattle.mail_command.specs.declared.roles.Role.{Role}
use Rattle.mail_command.specs.Passwords.{IsExactByInput, RunsByInput}
use Rattle.mail_command.specs.Protocols.{protocol_for}
use Rattle.mail_command.specs.RelayRuns.{RunsRelay}
use Rattle.mail_command.specs.Running.{RunsSession}
use Rattle.mail_command.specs.Words.{OfSession, OfAccount, OfDomain, OfRelay}
use Rattle.mail_command.proofs.PasswordLemmas.{by_input_exact}
use Rattle.mail_command.proofs.StandaloneLemmas.{standalone_check, standalone_downgrade, standalone_few, standalone_gen, standalone_help, standalone_names, standalone_opens, standalone_takes}
use Rattle.mail_command.proofs.CauseLemmas.{account_words, by_input_words, standalone_words, domain_words, no_words, relay_words, session_words, unread_words}
use Rattle.mail_command.proofs.CommandLemmas.{account_at, by_input_at, by_input_opens, by_input_unbegun, domain_at, none_opens, not_begun, refusal_unbegun, relay_at}
use Rattle.mail_command.proofs.RelayLemmas.{relay_unbegun}
use Rattle.mail_command.proofs.WordsLemmas.{session_once}
use Rattle.mail_command.proofs.command.work.Goals as goal

pub returns-in_err-command-clause-words : goal.returns-in_err-command-clause-words
returns-in_err-command-clause-words g c =
    let failed = err_from_is_err_and c.from_residual.result c.from_residual.ensures.1 in
    rw (failed.1, failed.2) (λ none. refusal_unbegun (g.W.Wire.observed c.args.wire.now))

pub returns-in_err-command-clause-account : goal.returns-in_err-command-clause-account
returns-in_err-command-clause-account g c =
    let failed = err_from_is_err_and c.from_residual.result c.from_residual.ensures.1 in
    rw (failed.1, failed.2) (λ address password is path_of reads. not_begun _ _ (g.J.Keeper.observed c.args.keeper.now).octets (g.W.Wire.observed c.args.wire.now))

pub returns-in_err-command-clause-account_by_input : goal.returns-in_err-command-clause-account_by_input
returns-in_err-command-clause-account_by_input g c =
    let failed = err_from_is_err_and c.from_residual.result c.from_residual.ensures.1 in
    rw (failed.1, failed.2) (λ address is path_of reads. by_input_unbegun _ _ (g.J.Keeper.observed c.args.keeper.now).octets (g.W.Wire.observed c.args.wire.now))

pub returns-in_err-command-clause-account_by_input_exact : goal.returns-in_err-command-clause-account_by_input_exact
returns-in_err-command-clause-account_by_input_exact g c =
    let failed = err_from_is_err_and c.from_residual.result c.from_residual.ensures.1 in
    rw (failed.1, failed.2) (λ address is path_of reads.
    by_input_exact (λ kept. account_refusal path_of kept address) (λ password. records.Account (address_text address) password) (g.J.Keeper.observed c.args.keeper.now).octets _ (g.W.Wire.observed c.args.wire.now) _ 3
    (by_input_unbegun _ _ (g.J.Keeper.observed c.args.keeper.now).octets (g.W.Wire.observed c.args.wire.now)))

pub returns-in_err-command-clause-relay : goal.returns-in_err-command-clause-relay
returns-in_err-command-clause-relay g c =
    let failed = err_from_is_err_and c.from_residual.result c.from_residual.ensures.1 in
    rw (failed.1, failed.2) (λ host is. relay_unbegun LIMITS host _)

pub run_standalone-requires : goal.run_standalone-requires
run_standalone-requires g c = standalone_few c.args.words.now c.in-Some-Standalone.command (rw (c.in-Some-Standalone.is, c.in-Some-Standalone.field-0-is) at c.in_ok-command.ensures.names)

pub returns-in-Some-Standalone-clause-words : goal.returns-in-Some-Standalone-clause-words
returns-in-Some-Standalone-clause-words g c none = absurd (standalone_names c.args.words.now c.in-Some-Standalone.command (rw (c.in-Some-Standalone.is, c.in-Some-Standalone.field-0-is) at c.in_ok-command.ensures.names) none)

pub returns-in-Some-Standalone-clause-downgrade : goal.returns-in-Some-Standalone-clause-downgrade
returns-in-Some-Standalone-clause-downgrade g c =
    standalone_downgrade c.args.words.now c.in-Some-Standalone.command _ _ _ (rw (c.in-Some-Standalone.is, c.in-Some-Standalone.field-0-is) at c.in_ok-command.ensures.names) c.run_standalone.ensures.runs

pub returns-in-Some-Standalone-clause-check : goal.returns-in-Some-Standalone-clause-check
returns-in-Some-Standalone-clause-check g c =
    standalone_check c.args.words.now c.in-Some-Standalone.command _ _ _ (rw (c.in-Some-Standalone.is, c.in-Some-Standalone.field-0-is) at c.in_ok-command.ensures.names) c.run_standalone.ensures.runs

pub returns-in-Some-Standalone-clause-generates : goal.returns-in-Some-Standalone-clause-generates
returns-in-Some-Standalone-clause-generates g c =
    standalone_gen c.args.words.now c.in-Some-Standalone.command _ _ _ (rw (c.in-Some-Standalone.is, c.in-Some-Standalone.field-0-is) at c.in_ok-command.ensures.names) c.run_standalone.ensures.runs

pub returns-in-Some-Standalone-clause-help : goal.returns-in-Some-Standalone-clause-help
returns-in-Some-Standalone-clause-help g c =
    standalone_help c.args.words.now c.in-Some-Standalone.command _ _ _ (rw (c.in-Some-Standalone.is, c.in-Some-Standalone.field-0-is) at c.in_ok-command.ensures.names) c.run_standalone.ensures.runs

pub returns-in-Some-Standalone-clause-session : goal.returns-in-Some-Standalone-clause-session
returns-in-Some-Standalone-clause-session g c role is =
    absurd (standalone_opens c.args.words.now c.in-Some-Standalone.command (rw (c.in-Some-Standalone.is, c.in-Some-Standalone.field-0-is) at c.in_ok-command.ensures.names) (OfSession role is))

pub returns-in-Some-Standalone-clause-account : goal.returns-in-Some-Standalone-clause-account
returns-in-Some-Standalone-clause-account g c address password is =
    absurd (standalone_opens c.args.words.now c.in-Some-Standalone.command (rw (c.in-Some-Standalone.is, c.in-Some-Standalone.field-0-is) at c.in_ok-command.ensures.names) (OfAccount address password is))

pub returns-in-Some-Standalone-clause-account_exact : goal.returns-in-Some-Standalone-clause-account_exact
returns-in-Some-Standalone-clause-account_exact g c address password is =
    absurd (standalone_opens c.args.words.now c.in-Some-Standalone.command (rw (c.in-Some-Standalone.is, c.in-Some-Standalone.field-0-is) at c.in_ok-command.ensures.names) (OfAccount address password is))

pub returns-in-Some-Standalone-clause-account_by_input : goal.returns-in-Some-Standalone-clause-account_by_input
returns-in-Some-Standalone-clause-account_by_input g c address is =
    absurd (standalone_takes c.args.words.now c.in-Some-Standalone.command (rw (c.in-Some-Standalone.is, c.in-Some-Standalone.field-0-is) at c.in_ok-command.ensures.names) (address, is))

pub returns-in-Some-Standalone-clause-account_by_input_exact : goal.returns-in-Some-Standalone-clause-account_by_input_exact
returns-in-Some-Standalone-clause-account_by_input_exact g c address is =
    absurd (standalone_takes c.args.words.now c.in-Some-Standalone.command (rw (c.in-Some-Standalone.is, c.in-Some-Standalone.field-0-is) at c.in_ok-command.ensures.names) (address, is))

pub returns-in-Some-Standalone-clause-domain : goal.returns-in-Some-Standalone-clause-domain
returns-in-Some-Standalone-clause-domain g c name is =
    absurd (standalone_opens c.args.words.now c.in-Some-Standalone.command (rw (c.in-Some-Standalone.is, c.in-Some-Standalone.field-0-is) at c.in_ok-command.ensures.names) (OfDomain name is))

pub returns-in-Some-Standalone-clause-domain_exact : goal.returns-in-Some-Standalone-clause-domain_exact
returns-in-Some-Standalone-clause-domain_exact g c name is =
    absurd (standalone_opens c.args.words.now c.in-Some-Standalone.command (rw (c.in-Some-Standalone.is, c.in-Some-Standalone.field-0-is) at c.in_ok-command.ensures.names) (OfDomain name is))

pub returns-in-Some-Standalone-clause-relay : goal.returns-in-Some-Standalone-clause-relay
returns-in-Some-Standalone-clause-relay g c host is =
    absurd (standalone_opens c.args.words.now c.in-Some-Standalone.command (rw (c.in-Some-Standalone.is, c.in-Some-Standalone.field-0-is) at c.in_ok-command.ensures.names) (OfRelay host is))

pub returns-in-Some-Standalone-clause-journal : goal.returns-in-Some-Standalone-clause-journal
returns-in-Some-Standalone-clause-journal g c opens =
    absurd (standalone_opens c.args.words.now c.in-Some-Standalone.command (rw (c.in-Some-Standalone.is, c.in-Some-Standalone.field-0-is) at c.in_ok-command.ensures.names) opens)

pub returns-in-Some-Standalone-clause-cause : goal.returns-in-Some-Standalone-clause-cause
returns-in-Some-Standalone-clause-cause g c = c.run_standalone.ensures.cause (g.J.Keeper.observed c.args.keeper.now)

pub returns-in-Some-Session-clause-session : goal.returns-in-Some-Session-clause-session
returns-in-Some-Session-clause-session g c role is =
    subst
    (λ (role : Role). OfInstance (protocol_for role) (g.C.Clock.observed c.args.clock.now) (λ instance. RunsSession instance LIMITS (g.J.Keeper.observed c.args.keeper.now).octets (g.J.Keeper.observed c.run_session.new.keeper).octets
    (g.W.Wire.observed c.args.wire.now) (g.W.Wire.observed c.run_session.new.wire) (status_of c.run_session.result)))
    (session_once c.args.words.now c.in-Some-Session.role role (rw (c.in-Some-Session.is, c.in-Some-Session.field-0-is) at c.in_ok-command.ensures.names) is) c.run_session.ensures.runs

pub returns-in-Some-Session-clause-untouched : goal.returns-in-Some-Session-clause-untouched
returns-in-Some-Session-clause-untouched g c never =
    absurd (never (inl (OfSession c.in-Some-Session.role (rw (c.in-Some-Session.is, c.in-Some-Session.field-0-is) at c.in_ok-command.ensures.names))))

pub returns-in-Some-Account-clause-account : goal.returns-in-Some-Account-clause-account
returns-in-Some-Account-clause-account g c address password is path_of reads =
    account_at
    (λ x y. RunsAdding (λ kept. account_refusal path_of kept x) (records.Account (address_text x) y) (g.J.Keeper.observed c.args.keeper.now).octets (g.J.Keeper.observed c.run_account.new.keeper).octets
    (g.W.Wire.observed c.args.wire.now) (g.W.Wire.observed c.run_account.new.wire) (status_of c.run_account.result))
    c.args.words.now c.in-Some-Account.address address c.in-Some-Account.password password
    (rw (c.in-Some-Account.is, c.in-Some-Account.field-0-is) at c.in_ok-command.ensures.names) is (rw c.as_slice.ensures at (c.run_account.ensures.runs path_of reads))

pub returns-in-Some-Account-clause-account_exact : goal.returns-in-Some-Account-clause-account_exact
returns-in-Some-Account-clause-account_exact g c address password is path_of reads =
    account_at
    (λ x y. IfSome (g.J.Keeper.observed c.args.keeper.now).octets (λ octets. IsExactAdding (λ kept. account_refusal path_of kept x) octets (status_of c.run_account.result)))
    c.args.words.now c.in-Some-Account.address address c.in-Some-Account.password password
    (rw (c.in-Some-Account.is, c.in-Some-Account.field-0-is) at c.in_ok-command.ensures.names) is (c.run_account.ensures.exact path_of reads)

pub returns-in-Some-Account-clause-untouched : goal.returns-in-Some-Account-clause-untouched
returns-in-Some-Account-clause-untouched g c never =
    absurd (never (inl (OfAccount c.in-Some-Account.address c.in-Some-Account.password (rw (c.in-Some-Account.is, c.in-Some-Account.field-0-is) at c.in_ok-command.ensures.names))))

pub returns-in-Some-AccountByInput-clause-account_by_input : goal.returns-in-Some-AccountByInput-clause-account_by_input
returns-in-Some-AccountByInput-clause-account_by_input g c address is path_of reads =
    by_input_at
    (λ x. RunsByInput (λ kept. account_refusal path_of kept x) (λ password. records.Account (address_text x) password) (g.J.Keeper.observed c.args.keeper.now).octets
    (g.J.Keeper.observed c.run_account_by_input.new.keeper).octets (g.W.Wire.observed c.args.wire.now) (g.W.Wire.observed c.run_account_by_input.new.wire) (status_of c.run_account_by_input.result))
    c.args.words.now c.in-Some-AccountByInput.address address (rw (c.in-Some-AccountByInput.is, c.in-Some-AccountByInput.field-0-is) at c.in_ok-command.ensures.names) is (c.run_account_by_input.ensures.runs path_of reads)

pub returns-in-Some-AccountByInput-clause-account_by_input_exact : goal.returns-in-Some-AccountByInput-clause-account_by_input_exact
returns-in-Some-AccountByInput-clause-account_by_input_exact g c address is path_of reads =
    by_input_at
    (λ x. IfSome (g.J.Keeper.observed c.args.keeper.now).octets (λ octets. IsExactByInput (λ kept. account_refusal path_of kept x) octets (status_of c.run_account_by_input.result)))
    c.args.words.now c.in-Some-AccountByInput.address address (rw (c.in-Some-AccountByInput.is, c.in-Some-AccountByInput.field-0-is) at c.in_ok-command.ensures.names) is (c.run_account_by_input.ensures.exact path_of reads)

pub returns-in-Some-AccountByInput-clause-untouched : goal.returns-in-Some-AccountByInput-clause-untouched
returns-in-Some-AccountByInput-clause-untouched g c never =
    absurd (never (inr (c.in-Some-AccountByInput.address, rw (c.in-Some-AccountByInput.is, c.in-Some-AccountByInput.field-0-is) at c.in_ok-command.ensures.names)))

pub returns-in-Some-AccountByInput-clause-journal : goal.returns-in-Some-AccountByInput-clause-journal
returns-in-Some-AccountByInput-clause-journal g c opens =
    absurd (by_input_opens c.args.words.now c.in-Some-AccountByInput.address (rw (c.in-Some-AccountByInput.is, c.in-Some-AccountByInput.field-0-is) at c.in_ok-command.ensures.names) opens)

pub returns-in-Some-AccountByInput-clause-statuses : goal.returns-in-Some-AccountByInput-clause-statuses
returns-in-Some-AccountByInput-clause-statuses g c =
    by_input_words _ _ c.args.words.now c.in-Some-AccountByInput.address _ _ _ _ _
    (rw (c.in-Some-AccountByInput.is, c.in-Some-AccountByInput.field-0-is) at c.in_ok-command.ensures.names) (c.run_account_by_input.ensures.runs oracles_given.0.path_of oracles_given.1.paths)

pub returns-in-Some-Domain-clause-domain : goal.returns-in-Some-Domain-clause-domain
returns-in-Some-Domain-clause-domain g c name is =
    domain_at
    (λ x. RunsAdding (λ kept. domain_refusal kept x) (records.Domain (compared_form x)) (g.J.Keeper.observed c.args.keeper.now).octets (g.J.Keeper.observed c.run_domain.new.keeper).octets
    (g.W.Wire.observed c.args.wire.now) (g.W.Wire.observed c.run_domain.new.wire) (status_of c.run_domain.result))
    c.args.words.now (string_bytes c.in-Some-Domain.name) name (rw (c.in-Some-Domain.is, c.in-Some-Domain.field-0-is) at c.in_ok-command.ensures.names) is (rw c.deref.ensures at c.run_domain.ensures.runs)

pub returns-in-Some-Domain-clause-untouched : goal.returns-in-Some-Domain-clause-untouched
returns-in-Some-Domain-clause-untouched g c never =
    absurd (never (inl (OfDomain (string_bytes c.in-Some-Domain.name) (rw (c.in-Some-Domain.is, c.in-Some-Domain.field-0-is) at c.in_ok-command.ensures.names))))

pub returns-in-None-clause-account : goal.returns-in-None-clause-account
returns-in-None-clause-account g c address password is = let none = rw c.in-None.is at c.in_ok-command.ensures.names in absurd (none.account address password is)

pub returns-in-None-clause-account_exact : goal.returns-in-None-clause-account_exact
returns-in-None-clause-account_exact g c address password is = let none = rw c.in-None.is at c.in_ok-command.ensures.names in absurd (none.account address password is)

pub returns-in-None-clause-account_by_input : goal.returns-in-None-clause-account_by_input
returns-in-None-clause-account_by_input g c address is = let none = rw c.in-None.is at c.in_ok-command.ensures.names in absurd (none.by_input address is)

pub returns-in-None-clause-account_by_input_exact : goal.returns-in-None-clause-account_by_input_exact
returns-in-None-clause-account_by_input_exact g c address is = let none = rw c.in-None.is at c.in_ok-command.ensures.names in absurd (none.by_input address is)

pub returns-in-None-clause-journal : goal.returns-in-None-clause-journal
returns-in-None-clause-journal g c opens = absurd (none_opens c.args.words.now (rw c.in-None.is at c.in_ok-command.ensures.names) opens)

pub returns-in-None-clause-generates : goal.returns-in-None-clause-generates
returns-in-None-clause-generates g c number is = let none = rw c.in-None.is at c.in_ok-command.ensures.names in absurd (none.gen number is)

pub returns-in-None-clause-relay : goal.returns-in-None-clause-relay
returns-in-None-clause-relay g c host is = let none = rw c.in-None.is at c.in_ok-command.ensures.names in absurd (none.relay host is)

pub returns-in-Some-Relay-clause-relay : goal.returns-in-Some-Relay-clause-relay
returns-in-Some-Relay-clause-relay g c host is =
    relay_at
    (λ x. RunsRelay LIMITS x
    (record { wire = g.W.Wire.observed c.args.wire.now; keeper = g.J.Keeper.observed c.args.keeper.now; dial = g.L.Dial.observed c.args.dial.now; clock = g.C.Clock.observed c.args.clock.now })
    (record { wire = g.W.Wire.observed c.run_relay.new.wire; keeper = g.J.Keeper.observed c.run_relay.new.keeper; dial = g.L.Dial.observed c.run_relay.new.dial; clock = g.C.Clock.observed c.run_relay.new.clock })
    (status_of c.run_relay.result))
    c.args.words.now (string_bytes c.in-Some-Relay.host) host (rw (c.in-Some-Relay.is, c.in-Some-Relay.field-0-is) at c.in_ok-command.ensures.names) is (rw c.deref-in-Some-Relay.ensures at c.run_relay.ensures.runs)

pub returns-in-Some-Relay-clause-untouched : goal.returns-in-Some-Relay-clause-untouched
returns-in-Some-Relay-clause-untouched g c never =
    absurd (never (inl (OfRelay (string_bytes c.in-Some-Relay.host) (rw (c.in-Some-Relay.is, c.in-Some-Relay.field-0-is) at c.in_ok-command.ensures.names))))

pub returns-in-Some-Relay-clause-undialled : goal.returns-in-Some-Relay-clause-undialled
returns-in-Some-Relay-clause-undialled g c never =
    absurd (never (string_bytes c.in-Some-Relay.host) (rw (c.in-Some-Relay.is, c.in-Some-Relay.field-0-is) at c.in_ok-command.ensures.names))

pub returns-in_err-command-clause-statuses : goal.returns-in_err-command-clause-statuses
returns-in_err-command-clause-statuses g c =
    let failed = err_from_is_err_and c.from_residual.result c.from_residual.ensures.1 in
    rw (failed.1, failed.2) (unread_words c.args.words.now)

pub returns-in-Some-Standalone-clause-statuses : goal.returns-in-Some-Standalone-clause-statuses
returns-in-Some-Standalone-clause-statuses g c =
    standalone_words c.args.words.now c.in-Some-Standalone.command _ _ _ (rw (c.in-Some-Standalone.is, c.in-Some-Standalone.field-0-is) at c.in_ok-command.ensures.names) c.run_standalone.ensures.runs

pub returns-in-Some-Session-clause-statuses : goal.returns-in-Some-Session-clause-statuses
returns-in-Some-Session-clause-statuses g c =
    session_words (protocol_for c.in-Some-Session.role) _ c.args.words.now c.in-Some-Session.role LIMITS _ _ _ _ _
    (rw (c.in-Some-Session.is, c.in-Some-Session.field-0-is) at c.in_ok-command.ensures.names) c.run_session.ensures.runs

pub returns-in-Some-Account-clause-statuses : goal.returns-in-Some-Account-clause-statuses
returns-in-Some-Account-clause-statuses g c =
    account_words _ _ c.args.words.now c.in-Some-Account.address c.in-Some-Account.password _ _ _ _ _
    (rw (c.in-Some-Account.is, c.in-Some-Account.field-0-is) at c.in_ok-command.ensures.names) (c.run_account.ensures.runs oracles_given.0.path_of oracles_given.1.paths)

pub returns-in-Some-Domain-clause-statuses : goal.returns-in-Some-Domain-clause-statuses
returns-in-Some-Domain-clause-statuses g c =
    domain_words _ _ c.args.words.now (string_bytes c.in-Some-Domain.name) _ _ _ _ _
    (rw (c.in-Some-Domain.is, c.in-Some-Domain.field-0-is) at c.in_ok-command.ensures.names) c.run_domain.ensures.runs

pub returns-in-Some-Relay-clause-statuses : goal.returns-in-Some-Relay-clause-statuses
returns-in-Some-Relay-clause-statuses g c =
    relay_words c.args.words.now LIMITS _ _ _ _ (rw (c.in-Some-Relay.is, c.in-Some-Relay.field-0-is) at c.in_ok-command.ensures.names)
    (rw c.deref-in-Some-Relay.ensures at c.run_relay.ensures.runs)

pub returns-in-None-clause-statuses : goal.returns-in-None-clause-statuses
returns-in-None-clause-statuses g c = no_words c.args.words.now _ _ _ (rw c.in-None.is at c.in_ok-command.ensures.names) c.refuse_words.ensures.refuses
