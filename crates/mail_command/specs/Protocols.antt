-- The protocol of each role.
use Rattle.std.specs.Prelude.{ℕ, ◌*◌}
use Rattle.session_core.specs.Protocol.{Protocol}
use Rattle.pop_session.specs.Session.{pop_protocol}
use Rattle.smtp_session.specs.Session.{smtp_protocol}
use Rattle.imap_session.specs.Session.{imap_protocol}
use Rattle.mail_command.specs.declared.roles.Role.{Role}
use Rattle.mail_command.specs.declared.roles.Role.TheVariants.{Pop, Smtp, Imap}

-- The protocol that a server of this role speaks.
abbrev pub protocol_for : Role → Protocol
protocol_for Pop = pop_protocol
protocol_for Smtp = smtp_protocol
protocol_for Imap = imap_protocol

-- how many seconds a server waits for a client that says nothing: the least that the protocol's standard has a server wait
-- (RFC 1939, 3: at least 10 minutes; RFC 5321, 4.5.3.2.7: at least 5 minutes; RFC 3501, 5.4: at least 30 minutes)
abbrev pub patience_of : Role → ℕ
patience_of Pop = 10 * 60
patience_of Smtp = 5 * 60
patience_of Imap = 30 * 60
