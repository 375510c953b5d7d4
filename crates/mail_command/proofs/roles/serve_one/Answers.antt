use Rattle.pop_session.specs.Session.{pop_protocol}
use Rattle.smtp_session.specs.Session.{smtp_protocol}
use Rattle.imap_session.specs.Session.{imap_protocol}
use Rattle.mail_command.proofs.CauseLemmas.{complete_session}
use Rattle.mail_command.proofs.roles.serve_one.Goals as goal

pub returns-in-Pop-clause-complete : goal.returns-in-Pop-clause-complete
returns-in-Pop-clause-complete g c = complete_session pop_protocol _ _ c.serve_pop.result c.serve_pop.ensures.serves c.serve_pop.ensures.keeps

pub returns-in-Smtp-clause-complete : goal.returns-in-Smtp-clause-complete
returns-in-Smtp-clause-complete g c = complete_session smtp_protocol _ _ c.serve_smtp.result c.serve_smtp.ensures.serves c.serve_smtp.ensures.keeps

pub returns-in-Imap-clause-complete : goal.returns-in-Imap-clause-complete
returns-in-Imap-clause-complete g c = complete_session imap_protocol _ _ c.serve_imap.result c.serve_imap.ensures.serves c.serve_imap.ensures.keeps
