use Rattle.imap_grammar.proofs.UidSteps.{name_is, name_is_any}
use Rattle.imap_grammar.proofs.commands.after_name.Goals as goal

pub returns-in-Capability-clause-reads : goal.returns-in-Capability-clause-reads
returns-in-Capability-clause-reads c = name_is_any c.args.utf8 c.args.text.now _ c.in-Capability.is c.bare.ensures.reads

pub returns-in-Noop-clause-reads : goal.returns-in-Noop-clause-reads
returns-in-Noop-clause-reads c = name_is_any c.args.utf8 c.args.text.now _ c.in-Noop.is c.bare-in-Noop.ensures.reads

pub returns-in-Check-clause-reads : goal.returns-in-Check-clause-reads
returns-in-Check-clause-reads c = name_is_any c.args.utf8 c.args.text.now _ c.in-Check.is c.bare-in-Check.ensures.reads

pub returns-in-Logout-clause-reads : goal.returns-in-Logout-clause-reads
returns-in-Logout-clause-reads c = name_is_any c.args.utf8 c.args.text.now _ c.in-Logout.is c.bare-in-Logout.ensures.reads

pub returns-in-Login-clause-reads : goal.returns-in-Login-clause-reads
returns-in-Login-clause-reads c = name_is c.args.utf8 c.args.text.now _ c.in-Login.is c.login.ensures.reads

pub returns-in-Enable-clause-reads : goal.returns-in-Enable-clause-reads
returns-in-Enable-clause-reads c = name_is_any c.args.utf8 c.args.text.now _ c.in-Enable.is c.enable.ensures.reads

pub returns-in-Select-clause-reads : goal.returns-in-Select-clause-reads
returns-in-Select-clause-reads c = name_is c.args.utf8 c.args.text.now _ c.in-Select.is c.with_mailbox.ensures.reads

pub returns-in-Examine-clause-reads : goal.returns-in-Examine-clause-reads
returns-in-Examine-clause-reads c = name_is c.args.utf8 c.args.text.now _ c.in-Examine.is c.with_mailbox-in-Examine.ensures.reads

pub returns-in-Create-clause-reads : goal.returns-in-Create-clause-reads
returns-in-Create-clause-reads c = name_is c.args.utf8 c.args.text.now _ c.in-Create.is c.with_mailbox-in-Create.ensures.reads

pub returns-in-List-clause-reads : goal.returns-in-List-clause-reads
returns-in-List-clause-reads c = name_is c.args.utf8 c.args.text.now _ c.in-List.is c.list.ensures.reads

pub returns-in-Status-clause-reads : goal.returns-in-Status-clause-reads
returns-in-Status-clause-reads c = name_is c.args.utf8 c.args.text.now _ c.in-Status.is c.status.ensures.reads

pub returns-in-Append-clause-reads : goal.returns-in-Append-clause-reads
returns-in-Append-clause-reads c = name_is c.args.utf8 c.args.text.now _ c.in-Append.is c.append.ensures.reads

pub returns-in-Fetch-clause-reads : goal.returns-in-Fetch-clause-reads
returns-in-Fetch-clause-reads c = name_is c.args.utf8 c.args.text.now _ c.in-Fetch.is c.fetch.ensures.reads

pub returns-in-Store-clause-reads : goal.returns-in-Store-clause-reads
returns-in-Store-clause-reads c = name_is_any c.args.utf8 c.args.text.now _ c.in-Store.is c.store.ensures.reads

pub returns-in-Uid-clause-reads : goal.returns-in-Uid-clause-reads
returns-in-Uid-clause-reads c = name_is c.args.utf8 c.args.text.now _ c.in-Uid.is c.uid.ensures.reads

pub returns-in-Expunge-clause-reads : goal.returns-in-Expunge-clause-reads
returns-in-Expunge-clause-reads c = name_is_any c.args.utf8 c.args.text.now _ c.in-Expunge.is c.bare-in-Expunge.ensures.reads

pub returns-in-Close-clause-reads : goal.returns-in-Close-clause-reads
returns-in-Close-clause-reads c = name_is_any c.args.utf8 c.args.text.now _ c.in-Close.is c.bare-in-Close.ensures.reads

pub returns-in-NotHere-clause-reads : goal.returns-in-NotHere-clause-reads
returns-in-NotHere-clause-reads c = name_is_any c.args.utf8 c.args.text.now _ c.in-NotHere.is c.not_here.ensures.reads
