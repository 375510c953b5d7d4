use Rattle.std.proofs.Common.{◌≡◌, rules, string_bytes}
use Rattle.std.proofs.lemmas.Result.{IfOk-weaker}
use Rattle.session_core.specs.Keeps.{fault_of}
use Rattle.pop_session.specs.declared.command.Keyword.TheVariants as keyword
use Rattle.pop_session.proofs.AskLemmas.{asks_nothing, text_keeps, text_told}
use Rattle.pop_session.proofs.RowLemmas.{one_missing, one_unread}
use Rattle.pop_session.proofs.session.give_of_message.Goals as goal

pub returns-in-NotNumber-clause-replies : goal.returns-in-NotNumber-clause-replies
returns-in-NotNumber-clause-replies g c = λ oracles are.
    one_unread oracles g.V.View.mode c.args.maildrop.now c.args.outside.now c.give.new.self (fault_of c.give.result) c.args.keyword c.args.text.now c.requires.keyword c.in-NotNumber.ensures.asked
    c.give.ensures.replies

pub returns-in-NoSuch-clause-replies : goal.returns-in-NoSuch-clause-replies
returns-in-NoSuch-clause-replies g c = λ oracles are.
    one_missing oracles g.V.View.mode c.args.maildrop.now c.args.outside.now c.give-in-NoSuch.new.self (fault_of c.give-in-NoSuch.result) c.args.keyword c.args.text.now _ c.requires.keyword
    c.in-NoSuch.ensures.asked.1 c.in-NoSuch.ensures.asked.2 c.give-in-NoSuch.ensures.replies

pub returns-in-Retr-clause-replies : goal.returns-in-Retr-clause-replies
returns-in-Retr-clause-replies g c = rw (c.in-Retr.is, c.in-Found.ensures.asked.0, c.in-Found.ensures.asked.1) c.retr.ensures.replies

pub returns-in-Uidl-clause-replies : goal.returns-in-Uidl-clause-replies
returns-in-Uidl-clause-replies g c = rw (c.in-Uidl.is, c.in-Found.ensures.asked.0, c.in-Found.ensures.asked.1)
    (λ oracles are. text_told string_bytes c.args.outside.now c.args.outside.now c.give_text.new.outside c.uidl_one.result c.give_text.result _ _ (asks_nothing c.args.outside.now c.uidl_one.result)
    (IfOk-weaker c.uidl_one.result _ _ (λ text is. is oracles) c.uidl_one.ensures) c.give_text.ensures.told c.give_text.ensures.none)

pub returns-in_default-clause-replies : goal.returns-in_default-clause-replies
returns-in_default-clause-replies g c =
    let word : c.args.keyword ≡ keyword.List = search rules in
    rw (word, c.in-Found.ensures.asked.0, c.in-Found.ensures.asked.1)
    (λ oracles are. text_told string_bytes c.args.outside.now c.list_one.new.outside c.give_text-in_default.new.outside c.list_one.result c.give_text-in_default.result _ _ c.list_one.ensures.asks
    (IfOk-weaker c.list_one.result _ _ (λ text is. is oracles are) c.list_one.ensures.text) c.give_text-in_default.ensures.told c.give_text-in_default.ensures.none)

pub returns-in_default-clause-keeps : goal.returns-in_default-clause-keeps
returns-in_default-clause-keeps g c =
    text_keeps c.args.outside.now c.list_one.new.outside c.give_text-in_default.new.outside c.list_one.result c.give_text-in_default.result c.list_one.ensures.keeps c.give_text-in_default.ensures.keeps
    c.give_text-in_default.ensures.none
