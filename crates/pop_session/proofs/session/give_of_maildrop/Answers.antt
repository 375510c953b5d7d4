use Rattle.std.proofs.Common.{◌≡◌, rules, string_bytes}
use Rattle.std.proofs.lemmas.Result.{IfOk-weaker}
use Rattle.pop_session.specs.declared.command.Keyword.TheVariants as keyword
use Rattle.pop_session.proofs.AskLemmas.{asks_nothing, text_keeps, text_told}
use Rattle.pop_session.proofs.session.give_of_maildrop.Goals as goal

pub returns-in-Stat-clause-replies : goal.returns-in-Stat-clause-replies
returns-in-Stat-clause-replies g c = rw c.in-Stat.is
    (λ oracles are. text_told string_bytes c.args.outside.now c.stat.new.outside c.give_text.new.outside c.stat.result c.give_text.result _ _ c.stat.ensures.asks
    (IfOk-weaker c.stat.result _ _ (λ text is. is oracles are) c.stat.ensures.text) c.give_text.ensures.told c.give_text.ensures.none)

pub returns-in-Stat-clause-keeps : goal.returns-in-Stat-clause-keeps
returns-in-Stat-clause-keeps g c =
    text_keeps c.args.outside.now c.stat.new.outside c.give_text.new.outside c.stat.result c.give_text.result c.stat.ensures.keeps c.give_text.ensures.keeps c.give_text.ensures.none

pub returns-in-List-clause-replies : goal.returns-in-List-clause-replies
returns-in-List-clause-replies g c = rw c.in-List.is
    (λ oracles are. text_told string_bytes c.args.outside.now c.list.new.outside c.give_text-in-List.new.outside c.list.result c.give_text-in-List.result _ _ c.list.ensures.asks
    (IfOk-weaker c.list.result _ _ (λ text is. is oracles are) c.list.ensures.text) c.give_text-in-List.ensures.told c.give_text-in-List.ensures.none)

pub returns-in-List-clause-keeps : goal.returns-in-List-clause-keeps
returns-in-List-clause-keeps g c =
    text_keeps c.args.outside.now c.list.new.outside c.give_text-in-List.new.outside c.list.result c.give_text-in-List.result c.list.ensures.keeps c.give_text-in-List.ensures.keeps c.give_text-in-List.ensures.none

pub returns-in_default-clause-replies : goal.returns-in_default-clause-replies
returns-in_default-clause-replies g c =
    let word : c.args.keyword ≡ keyword.Uidl = search rules in
    rw word
    (λ oracles are. text_told string_bytes c.args.outside.now c.args.outside.now c.give_text-in_default.new.outside c.uidl.result c.give_text-in_default.result _ _ (asks_nothing c.args.outside.now c.uidl.result)
    (IfOk-weaker c.uidl.result _ _ (λ text is. is oracles) c.uidl.ensures) c.give_text-in_default.ensures.told c.give_text-in_default.ensures.none)
