use Rattle.std.proofs.Common.{rules, ◌≡◌, map}
use Rattle.setup_command.proofs.FormLemmas.{no_account, no_account_by_input}
use Rattle.setup_command.proofs.word_forms.read_account.Goals as goal

pub returns-in_default-clause-none : goal.returns-in_default-clause-none
returns-in_default-clause-none c =
    let listed : map (λ s. s.now) c.deref-2.result.now ≡ c.args.words.now = search rules in
    no_account _ c.in_ok-text.field-0 c.args.words.now (map (λ s. s.now) c.deref-2.result.now) listed c.in_default.is c.in_ok-text.ensures.none

pub returns-in_default-clause-none_by_input : goal.returns-in_default-clause-none_by_input
returns-in_default-clause-none_by_input c =
    let listed : map (λ s. s.now) c.deref-2.result.now ≡ c.args.words.now = search rules in
    no_account_by_input _ c.in_ok-text.field-0 c.args.words.now (map (λ s. s.now) c.deref-2.result.now) listed c.in_default.is c.in_ok-text.ensures.none
