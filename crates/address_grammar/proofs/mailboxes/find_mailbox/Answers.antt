use Rattle.std.proofs.Common.{sym, [], inl, inr, ◌∙◌}
use Rattle.std.proofs.lemmas.Result.{IfOk-weaker}
use Rattle.address_grammar.proofs.MailboxLemmas.{angled_opens, named_angles, named_parts, only_bare, only_named}
use Rattle.address_grammar.proofs.mailboxes.find_mailbox.Goals as goal

pub returns-then-lacks_mark-clause-ok : goal.returns-then-lacks_mark-clause-ok
returns-then-lacks_mark-clause-ok c = IfOk-weaker c.find_bare.result _ _ (λ m is. ([], inl is)) c.find_bare.ensures.ok

pub returns-then-lacks_mark-clause-malformed : goal.returns-then-lacks_mark-clause-malformed
returns-then-lacks_mark-clause-malformed c = λ e m is. c.find_bare.ensures.malformed e m (only_bare _ m (sym c.lacks_mark.ensures ∙ c.if-lacks_mark.true) is)

pub returns-clause-malformed : goal.returns-clause-malformed
returns-clause-malformed c = λ _ m is.
    let named = only_named _ m (sym c.lacks_mark.ensures ∙ c.if-lacks_mark.false) is in
    c.in_default.ensures.none named.before named.inner (named_angles _ m named)

pub returns-in-Some-clause-ok : goal.returns-in-Some-clause-ok
returns-in-Some-clause-ok c = IfOk-weaker c.find_named.result _ _
    (λ m is. (is.0, inr (record { before = _; inner = _; angled = c.in-Some.ensures.found.angled; named = is.1 }))) c.find_named.ensures.ok

pub returns-in-Some-clause-malformed : goal.returns-in-Some-clause-malformed
returns-in-Some-clause-malformed c = λ e m is.
    c.find_named.ensures.malformed e m (named_parts _ _ _ m c.in-Some.ensures.found (only_named _ m (angled_opens _ _ _ c.in-Some.ensures.found) is))
