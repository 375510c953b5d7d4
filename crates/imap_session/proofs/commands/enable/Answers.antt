use Rattle.std.proofs.Common.{◌≡◌, ◌∙◌, ◌⊎◌, Some, [], ◌∷◌, codes, false, inl, inr, refl, sym, true}
use Rattle.std.proofs.lemmas.Result.{err_from_is_err_and}
use Rattle.surrogate_cache.specs.Served.{enabled, is_enabled}
use Rattle.imap_session.specs.Machine.{answers, asks_utf8, authenticated, done, untagged}
use Rattle.imap_session.proofs.CommandLemmas.{enable-again, enable-first}
use Rattle.imap_session.proofs.StepLemmas.{Takes-fault, Takes-same, answers_given}
use Rattle.imap_session.proofs.commands.enable.Goals.{then-enabled-via-then-enabled, then-enabled-via-else-enabled+then-not-asks_utf8}
use Rattle.imap_session.proofs.commands.enable.Goals as goal

pub returns-in_err-answer_text-clause-takes : goal.returns-in_err-answer_text-clause-takes
returns-in_err-answer_text-clause-takes g c =
    let failed = err_from_is_err_and c.from_residual.result c.from_residual.ensures.1 in
    let none : (is_enabled g.V.View.mode ≡ true) ⊎ (asks_utf8 c.args.words.now ≡ false) = elim c.then-enabled.branch [
      | then-enabled-via-then-enabled w ↦ inl (sym c.enabled.ensures ∙ w.if-enabled.true)
      | then-enabled-via-else-enabled+then-not-asks_utf8 w ↦ inr (sym w.asks_utf8.ensures ∙ w.if-not-asks_utf8.true)
    ] in
    let met = c.in_err-answer_text.field-0.0 in
    let state = authenticated g.V.View.mode c.args.imap.state.account in
    let parts = untagged (codes "ENABLED") ∷ [] in
    let taken = answers c.args.tag.now done parts state in
    rw (failed.1, failed.2) (Takes-same c.args.outside.now c.answer_text.new.outside _ (λ oracles. taken) _
    (λ oracles are. enable-again c.args.tag.now g.V.View.mode c.args.imap.state.account (asks_utf8 c.args.words.now) none)
    (Takes-fault c.args.outside.now c.answer_text.new.outside met (λ oracles. taken)
    (λ oracles are. answers_given oracles c.args.outside.now c.answer_text.new.outside (Some met) c.args.tag.now done parts state _ refl c.in_err-answer_text.ensures.replies)))

pub returns-in_err-answer_text-2-clause-takes : goal.returns-in_err-answer_text-2-clause-takes
returns-in_err-answer_text-2-clause-takes g c =
    let failed = err_from_is_err_and c.from_residual-in_err-answer_text-2.result c.from_residual-in_err-answer_text-2.ensures.1 in
    let off = sym c.enabled.ensures ∙ c.if-enabled.false in
    let on = sym c.asks_utf8.ensures ∙ c.if-not-asks_utf8.false in
    let met = c.in_err-answer_text-2.field-0.0 in
    let state = authenticated enabled c.args.imap.state.account in
    let parts = untagged (codes "ENABLED UTF8=ACCEPT") ∷ [] in
    let taken = answers c.args.tag.now done parts state in
    rw (failed.1, failed.2) (Takes-same c.args.outside.now c.answer_text-2.new.outside _ (λ oracles. taken) _
    (λ oracles are. enable-first c.args.tag.now g.V.View.mode c.args.imap.state.account (asks_utf8 c.args.words.now) off on)
    (Takes-fault c.args.outside.now c.answer_text-2.new.outside met (λ oracles. taken)
    (λ oracles are. answers_given oracles c.args.outside.now c.answer_text-2.new.outside (Some met) c.args.tag.now done parts state _ refl c.in_err-answer_text-2.ensures.replies)))
