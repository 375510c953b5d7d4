use Rattle.std.proofs.Common.{sym, ◌∙◌}
use Rattle.imap_words.proofs.Utf7Lemmas.{no_dash_found, dash_found}
use Rattle.imap_words.proofs.utf7.split_run.Goals as goal

pub returns-in_err-at-clause-found : goal.returns-in_err-at-clause-found
returns-in_err-at-clause-found c run following none e = absurd (no_dash_found c.args.text.now run following (sym c.find_dash.ensures ∙ c.in_err-at.was) none e)

pub returns-clause-found : goal.returns-clause-found
returns-clause-found c run following none e = dash_found c.args.text.now run following c.in_ok-at.at (sym c.find_dash.ensures ∙ c.in_ok-at.was) none e
