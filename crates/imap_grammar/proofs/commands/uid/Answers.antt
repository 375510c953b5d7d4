use Rattle.imap_words.specs.Reading.{never}
use Rattle.imap_words.proofs.Going.{begins, ends_at, passes_on, never_avoids}
use Rattle.imap_words.proofs.Leaving.{leaves_all, leaves_then, here}
use Rattle.imap_grammar.specs.Commands.{IsUid}
use Rattle.imap_grammar.proofs.CommandSteps.{hands_on, hands_any}
use Rattle.imap_grammar.proofs.UidSteps.{after_uid_viable, uid_viable, uid_is}
use Rattle.imap_grammar.proofs.commands.uid.Goals as goal

pub returns-in_err-after_space-clause-reads : goal.returns-in_err-after_space-clause-reads
returns-in_err-after_space-clause-reads c =
    passes_on _ _ c.from_residual.result _ c.from_residual.ensures.1 (ends_at never never _ (begins (IsUid c.args.utf8) c.args.text.now) c.in_err-after_space.ensures (λ _. never_avoids _) (λ _. uid_viable c.args.utf8))

pub returns-in_err-name-clause-reads : goal.returns-in_err-name-clause-reads
returns-in_err-name-clause-reads c =
    let at = leaves_then (leaves_all (IsUid c.args.utf8) c.args.text.now) c.in_ok-after_space.ensures (λ _. never_avoids _) in
    passes_on _ _ c.from_residual-in_err-name.result _ c.from_residual-in_err-name.ensures.1 (ends_at never never _ (here at) c.in_err-name.ensures (λ _. never_avoids _) (after_uid_viable c.args.utf8))

pub returns-in-Fetch-clause-reads : goal.returns-in-Fetch-clause-reads
returns-in-Fetch-clause-reads c =
    let at = leaves_then (leaves_all (IsUid c.args.utf8) c.args.text.now) c.in_ok-after_space.ensures (λ _. never_avoids _) in
    hands_on c.args.utf8 _ (uid_is c.args.utf8 c.in-Fetch.is (leaves_then at c.in_ok-name.ensures (λ _. never_avoids _))) c.fetch.ensures.reads

pub returns-in-Store-clause-reads : goal.returns-in-Store-clause-reads
returns-in-Store-clause-reads c =
    let at = leaves_then (leaves_all (IsUid c.args.utf8) c.args.text.now) c.in_ok-after_space.ensures (λ _. never_avoids _) in
    hands_any c.args.utf8 _ (uid_is c.args.utf8 c.in-Store.is (leaves_then at c.in_ok-name.ensures (λ _. never_avoids _))) c.store.ensures.reads

pub returns-in-NotHere-clause-reads : goal.returns-in-NotHere-clause-reads
returns-in-NotHere-clause-reads c =
    let at = leaves_then (leaves_all (IsUid c.args.utf8) c.args.text.now) c.in_ok-after_space.ensures (λ _. never_avoids _) in
    hands_any c.args.utf8 _ (uid_is c.args.utf8 c.in-NotHere.is (leaves_then at c.in_ok-name.ensures (λ _. never_avoids _))) c.not_here.ensures.reads
