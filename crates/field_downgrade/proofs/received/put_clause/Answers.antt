use Rattle.std.proofs.Common.{Some, None, sym, ◌∙◌, append-nil}
use Rattle.std.proofs.lemmas.Result.{on_ok_weaker}
use Rattle.field_downgrade.proofs.ReceivedLemmas.{read_writable}
use Rattle.field_downgrade.proofs.ReceivedRewriting.{said_utf8, clause_put}
use Rattle.field_downgrade.proofs.received.put_clause.Goals.{in-Some+in_ok-put_word, in_default}
use Rattle.field_downgrade.proofs.received.put_clause.Goals as goal

pub served_text-requires : goal.served_text-requires
served_text-requires c = said_utf8 _ _ c.requires c.in_ok-said.ensures

pub write_comments-requires : goal.write_comments-requires
write_comments-requires c = read_writable _ c.requires

pub returns : goal.returns
returns c = elim c.match-branch-3.branch [
  | in-Some+in_ok-put_word w ↦ on_ok_weaker c.write_comments.result
      (λ r. clause_put _ _ c.in_ok-said.said (Some w.in-Some.served) _ _ _ c.in_ok-said.ensures (sym w.in-Some.is ∙ c.in_ok-served.ensures) (rw (w.made-is) (rw (w.as_slice.ensures) at w.in_ok-put_word.ensures)) r) c.write_comments.ensures
  | in_default w ↦ on_ok_weaker c.write_comments.result
      (λ r. clause_put _ _ c.in_ok-said.said None _ _ _ c.in_ok-said.ensures (sym w.in_default.is ∙ c.in_ok-served.ensures) (rw (w.made-is) (sym (append-nil c.args.made.now))) r) c.write_comments.ensures
]
