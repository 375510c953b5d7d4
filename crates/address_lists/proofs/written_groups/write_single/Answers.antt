use Rattle.std.proofs.Common.{sym, ◌∙◌}
use Rattle.std.proofs.lemmas.Result.{on_ok_weaker}
use Rattle.address_grammar.specs.Found.{found_value}
use Rattle.address_lists.proofs.KeptGroups.{member_blank, ascii_member, other_member}
use Rattle.address_lists.proofs.written_groups.write_single.Goals as goal

pub write_text-requires : goal.write_text-requires
write_text-requires c = member_blank _ (found_value c.args.mailbox.now c.requires.mailbox.0) c.requires.mailbox.1

pub returns-then-are_ascii : goal.returns-then-are_ascii
returns-then-are_ascii c = on_ok_weaker c.write_text.result
    (λ a. ascii_member _ (found_value c.args.mailbox.now c.requires.mailbox.0) _ _ c.requires.mailbox.1 (sym c.are_ascii.ensures ∙ c.if-are_ascii.true) a) c.write_text.ensures

pub returns : goal.returns
returns c = on_ok_weaker c.write_mailbox.result
    (λ a. other_member _ (found_value c.args.mailbox.now c.requires.mailbox.0) _ _ c.requires.mailbox.1 (sym c.are_ascii.ensures ∙ c.if-are_ascii.false) a) c.write_mailbox.ensures
