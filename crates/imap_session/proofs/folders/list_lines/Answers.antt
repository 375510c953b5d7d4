use Rattle.std.proofs.Common.{◌≢◌, ◌++◌, ◌==◌, ◌∙◌, length, sym, subst}
use Rattle.std.specs.Prelude.{IsUtf8}
use Rattle.std.specs.List.{flat_map}
use Rattle.std.proofs.lemmas.Bool.Decides.{Decides-eqb, not_from_Decides}
use Rattle.std.proofs.lemmas.List.Elements.{All-get_or}
use Rattle.imap_session.specs.Machine.{list_line}
use Rattle.imap_session.specs.Replies.{reply_octets}
use Rattle.imap_session.proofs.FolderLemmas.{list_lines-end, list_lines-more, list_lines-whole}
use Rattle.imap_session.proofs.folders.list_lines.Goals as goal

pub push_list_line-requires : goal.push_list_line-requires
push_list_line-requires g c =
    subst IsUtf8 (sym (c.as_slice.ensures ∙ c.name-item.is))
    (All-get_or IsUtf8 c.deref-name-items.result.now c.loop-name.name-index c.name-item.result c.loop-name-test.true (rw c.deref-name-items.ensures.value c.in_ok-names.ensures.utf8))

pub loop-name-preserved : goal.loop-name-preserved
loop-name-preserved g c = λ oracles.
    let mode = g.V.View.mode in
    let pattern = c.args.reference.now ++ c.args.pattern.now in
    let names = c.deref-name-items.result.now in
    list_lines-more oracles mode pattern c.in_ok-whole.whole names c.loop-name.name-index c.name-item.result c.as_slice.result.now c.loop-name.lines c.push_list_line.new.lines
    (reply_octets oracles (flat_map (list_line mode pattern) names)) c.loop-name-test.true c.in_ok-whole.ensures (c.as_slice.ensures ∙ c.name-item.is) (c.in_ok-push_list_line.ensures oracles)
    (c.loop-name.invariant oracles)

pub returns : goal.returns
returns g c = λ oracles.
    let mode = g.V.View.mode in
    let pattern = c.args.reference.now ++ c.args.pattern.now in
    let names = c.deref-name-items.result.now in
    let some : length c.args.pattern.now ≢ 0 = not_from_Decides (length c.args.pattern.now == 0) (Decides-eqb (length c.args.pattern.now) 0) (sym c.is_empty.ensures ∙ c.if-is_empty.false) in
    let told = list_lines-end oracles mode pattern names c.loop-name.name-index c.loop-name.lines (reply_octets oracles (flat_map (list_line mode pattern) names)) c.loop-name-test.false (c.loop-name.invariant oracles) in
    rw (list_lines-whole mode c.args.store.now c.args.account c.args.reference.now c.args.pattern.now some) (rw (c.deref-name-items.ensures.value, c.in_ok-names.ensures.names) at told)
