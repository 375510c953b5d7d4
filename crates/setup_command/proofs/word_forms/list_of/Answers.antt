use Rattle.std.proofs.Common.{rules, ◌≡◌, length, arith, Some}
use Rattle.std.specs.List.{slice_get}
use Rattle.std.proofs.lemmas.Option.{slice_get_within}
use Rattle.setup_command.proofs.ListLemmas.{next_length, next_words, all_words}
use Rattle.setup_command.proofs.word_forms.list_of.Goals as goal

pub loop-word-smaller : goal.loop-word-smaller
loop-word-smaller c =
    let longer = next_length c.loop-word.list.items c.push.new.self.items c.in-Some.word c.in_ok-push.ensures.items in
    let at : slice_get c.args.words.now (length c.loop-word.list.items) ≡ Some c.in-Some.word.now = search rules in
    let within = slice_get_within c.args.words.now (length c.loop-word.list.items) c.in-Some.word.now at in
    omega (arith, longer, within)

pub loop-word-preserved : goal.loop-word-preserved
loop-word-preserved c =
    let longer = next_length c.loop-word.list.items c.push.new.self.items c.in-Some.word c.in_ok-push.ensures.items in
    let at : slice_get c.args.words.now (length c.loop-word.list.items) ≡ Some c.in-Some.word.now = search rules in
    let within = slice_get_within c.args.words.now (length c.loop-word.list.items) c.in-Some.word.now at in
    record {
      same = next_words c.loop-word.list.items c.push.new.self.items c.args.words.now c.in-Some.word c.loop-word.invariant.same at c.in_ok-push.ensures.items;
      within = omega (arith, longer, within);
    }

pub returns : goal.returns
returns c =
    let all = c.get.ensures.none.0 (search rules) in
    all_words c.loop-word.list.items c.args.words.now c.loop-word.invariant.same (omega (arith, all, c.len.ensures))
