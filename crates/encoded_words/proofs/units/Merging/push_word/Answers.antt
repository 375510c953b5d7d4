use Rattle.encoded_words.proofs.Reading.{TakesWord-encoded, TakesWord-plain}
use Rattle.encoded_words.proofs.units.Merging.push_word.Goals as goal

pub returns-in_ok-push_unit-in-Some : goal.returns-in_ok-push_unit-in-Some
returns-in_ok-push_unit-in-Some c =
    TakesWord-encoded c.args.self.now c.push_text.new.self _ _ _ _ c.args.after_encoded _
    (rw c.in-Some.is at c.in_ok-unit.ensures.found) c.kept_run.ensures c.in_ok-push_text-in-Some.ensures c.in_ok-push_unit-in-Some.ensures

pub returns-in_ok-push_text-in-None-2 : goal.returns-in_ok-push_text-in-None-2
returns-in_ok-push_text-in-None-2 c =
    TakesWord-plain c.args.self.now c.push_text-in-None.new.self _ _ _ c.args.after_encoded
    (rw c.in-None.is at c.in_ok-unit.ensures.none) c.in_ok-push_text-in-None.ensures c.in_ok-push_text-in-None-2.ensures
