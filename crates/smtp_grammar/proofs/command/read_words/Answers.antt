use Rattle.std.proofs.Common.{◌≡◌, ℕ, ◌∷◌, ◌==◌, ◌-◌, ◌^◌, [], List, not, length, map, min, ap, ◌∙◌, rules, tests, Bor}
use Rattle.std.specs.List.{list_any, sum_by}
use Rattle.std.specs.Str.{bytes_eq}
use Rattle.std.specs.Char.{to_ascii_lowercase}
use Rattle.std.proofs.lemmas.List.{map-append}
use Rattle.std.proofs.lemmas.Iterator.Consumers.{YieldsList-at, YieldsList-from_filter}
use Rattle.std.proofs.lemmas.Iterator.Splits.{YieldsList-from_slice_split}
use Rattle.mail_wire.specs.Octets.{is_white}
use Rattle.smtp_grammar.specs.Commands.{white_words, parameter_keyword, parameter_of, is_malformed, are_malformed, is_unknown, is_smtputf8, announced}
use Rattle.smtp_grammar.proofs.ParameterLemmas.{flag-turn, size-turn, malformed-turn, keywords-turn, all-yielded}
use Rattle.smtp_grammar.proofs.command.read_words.Goals as goal

pub returns : goal.returns
returns c =
    let all : map (λ x. x.now) c.loop-word.yielded ≡ white_words c.args.rest.now =
    all-yielded c.loop-word.yielded _ c.loop-word.yielded_by _ _ c.in-None.is c.next.ensures.steps
    (YieldsList-at c.into_iter-word-iterator.ensures.into_iter_gives
    (YieldsList-from_filter _ (λ word. not (length word == 0))
    (YieldsList-at c.filter-words.ensures.source
    (YieldsList-from_slice_split _ is_white c.args.rest.now c.split.ensures.rest c.split.ensures.done c.split.ensures.closure (λ x r q k. search (rules, tests))))
    c.filter-words.ensures.closure (λ x b q k. search (rules, tests)))) in
    record {
      malformed = c.loop-word.invariant.malformed ∙ ap are_malformed all;
      unknown = c.loop-word.invariant.unknown ∙ ap (list_any (λ word. is_unknown (parameter_of word))) all;
      smtputf8 = c.loop-word.invariant.smtputf8 ∙ ap (list_any (λ word. is_smtputf8 (parameter_of word))) all;
      size = c.loop-word.invariant.size ∙ ap (λ (words : List (List ℕ)). min (sum_by (λ word. announced (parameter_of word)) words) (2 ^ 64 - 1)) all;
    }

pub loop-word-preserved : goal.loop-word-preserved
loop-word-preserved c =
    let more = map-append (λ (x : Bor (List ℕ)). x.now) c.loop-word.yielded (c.in-Some.word ∷ []) in
    let key : c.in_ok-keyword.keyword.items ≡ parameter_keyword c.in-Some.word.now = c.in_ok-keyword.ensures.ok ∙ ap (map to_ascii_lowercase) c.keyword_of.ensures in
    let known = c.loop-word.invariant.keywords c.in_ok-keyword.keyword.items ∙ ap (λ (k : List ℕ). list_any (λ word. bytes_eq k (parameter_keyword word)) (map (λ (x : Bor (List ℕ)). x.now) c.loop-word.yielded)) key in
    record {
      malformed = malformed-turn _ c.in-Some.word.now _ _ _ _ _ more c.add.ensures.malformed c.loop-word.invariant.malformed (ap is_malformed c.read_parameter.ensures) (c.in_ok-is_new.ensures.added ∙ ap not known);
      unknown = flag-turn _ _ c.in-Some.word.now _ _ _ _ more c.add.ensures.unknown c.loop-word.invariant.unknown (ap is_unknown c.read_parameter.ensures);
      smtputf8 = flag-turn _ _ c.in-Some.word.now _ _ _ _ more c.add.ensures.smtputf8 c.loop-word.invariant.smtputf8 (ap is_smtputf8 c.read_parameter.ensures);
      size = size-turn _ _ c.in-Some.word.now _ _ _ _ _ more c.add.ensures.size c.loop-word.invariant.size (ap announced c.read_parameter.ensures);
      keywords = keywords-turn _ c.in-Some.word.now _ _ _ _ more key c.in_ok-is_new.ensures.keys c.loop-word.invariant.keywords;
    }
