use Rattle.std.proofs.Common.{◌≡◌, ℕ, ◌-◌, ◌^◌, List, map, min}
use Rattle.std.specs.List.{list_any, sum_by}
use Rattle.std.specs.BTreeSet.{contains_by}
use Rattle.std.specs.Cmp.Lexicographic.{slice_cmp}
use Rattle.std.specs.Ordering.{nat_cmp}
use Rattle.std.specs.Str.{bytes_eq}
use Rattle.smtp_grammar.specs.Commands.{parameter_keyword, parameter_of, are_malformed, is_unknown, is_smtputf8, announced}
use Rattle.smtp_grammar.proofs.command.read_words.Given as goal

abbrev pub invariant-loop-word : goal.invariant-loop-word
invariant-loop-word l = record {
  malformed : l.read.malformed ≡ are_malformed (map (λ x. x.now) l.yielded);
  unknown : l.read.unknown ≡ list_any (λ word. is_unknown (parameter_of word)) (map (λ x. x.now) l.yielded);
  smtputf8 : l.read.smtputf8 ≡ list_any (λ word. is_smtputf8 (parameter_of word)) (map (λ x. x.now) l.yielded);
  size : l.read.size ≡ min (sum_by (λ word. announced (parameter_of word)) (map (λ x. x.now) l.yielded)) (2 ^ 64 - 1);
  keywords : (q : List ℕ) → contains_by (λ key. slice_cmp nat_cmp q key.items) l.keywords ≡ list_any (λ word. bytes_eq q (parameter_keyword word)) (map (λ x. x.now) l.yielded);
}
