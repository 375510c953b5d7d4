use Rattle.std.proofs.Common.{◌∙◌, ◌==◌, rules, tests}
use Rattle.std.proofs.lemmas.Iterator.Consumers.{YieldsList-at, YieldsList-from_filter, count_from_yields_List}
use Rattle.std.proofs.lemmas.Iterator.Splits.{YieldsList-from_slice_split}
use Rattle.std.proofs.lemmas.List.Sums.{length-filter}
use Rattle.mail_wire.specs.Octets.{same_name}
use Rattle.dsn_terms.specs.RecipientTerms.{comma_words}
use Rattle.dsn_terms.proofs.recipient_terms.times.Goals as goal

pub returns : goal.returns
returns c =
    count_from_yields_List c.filter.result c.count.result c.count.ensures.ran
    (YieldsList-from_filter _ (λ word. same_name word c.args.name.now)
    (YieldsList-at c.filter.ensures.source
    (YieldsList-from_slice_split _ (λ x. x == 44) c.args.value.now c.split.ensures.rest c.split.ensures.done c.split.ensures.closure (λ x r q k. search (rules, tests))))
    c.filter.ensures.closure (λ x b q k. search (rules, tests)))
    ∙ length-filter (λ word. same_name word c.args.name.now) (comma_words c.args.value.now)
