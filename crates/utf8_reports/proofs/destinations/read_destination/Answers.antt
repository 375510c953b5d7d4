use Rattle.std.proofs.Common.{◌≡◌, rules, sym, ap, option_map, ◌∙◌}
use Rattle.address_grammar.specs.Addresses.{address_text}
use Rattle.address_lists.specs.ListPieces.{served_address}
use Rattle.utf8_reports.proofs.ServedPaths.{shown_address, shown_global, shown_served}
use Rattle.utf8_reports.proofs.destinations.read_destination.Goals as goal

pub returns-in_default-clause-exact : goal.returns-in_default-clause-exact
returns-in_default-clause-exact c global is =
    let shown = shown_address c.args.text.now global is in
    let found = c.in_ok-path.ensures.exact shown.0 shown.1.spells in
    rw c.in_default.is at found

pub returns-in_default-2-clause-exact : goal.returns-in_default-2-clause-exact
returns-in_default-2-clause-exact c global is =
    let shown = shown_address c.args.text.now global is in
    let found = c.in_ok-path.ensures.exact shown.0 shown.1.spells in
    let same = rw c.in-Some.is at found in
    shown_global c.args.text.now global shown.0 shown.1 (sym c.in_default-2.is ∙ (c.in_ok-served.ensures ∙ ap (λ a. option_map address_text (served_address a)) same))

pub returns-then-ne-clause-exact : goal.returns-then-ne-clause-exact
returns-then-ne-clause-exact c global is =
    let shown = shown_address c.args.text.now global is in
    let found = c.in_ok-path.ensures.exact shown.0 shown.1.spells in
    let same = rw c.in-Some.is at found in
    let served = shown_served c.args.text.now c.in-Some-2.served global shown.0 shown.1 (sym c.in-Some-2.is ∙ (c.in_ok-served.ensures ∙ ap (λ a. option_map address_text (served_address a)) same)) in
    let text : c.as_slice.result.now ≡ c.args.text.now = c.as_slice.ensures ∙ served.1 in
    search rules

pub returns-clause-exact : goal.returns-clause-exact
returns-clause-exact c global is =
    let shown = shown_address c.args.text.now global is in
    let found = c.in_ok-path.ensures.exact shown.0 shown.1.spells in
    let same = rw c.in-Some.is at found in
    (shown_served c.args.text.now c.in-Some-2.served global shown.0 shown.1 (sym c.in-Some-2.is ∙ (c.in_ok-served.ensures ∙ ap (λ a. option_map address_text (served_address a)) same))).0
