use Rattle.std.proofs.Common.{◌≡◌, length, drop, ap, ◌∙◌}
use Rattle.std.proofs.lemmas.List.{take_rest}
use Rattle.imap_mailboxes.specs.Patterns.{is_match}
use Rattle.imap_mailboxes.specs.private.Runs.{plain_runs, after_wildcards}
use Rattle.imap_mailboxes.proofs.PatternLemmas.{too_long}
use Rattle.imap_mailboxes.proofs.CutLemmas.{whole_missing, whole_ends, whole_goes_on}
use Rattle.imap_mailboxes.proofs.patterns.Pattern.matches.Goals as goal

pub returns-then-name-self : goal.returns-then-name-self
returns-then-name-self c = too_long c.self.inside.octets c.args.name.now c.self.inside.plain c.self.invariant.so_many c.if-name-self.true ∙ ap (λ o. is_match o c.args.name.now) c.self.view_is

pub returns-in_default : goal.returns-in_default
returns-in_default c =
    let i = c.self.inside in
    let differs = rw c.as_slice-octets.ensures at c.in_default.ensures.cases in
    whole_missing i.octets c.args.name.now i.plain i.first i.runs.items i.last c.self.invariant differs ∙ ap (λ o. is_match o c.args.name.now) c.self.view_is

pub returns-then-self-octets : goal.returns-then-self-octets
returns-then-self-octets c =
    let i = c.self.inside in
    let front = rw c.as_slice-octets.ensures at c.in-Some.ensures.cases in
    c.is_empty.ensures
    ∙ (whole_ends i.octets c.args.name.now c.in-Some.rest.now i.plain i.first i.runs.items i.last c.self.invariant front.0 front.1 (c.if-self-octets.true ∙ ap length c.as_slice-octets.ensures)
    ∙ ap (λ o. is_match o c.args.name.now) c.self.view_is)

pub returns : goal.returns
returns c =
    let i = c.self.inside in
    let front = rw c.as_slice-octets.ensures at c.in-Some.ensures.cases in
    let before = rw c.as_slice-octets.ensures at c.if-self-octets.false in
    let is : c.has_runs.result ≡ is_match (after_wildcards (plain_runs i.octets i.runs.items) (drop i.last i.octets)) c.in-Some.rest.now =
    rw (c.as_slice-octets.ensures, c.deref.ensures.value, take_rest i.octets i.last) at c.has_runs.ensures in
    is ∙ (whole_goes_on i.octets c.args.name.now c.in-Some.rest.now i.plain i.first i.runs.items i.last c.self.invariant front.0 front.1 before
    ∙ ap (λ o. is_match o c.args.name.now) c.self.view_is)
