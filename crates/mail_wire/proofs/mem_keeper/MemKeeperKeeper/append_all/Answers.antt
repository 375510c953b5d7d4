use Rattle.std.proofs.Common.{◌≡◌, ◌≤◌, arith, length, ap, ◌∙◌, Bor, List, ℕ}
use Rattle.std.specs.List.{flat_map}
use Rattle.mail_wire.proofs.KeptLemmas.{cut_after}
use Rattle.mail_wire.proofs.mem_keeper.MemKeeperKeeper.append_all.Goals as goal

pub returns-in-Some-failure-clause-octets : goal.returns-in-Some-failure-clause-octets
returns-in-Some-failure-clause-octets c =
    let kept = c.self.inside.octets in
    let same : kept.items ≡ c.args.self.now.octets = ap (λ k. k.octets) c.self.view_is in
    let following : length kept.items ≤ c.saturating_add.result = omega (arith, kept.ok.0, kept.small, c.len-before.ensures, c.saturating_add.ensures) in
    rw (← same)
    (cut_after kept.items (flat_map (λ (part : Bor (List ℕ)). part.now) c.args.parts.now) c.put_all.new.octets.items c.truncate.new.self.items
    c.saturating_add.result c.in_ok-put_all.ensures.ok following c.truncate.ensures.items)
