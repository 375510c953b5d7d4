use Rattle.std.proofs.Common.{Some, ap, ◌∙◌}
use Rattle.mail_wire.specs.WireState.{WireState}
use Rattle.session_core.specs.declared.desk.Desk.{Desk}
use Rattle.mail_command.specs.Protocols.{protocol_for}
use Rattle.mail_command.specs.declared.roles.Role.TheVariants as role
use Rattle.mail_command.proofs.GeneratingLemmas.{limit_not_reached}
use Rattle.mail_command.proofs.generating.serve_client.Goals as goal

pub unreachable-requires : goal.unreachable-requires
unreachable-requires c =
    let left = ap (λ (telling : WireState). telling.left) c.new-outside.ensures.wire ∙ ap Some c.wire_of-wire.ensures.left in
    let limits = ap (λ (desk : Desk). desk.limits) c.new-outside.ensures.desk ∙ c.requires.limits in
    limit_not_reached (protocol_for role.Pop) c.new-outside.result c.serve_one-served.new.outside c.in_ok-input.input left limits c.in_ok-input.ensures (rw c.in-Limit.is at c.serve_one-served.ensures.serves)
