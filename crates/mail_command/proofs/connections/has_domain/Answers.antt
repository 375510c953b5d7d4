use Rattle.std.proofs.Common.{rules, ◌≡◌, codes}
use Rattle.mail_command.proofs.DomainLemmas.{told_of}
use Rattle.mail_command.proofs.connections.has_domain.Goals as goal

pub returns : goal.returns
returns c =
    let so : c.name.result.now ≡ codes "localhost" = search rules in
    told_of c.is_local.result c.args.desk.now.store.kept.domains c.name.result.now c.is_local.ensures c.name.ensures so
