use Rattle.std.proofs.Common.{subst}
use Rattle.std.specs.Str.{bytes_eq}
use Rattle.mail_wire.specs.Spans.{IsSpan}
use Rattle.param_grammar.specs.private.Ordered.{name_in}
use Rattle.param_grammar.proofs.names_order.split_run.Goals as goal

pub returns : goal.returns
returns c =
    subst (λ name. IsSpan (λ number. bytes_eq name (name_in c.args.named.lower.now c.args.named.places.now number)) c.args.order.now c.split_named.result.0.now c.split_named.result.1.now)
    c.name.ensures c.split_named.ensures
