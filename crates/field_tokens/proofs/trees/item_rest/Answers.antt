use Rattle.std.proofs.Common.{◌∷◌, ap, ◌∙◌}
use Rattle.encoded_words.specs.CommentUnits.{Plain, Pair}
use Rattle.encoded_words.proofs.QText.{first_is}
use Rattle.field_tokens.proofs.trees.item_rest.Goals as goal

pub returns-then-octet-eq92-clause-found : goal.returns-then-octet-eq92-clause-found
returns-then-octet-eq92-clause-found c =
    let one = first_is c.args.octets.now c.in-len1-up.len_at_least in
    let two = first_is _ c.in-len1-up-after.len_at_least in
    record { item = Pair _; stands = tt; whole = rw (c.if-octet-eq92.true) at one ∙ ap (λ r. 92 ∷ r) two }

pub returns-clause-found : goal.returns-clause-found
returns-clause-found c =
    let one = first_is c.args.octets.now c.in-len1-up.len_at_least in
    record { item = Plain _; stands = (c.if-octet-eq40.false, c.if-octet-eq41.false, c.if-octet-eq92.false); whole = one }
