use Rattle.std.proofs.Common.{◌∷◌, ap, ◌∙◌, arith}
use Rattle.encoded_words.proofs.QText.{first_is}
use Rattle.encoded_words.proofs.CommentReading.{BeginsItem-plain, BeginsItem-pair}
use Rattle.encoded_words.proofs.comments.first_item.Goals as goal

pub returns-in_default-after-clause-found : goal.returns-in_default-after-clause-found
returns-in_default-after-clause-found c =
    let one = first_is c.args.octets.now c.in-len1-up.len_at_least in
    BeginsItem-plain c.args.octets.now _ _ one (λ e. omega (arith, c.in_default-after.len_below))

pub returns-then-octet-eq92-clause-found : goal.returns-then-octet-eq92-clause-found
returns-then-octet-eq92-clause-found c =
    let one = first_is c.args.octets.now c.in-len1-up.len_at_least in
    let two = first_is _ c.in-len1-up-after.len_at_least in
    BeginsItem-pair c.args.octets.now _ _ (rw (c.if-octet-eq92.true) at one ∙ ap (λ r. 92 ∷ r) two)

pub returns-clause-found : goal.returns-clause-found
returns-clause-found c =
    let one = first_is c.args.octets.now c.in-len1-up.len_at_least in
    BeginsItem-plain c.args.octets.now _ _ one (λ e. absurd (c.if-octet-eq92.false e))
