use Rattle.std.proofs.Common.{◌∙◌, ℕ, ap}
use Rattle.std.specs.Global.{Vec}
use Rattle.journal_records.proofs.AddressLemmas.{key_made}
use Rattle.journal_records.proofs.addresses.folded_key.Goals as goal

pub returns : goal.returns
returns c =
    key_made c.args.local.now c.as_str.result.now c.as_str-2.result.now c.from_vec.result c.as_str.utf8 c.as_str-2.utf8
    (c.as_str.ensures.value ∙ c.in_ok-decomposed.ensures) (c.as_str-2.ensures.value ∙ c.in_ok-folded.ensures)
    (c.from_vec.ensures ∙ ap (λ (v : Vec ℕ). v.items) c.into_bytes.ensures.value ∙ c.in_ok-key.ensures)
