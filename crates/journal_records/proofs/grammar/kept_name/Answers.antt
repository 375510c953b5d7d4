use Rattle.std.proofs.Common.{◌≡◌, ◌∙◌, ℕ, false, ap, sym}
use Rattle.std.specs.Global.{Vec}
use Rattle.mail_wire.specs.Octets.{same_name}
use Rattle.journal_records.specs.Grammar.{inbox}
use Rattle.journal_records.proofs.grammar.kept_name.Goals as goal

pub returns : goal.returns
returns c =
    let other : same_name inbox c.args.name.now ≡ false = ap (same_name inbox) (sym c.as_bytes.ensures.value) ∙ sym c.is_same_name.ensures ∙ c.if-is_same_name.false in
    rw other (c.from_vec.ensures ∙ ap (λ (v : Vec ℕ). v.items) c.into_bytes.ensures.value ∙ c.in_ok-composed.ensures)
