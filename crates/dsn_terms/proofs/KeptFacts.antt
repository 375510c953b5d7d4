-- Terms that were read can be kept.
use Rattle.std.proofs.Common.{ℕ, ◌<◌, Bool, List, [], Option, Some, None, refl, sym, subst, arith, inl, inr}
use Rattle.encapsulated_fields.proofs.XtextLemmas.{ReadsAs-utf8}
use Rattle.dsn_terms.specs.MailTerms.{EnvidSays}
use Rattle.dsn_terms.specs.RecipientTerms.{IsRfc822Recipient, IsUtf8Recipient, NotifySays, OrcptSays}
use Rattle.dsn_terms.specs.KeptTerms.{CanKeepEnvid, KeepsRfc822, KeepsUtf8, CanKeepOrcpt}
use Rattle.dsn_terms.proofs.XtextUnits.{length-shortest-le}
use Rattle.dsn_terms.proofs.NotifyFacts.{NotifySays-small}

-- ---- what was read

CanKeepEnvid-nil : CanKeepEnvid []
CanKeepEnvid-nil = record { printable = refl; most = omega arith }

pub EnvidSays-kept : (value : Option (List ℕ)) (envid : List ℕ) → EnvidSays value envid → CanKeepEnvid envid
EnvidSays-kept None envid is = subst CanKeepEnvid (sym is) CanKeepEnvid-nil
EnvidSays-kept (Some value) envid is = record {
  printable = is.reads.printable;
  most = omega (arith, length-shortest-le value envid is.reads.reads, is.most);
}

KeepsRfc822-read : (text orcpt : List ℕ) → IsRfc822Recipient text orcpt → KeepsRfc822 orcpt
KeepsRfc822-read text orcpt is = record {
  address = is.address;
  spelled = is.orcpt_is;
  printable = is.reads.printable;
  most = omega (arith, length-shortest-le text is.address is.reads.reads, is.most);
}

KeepsUtf8-read : (utf8 : Bool) (text orcpt : List ℕ) → IsUtf8Recipient utf8 text orcpt → KeepsUtf8 orcpt
KeepsUtf8-read utf8 text orcpt is = record {
  address = is.address;
  spelled = is.orcpt_is;
  utf8 = (ReadsAs-utf8 text is.address is.reads).1;
  most = is.most;
}

pub NotifySays-kept : (value : Option (List ℕ)) (notify : ℕ) → NotifySays value notify → notify < 16
NotifySays-kept value notify is = omega (arith, NotifySays-small value notify is)

pub OrcptSays-kept : (utf8 : Bool) (value : Option (List ℕ)) (orcpt : List ℕ) → OrcptSays utf8 value orcpt → CanKeepOrcpt orcpt
OrcptSays-kept utf8 None orcpt is = inl is
OrcptSays-kept utf8 (Some value) orcpt is = elim is [
  | inl x ↦ inr (inl (KeepsRfc822-read x.rest orcpt x.holds))
  | inr x ↦ inr (inr (KeepsUtf8-read utf8 x.rest orcpt x.holds))
]
