use Rattle.idna.specs.declared.deny_list.TheConstants.AsciiDenyList.{STD3}
use Rattle.idna.specs.declared.options.Hyphens.TheVariants.{Check}
use Rattle.idna.specs.declared.options.DnsLength.TheVariants.{Verify}
use Rattle.idna.proofs.Uts46Lemmas.{to_ascii-map-lowercase}
use Rattle.ace_domains.proofs.HostNameLemmas.{host_name_own}
use Rattle.ace_domains.proofs.laws.host_names_are_their_own_forms.Goals as goal

pub returns-clause-own : goal.returns-clause-own
returns-clause-own c = host_name_own

pub returns-clause-case : goal.returns-clause-case
returns-clause-case c name ascii = to_ascii-map-lowercase STD3 Check Verify name ascii
