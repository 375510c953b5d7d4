use Rattle.std.proofs.Common.{rules}
use Rattle.journal_records.proofs.AddressLemmas.{key_of_ascii}
use Rattle.journal_records.proofs.addresses.local_key.Goals as goal

pub returns-then-is_ascii : goal.returns-then-is_ascii
returns-then-is_ascii c = key_of_ascii c.args.local.now c.from_vec.result (search rules) (search rules)
