use Rattle.std.proofs.Common.{arith}
use Rattle.utf8_fields.proofs.HaveParts.{block_fields, have_parts, have_names}
use Rattle.utf8_fields.proofs.Raws.{HasBlock-whole}
use Rattle.utf8_fields.proofs.laws.fields_of_a_block_have_parts.Goals as goal

pub returns-clause-parts : goal.returns-clause-parts
returns-clause-parts c octets fields end block = have_parts octets fields (block_fields octets 0 fields end (omega arith) block)

pub returns-clause-names : goal.returns-clause-names
returns-clause-names c octets fields end block = have_names octets fields (block_fields octets 0 fields end (omega arith) block)

pub returns-clause-within : goal.returns-clause-within
returns-clause-within c octets fields end block = (HasBlock-whole octets fields end block).within

pub returns-clause-bound : goal.returns-clause-bound
returns-clause-bound c octets fields end block = (HasBlock-whole octets fields end block).fits
