use Rattle.relay_choice.proofs.AsciiLemmas.{ascii_sent, seven_sent}
use Rattle.relay_choice.proofs.laws.no_more_is_sent_than_is_offered.Goals as goal

pub returns-clause-header : goal.returns-clause-header
returns-clause-header c = λ path octets entities address offer none sent. (ascii_sent path octets entities address offer none sent).header

pub returns-clause-path : goal.returns-clause-path
returns-clause-path c = λ path octets entities address offer none sent. (ascii_sent path octets entities address offer none sent).path_said

pub returns-clause-recipient : goal.returns-clause-recipient
returns-clause-recipient c = λ path octets entities address offer none sent. (ascii_sent path octets entities address offer none sent).recipient_said

pub returns-clause-octets : goal.returns-clause-octets
returns-clause-octets c = λ path octets entities address reply none sent. seven_sent path octets entities address reply none sent
