use Rattle.std.proofs.Common.{rules}
use Rattle.mail_wire.proofs.dates.date_text.Goals as goal

pub returns : goal.returns
returns c = record {
  date = c.http_date-date.ensures.0;
  moment = c.http_date-date.ensures.1;
  spelled = search (rules, c.http_date-date.ensures.2);
}
