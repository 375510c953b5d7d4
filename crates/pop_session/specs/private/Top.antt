-- What TOP shows of a message (RFC 1939, 7) an octet at a time, for the functions that read it in pieces.
use Rattle.std.specs.Prelude.{ℕ, suc, ◌-◌, ◌==◌, ◌&&◌, List, [], ◌∷◌, Bool, true, false, not, if◌then◌else◌}
use Rattle.pop_session.specs.declared.stuffing.Place.TheVariants.{LineStart}
use Rattle.pop_session.specs.declared.top.Scan.{Scan}
use Rattle.pop_session.specs.private.Stuffing.{is_start, next_place}

-- before the first octet
abbrev pub begin : ℕ → Scan
begin lines = record { place = LineStart; is_second = false; in_header = true; lines = lines }

-- nothing more is shown
abbrev pub is_ended : Scan → Bool
is_ended scan = not scan.in_header && scan.lines == 0

-- where a line ends
abbrev pub at_line_end : Scan → Scan
at_line_end scan =
    if scan.in_header then record scan { in_header = not scan.is_second }
    else record scan { lines = scan.lines - 1 }

-- after an octet
abbrev pub following_octet : Scan → ℕ → Scan
following_octet scan x =
    let after = (if is_start (next_place scan.place x) then at_line_end scan else scan) in
    record after { place = next_place scan.place x; is_second = is_start scan.place }

-- after the octets of a piece that are shown
abbrev pub all_after : Scan → List ℕ → Scan
all_after scan [] = scan
all_after scan (x ∷ rest) = if is_ended scan then scan else all_after (following_octet scan x) rest

-- how many octets of a piece are shown
abbrev pub count_from : Scan → List ℕ → ℕ
count_from scan [] = 0
count_from scan (x ∷ rest) = if is_ended scan then 0 else suc (count_from (following_octet scan x) rest)
