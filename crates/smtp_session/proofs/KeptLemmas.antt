-- What is kept of a message.
use Rattle.std.proofs.Common.{◌≡◌, ℕ, ◌+◌, ◌-◌, ◌/◌, ◌%◌, ◌<◌, ◌≤◌, ◌==◌, Bool, true, false, ◌&&◌, ◌||◌, List, [], ◌∷◌, ◌++◌, length, take, Option, Some, None, refl, sym, ap, ap₂, subst, ◌∙◌, arith, inl, inr, if◌then◌else◌}
use Rattle.std.specs.Prelude.{nat_le, nat_lt, nat_eq, codes, not, IfSome}
use Rattle.std.specs.List.{All, AllByRecursion, concat, list_all, list_any}
use Rattle.std.specs.Str.{IsAscii, IsUtf8}
use Rattle.std.proofs.lemmas.Bool.{and_parts, and_from}
use Rattle.std.proofs.lemmas.Bool.Decides.{nat_tests}
use Rattle.std.proofs.lemmas.List.{append-nil}
use Rattle.std.proofs.lemmas.List.Folds.{list_all-append}
use Rattle.std.proofs.lemmas.List.Elements.{All-from_recursion}
use Rattle.std.proofs.lemmas.Str.{IsUtf8-append, IsUtf8-from_ascii}
use Rattle.std.proofs.lemmas.Str.Ascii.{IsAscii-cons, IsAscii-nil}
use Rattle.mail_wire.proofs.AllLemmas.{pass-append, pass-weaker, pass-take}
use Rattle.mail_wire.specs.Dates.{IsDateText}
use Rattle.mail_wire.specs.Lines.{crlf}
use Rattle.mail_wire.specs.Octets.{is_ascii, is_high, is_line_end, same_name}
use Rattle.mail_wire.proofs.Folded.{IsFolded-plain}
use Rattle.ace_domains.specs.Domains.{is_host_octet as is_domain_octet}
use Rattle.ace_domains.proofs.FormLemmas.{form_name}
use Rattle.address_grammar.specs.declared.Address.{Address}
use Rattle.address_grammar.specs.Addresses.{address_text}
use Rattle.address_grammar.specs.Paths.{ComesInPath, in_angles}
use Rattle.address_grammar.proofs.WritingLemmas.{path_again}
use Rattle.mime_tree.specs.Openings.{IsOtherField}
use Rattle.mime_tree.specs.Tree.{has_high_block}
use Rattle.mime_tree.proofs.FieldLines.{is_safe, no_nul_in_safe}
use Rattle.mime_tree.proofs.KeptTrees.{fields_before, high_after}
use Rattle.journal_records.specs.Addresses.{IsSendable}
use Rattle.mail_store.specs.Changing.{IsDeliverable}
use Rattle.journal_records.specs.Grammar.{months}
use Rattle.journal_records.specs.Stored.{HasMark}
use Rattle.mail_store.specs.StoreState.{StoreState}
use Rattle.smtp_grammar.specs.Commands.{is_client, is_client_octet}
use Rattle.smtp_session.specs.Machine.{delivery_with}
use Rattle.smtp_session.specs.Session.{Knows}
use Rattle.smtp_session.specs.private.Steps.{AreMarked}
use Rattle.session_core.specs.Desks.{IsStoreName}
use Rattle.smtp_session.specs.Trace.{protocol, received, return_path}
use Rattle.session_core.proofs.MomentLemmas.{AreShort, day_letters, days, moment_date, moment_text, month_letters, numbers_short, two_digits}
use Rattle.session_core.specs.Moments.{Moment, IsMoment}
use Rattle.smtp_session.specs.declared.states.Client.{Client}
use Rattle.smtp_session.specs.declared.states.Envelope.{Envelope}

-- ---- the octets of a field

-- a space or a printed octet of ASCII
abbrev is_printed : ℕ → Bool
is_printed x = nat_le 32 x && nat_le x 126

-- an octet other than NUL, CR and LF
abbrev is_plain : ℕ → Bool
is_plain x = not (x == 0) && not (is_line_end x)

-- all of these octets
record IsPrinted (text : List ℕ) : Type 0 where
  octets : list_all is_printed text ≡ true

-- UTF-8 without NUL, CR and LF
record IsPlain (text : List ℕ) : Type 0 where
  utf8 : IsUtf8 text
  octets : list_all is_plain text ≡ true

-- a printed octet is plain
printed_plain : (x : ℕ) → is_printed x ≡ true → is_plain x ≡ true
printed_plain x printed = grind (arith, nat_tests)

-- a printed octet is ASCII
printed_ascii : (x : ℕ) → is_printed x ≡ true → x < 128
printed_ascii x printed = grind (arith, nat_tests)

-- a plain octet ends no line
plain_inside : (x : ℕ) → is_plain x ≡ true → not (is_line_end x) ≡ true
plain_inside x plain = (and_parts (not (x == 0)) (not (is_line_end x)) plain).1

-- a plain octet is no NUL
plain_safe : (x : ℕ) → is_plain x ≡ true → is_safe x ≡ true
plain_safe x plain = (and_parts (not (x == 0)) (not (is_line_end x)) plain).0

-- printed octets are ASCII
all_ascii : (text : List ℕ) → list_all is_printed text ≡ true → IsAscii text
all_ascii [] printed = IsAscii-nil
all_ascii (x ∷ text) printed =
    let parts = and_parts (is_printed x) (list_all is_printed text) printed in
    IsAscii-cons x text (printed_ascii x parts.0) (all_ascii text parts.1)

-- a printed text is plain
plain_text : (text : List ℕ) → IsPrinted text → IsPlain text
plain_text text is = record { utf8 = IsUtf8-from_ascii text (all_ascii text is.octets); octets = pass-weaker is_printed is_plain printed_plain text is.octets }

-- texts that are printed, one after another
following : {xs ys : List ℕ} → IsPrinted xs → IsPrinted ys → IsPrinted (xs ++ ys)
following {xs} {ys} first second = record { octets = pass-append is_printed xs ys first.octets second.octets }

-- the first octets of a printed text
printed_first : {xs : List ℕ} → (n : ℕ) → IsPrinted xs → IsPrinted (take n xs)
printed_first {xs} n all = record { octets = pass-take is_printed n xs all.octets }

-- a text of which the test says it
printed : (text : List ℕ) → list_all is_printed text ≡ true → IsPrinted text
printed text is = record { octets = is }

-- ---- what a field's line asks

-- an octet of a field's name
abbrev is_name_octet : ℕ → Bool
is_name_octet x = nat_le 33 x && nat_le x 126 && not (nat_eq x 58)

-- a name that says nothing of how an entity is opened
record IsOtherName (name : List ℕ) : Type 0 where
  some : 0 < length name
  octets : list_all is_name_octet name ≡ true
  printed : IsPrinted name
  no_type : same_name name (codes "Content-Type") ≡ false
  no_encoding : same_name name (codes "Content-Transfer-Encoding") ≡ false

-- such a name with a plain body is another field
other_field : (name body : List ℕ) → IsOtherName name → IsPlain body → IsOtherField (name ++ 58 ∷ (body ++ crlf))
other_field name body named plain = record {
  f = record { name = name; white = []; body = body; ending = crlf };
  is_field = record {
    spelled = refl;
    named = named.some;
    name = named.octets;
    white = refl;
    body = IsFolded-plain body (pass-weaker is_plain (λ x. not (is_line_end x)) plain_inside body plain.octets);
    utf8 = plain.utf8;
    ending = inr refl;
  };
  ending = refl;
  no_nul = no_nul_in_safe (name ++ 58 ∷ (body ++ crlf))
      (pass-append is_safe name (58 ∷ (body ++ crlf)) (pass-weaker is_plain is_safe plain_safe name (plain_text name named.printed).octets)
      (pass-append is_safe body crlf (pass-weaker is_plain is_safe plain_safe body plain.octets) refl));
  no_type = named.no_type;
  no_encoding = named.no_encoding;
}

-- ---- Return-Path

-- the name of Return-Path is another one
return_path_name : IsOtherName (codes "Return-Path")
unfolding same_name
return_path_name = record { some = omega arith; octets = refl; printed = printed (codes "Return-Path") refl; no_type = refl; no_encoding = refl }

-- the field of a path is another field
pub return_path-other : (path : Option Address) → IfSome path ComesInPath → IsOtherField (return_path path)
return_path-other None comes = other_field (codes "Return-Path") (codes " <>") return_path_name (plain_text (codes " <>") (printed (codes " <>") refl))
return_path-other (Some address) comes =
    let text = in_angles (address_text address) in
    let line = (path_again address comes).has_tokens.is_line in
    let space = plain_text (32 ∷ []) (printed (32 ∷ []) refl) in
    other_field (codes "Return-Path") (32 ∷ text) return_path_name (record { utf8 = IsUtf8-append (32 ∷ []) text space.utf8 line.utf8; octets = line.plain })

-- ---- Received

-- the name of Received is another one
received_name : IsOtherName (codes "Received")
unfolding same_name
received_name = record { some = omega arith; octets = refl; printed = printed (codes "Received") refl; no_type = refl; no_encoding = refl }

-- an octet of a client's name is printed
client_octet : (x : ℕ) → is_client_octet x ≡ true → is_printed x ≡ true
client_octet x is = grind (arith, nat_tests)

-- a client's name is printed
client_printed : (client : List ℕ) → is_client client ≡ true → IsPrinted client
client_printed client is =
    let parts = and_parts (nat_lt 0 (length client) && nat_le (length client) 255) (list_all is_client_octet client) is in
    record { octets = pass-weaker is_client_octet is_printed client_octet client parts.1 }

-- an octet of a normal form is printed
domain_octet : (x : ℕ) → is_domain_octet x ≡ true → is_printed x ≡ true
domain_octet x is = grind (arith, nat_tests)

-- and so is a store's
name_printed : (name : List ℕ) → IsStoreName name → IsPrinted name
name_printed name (inl form) = record { octets = pass-weaker is_domain_octet is_printed domain_octet name (form_name name name form).octets }
name_printed name (inr local) = subst IsPrinted (sym local) (printed (codes "localhost") refl)

-- the protocol is printed
protocol_printed : (smtputf8 extended : Bool) → IsPrinted (protocol smtputf8 extended)
protocol_printed true extended = printed (codes "UTF8SMTP") refl
protocol_printed false true = printed (codes "ESMTP") refl
protocol_printed false false = printed (codes "SMTP") refl

-- the letters of days are printed
days_printed : AllByRecursion IsPrinted days
days_printed = (printed (codes "Mon") refl, (printed (codes "Tue") refl, (printed (codes "Wed") refl, (printed (codes "Thu") refl, (printed (codes "Fri") refl, (printed (codes "Sat") refl, (printed (codes "Sun") refl, tt)))))))

-- and those of months
months_printed : AllByRecursion IsPrinted months
months_printed = (printed (codes "Jan") refl, (printed (codes "Feb") refl, (printed (codes "Mar") refl, (printed (codes "Apr") refl, (printed (codes "May") refl, (printed (codes "Jun") refl, (printed (codes "Jul") refl, (printed (codes "Aug") refl, (printed (codes "Sep") refl, (printed (codes "Oct") refl, (printed (codes "Nov") refl, (printed (codes "Dec") refl, tt))))))))))))

-- those of the day of a number
day_printed : (n : ℕ) → 1 ≤ n → n ≤ 7 → IsPrinted (day_letters n)
day_printed n some small = All-from_recursion IsPrinted days days_printed (n - 1) [] (omega arith)

-- and of the month of a number
month_printed : (n : ℕ) → 1 ≤ n → n ≤ 12 → IsPrinted (month_letters n)
month_printed n some small = All-from_recursion IsPrinted months months_printed (n - 1) [] (omega arith)

-- a digit is printed
printed_digit : (n : ℕ) → n < 10 → is_printed (48 + n) ≡ true
printed_digit n small = grind (arith, nat_tests)

-- two digits are
two_printed : (n : ℕ) → n < 100 → IsPrinted (two_digits n)
two_printed n small =
    record { octets = and_from (is_printed (48 + n / 10)) (list_all is_printed ((48 + n % 10) ∷ [])) (printed_digit (n / 10) (omega arith)) (and_from (is_printed (48 + n % 10)) true (printed_digit (n % 10) (omega arith)) refl) }

-- the text of a moment is printed
moment_printed : (day month : List ℕ) (d year hour min sec : ℕ) → IsPrinted day → IsPrinted month → AreShort d year hour min sec → IsPrinted (moment_text day month d year hour min sec)
moment_printed day month d year hour min sec of_day of_month short =
    let space = printed (codes " ") refl in
    let colon = printed (codes ":") refl in
    let numbers = two_printed d short.d_short in
    let years = following (two_printed (year / 100) (omega (arith, short.year_short))) (two_printed (year % 100) (omega arith)) in
    let times = following (following (following (following (two_printed hour short.hour_short) colon) (two_printed min short.min_short)) colon) (two_printed sec short.sec_short) in
    following (following (following (following (following (following (following (following (following of_day (printed (codes ", ") refl)) numbers) space) of_month) space) years) space) times) (printed (codes " GMT") refl)

-- so is that of a field
date_printed : (seconds : ℕ) (text : List ℕ) → IsDateText seconds text → IsPrinted text
date_printed seconds text p =
    let date = p.date in
    let parts = date.parts in
    let all = moment_printed (day_letters parts.wday) (month_letters parts.mon) parts.day parts.year parts.hour parts.min parts.sec
    (day_printed parts.wday (omega (arith, date.right_day)) (omega (arith, date.right_day))) (month_printed parts.mon date.civil.1.0 date.civil.1.1) (numbers_short parts.day parts.year parts.hour parts.min parts.sec _ _ _ date.civil.2.1 date.civil.0.1 date.time.0 date.time.1 date.time.2) in
    rw p.spelled (following (printed_first 26 all) (printed (codes "+0000") refl))

-- the field of where a message came from is another field
pub received-other : (client name date : List ℕ) (seconds : ℕ) → is_client client ≡ true → IsStoreName name → IsDateText seconds date → (smtputf8 extended : Bool)
    → IsOtherField (received client name (protocol smtputf8 extended) date)
received-other client name date seconds of_client of_name of_date smtputf8 extended =
    let way = protocol smtputf8 extended in
    let front = following (printed (codes " from ") refl) (client_printed client of_client) in
    let by_name = following (following front (printed (codes " by ") refl)) (name_printed name of_name) in
    let by_way = following (following by_name (printed (codes " with ") refl)) (protocol_printed smtputf8 extended) in
    let all = following (following by_way (printed (codes "; ") refl)) (date_printed seconds date of_date) in
    let body : List ℕ = codes " from " ++ client ++ codes " by " ++ name ++ codes " with " ++ way ++ codes "; " ++ date in
    other_field (codes "Received") body received_name (plain_text body all)

-- ---- marks

-- a number of these two bits
abbrev two_bits : Bool → Bool → ℕ
two_bits header any = (if header then 1 else 0) + (if any then 2 else 0)

not_both : (a b : Bool) → not (a && b) ≡ (not a || not b)
not_both true b = refl
not_both false b = refl

-- two texts are high where one of them is
high_append : (xs ys : List ℕ) → is_high (xs ++ ys) ≡ (is_high xs || is_high ys)
high_append xs ys = ap not (list_all-append is_ascii xs ys) ∙ not_both (list_all is_ascii xs) (list_all is_ascii ys)

-- and so it is with many
high_concat : (texts : List (List ℕ)) → list_any is_high texts ≡ is_high (concat texts)
high_concat [] = refl
high_concat (text ∷ texts) = ap (λ b. is_high text || b) (high_concat texts) ∙ sym (high_append text (concat texts))

-- a message after other fields, whose mark is told by whether they are high
after_fields : (content : List ℕ) (fields : List (List ℕ)) (mark : ℕ) (high : Bool) → is_high (concat fields) ≡ high → All IsOtherField fields → HasMark content mark
    → HasMark (concat fields ++ content) (if high then 3 else mark)
after_fields content fields mark high is others has =
    let found = fields_before content fields has.entities has.tree others in
    let header = high_after content fields has.entities found.0 has.tree others found.1 ∙ ap (λ b. b || has_high_block content has.entities) (high_concat fields ∙ is) in
    let any = high_append (concat fields) content ∙ ap (λ b. b || is_high content) is in
    record {
      entities = found.0;
      tree = found.1;
      mark_is = told high (has_high_block content has.entities) (is_high content) has.mark_is ∙ sym (ap₂ two_bits header any);
    }
  where
    told : (high header any : Bool) → mark ≡ two_bits header any → (if high then 3 else mark) ≡ two_bits (high || header) (high || any)
    told true header any same = refl
    told false header any same = same

abbrev AfterFields : List ℕ → ℕ → ℕ → Type 0
AfterFields front mark new = (content : List ℕ) (fields : List (List ℕ)) → front ≡ concat fields → All IsOtherField fields → HasMark content mark → HasMark (front ++ content) new

-- fields of ASCII leave the mark as it is
pub marked_low : (front : List ℕ) (mark : ℕ) → list_all is_ascii front ≡ true → AfterFields front mark mark
marked_low front mark ascii content fields is others has =
    subst (λ text. HasMark (text ++ content) mark) (sym is) (after_fields content fields mark false (ap is_high (sym is) ∙ ap not ascii) others has)

-- others make the header high
pub marked_high : (front : List ℕ) (mark : ℕ) → list_all is_ascii front ≡ false → AfterFields front mark 3
marked_high front mark high content fields is others has =
    subst (λ text. HasMark (text ++ content) 3) (sym is) (after_fields content fields mark true (ap is_high (sym is) ∙ ap not high) others has)

-- what holds after all fields holds after one
pub marked_field : (field octets : List ℕ) (mark new : ℕ) → AfterFields field mark new → IsOtherField field → HasMark octets mark → HasMark (field ++ octets) new
marked_field field octets mark new after other has =
    after octets (field ∷ []) (sym (append-nil field)) (All-from_recursion IsOtherField (field ∷ []) (other, tt)) has

-- ---- what is kept

-- an address that may be sent to stands in some path
pub path_comes : (path : Option Address) → IfSome path IsSendable → IfSome path ComesInPath
path_comes None sendable = sendable
path_comes (Some address) sendable = sendable.0

-- what the end of data keeps may be delivered
pub delivery-deliverable : (store : StoreState) (client : Client) (envelope : Envelope) (moment : Moment) (octets : List ℕ) (local_mark remote_mark seconds : ℕ)
    → let delivery = delivery_with local_mark remote_mark store client envelope moment octets in
    Knows store envelope → IsMoment seconds moment → AreMarked delivery → IsDeliverable store delivery
delivery-deliverable store client envelope moment octets local_mark remote_mark seconds knows of_moment marked = record {
  known = knows.local;
  dated = moment_date seconds moment.internal of_moment.internal;
  local_marked = marked.local;
  remote_marked = marked.remote;
  path = knows.path;
  addresses = knows.remote;
  few = omega (arith, knows.few);
}
