-- A failure of a message has one report.
use Rattle.std.proofs.Common.{◌≡◌, ℕ, Bool, true, false, ◌⊎◌, inl, inr, List, [], ◌∷◌, ◌++◌, map, take, refl, sym, ap, ◌∙◌, subst}
use Rattle.std.specs.List.{AllByRecursion, concat, flat_map, list_all}
use Rattle.std.proofs.lemmas.Bool.{both_ways}
use Rattle.std.proofs.lemmas.List.{take_at}
use Rattle.std.proofs.lemmas.List.Folds.{concat-append}
use Rattle.mail_wire.specs.Lines.{crlf, is_crlf, lines_of}
use Rattle.mail_wire.specs.Message.{IsSound}
use Rattle.mail_wire.specs.Octets.{is_ascii}
use Rattle.mail_wire.proofs.AllLemmas.{pass-append}
use Rattle.mail_wire.proofs.DateLemmas.{one_date}
use Rattle.mail_wire.proofs.LineLemmas.{concat_lines_of}
use Rattle.utf8_fields.specs.declared.block.Field.{Field}
use Rattle.utf8_fields.specs.Block.{HasBlock, raw_of}
use Rattle.utf8_fields.proofs.LineShapes.{EndsOnce, NeverEnds, AreLines, AreLines-front, AreLines-lines_of}
use Rattle.utf8_fields.proofs.OneBlock.{same_block}
use Rattle.utf8_fields.proofs.Raws.{HasBlock-whole}
use Rattle.mime_tree.specs.declared.entity.Entity.{Entity}
use Rattle.mime_tree.specs.Completing.{IsLeft, IsCompleted}
use Rattle.mime_tree.specs.Tree.{HasTree, raws_of}
use Rattle.mime_tree.proofs.EndedLines.{cut_concat}
use Rattle.mime_tree.proofs.Standing.{AreEnded}
use Rattle.surrogate_rope.specs.Layout.{HasSurrogate, HasAsciiBlocks}
use Rattle.surrogate_rope.proofs.AllSurrogates.{some_surrogate}
use Rattle.surrogate_rope.proofs.SurrogateBlocks.{one_surrogate, surrogate_blocks}
use Rattle.utf8_reports.specs.declared.failure.Failure.{Failure}
use Rattle.utf8_reports.specs.Destinations.{is_global, shown_path}
use Rattle.utf8_reports.specs.Recipients.{recipient_fields}
use Rattle.utf8_reports.specs.Reports.{heading, header_part, status_heading, IsFailure, IsReport, IsReportOn}
use Rattle.utf8_reports.specs.Shown.{HasEndedHeader, IsShownHeader, Shows}
use Rattle.utf8_reports.proofs.DatesThere.{date_text_there}
use Rattle.utf8_reports.proofs.HeaderLines.{block_lines, header_lines, left_ended}
use Rattle.utf8_reports.proofs.ReportTrees.{report_ascii, report_tree}
use Rattle.utf8_reports.proofs.Roots.{root_block}

-- ---- one header

one_completed : (old new other : List ℕ) → IsCompleted old new → IsCompleted old other → new ≡ other
one_completed old new other (inl a) (inl b) = a.1 ∙ sym b.1
one_completed old new other (inl a) (inr b) = absurd (b.0 a.0)
one_completed old new other (inr a) (inl b) = absurd (a.0 b.0)
one_completed old new other (inr a) (inr b) = a.1 ∙ sym b.1

one_header : (octets header other : List ℕ) → HasEndedHeader octets header → HasEndedHeader octets other → header ≡ other
one_header octets header other a b =
    let same = same_block (lines_of octets) 0 a.fields b.fields a.end b.end a.has_block b.has_block in
    one_completed (take b.end octets) header other (subst (λ n. IsCompleted (take n octets) header) same.1 a.completed) b.completed

shown_once : (global : Bool) (msg shown other : List ℕ) → Shows global msg shown → Shows global msg other → shown ≡ other
shown_once true msg shown other a b = a ∙ sym b
shown_once false msg shown other a b = one_surrogate msg shown other a b

pub one_shown : (global : Bool) (msg header other : List ℕ) → IsShownHeader global msg header → IsShownHeader global msg other → header ≡ other
one_shown global msg header other a b =
    let same = shown_once global msg a.shown b.shown a.shows b.shows in
    one_header b.shown header other (subst (λ shown. HasEndedHeader shown header) same a.has_header) b.has_header

-- ---- one report

pub one_report : (failure : Failure) (msg octets other : List ℕ) → IsReportOn failure msg octets → IsReportOn failure msg other → octets ≡ other
one_report failure msg octets other a b =
    let header = one_shown (is_global failure.path) msg a.header b.header a.is_shown b.is_shown in
    let date = one_date failure.seconds a.is_report.date b.is_report.date a.is_report.is_date b.is_report.is_date in
    a.is_report.whole
    ∙ (ap (λ moment. heading failure.name (shown_path failure.path) moment ++ (status_heading (is_global failure.path) failure.name
    ++ (flat_map (recipient_fields (is_global failure.path)) failure.failed ++ header_part (is_global failure.path) a.header))) date
    ∙ (ap (λ header. heading failure.name (shown_path failure.path) b.is_report.date ++ (status_heading (is_global failure.path) failure.name
    ++ (flat_map (recipient_fields (is_global failure.path)) failure.failed ++ header_part (is_global failure.path) header))) header
    ∙ sym b.is_report.whole))

-- ---- some report

never_once : (line : List ℕ) → NeverEnds line → EndsOnce line → ⊥
never_once [] never once = once
never_once (x ∷ []) never once = once
never_once (x ∷ y ∷ []) never once = both_ways (is_crlf x y) never.0 once
never_once (x ∷ y ∷ z ∷ rest) never once = never_once (y ∷ z ∷ rest) never.1 once.1

decide_ended : (lines : List (List ℕ)) → AreLines lines → AreEnded lines ⊎ ¬ AreEnded lines
decide_ended [] are = inl tt
decide_ended (line ∷ lines) are = elim are.0 [
  | inr never ↦ inr (λ ended. never_once line never.0 ended.0)
  | inl once ↦ elim (decide_ended lines are.1) [
    | inl ended ↦ inl (once, ended)
    | inr not_ended ↦ inr (λ ended. not_ended ended.1)
  ]
]

ended_left : (lines : List (List ℕ)) → AreEnded lines → IsLeft (concat lines)
ended_left [] ended = inl (inl refl)
ended_left (line ∷ lines) ended = inl (inr (_, cut_concat (line ∷ lines) ended))

some_completed : (octets : List ℕ) (fields : List Field) (end : ℕ) → HasBlock octets fields end → (header : List ℕ) × IsCompleted (take end octets) header
some_completed octets fields end block =
    let front = block_lines octets fields end block in
    elim (decide_ended front.lines front.are) [
      | inl ended ↦ (take end octets, inl (subst IsLeft (sym front.whole) (ended_left front.lines ended), refl))
      | inr others ↦ (take end octets ++ crlf, inr (λ left. others (left_ended front.lines front.are front.filled front.sound (subst IsLeft front.whole left)), refl))
    ]

some_shown : (global : Bool) (msg : List ℕ) (entities : List Entity) → HasTree msg entities → (shown : List ℕ) × (others : List Entity) × Shows global msg shown × HasTree shown others
some_shown true msg entities tree = (msg, entities, refl, tree)
some_shown false msg entities tree =
    let made = some_surrogate msg entities tree in
    (made.0, made.1.surrogate.others, made.1, made.1.surrogate.made_tree)

pub shown_there : (global : Bool) (msg : List ℕ) (entities : List Entity) → HasTree msg entities → (header : List ℕ) × IsShownHeader global msg header
shown_there global msg entities tree =
    let made = some_shown global msg entities tree in
    let root = root_block made.0 made.1 made.3 in
    let header = some_completed made.0 root.entity.block.fields root.entity.block.end root.has_block in (
      header.0,
      record {
        entities = entities;
        tree = tree;
        shown = made.0;
        shows = made.2;
        has_header = record { fields = root.entity.block.fields; end = root.entity.block.end; has_block = root.has_block; completed = header.1 };
      },
    )

pub report_there : (failure : Failure) (msg : List ℕ) (entities : List Entity) → IsFailure failure → HasTree msg entities → (octets : List ℕ) × IsReportOn failure msg octets
report_there failure msg entities is tree =
    let header = shown_there (is_global failure.path) msg entities tree in
    let date = date_text_there failure.seconds is.seconds in
    (_, record { header = header.0; is_shown = header.1; is_report = record { is_failure = is; date = date.0; is_date = date.1; whole = refl } })

-- ---- its tree and its octets

pub has_tree : (failure : Failure) (msg octets : List ℕ) → IsReportOn failure msg octets → (entities : List Entity) × HasTree octets entities
has_tree failure msg octets is =
    let header = is.is_shown.has_header in
    report_tree failure is.header octets is.is_report (header_lines is.is_shown.shown is.header header.fields header.end header.has_block header.completed)

ascii_raws : (octets : List ℕ) (fields : List Field) → AllByRecursion (λ raw. list_all is_ascii raw ≡ true) (map (raw_of octets) fields) → list_all is_ascii (flat_map (raw_of octets) fields) ≡ true
ascii_raws octets [] all = refl
ascii_raws octets (field ∷ fields) all = pass-append is_ascii (raw_of octets field) (flat_map (raw_of octets) fields) all.0 (ascii_raws octets fields all.1)

ascii_completed : (old new : List ℕ) → IsCompleted old new → list_all is_ascii old ≡ true → list_all is_ascii new ≡ true
ascii_completed old new (inl same) ascii = rw same.1 ascii
ascii_completed old new (inr more) ascii = rw more.1 (pass-append is_ascii old crlf ascii refl)

ascii_block : (octets : List ℕ) (fields : List Field) (end : ℕ) → HasAsciiBlocks octets → HasBlock octets fields end → list_all is_ascii (take end octets) ≡ true
ascii_block octets fields end ascii block =
    let root = root_block octets ascii.entities ascii.tree in
    let own = first_raws octets ascii.entities root.entity root.inner root.entities_are ascii.ascii in
    let same = same_block (lines_of octets) 0 root.entity.block.fields fields root.entity.block.end end root.has_block block in
    let raws = ascii_raws octets fields (subst (λ fields. AllByRecursion (λ raw. list_all is_ascii raw ≡ true) (map (raw_of octets) fields)) same.0 own) in
    subst (λ front. list_all is_ascii front ≡ true) (HasBlock-whole octets fields end block).raws raws
  where
    first_raws : (octets : List ℕ) (entities : List Entity) (entity : Entity) (inner : List Entity) → entities ≡ entity ∷ inner
        → AllByRecursion (λ (entity : Entity). AllByRecursion (λ raw. list_all is_ascii raw ≡ true) (raws_of octets entity.block)) entities
        → AllByRecursion (λ raw. list_all is_ascii raw ≡ true) (raws_of octets entity.block)
    first_raws octets entities entity inner is all = (rw is at all).0

shown_ascii : (global : Bool) (msg header : List ℕ) → IsShownHeader global msg header → global ≡ false → list_all is_ascii header ≡ true
shown_ascii true msg header is local = cc
shown_ascii false msg header is local =
    let own = is.has_header in
    ascii_completed (take own.end is.shown) header own.completed (ascii_block is.shown own.fields own.end (surrogate_blocks msg is.shown is.shows) own.has_block)

pub is_ascii_report : (failure : Failure) (msg octets : List ℕ) → IsReportOn failure msg octets → is_global failure.path ≡ false → list_all is_ascii octets ≡ true
is_ascii_report failure msg octets is local = report_ascii failure is.header octets is.is_report local (shown_ascii (is_global failure.path) msg is.header is.is_shown local)
