-- Whether octets are a line, or end one, and whether they begin with a tag.
use Rattle.std.proofs.Common.{◌≡◌, ℕ, List, [], ◌∷◌, ◌++◌, length, Option, None, Some, refl, sym, ap, ap₂, ◌∙◌, subst, append_assoc, append-nil}
use Rattle.std.specs.Prelude.{⊤}
use Rattle.std.specs.List.{All, flat_map}
use Rattle.std.proofs.lemmas.List.Elements.{All-nil, All-cons, All-head, All-tail}
use Rattle.mail_wire.specs.Lines.{Cut, first_line}
use Rattle.mail_wire.proofs.FirstLineLemmas.{first_line-cut}
use Rattle.imap_words.specs.Languages.{IsViable}
use Rattle.imap_words.specs.Tokens.{IsTag}
use Rattle.imap_words.specs.Strings.{IsHeader}
use Rattle.imap_grammar.specs.Commands.{IsNotHere}
use Rattle.imap_grammar.specs.Events.{IsWholeLine, LiteralLine, IsLiteralLine, literal_line, EndsCommandLine, BeginsWithTag}
use Rattle.imap_grammar.specs.declared.command.Command.TheVariants as command
use Rattle.imap_grammar.proofs.LineLaws.{cut_at, cut_same, line_some}
use Rattle.imap_grammar.proofs.NotHereSteps.{line_open}
use Rattle.imap_grammar.proofs.Deciding.{Parting, decide_parting, decide_by, decide_both, decide_same, decide_same_list, decide_begins}
use Rattle.imap_grammar.proofs.DecidingWords.{Searches, Decided, left_empty}
use Rattle.imap_grammar.proofs.DecidingLists.{Row, row_search, Nonempty}
use Rattle.imap_grammar.proofs.DecidingStrings.{tag_decided, header_decided}
use Rattle.imap_words.proofs.InLine.{none_here}

-- ---- a line

line_is : (octets : List ℕ) (cut : Cut) → first_line octets ≡ Some cut → cut.rest ≡ [] → IsWholeLine octets
line_is octets cut e none =
    let all : octets ≡ cut.line = (first_line-cut octets cut e).parts ∙ (ap (λ z. cut.line ++ z) none ∙ append-nil cut.line) in
    e ∙ ap₂ (λ line rest. Some (cut_at line rest)) (sym all) none

lacks : (cut : Cut) → None ≡ Some cut → ⊥
lacks cut e = cc e

pub decide_line : (octets : List ℕ) → Dec (IsWholeLine octets)
decide_line octets = by (first_line octets) refl
  where
    by : (found : Option Cut) → first_line octets ≡ found → Dec (IsWholeLine octets)
    by None e = no (λ is. lacks (cut_at octets []) (sym e ∙ is))
    by (Some cut) e = decide_by (line_is octets cut e) (λ is. ap (λ c. c.rest) (cut_same (sym e ∙ is))) (decide_same_list cut.rest [])

pub not_here_decided : Decided IsNotHere
not_here_decided = record { known = record { search = search_line; judge = λ octets. judge_line octets (first_line octets) refl }; some = line_open [] none_here }
  where
    search_line : Searches IsNotHere
    search_line octets R decide = decide_by (λ s. (command.NotHere, (s.0, refl), s.1)) (λ s. (s.1.0, subst R s.1.1 s.2)) (decide_both (decide_line octets) (decide command.NotHere))

    judge_line : (octets : List ℕ) (found : Option Cut) → first_line octets ≡ found → Dec (IsViable IsNotHere octets)
    judge_line octets None e = yes (line_open octets e)
    judge_line octets (Some cut) e = decide_by to from (decide_same_list cut.rest [])
      where
        to : cut.rest ≡ [] → IsViable IsNotHere octets
        to none = record { rest = []; value = command.NotHere; is_word = (subst IsWholeLine (sym (append-nil octets)) (line_is octets cut e none), refl) }

        from : IsViable IsNotHere octets → cut.rest ≡ []
        from viable = left_empty cut.rest viable.rest (ap (λ c. c.rest) (cut_same (sym ((first_line-cut octets cut e).longer viable.rest) ∙ viable.is_word.0)))

-- ---- lines with literals, and a line

abbrev AsLine : List ℕ → List ℕ → Type 0
AsLine octets line = (line ≡ octets) × IsWholeLine octets

abbrev AsLiteralLine : List ℕ → LiteralLine → Type 0
AsLiteralLine octets l = (octets ≡ literal_line l) × IsLiteralLine l

search_line : Searches AsLine
search_line octets R decide = decide_by (λ s. (octets, (refl, s.0), s.1)) (λ s. (s.1.1, subst R s.1.0 s.2)) (decide_both (decide_line octets) (decide octets))

decide_header : (octets : List ℕ) (size : ℕ) → Dec (IsHeader octets size)
decide_header octets size = decide_by (λ s. subst (λ n. IsHeader octets n) s.2 s.1) (λ is. (size, is, refl)) (header_decided.known.search octets (λ n. n ≡ size) (λ n. decide_same n size))

abbrev HasHeader : List ℕ → List ℕ → Type 0
HasHeader line literal = Parting (λ front header. IsHeader header (length literal)) line

abbrev Literally : (LiteralLine → Type 0) → List ℕ → List ℕ → Type 0
Literally R line literal = IsWholeLine line × (HasHeader line literal × R (record { line = line; literal = literal }))

search_literal_line : Searches AsLiteralLine
search_literal_line octets R decide = decide_by to from (decide_parting octets (Literally R) (λ line literal e. decide_both (decide_line line) (decide_both (header line literal) (decide (record { line = line; literal = literal })))))
  where
    header : (line literal : List ℕ) → Dec (HasHeader line literal)
    header line literal = decide_parting line (λ front header. IsHeader header (length literal)) (λ front header e. decide_header header (length literal))

    to : Parting (Literally R) octets → (l : LiteralLine) × AsLiteralLine octets l × R l
    to p =
        let h = p.holds in
        let header = h.1.0 in
        (record { line = p.front; literal = p.back }, (p.whole, record { front = header.front; header = header.back; is_line = h.0; whole = header.whole; is_header = header.holds }), h.1.1)

    from : (l : LiteralLine) × AsLiteralLine octets l × R l → Parting (Literally R) octets
    from s =
        let is = s.1.1 in
        record { front = s.0.line; back = s.0.literal; whole = s.1.0; holds = (is.is_line, (record { front = is.front; back = is.header; whole = is.whole; holds = is.is_header }, s.2)) }

literal_nonempty : Nonempty AsLiteralLine
literal_nonempty l is = line_some l.line is.1.is_line (left_empty l.line l.literal (sym is.0))

abbrev Lines : List ℕ → List LiteralLine → Type 0
Lines = Row AsLiteralLine AsLine

lines_end : (ls : List LiteralLine) (octets : List ℕ) → Lines octets ls → (line : List ℕ) × (octets ≡ flat_map literal_line ls ++ line) × All IsLiteralLine ls × IsWholeLine line
lines_end [] octets is = (octets, refl, All-nil IsLiteralLine, is.1.1)
lines_end (l ∷ ls) octets is =
    let more = lines_end ls is.1 is.4 in (
      more.0,
      is.2 ∙ (ap₂ (λ a b. a ++ b) is.3.0 more.1 ∙ sym (append_assoc (literal_line l) (flat_map literal_line ls) more.0)),
      All-cons IsLiteralLine l ls is.3.1 more.2,
      more.3,
    )

ends_lines : (ls : List LiteralLine) (line octets : List ℕ) → octets ≡ flat_map literal_line ls ++ line → All IsLiteralLine ls → IsWholeLine line → Lines octets ls
ends_lines [] line octets e each is = (octets, (refl, subst IsWholeLine (sym e) is))
ends_lines (l ∷ ls) line octets e each is = (
  literal_line l,
  flat_map literal_line ls ++ line,
  e ∙ append_assoc (literal_line l) (flat_map literal_line ls) line,
  (refl, All-head IsLiteralLine l ls each),
  ends_lines ls line (flat_map literal_line ls ++ line) refl (All-tail IsLiteralLine l ls each) is,
)

pub decide_ends : (octets : List ℕ) → Dec (EndsCommandLine octets)
decide_ends octets = decide_by to from (row_search literal_nonempty search_literal_line search_line octets (λ ls. ⊤) (λ ls. yes tt))
  where
    to : (ls : List LiteralLine) × Lines octets ls × ⊤ → EndsCommandLine octets
    to s = let end = lines_end s.0 octets s.1 in record { before = s.0; line = end.0; whole = end.1; each = end.2; is_line = end.3 }

    from : EndsCommandLine octets → (ls : List LiteralLine) × Lines octets ls × ⊤
    from is = (is.before, ends_lines is.before is.line octets is.whole is.each is.is_line, tt)

-- ---- a tag

abbrev TagAndSpace : List ℕ → List ℕ → Type 0
TagAndSpace tag back = IsTag tag tag × ((rest : List ℕ) × (back ≡ 32 ∷ rest))

decide_tag_alone : (octets : List ℕ) → Dec (IsTag octets octets)
decide_tag_alone octets = decide_by (λ s. subst (IsTag octets) s.2 s.1) (λ is. (octets, is, refl)) (tag_decided.known.search octets (λ v. v ≡ octets) (λ v. decide_same_list v octets))

pub decide_tag : (octets : List ℕ) → Dec ((tag : List ℕ) × BeginsWithTag octets tag)
decide_tag octets = decide_by to from (decide_parting octets TagAndSpace (λ tag back e. decide_both (decide_tag_alone tag) (decide_begins (32 ∷ []) back)))
  where
    to : Parting TagAndSpace octets → (tag : List ℕ) × BeginsWithTag octets tag
    to p = (p.front, record { rest = p.holds.1.0; whole = p.whole ∙ ap (λ z. p.front ++ z) p.holds.1.1; is_tag = p.holds.0 })

    from : (tag : List ℕ) × BeginsWithTag octets tag → Parting TagAndSpace octets
    from s = record { front = s.0; back = 32 ∷ s.1.rest; whole = s.1.whole; holds = (s.1.is_tag, (s.1.rest, refl)) }
