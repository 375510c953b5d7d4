use Rattle.std.proofs.Common.{◌≡◌, true, refl, sym, ap, ◌∙◌}
use Rattle.std.specs.List.{list_all}
use Rattle.mail_wire.specs.Octets.{is_ascii}
use Rattle.field_tokens.specs.declared.Style.TheVariants.{Mail}
use Rattle.field_tokens.specs.Tokens.{HasTokenValues}
use Rattle.field_tokens.specs.Lexemes.{values_of}
use Rattle.field_downgrade.specs.private.ReceivedSteps.{tokens_after}
use Rattle.field_downgrade.proofs.ReceivedLemmas.{read_writable}
use Rattle.field_downgrade.proofs.ReceivedRewriting.{CutsReceived, read_cuts, clauses_head, front_not_blank, date_not_ascii, pieces_put}
use Rattle.field_downgrade.proofs.received.put_pieces.Goals as goal

pub returns-then-not-are_blank : goal.returns-then-not-are_blank
returns-then-not-are_blank c =
    let has : HasTokenValues Mail c.args.text.now (values_of c.new.result) = rw (c.new.ensures) c.requires in
    let cuts : CutsReceived c.args.text.now (values_of c.new.result) (values_of c.split_head.result.0) (values_of c.split_clause.result.0) (values_of c.split_clause.result.1) (tokens_after c.split_head.result.1)
    = record { has = has; head_cut = c.split_head.ensures; front_cut = c.split_clause.ensures } in
    (front_not_blank c.args.text.now _ _ _ _ _ cuts (sym c.are_blank.ensures ∙ c.if-not-are_blank.true), refl)

pub returns-then-not-is_ascii : goal.returns-then-not-is_ascii
returns-then-not-is_ascii c =
    let has : HasTokenValues Mail c.args.text.now (values_of c.new.result) = rw (c.new.ensures) c.requires in
    let cuts : CutsReceived c.args.text.now (values_of c.new.result) (values_of c.split_head.result.0) (values_of c.split_clause.result.0) (values_of c.split_clause.result.1) (tokens_after c.split_head.result.1)
    = record { has = has; head_cut = c.split_head.ensures; front_cut = c.split_clause.ensures } in
    (date_not_ascii c.args.text.now c.in_ok-said.said _ _ _ _ _ cuts c.in_ok-said.ensures (sym (ap (list_all is_ascii) c.as_slice.ensures) ∙ sym c.is_ascii.ensures ∙ c.if-not-is_ascii.true), refl)

pub write_comments-requires : goal.write_comments-requires
write_comments-requires c =
    let has : HasTokenValues Mail c.args.text.now (values_of c.new.result) = rw (c.new.ensures) c.requires in
    let cuts : CutsReceived c.args.text.now (values_of c.new.result) (values_of c.split_head.result.0) (values_of c.split_clause.result.0) (values_of c.split_clause.result.1) (tokens_after c.split_head.result.1)
    = record { has = has; head_cut = c.split_head.ensures; front_cut = c.split_clause.ensures } in
    read_writable _ (read_cuts c.args.text.now _ _ _ _ _ cuts).front_read

pub put_clauses-requires-clause-read : goal.put_clauses-requires-clause-read
put_clauses-requires-clause-read c =
    let has : HasTokenValues Mail c.args.text.now (values_of c.new.result) = rw (c.new.ensures) c.requires in
    let cuts : CutsReceived c.args.text.now (values_of c.new.result) (values_of c.split_head.result.0) (values_of c.split_clause.result.0) (values_of c.split_clause.result.1) (tokens_after c.split_head.result.1)
    = record { has = has; head_cut = c.split_head.ensures; front_cut = c.split_clause.ensures } in
    (read_cuts c.args.text.now _ _ _ _ _ cuts).clauses_read

pub put_clauses-requires-clause-head : goal.put_clauses-requires-clause-head
put_clauses-requires-clause-head c =
    let has : HasTokenValues Mail c.args.text.now (values_of c.new.result) = rw (c.new.ensures) c.requires in
    let cuts : CutsReceived c.args.text.now (values_of c.new.result) (values_of c.split_head.result.0) (values_of c.split_clause.result.0) (values_of c.split_clause.result.1) (tokens_after c.split_head.result.1)
    = record { has = has; head_cut = c.split_head.ensures; front_cut = c.split_clause.ensures } in
    clauses_head c.args.text.now _ _ _ _ _ cuts

pub put_date-requires-clause-read : goal.put_date-requires-clause-read
put_date-requires-clause-read c =
    let has : HasTokenValues Mail c.args.text.now (values_of c.new.result) = rw (c.new.ensures) c.requires in
    let cuts : CutsReceived c.args.text.now (values_of c.new.result) (values_of c.split_head.result.0) (values_of c.split_clause.result.0) (values_of c.split_clause.result.1) (tokens_after c.split_head.result.1)
    = record { has = has; head_cut = c.split_head.ensures; front_cut = c.split_clause.ensures } in
    (read_cuts c.args.text.now _ _ _ _ _ cuts).date_read

pub returns : goal.returns
returns c =
    let has : HasTokenValues Mail c.args.text.now (values_of c.new.result) = rw (c.new.ensures) c.requires in
    let cuts : CutsReceived c.args.text.now (values_of c.new.result) (values_of c.split_head.result.0) (values_of c.split_clause.result.0) (values_of c.split_clause.result.1) (tokens_after c.split_head.result.1)
    = record { has = has; head_cut = c.split_head.ensures; front_cut = c.split_clause.ensures } in
    let ascii : list_all is_ascii c.in_ok-said.said ≡ true = sym (ap (list_all is_ascii) c.as_slice.ensures) ∙ sym c.is_ascii.ensures ∙ c.if-not-is_ascii.false in
    pieces_put c.args.text.now c.in_ok-said.said _ _ _ _ _ _ _ _ _ cuts (sym c.are_blank.ensures ∙ c.if-not-are_blank.false) c.in_ok-said.ensures ascii c.in_ok-write_comments.ensures c.in_ok-put_clauses.ensures
    c.in_ok-put_date.ensures
