use Rattle.std.proofs.Common.{arith, refl, sym, ◌∙◌, subst}
use Rattle.imap_grammar.specs.Standing.{TurnTells, HasLineEnd}
use Rattle.imap_grammar.proofs.WholeLaws.{seen_count, turned, due_command, due_large, due_go, due_bad, stands_go}
use Rattle.imap_grammar.proofs.reader.Reader.following_line.Goals as goal

pub line_turn-turn-requires : goal.line_turn-turn-requires
line_turn-turn-requires c = subst HasLineEnd (sym c.as_slice.ensures) c.requires

pub returns-in-Whole : goal.returns-in-Whole
returns-in-Whole c = λ seen s.
    let observed = subst (λ z. TurnTells c.args.utf8 seen z) c.in-Whole.is (turned c.args.utf8 c.args.self seen s _ c.as_slice.ensures _ c.in_ok-tag.ensures) in
    (due_command c.args.utf8 c.args.self seen s _ _ observed, c.open.ensures c.args.utf8)

pub returns-then-is_too_large : goal.returns-then-is_too_large
returns-then-is_too_large c = λ seen s.
    let observed = subst (λ z. TurnTells c.args.utf8 seen z) c.in-Awaits.is (turned c.args.utf8 c.args.self seen s _ c.as_slice.ensures _ c.in_ok-tag.ensures) in
    (due_large c.args.utf8 c.args.self seen s _ _ _ observed (sym c.is_too_large.ensures ∙ c.if-is_too_large.true), c.open-then-is_too_large.ensures c.args.utf8)

pub returns-else-is_too_large : goal.returns-else-is_too_large
returns-else-is_too_large c = λ seen s.
    let observed = subst (λ z. TurnTells c.args.utf8 seen z) c.in-Awaits.is (turned c.args.utf8 c.args.self seen s _ c.as_slice.ensures _ c.in_ok-tag.ensures) in
    let small = sym c.is_too_large.ensures ∙ c.if-is_too_large.false in
    let place = seen_count c.args.utf8 c.args.self seen s c.saturating_add.result c.saturating_add-seen.result (omega (arith, c.saturating_add.ensures, c.len.ensures)) (omega (arith, c.saturating_add-seen.ensures, c.len-2.ensures)) in
    (due_go c.args.utf8 c.args.self seen s _ _ _ observed small, stands_go c.args.utf8 c.args.self seen s _ _ _ observed small _ refl c.new.ensures c.new-in-Awaits.ensures place refl)

pub returns-in-Bad : goal.returns-in-Bad
returns-in-Bad c = λ seen s.
    let observed = subst (λ z. TurnTells c.args.utf8 seen z) c.in-Bad.is (turned c.args.utf8 c.args.self seen s _ c.as_slice.ensures _ c.in_ok-tag.ensures) in
    let place = seen_count c.args.utf8 c.args.self seen s c.saturating_add.result c.saturating_add-seen.result (omega (arith, c.saturating_add.ensures, c.len.ensures)) (omega (arith, c.saturating_add-seen.ensures, c.len-2.ensures)) in
    (due_bad c.args.utf8 c.args.self seen s _ _ _ (omega (arith, c.saturating_sub-at.ensures, place)) observed, c.open-in-Bad.ensures c.args.utf8)
