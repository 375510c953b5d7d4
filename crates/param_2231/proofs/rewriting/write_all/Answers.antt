use Rattle.param_2231.proofs.WrittenBody.{params_made, said_tokens}
use Rattle.param_2231.proofs.rewriting.write_all.Goals as goal

pub push_all_given-requires : goal.push_all_given-requires
push_all_given-requires c = let says = rw (c.in-Some.is) at c.in_ok-main.ensures.found in (says.pieces, says.has_placed)

pub push_comments-requires : goal.push_comments-requires
push_comments-requires c = let says = rw (c.in-Some.is) at c.in_ok-main.ensures.found in (says.has_tokens.values, said_tokens c.args.kind c.args.text.now _ _ says)

pub returns-in_default-clause-none : goal.returns-in_default-clause-none
returns-in_default-clause-none c e = rw (c.in_default.is) at c.in_ok-main.ensures.none

pub returns-clause-found : goal.returns-clause-found
returns-clause-found c e =
    let says = rw (c.in-Some.is) at c.in_ok-main.ensures.found in
    params_made c.args.kind c.args.open_global c.args.text.now c.in-Some.main _ c.in-Some.placed _ _ _ _ says (rw (c.as_slice.ensures) at c.written_main.ensures) c.in_ok-push_line.ensures
    (c.in_ok-push_all_given.ensures says.pieces says.has_placed) (c.in_ok-push_comments.ensures says.has_tokens.values (said_tokens c.args.kind c.args.text.now _ _ says))
