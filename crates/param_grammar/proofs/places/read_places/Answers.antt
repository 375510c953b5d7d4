use Rattle.std.proofs.Common.{ap, length}
use Rattle.param_grammar.specs.private.Marked.{tokens_of}
use Rattle.param_grammar.proofs.PlaceLemmas.{PlacesGo-push}
use Rattle.param_grammar.proofs.SectionLemmas.{not-ArePieces, ArePieces-read}
use Rattle.param_grammar.proofs.places.read_places.Goals as goal

pub returns-then-not-branch-clause-none : goal.returns-then-not-branch-clause-none
returns-then-not-branch-clause-none c =
    not-ArePieces c.args.text.now (tokens_of c.args.tokens) (tokens_of c.loop-rest.rest) _ _ _ c.loop-rest.invariant.reads c.split_section.ensures
    (c.in_ok-push_place.ensures.none c.if-not-branch.true)

pub loop-rest-preserved : goal.loop-rest-preserved
loop-rest-preserved c =
    PlacesGo-push c.args.text.now (tokens_of c.args.tokens) (tokens_of c.loop-rest.rest) _ _ c.loop-rest.places.items c.push_place.new.places.items c.loop-rest.invariant c.split_section.ensures
    (c.in_ok-push_place.ensures.pushed c.if-not-branch.false)

pub returns-clause-found : goal.returns-clause-found
returns-clause-found c = (
  c.loop-rest.invariant.pieces,
  ArePieces-read c.args.text.now (tokens_of c.args.tokens) (tokens_of c.loop-rest.rest) c.loop-rest.invariant.pieces c.loop-rest.invariant.reads (ap length (c.is_empty.ensures.0 c.loop-rest-test.false)),
  c.loop-rest.invariant.are,
)
