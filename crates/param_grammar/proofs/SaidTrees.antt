-- Comments that say something have trees.
use Rattle.std.proofs.Common.{◌≡◌, ℕ, ◌+◌, true, inl, inr, List, [], ◌∷◌, ◌++◌, length, take, drop, filter, Option, Some, None, refl, sym, ap, ◌∙◌, subst, arith}
use Rattle.std.proofs.lemmas.Bool.{cases_Bool}
use Rattle.std.proofs.lemmas.List.{append_assoc, append-nil, length-append, take_at, drop_at}
use Rattle.mail_wire.specs.declared.values.Span.{Span}
use Rattle.encoded_words.specs.CommentUnits.{TextItem}
use Rattle.encoded_words.specs.Words.{UnitValue}
use Rattle.field_tokens.specs.declared.Style.TheVariants.{Mime}
use Rattle.field_tokens.specs.Tokens.{TokenValue, tokens_from}
use Rattle.field_tokens.specs.Squeezed.{octets_of, is_comment, comments_of}
use Rattle.field_tokens.specs.Trees.{Body, Last, Before, body_octets, spelling, Tree, End, NestedThen, GivesRun, run_then, HasItems}
use Rattle.field_tokens.specs.Comments.{CommentValue, CommentsSay, TextSays, BodySays}
use Rattle.field_tokens.proofs.Parts.{octets_of-tokens}
use Rattle.param_grammar.specs.declared.Body.{Body as BodyOf}
use Rattle.param_grammar.specs.declared.ParamKind.{ParamKind}
use Rattle.param_grammar.specs.Bodies.{HaveComments}
use Rattle.param_grammar.specs.Joining.{ParamValue, params_of, HasParams, SaysParams}
use Rattle.param_grammar.specs.Placed.{HasBodyAt}
use Rattle.param_grammar.proofs.SaidParams.{said_comments}

pub octets_between : (front octets rest text : List ℕ) (at : ℕ) → text ≡ front ++ (octets ++ rest) → at ≡ length front → take (length octets) (drop at text) ≡ octets
octets_between front octets rest text at e place =
    ap (take (length octets)) (ap (drop at) e ∙ drop_at front (octets ++ rest) at (sym place)) ∙ take_at octets rest (length octets) refl

said_run : (at : ℕ) (text : List TextItem) (units : Option (List UnitValue)) → TextSays text units → (run : Option Span) × GivesRun at text run
said_run at text None says = (None, says)
said_run at text (Some units) says = (
  Some (record { at = at + length (spelling says.1.lead); len = length (spelling says.0) }),
  record {
    lead = says.1.lead;
    run = says.0;
    trail = says.1.trail;
    lead_white = says.1.lead_white;
    trail_white = says.1.trail_white;
    is_run = says.1.is_run;
    whole = says.1.whole;
    at_is = refl;
    len_is = refl;
  },
)

said_items : (at : ℕ) (body : Body) (value : CommentValue) → BodySays body value → (tree : Tree) × HasItems at body tree
said_items at (Last text) value says = let run = said_run at text says.0 says.1 in (run_then run.0 End, (run.0, run.1, refl))
said_items at (Before text inner more) value says =
    let run = said_run at text says.0 says.3 in
    let nested = said_items (at + length (spelling text) + 1) inner says.1 says.4 in
    let following = said_items (at + length (spelling text) + length (body_octets inner) + 2) more says.2 says.5 in
    (run_then run.0 (NestedThen nested.0 following.0), (run.0, nested.0, following.0, run.1, nested.1, following.1, refl))

-- the comments among tokens by their places have trees where those by their octets say something
said_trees : (text front rest : List ℕ) (at : ℕ) (ts : List TokenValue) (said : List CommentValue) → text ≡ front ++ (octets_of ts ++ rest) → at ≡ length front → CommentsSay (comments_of ts) said
    → (trees : List Tree) × HaveComments text (filter (λ token. is_comment token.kind) (tokens_from at ts)) trees
said_trees text front rest at [] said e place says = ([], refl)
said_trees text front rest at (t ∷ ts) said e place says =
    let first : text ≡ front ++ (t.octets ++ (octets_of ts ++ rest)) = e ∙ ap (λ r. front ++ r) (append_assoc t.octets (octets_of ts) rest) in
    let following = said_trees text (front ++ t.octets) rest (at + length t.octets) ts in
    let onward = first ∙ sym (append_assoc front t.octets (octets_of ts ++ rest)) in
    let here : at + length t.octets ≡ length (front ++ t.octets) = omega (arith, place, length-append front t.octets) in
    elim (cases_Bool (is_comment t.kind)) [
      | inl comment ↦ by comment (octets_between front t.octets (octets_of ts ++ rest) text at first place) (rw (comment) at says) (λ more s. following more onward here s)
      | inr other ↦ rw (other) (following said onward here (rw (other) at says))
    ]
  where
    by : is_comment t.kind ≡ true → take (length t.octets) (drop at text) ≡ t.octets → CommentsSay (t.octets ∷ comments_of ts) said
        → ((more : List CommentValue) → CommentsSay (comments_of ts) more → (trees : List Tree) × HaveComments text (filter (λ token. is_comment token.kind) (tokens_from (at + length t.octets) ts)) trees)
        → (trees : List Tree) × HaveComments text (filter (λ token. is_comment token.kind) (tokens_from at (t ∷ ts))) trees
    by is octets says more =
        let body = says.3.body in
        let tree = said_items (at + 1) body says.0 says.3.says in
        let others = more says.1 says.4 in
        rw (is) ((tree.0 ∷ others.0, (tree.0, others.0, record { body = body; is_body = says.3.is_body; spelled = octets ∙ says.3.spelled; items = tree.1 }, others.1, refl)))

pub SaysParams-trees : (kind : ParamKind) (text main : List ℕ) (params : List ParamValue) (said : List CommentValue) → SaysParams kind text main params said
    → (trees : List Tree) × HasParams kind text main params trees
SaysParams-trees kind text main params said says =
    let has = says.body.has_tokens in
    let whole : text ≡ octets_of has.values ++ [] = sym (octets_of-tokens Mime has.values text has.are_tokens) ∙ sym (append-nil (octets_of has.values)) in
    let trees = said_trees text [] [] 0 has.values said whole refl says.comments_say in (
      trees.0,
      record {
        pieces = says.body.pieces;
        body = record {
          tokens = says.body.tokens;
          has_tokens = has;
          is_body = says.body.is_body;
          have_comments = subst (λ ts. HaveComments text (filter (λ token. is_comment token.kind) ts) trees.0) (sym has.placed) trees.1;
        };
        are_params = says.body.are_params;
      },
    )

pub HasParams-says : (kind : ParamKind) (text main : List ℕ) (params : List ParamValue) (trees : List Tree) → HasParams kind text main params trees
    → (said : List CommentValue) × SaysParams kind text main params said
HasParams-says kind text main params trees has =
    said_comments kind text main params
    (record { tokens = has.body.tokens; has_tokens = has.body.has_tokens; pieces = has.pieces; is_body = has.body.is_body; are_params = has.are_params })

pub HasBodyAt-says : (kind : ParamKind) (text : List ℕ) (body : BodyOf) → (has : HasBodyAt kind text body)
    → (said : List CommentValue) × SaysParams kind text body.main (params_of has.pieces) said
HasBodyAt-says kind text body has =
    said_comments kind text body.main (params_of has.pieces)
    (record {
      tokens = has.tokens;
      has_tokens = has.has_tokens;
      pieces = has.pieces;
      is_body = has.is_body;
      are_params = record { are_numbered = has.has_placed.are_numbered; params_are = refl };
    })
