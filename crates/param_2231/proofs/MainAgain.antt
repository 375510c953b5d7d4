-- The main part of a text can stand in another, as it is served.
use Rattle.std.proofs.Common.{◌≡◌, ℕ, ◌+◌, Bool, true, false, ◌&&◌, List, [], ◌∷◌, ◌++◌, drop, map, codes, refl, sym, ap, ◌∙◌, subst, arith}
use Rattle.std.proofs.lemmas.Bool.{true≢false, and_parts, cond-true, cond-false}
use Rattle.std.proofs.lemmas.Slice.Eq.{bytes_eq-Decides}
use Rattle.std.proofs.lemmas.List.{append-nil}
use Rattle.std.specs.List.{list_all}
use Rattle.std.specs.Str.{str_to_ascii_lowercase}
use Rattle.mail_wire.specs.Octets.{is_ascii}
use Rattle.mail_wire.proofs.AllLemmas.{pass-append}
use Rattle.field_tokens.specs.declared.Style.TheVariants.{Mime}
use Rattle.field_tokens.specs.declared.Token.{Token}
use Rattle.field_tokens.specs.declared.TokenKind.TheVariants.{Atom, Special}
use Rattle.field_tokens.specs.Tokens.{IsToken, TokenValue, octets_at}
use Rattle.field_tokens.specs.Squeezed.{run_octets, octets_of, is_atom_kind}
use Rattle.field_tokens.proofs.SqueezedValues.{value_at, AreKept}
use Rattle.param_grammar.specs.declared.ParamKind.{ParamKind}
use Rattle.param_grammar.specs.declared.ParamKind.TheVariants.{Content, Disposition}
use Rattle.param_grammar.specs.Bodies.{is_main}
use Rattle.param_2231.specs.Layout.{is_global, written_main}
use Rattle.param_2231.specs.ParamsReadBack.{served_main}
use Rattle.param_2231.proofs.CoresAgain.{is_mark, is_ascii_name, are_main, are_main-at, octets-at, CanStand}
use Rattle.param_2231.proofs.PlacedAgain.{ArePlaced, mark_before, before_none, before_mark, atom_free, free_of, run_line, run_are_octets}
use Rattle.param_2231.proofs.SectionsAgain.{IsMainCore}

-- a main part can stand in a text, and is ASCII
pub record StandsAsMain (core : List TokenValue) : Type 0 where
  pub stands : CanStand core
  pub ascii : list_all is_ascii (octets_of core) ≡ true

main_stands : (kind : ParamKind) (text : List ℕ) (ts : List Token) → ArePlaced text ts → AreKept (map (value_at text) ts) → are_main kind (map (value_at text) ts) ≡ true → StandsAsMain (map (value_at text) ts)
main_stands Content text [] placed kept h = absurd (true≢false (sym h))
main_stands Content text (a ∷ []) placed kept h = absurd (true≢false (sym h))
main_stands Content text (a ∷ b ∷ []) placed kept h = absurd (true≢false (sym h))
main_stands Content text (a ∷ b ∷ c ∷ d ∷ more) placed kept h = absurd (true≢false (sym h))
main_stands Disposition text [] placed kept h = absurd (true≢false (sym h))
main_stands Disposition text (a ∷ b ∷ more) placed kept h = absurd (true≢false (sym h))
main_stands Disposition text (a ∷ []) placed kept h =
    let name = and_parts (is_atom_kind a.kind) (list_all is_ascii (octets_at text a.span)) h in
    record {
      stands = record {
        are_tokens = ([], refl, before_none a.kind (octets_at text a.span) (drop (a.span.at + a.span.len) text) placed.0.is_token, refl);
        kept = kept;
        no_semicolon = (free_of (value_at text a) (atom_free a.kind (octets_at text a.span) (drop (a.span.at + a.span.len) text) name.0 placed.0.is_token), tt);
        line = run_line text (a ∷ []) placed;
        octets = run_are_octets text (a ∷ []) placed;
        some = omega arith;
      };
      ascii = ap (list_all is_ascii) (append-nil (octets_at text a.span)) ∙ name.1;
    }
main_stands Content text (a ∷ b ∷ c ∷ []) placed kept h =
    let v : TokenValue = value_at text a in
    let w : TokenValue = value_at text c in
    let one = and_parts (is_ascii_name v) (is_mark 47 (value_at text b) && is_ascii_name w) h in
    let two = and_parts (is_mark 47 (value_at text b)) (is_ascii_name w) one.1 in
    let name = and_parts (is_atom_kind a.kind) (list_all is_ascii v.octets) one.0 in
    let other = and_parts (is_atom_kind c.kind) (list_all is_ascii w.octets) two.1 in
    let mark : octets_at text b.span ≡ 47 ∷ [] = (bytes_eq-Decides (octets_at text b.span) (47 ∷ [])).0 two.0 in
    let rest : List ℕ = w.octets ++ [] in
    let b_is : IsToken Mime b.kind (47 ∷ []) (drop (b.span.at + b.span.len) text) = subst (λ o. IsToken Mime b.kind o (drop (b.span.at + b.span.len) text)) mark placed.1.0.is_token in
    let b_here : IsToken Mime b.kind (octets_at text b.span) rest =
    subst (λ o. IsToken Mime b.kind o rest) (sym mark) (mark_before b.kind 47 (drop (b.span.at + b.span.len) text) rest refl refl b_is) in
    let a_here : IsToken Mime a.kind v.octets (octets_at text b.span ++ rest) =
    subst (λ o. IsToken Mime a.kind v.octets (o ++ rest)) (sym mark) (before_mark a.kind v.octets (drop (a.span.at + a.span.len) text) 47 rest kept.0 refl placed.0.is_token) in
    let c_here : IsToken Mime c.kind w.octets [] = before_none c.kind w.octets (drop (c.span.at + c.span.len) text) placed.1.1.0.is_token in
    record {
      stands = record {
        are_tokens = (octets_at text b.span ++ rest, refl, a_here, (rest, refl, b_here, ([], refl, c_here, refl)));
        kept = kept;
        no_semicolon = (
          free_of v (atom_free a.kind v.octets (drop (a.span.at + a.span.len) text) name.0 placed.0.is_token),
          (ap (λ o. is_mark 59 (record { kind = b.kind; octets = o })) mark, (free_of w (atom_free c.kind w.octets (drop (c.span.at + c.span.len) text) other.0 placed.1.1.0.is_token), tt)),
        );
        line = run_line text (a ∷ b ∷ c ∷ []) placed;
        octets = run_are_octets text (a ∷ b ∷ c ∷ []) placed;
        some = omega arith;
      };
      ascii = pass-append is_ascii v.octets (octets_at text b.span ++ rest) name.1
          (pass-append is_ascii (octets_at text b.span) rest (ap (list_all is_ascii) mark) (ap (list_all is_ascii) (append-nil w.octets) ∙ other.1));
    }

-- the type of a message
abbrev message : List TokenValue
message = record { kind = Atom; octets = codes "message" } ∷ record { kind = Special; octets = codes "/" } ∷ record { kind = Atom; octets = codes "rfc822" } ∷ []

message_stands : StandsAsMain message
message_stands = record {
  stands = record {
    are_tokens = (
      codes "/rfc822",
      refl,
      (omega arith, record { whole = refl; passes = refl; stops = refl }),
      (codes "rfc822", refl, (47, refl, refl), ([], refl, (omega arith, record { whole = refl; passes = refl; stops = tt }), refl)),
    );
    kept = (refl, (refl, (refl, tt)));
    no_semicolon = (refl, (refl, (refl, tt)));
    line = refl;
    octets = refl;
    some = omega arith;
  };
  ascii = refl;
}

-- the main part as it is served
pub record MainAgain (kind : ParamKind) (main written : List ℕ) : Type 0 where
  pub core : List TokenValue
  pub is_main : IsMainCore kind core main
  pub stands : StandsAsMain core
  pub octets : octets_of core ≡ written

served_where : (global open_global : Bool) (kind : ParamKind) (main written : List ℕ) → (open_global && is_global kind main) ≡ global → MainAgain kind main written
    → MainAgain kind (served_main open_global kind main) (written_main open_global kind main written)
served_where false open_global kind main written g again =
    subst (λ m. MainAgain kind m (written_main open_global kind main written)) (sym (cond-false _ _ _ g)) (subst (MainAgain kind main) (sym (cond-false _ _ _ g)) again)
served_where true open_global Content main written g again =
    subst (λ m. MainAgain Content m (written_main open_global Content main written)) (sym (cond-true _ _ _ g)) (subst (MainAgain Content (codes "message/rfc822")) (sym (cond-true _ _ _ g))
    (record { core = message; is_main = record { is_main_part = refl; main_is = refl }; stands = message_stands; octets = refl }))
served_where true true Disposition main written g again = absurd (true≢false (sym g))
served_where true false Disposition main written g again = absurd (true≢false (sym g))

pub main_again : (kind : ParamKind) (open_global : Bool) (text main : List ℕ) (ts : List Token) → ArePlaced text ts → AreKept (map (value_at text) ts) → is_main kind text ts ≡ true
    → main ≡ str_to_ascii_lowercase (run_octets text ts) → MainAgain kind (served_main open_global kind main) (written_main open_global kind main (run_octets text ts))
main_again kind open_global text main ts placed kept is e =
    let core : List TokenValue = map (value_at text) ts in
    let are : are_main kind core ≡ true = sym (are_main-at kind text ts) ∙ is in
    served_where (open_global && is_global kind main) open_global kind main (run_octets text ts) refl (record {
      core = core;
      is_main = record { is_main_part = are; main_is = e ∙ ap str_to_ascii_lowercase (sym (octets-at text ts)) };
      stands = main_stands kind text ts placed kept are;
      octets = octets-at text ts;
    })
