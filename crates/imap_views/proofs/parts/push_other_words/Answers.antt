use Rattle.std.proofs.Common.{[], ◌∷◌, sym, append-nil}
use Rattle.std.proofs.lemmas.Result.{on_ok_weaker}
use Rattle.address_grammar.specs.Addresses.{quoted_string}
use Rattle.imap_views.specs.Strings.{nstring}
use Rattle.imap_views.proofs.SpacedLemmas.{after_put-apart}
use Rattle.imap_views.proofs.parts.push_other_words.Goals as goal

pub returns : goal.returns
returns c =
    let old = c.args.made.now in
    let part = c.args.part.now in
    let id = after_put-apart old [] (nstring part.id) _ _ _ (sym (append-nil old)) c.in_ok-push.ensures.ok (rw (c.slice_of.ensures) at c.in_ok-push_nstring.ensures) in
    let description = after_put-apart old (nstring part.id ∷ []) (nstring part.description) _ _ _ id c.in_ok-push-2.ensures.ok (rw (c.slice_of-2.ensures) at c.in_ok-push_nstring-2.ensures) in
    on_ok_weaker c.push_quoted_string.result
    (λ put. after_put-apart old (nstring part.id ∷ nstring part.description ∷ []) (quoted_string part.encoding) _ _ _ description c.in_ok-push-3.ensures.ok (rw (c.as_slice.ensures) at put)) c.push_quoted_string.ensures
