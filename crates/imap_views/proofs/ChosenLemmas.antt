-- Names in lower case in a set, and the fields that are chosen by them.
use Rattle.std.proofs.Common.{◌≡◌, ℕ, ◌+◌, ◌<◌, Bool, true, false, not, ◌||◌, if◌then◌else◌, List, [], ◌∷◌, ◌++◌, length, get_or, take, filter, refl, sym, ap, ◌∙◌, subst}
use Rattle.std.specs.Global.{Vec}
use Rattle.std.specs.List.{list_any, flat_map}
use Rattle.std.specs.Bool.{beq}
use Rattle.std.specs.BTreeMap.{is_at}
use Rattle.std.specs.BTreeSet.{insert_key}
use Rattle.std.specs.Ordering.{is_eq, nat_cmp, match_ordering}
use Rattle.std.specs.declared.cmp.Ordering.{Ordering}
use Rattle.std.specs.declared.cmp.Ordering.TheVariants.{Less, Equal, Greater}
use Rattle.std.specs.Cmp.Lexicographic.{slice_cmp}
use Rattle.std.specs.Str.{bytes_eq, str_to_ascii_lowercase}
use Rattle.std.proofs.Math.Bool.{or_assoc, or_comm}
use Rattle.std.proofs.lemmas.List.{flat_map_more, append-nil}
use Rattle.std.proofs.lemmas.List.Elements.{filter_more}
use Rattle.std.proofs.lemmas.List.Folds.{list_any-append}
use Rattle.std.proofs.lemmas.Map.Text.{is_eq-slice_cmp}
use Rattle.std.proofs.lemmas.Slice.Eq.{bytes_eq-Decides}
use Rattle.mail_wire.specs.Lines.{crlf}
use Rattle.mail_wire.specs.Octets.{same_name}
use Rattle.utf8_fields.specs.declared.block.Field.{Field}
use Rattle.utf8_fields.specs.Block.{HasBlock, raw_of, name_of}
use Rattle.imap_views.specs.Chosen.{is_among, is_chosen, AreChosen}
use Rattle.imap_views.specs.private.Reading.{HoldsNames}

or_false : (b : Bool) → (b || false) ≡ b
or_false true = refl
or_false false = refl

-- what is there already
or_again : (a b : Bool) → (a || b) ≡ ((a || b) || a)
or_again true b = refl
or_again false true = refl
or_again false false = refl

-- a key that was put to a set, which may have had it
put_key : (q : List ℕ) (keys : List (Vec ℕ)) (key : Vec ℕ)
    → list_any (is_at (λ k. slice_cmp nat_cmp q k.items)) (insert_key (λ x y. slice_cmp nat_cmp x.items y.items) keys key) ≡ (list_any (is_at (λ k. slice_cmp nat_cmp q k.items)) keys || bytes_eq q key.items)
put_key q [] key = or_false (is_at (λ (k : Vec ℕ). slice_cmp nat_cmp q k.items) key) ∙ is_eq-slice_cmp q key.items
put_key q (x ∷ keys) key = step (put_key q keys key) (slice_cmp nat_cmp key.items x.items) refl
  where
    step : (list_any (is_at (λ k. slice_cmp nat_cmp q k.items)) (insert_key (λ x y. slice_cmp nat_cmp x.items y.items) keys key) ≡ (list_any (is_at (λ k. slice_cmp nat_cmp q k.items)) keys || bytes_eq q key.items))
        → (o : Ordering) → slice_cmp nat_cmp key.items x.items ≡ o
        → list_any (is_at (λ k. slice_cmp nat_cmp q k.items)) (match_ordering o (key ∷ x ∷ keys) (x ∷ keys) (x ∷ insert_key (λ x y. slice_cmp nat_cmp x.items y.items) keys key))
        ≡ (list_any (is_at (λ k. slice_cmp nat_cmp q k.items)) (x ∷ keys) || bytes_eq q key.items)
    step later Less e =
        ap (λ (b : Bool). b || list_any (is_at (λ (k : Vec ℕ). slice_cmp nat_cmp q k.items)) (x ∷ keys)) (is_eq-slice_cmp q key.items)
        ∙ or_comm (bytes_eq q key.items) (list_any (is_at (λ (k : Vec ℕ). slice_cmp nat_cmp q k.items)) (x ∷ keys))
    step later Equal e =
        let same : key.items ≡ x.items = (bytes_eq-Decides key.items x.items).0 (sym (is_eq-slice_cmp key.items x.items) ∙ ap is_eq e) in
        or_again (is_eq (slice_cmp nat_cmp q x.items)) (list_any (is_at (λ (k : Vec ℕ). slice_cmp nat_cmp q k.items)) keys)
        ∙ ap (λ (b : Bool). list_any (is_at (λ (k : Vec ℕ). slice_cmp nat_cmp q k.items)) (x ∷ keys) || b) (is_eq-slice_cmp q x.items ∙ ap (bytes_eq q) (sym same))
    step later Greater e =
        ap (λ (b : Bool). is_eq (slice_cmp nat_cmp q x.items) || b) later
        ∙ sym (or_assoc (is_eq (slice_cmp nat_cmp q x.items)) (list_any (is_at (λ (k : Vec ℕ). slice_cmp nat_cmp q k.items)) keys) (bytes_eq q key.items))

-- one more name in the set
pub one_more_name : (asked : List (List ℕ)) (name : List ℕ) (key : Vec ℕ) (old new : List (Vec ℕ)) → key.items ≡ str_to_ascii_lowercase name
    → new ≡ insert_key (λ x y. slice_cmp nat_cmp x.items y.items) old key → HoldsNames asked (λ q. list_any (is_at (λ (k : Vec ℕ). slice_cmp nat_cmp q k.items)) old)
    → HoldsNames (asked ++ name ∷ []) (λ q. list_any (is_at (λ (k : Vec ℕ). slice_cmp nat_cmp q k.items)) new)
one_more_name asked name key old new lower puts holds q =
    ap (list_any (is_at (λ (k : Vec ℕ). slice_cmp nat_cmp q k.items))) puts ∙ put_key q old key
    ∙ rw (holds q, lower, ← or_false (bytes_eq q (str_to_ascii_lowercase name))) (sym (list_any-append (λ one. bytes_eq q (str_to_ascii_lowercase one)) asked (name ∷ [])))

same_among : (asked : List (List ℕ)) (name : List ℕ) → list_any (λ one. bytes_eq (str_to_ascii_lowercase name) (str_to_ascii_lowercase one)) asked ≡ is_among asked name
unfolding same_name
same_among asked name = refl

-- a name is found in the set, or not
among_held : (asked : List (List ℕ)) (has : List ℕ → Bool) (name lower : List ℕ) → HoldsNames asked has → lower ≡ str_to_ascii_lowercase name → has lower ≡ is_among asked name
among_held asked has name lower holds e = ap has e ∙ holds (str_to_ascii_lowercase name) ∙ same_among asked name

turned : (found negated : Bool) → not (beq found negated) ≡ (if negated then not found else found)
turned true true = refl
turned true false = refl
turned false true = refl
turned false false = refl

pub chosen_held : (asked : List (List ℕ)) (has : List ℕ → Bool) (name lower : List ℕ) (found negated : Bool) → HoldsNames asked has → lower ≡ str_to_ascii_lowercase name → found ≡ has lower
    → not (beq found negated) ≡ is_chosen asked negated name
chosen_held asked has name lower found negated holds e is = turned found negated ∙ rw (is, among_held asked has name lower holds e) refl

-- one more field, which is chosen or not
pub one_more_field : (octets : List ℕ) (passes : Field → Bool) (fields : List Field) (i : ℕ) (d : Field) (is : Bool) (made new : List ℕ) → i < length fields → is ≡ passes (get_or fields i d)
    → made ≡ flat_map (raw_of octets) (filter passes (take i fields)) → new ≡ (if is then made ++ raw_of octets (get_or fields i d) else made)
    → new ≡ flat_map (raw_of octets) (filter passes (take (i + 1) fields))
one_more_field octets passes fields i d true made new below e is_made is_new =
    is_new ∙ rw (is_made, filter_more passes fields i d below, ← e) (flat_map_more (raw_of octets) [] (filter passes (take i fields)) (get_or fields i d))
one_more_field octets passes fields i d false made new below e is_made is_new =
    is_new ∙ rw (is_made, filter_more passes fields i d below, ← e, append-nil) refl

-- the fields that are chosen, and an empty line
pub chosen_made : (header octets : List ℕ) (fields : List Field) (end : ℕ) (names : List (List ℕ)) (negated : Bool) (made text : List ℕ) → octets ≡ header → HasBlock octets fields end
    → made ≡ flat_map (raw_of octets) (filter (λ field. is_chosen names negated (name_of octets field)) fields) → text ≡ made ++ crlf → AreChosen header names negated text
chosen_made header octets fields end names negated made text same block is ends =
    subst (λ h. AreChosen h names negated text) same (record { fields = fields; end = end; has_block = block; text_is = ends ∙ ap (λ m. m ++ crlf) is })
