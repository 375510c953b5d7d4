-- Listing a folder, from its last message back.
use Rattle.std.proofs.Common.{◌≡◌, ℕ, zero, suc, ◌+◌, ◌<◌, Bool, true, false, cond, eqb, List, [], ◌∷◌, ◌++◌, length, get_or, reverse, Option, Some, None, refl, sym, ap, subst, ◌∙◌, append_assoc, append-nil, arith, inl, inr, length-append}
use Rattle.std.specs.Prelude.{slice_get, option_to_list}
use Rattle.std.specs.List.{All}
use Rattle.std.proofs.lemmas.Bool.{cases_Bool}
use Rattle.std.proofs.lemmas.List.{reverse-append}
use Rattle.std.proofs.lemmas.List.Elements.{All-push}
use Rattle.kept_mail.specs.declared.kept.Message.{Message}
use Rattle.kept_mail.specs.declared.kept.Listed.{Listed}
use Rattle.kept_mail.specs.private.Chains.{chain}
use Rattle.kept_mail.specs.Kept.{numbers_in, listed_from, listed_one}
use Rattle.kept_mail.proofs.ChainLemmas.{AreBelow}

-- what is listed of these messages, from the first's UID on
abbrev pub listed_at : List Message → ℕ → List ℕ → List Listed
listed_at all uid [] = []
listed_at all uid (id ∷ ids) = option_to_list (listed_one (slice_get all id) id uid) ++ listed_at all (uid + 1) ids

slice_get-seam : (before : List Message) (m : Message) (following : List Message) → slice_get (before ++ m ∷ following) (length before) ≡ Some m
slice_get-seam [] m following = refl
slice_get-seam (x ∷ before) m following = slice_get-seam before m following

shown : (m : Message) (id uid : ℕ) (following : List Listed) → cond m.live (record { id = id; uid = uid; flags = m.flags } ∷ following) following ≡ option_to_list (listed_one (Some m) id uid) ++ following
shown m id uid following =
    elim (cases_Bool m.live) [
      | inl live ↦ rw live refl
      | inr dead ↦ rw dead refl
    ]

-- one message more, which is in the folder or isn't
message_more : (all : List Message) (m : Message) (id uid : ℕ) (ids : List ℕ) (here : Bool) (counted uncounted : List Listed) → slice_get all id ≡ Some m
    → counted ≡ listed_at all (uid + 1) ids → uncounted ≡ listed_at all uid ids
    → cond here (cond m.live (record { id = id; uid = uid; flags = m.flags } ∷ counted) counted) uncounted ≡ listed_at all uid (cond here (id ∷ ids) ids)
message_more all m id uid ids true counted uncounted at e f =
    shown m id uid counted ∙ ap (λ (o : Option Message). option_to_list (listed_one o id uid) ++ counted) (sym at) ∙ ap (λ (l : List Listed). option_to_list (listed_one (slice_get all id) id uid) ++ l) e
message_more all m id uid ids false counted uncounted at e f = f

listed_at-numbers_in : (folder uid : ℕ) (before ms : List Message) → listed_from folder (length before) uid ms ≡ listed_at (before ++ ms) uid (numbers_in folder (length before) ms)
listed_at-numbers_in folder uid before [] = refl
listed_at-numbers_in folder uid before (m ∷ ms) =
    let n : length (before ++ m ∷ []) ≡ length before + 1 = omega (arith, length-append before (m ∷ [])) in
    let all : (before ++ m ∷ []) ++ ms ≡ before ++ m ∷ ms = append_assoc before (m ∷ []) ms in
    message_more (before ++ m ∷ ms) m (length before) uid (numbers_in folder (length before + 1) ms) (eqb m.folder folder) _ _ (slice_get-seam before m ms)
    (subst (λ (k : ℕ). listed_from folder k (uid + 1) ms ≡ listed_at ((before ++ m ∷ []) ++ ms) (uid + 1) (numbers_in folder k ms)) n (listed_at-numbers_in folder (uid + 1) (before ++ m ∷ []) ms) ∙ ap (λ (l : List Message). listed_at l (uid + 1) (numbers_in folder (length before + 1) ms)) all)
    (subst (λ (k : ℕ). listed_from folder k uid ms ≡ listed_at ((before ++ m ∷ []) ++ ms) uid (numbers_in folder k ms)) n (listed_at-numbers_in folder uid (before ++ m ∷ []) ms) ∙ ap (λ (l : List Message). listed_at l uid (numbers_in folder (length before + 1) ms)) all)

pub listed_is : (folder : ℕ) (ms : List Message) → listed_from folder 0 1 ms ≡ listed_at ms 1 (numbers_in folder 0 ms)
listed_is folder ms = listed_at-numbers_in folder 1 [] ms

-- ---- and from the last one back

-- what is listed of these messages, the last of which has this UID
abbrev pub listed_back : List Message → ℕ → List ℕ → List Listed
listed_back all uid [] = []
listed_back all uid (id ∷ ids) = option_to_list (listed_one (slice_get all id) id (uid + length ids)) ++ listed_back all uid ids

listed_back-push : (all : List Message) (uid : ℕ) (ids : List ℕ) (id : ℕ) → listed_back all uid (ids ++ id ∷ []) ≡ listed_back all (uid + 1) ids ++ option_to_list (listed_one (slice_get all id) id uid)
listed_back-push all uid [] id =
    let plain : uid + 0 ≡ uid = omega arith in
    append-nil (option_to_list (listed_one (slice_get all id) id (uid + 0))) ∙ ap (λ (n : ℕ). option_to_list (listed_one (slice_get all id) id n)) plain
listed_back-push all uid (x ∷ ids) id =
    let len : uid + length (ids ++ id ∷ []) ≡ uid + 1 + length ids = omega (arith, length-append ids (id ∷ [])) in
    ap (λ (n : ℕ). option_to_list (listed_one (slice_get all x) x n) ++ listed_back all uid (ids ++ id ∷ [])) len
    ∙ ap (λ (l : List Listed). option_to_list (listed_one (slice_get all x) x (uid + 1 + length ids)) ++ l) (listed_back-push all uid ids id)
    ∙ sym (append_assoc (option_to_list (listed_one (slice_get all x) x (uid + 1 + length ids))) (listed_back all (uid + 1) ids) (option_to_list (listed_one (slice_get all id) id uid)))

reverse-option : (o : Option Listed) → reverse (option_to_list o) ≡ option_to_list o
reverse-option None = refl
reverse-option (Some one) = refl

listed_back-reverse : (all : List Message) (uid : ℕ) (ids : List ℕ) → reverse (listed_back all uid (reverse ids)) ≡ listed_at all uid ids
listed_back-reverse all uid [] = refl
listed_back-reverse all uid (id ∷ ids) =
    let here = option_to_list (listed_one (slice_get all id) id uid) in
    ap (λ (l : List ℕ). reverse (listed_back all uid l)) (reverse-append (id ∷ []) ids)
    ∙ ap reverse (listed_back-push all uid (reverse ids) id)
    ∙ reverse-append (listed_back all (uid + 1) (reverse ids)) here
    ∙ ap (λ (l : List Listed). l ++ reverse (listed_back all (uid + 1) (reverse ids))) (reverse-option (listed_one (slice_get all id) id uid))
    ∙ ap (λ (l : List Listed). here ++ l) (listed_back-reverse all (uid + 1) ids)

-- so far on the way back, with so many messages left
pub record IsBack (all : List Message) (previous : List (Option ℕ)) (left : ℕ) (place : Option ℕ) (items whole : List Listed) : Type 0 where
  pub whole_is : items ++ listed_back all 1 (chain left previous place) ≡ whole
  pub count : length (chain left previous place) ≡ left
  pub below : AreBelow (length all) (chain left previous place)
  pub known : All (λ one. one.id < length all) items

-- the place names a message
pub IsBack-within : (all : List Message) (previous : List (Option ℕ)) (left less id : ℕ) (items whole : List Listed) → left ≡ suc less → IsBack all previous left (Some id) items whole → id < length all
IsBack-within all previous left less id items whole e b = (subst (λ (n : ℕ). AreBelow (length all) (chain n previous (Some id))) e b.below).0

IsBack-turn : (all : List Message) (previous : List (Option ℕ)) (left less id : ℕ) (items whole more : List Listed) → left ≡ suc less → IsBack all previous left (Some id) items whole
    → option_to_list (listed_one (slice_get all id) id left) ≡ more → All (λ one. one.id < length all) (items ++ more) → IsBack all previous less (get_or previous id None) (items ++ more) whole
IsBack-turn all previous left less id items whole more e b is known =
    let rest = chain less previous (get_or previous id None) in
    let b_next = subst (λ (n : ℕ). IsBack all previous n (Some id) items whole) e b in
    let count : length rest ≡ less = omega (arith, b_next.count) in
    let uid : 1 + length rest ≡ left = omega (arith, count, e) in
    let its : option_to_list (listed_one (slice_get all id) id (1 + length rest)) ≡ more = ap (λ (n : ℕ). option_to_list (listed_one (slice_get all id) id n)) uid ∙ is in
    record {
      whole_is = append_assoc items more (listed_back all 1 rest) ∙ ap (λ (l : List Listed). items ++ (l ++ listed_back all 1 rest)) (sym its) ∙ b_next.whole_is;
      count = count;
      below = b_next.below.1;
      known = known;
    }

pub IsBack-push : (all : List Message) (previous : List (Option ℕ)) (left less id : ℕ) (items whole : List Listed) (one : Listed) → left ≡ suc less → IsBack all previous left (Some id) items whole
    → Some one ≡ listed_one (slice_get all id) id left → one.id < length all → IsBack all previous less (get_or previous id None) (items ++ one ∷ []) whole
IsBack-push all previous left less id items whole one e b is known = IsBack-turn all previous left less id items whole (one ∷ []) e b (ap option_to_list (sym is)) (All-push (λ (x : Listed). x.id < length all) items one b.known known)

pub IsBack-skip : (all : List Message) (previous : List (Option ℕ)) (left less id : ℕ) (items whole : List Listed) → left ≡ suc less → IsBack all previous left (Some id) items whole
    → None ≡ listed_one (slice_get all id) id left → IsBack all previous less (get_or previous id None) items whole
IsBack-skip all previous left less id items whole e b is =
    subst (λ (l : List Listed). IsBack all previous less (get_or previous id None) l whole) (append-nil items) (IsBack-turn all previous left less id items whole [] e b (ap option_to_list (sym is)) (subst (All (λ one. one.id < length all)) (sym (append-nil items)) b.known))

chain_none : (left : ℕ) (previous : List (Option ℕ)) → chain left previous None ≡ []
chain_none zero previous = refl
chain_none (suc left) previous = refl

-- nothing is left
back_whole : (all : List Message) (items whole : List Listed) (ids : List ℕ) → items ++ listed_back all 1 ids ≡ whole → ids ≡ [] → items ≡ whole
back_whole all items whole ids is e = sym (append-nil items) ∙ ap (λ (l : List ℕ). items ++ listed_back all 1 l) (sym e) ∙ is

pub IsBack-none : (all : List Message) (previous : List (Option ℕ)) (left : ℕ) (items whole : List Listed) → IsBack all previous left None items whole → items ≡ whole
IsBack-none all previous left items whole b = back_whole all items whole (chain left previous None) b.whole_is (chain_none left previous)

pub IsBack-zero : (all : List Message) (previous : List (Option ℕ)) (left : ℕ) (place : Option ℕ) (items whole : List Listed) → left ≡ 0 → IsBack all previous left place items whole → items ≡ whole
IsBack-zero all previous left place items whole e b = back_whole all items whole (chain left previous place) b.whole_is (ap (λ (n : ℕ). chain n previous place) e)

-- what was listed on the way back of a folder that has this chain
pub listed_from_back : (all : List Message) (ids : List ℕ) (items : List Listed) (folder : ℕ) → items ≡ listed_back all 1 ids → ids ≡ reverse (numbers_in folder 0 all) → reverse items ≡ listed_from folder 0 1 all
listed_from_back all ids items folder is e = ap reverse (is ∙ ap (listed_back all 1) e) ∙ listed_back-reverse all 1 (numbers_in folder 0 all) ∙ sym (listed_is folder all)
