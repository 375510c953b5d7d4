-- The chains of the folders' messages.
use Rattle.std.proofs.Common.{◌≡◌, ℕ, zero, suc, ◌+◌, ◌<◌, ◌≤◌, Bool, true, false, cond, eqb, List, [], ◌∷◌, ◌++◌, length, get_or, set, reverse, map, Option, Some, None, refl, sym, ap, subst, ◌∙◌, arith, inl, inr, length-append, eq-eqb}
use Rattle.std.specs.List.{All, AllByRecursion}
use Rattle.std.proofs.lemmas.List.Elements.{All-head, All-tail}
use Rattle.std.proofs.lemmas.Bool.{cases_Bool, cases_eq, ne_eqb}
use Rattle.std.proofs.lemmas.List.{get_or-set_same, get_or-set_other, get_or_append_left, reverse-append}
use Rattle.std.proofs.Math.Seq.{get_or-append_seam}
use Rattle.kept_mail.specs.declared.contents.Content.{Content}
use Rattle.kept_mail.specs.declared.kept.Message.{Message}
use Rattle.kept_mail.specs.Kept.{numbers_in}
use Rattle.kept_mail.specs.private.Chains.{chain, empty_content, content_at, AreChained}

pub eqb_same : (n : ℕ) → eqb n n ≡ true
eqb_same n = eq-eqb n n refl

-- ---- the numbers of a folder's messages

in_front : (b : Bool) (x : ℕ) (ys zs : List ℕ) → cond b (x ∷ (ys ++ zs)) (ys ++ zs) ≡ cond b (x ∷ ys) ys ++ zs
in_front true x ys zs = refl
in_front false x ys zs = refl

pub numbers_in-push_same : (folder at : ℕ) (ms : List Message) (m : Message) → eqb m.folder folder ≡ true → numbers_in folder at (ms ++ m ∷ []) ≡ numbers_in folder at ms ++ (at + length ms) ∷ []
numbers_in-push_same folder at [] m e =
    let here : at ≡ at + 0 = omega arith in
    rw e (ap (λ (n : ℕ). n ∷ []) here)
numbers_in-push_same folder at (x ∷ ms) m e =
    let there : at + 1 + length ms ≡ at + suc (length ms) = omega arith in
    let ih = numbers_in-push_same folder (at + 1) ms m e ∙ ap (λ (n : ℕ). numbers_in folder (at + 1) ms ++ n ∷ []) there in
    ap (λ (l : List ℕ). cond (eqb x.folder folder) (at ∷ l) l) ih ∙ in_front (eqb x.folder folder) at (numbers_in folder (at + 1) ms) ((at + suc (length ms)) ∷ [])

pub numbers_in-push_other : (folder at : ℕ) (ms : List Message) (m : Message) → eqb m.folder folder ≡ false → numbers_in folder at (ms ++ m ∷ []) ≡ numbers_in folder at ms
numbers_in-push_other folder at [] m e = rw e refl
numbers_in-push_other folder at (x ∷ ms) m e = ap (λ (l : List ℕ). cond (eqb x.folder folder) (at ∷ l) l) (numbers_in-push_other folder (at + 1) ms m e)

-- there are no more of them than messages
pub numbers_in-few : (folder at : ℕ) (ms : List Message) → length (numbers_in folder at ms) ≤ length ms
numbers_in-few folder at [] = omega arith
numbers_in-few folder at (m ∷ ms) =
    let ih = numbers_in-few folder (at + 1) ms in
    elim (cases_Bool (eqb m.folder folder)) [
      | inl same ↦ rw same (omega (arith, ih))
      | inr other ↦ rw other (omega (arith, ih))
    ]

abbrev pub AreBelow : ℕ → List ℕ → Type 0
AreBelow end ns = AllByRecursion (λ n. n < end) ns

AreBelow-same : (end last : ℕ) (ns : List ℕ) → end ≡ last → AreBelow end ns → AreBelow last ns
AreBelow-same end last ns e h = subst (λ (n : ℕ). AreBelow n ns) e h

AreBelow-front : (end at : ℕ) (b : Bool) (ns : List ℕ) → at < end → AreBelow end ns → AreBelow end (cond b (at ∷ ns) ns)
AreBelow-front end at true ns within h = (within, h)
AreBelow-front end at false ns within h = h

pub numbers_in-below : (folder at : ℕ) (ms : List Message) → AreBelow (at + length ms) (numbers_in folder at ms)
numbers_in-below folder at [] = tt
numbers_in-below folder at (m ∷ ms) =
    let there : at + 1 + length ms ≡ at + suc (length ms) = omega arith in
    AreBelow-front (at + suc (length ms)) at (eqb m.folder folder) (numbers_in folder (at + 1) ms) (omega arith) (AreBelow-same (at + 1 + length ms) (at + suc (length ms)) (numbers_in folder (at + 1) ms) there (numbers_in-below folder (at + 1) ms))

pub AreBelow-append : (end : ℕ) (xs ys : List ℕ) → AreBelow end xs → AreBelow end ys → AreBelow end (xs ++ ys)
AreBelow-append end [] ys h k = k
AreBelow-append end (x ∷ xs) ys h k = (h.0, AreBelow-append end xs ys h.1 k)

pub AreBelow-reverse : (end : ℕ) (xs : List ℕ) → AreBelow end xs → AreBelow end (reverse xs)
AreBelow-reverse end [] h = tt
AreBelow-reverse end (x ∷ xs) h = subst (AreBelow end) (sym (reverse-append (x ∷ []) xs)) (AreBelow-append end (reverse xs) (x ∷ []) (AreBelow-reverse end xs h.1) (h.0, tt))

-- ---- one more message

-- an entry after the end changes no chain within it
chain-push : (n : ℕ) (previous : List (Option ℕ)) (x last : Option ℕ) → AreBelow (length previous) (chain n previous last) → chain n (previous ++ x ∷ []) last ≡ chain n previous last
chain-push zero previous x last h = refl
chain-push (suc n) previous x None h = refl
chain-push (suc n) previous x (Some at) h =
    let same : get_or (previous ++ x ∷ []) at None ≡ get_or previous at None = get_or_append_left previous (x ∷ []) None at h.0 in
    ap (λ (l : List ℕ). at ∷ l) (ap (chain n (previous ++ x ∷ [])) same ∙ chain-push n previous x (get_or previous at None) h.1)

-- a folder's chain is within the messages
pub chain_below : (ms : List Message) (contents : List Content) (previous : List (Option ℕ)) (folder : ℕ) → AreChained ms contents previous
    → AreBelow (length previous) (chain (content_at contents folder).count previous (content_at contents folder).last)
chain_below ms contents previous folder c =
    let plain : 0 + length ms ≡ length previous = omega (arith, c.len) in
    subst (AreBelow (length previous)) (sym (c.chain_is folder)) (AreBelow-reverse (length previous) (numbers_in folder 0 ms) (AreBelow-same (0 + length ms) (length previous) (numbers_in folder 0 ms) plain (numbers_in-below folder 0 ms)))

pub content_few : (ms : List Message) (contents : List Content) (previous : List (Option ℕ)) (folder : ℕ) → AreChained ms contents previous → (content_at contents folder).count ≤ length ms
content_few ms contents previous folder c = omega (arith, c.count_is folder, numbers_in-few folder 0 ms)

-- a folder's content with one more message
abbrev pub one_more : Content → ℕ → Content
one_more content number = record { count = content.count + 1; last = Some number }

-- the chain of a folder that gets a message
chain-more : (n at : ℕ) (previous : List (Option ℕ)) (last : Option ℕ) → at ≡ length previous → AreBelow (length previous) (chain n previous last)
    → chain (n + 1) (previous ++ last ∷ []) (Some at) ≡ at ∷ chain n previous last
chain-more n at previous last e h =
    let next : n + 1 ≡ suc n = omega arith in
    let found : get_or (previous ++ last ∷ []) at None ≡ last = subst (λ (k : ℕ). get_or (previous ++ last ∷ []) k None ≡ last) (sym e) (get_or-append_seam previous last [] None) in
    ap (λ (k : ℕ). chain k (previous ++ last ∷ []) (Some at)) next ∙ ap (λ (l : List ℕ). at ∷ l) (ap (chain n (previous ++ last ∷ [])) found ∙ chain-push n previous last last h)

abbrev HasChain : ℕ → List Message → Content → List (Option ℕ) → Type 0
HasChain folder ms content previous = (content.count ≡ length (numbers_in folder 0 ms)) × (chain content.count previous content.last ≡ reverse (numbers_in folder 0 ms))

has_chain : (ms : List Message) (contents : List Content) (previous : List (Option ℕ)) (folder : ℕ) → AreChained ms contents previous → HasChain folder ms (content_at contents folder) previous
has_chain ms contents previous folder c = (c.count_is folder, c.chain_is folder)

HasChain-same : (folder number : ℕ) (ms : List Message) (m : Message) (content : Content) (previous : List (Option ℕ)) → eqb m.folder folder ≡ true → number ≡ length ms → length previous ≡ length ms
    → AreBelow (length previous) (chain content.count previous content.last) → HasChain folder ms content previous → HasChain folder (ms ++ m ∷ []) (one_more content number) (previous ++ content.last ∷ [])
HasChain-same folder number ms m content previous e is len below h =
    let plain : 0 + length ms ≡ number = omega (arith, is) in
    let pushed : numbers_in folder 0 (ms ++ m ∷ []) ≡ numbers_in folder 0 ms ++ number ∷ [] = numbers_in-push_same folder 0 ms m e ∙ ap (λ (n : ℕ). numbers_in folder 0 ms ++ n ∷ []) plain in
    let turned : reverse (numbers_in folder 0 (ms ++ m ∷ [])) ≡ number ∷ reverse (numbers_in folder 0 ms) = ap reverse pushed ∙ reverse-append (numbers_in folder 0 ms) (number ∷ []) in (
      omega (arith, h.0, ap length pushed, length-append (numbers_in folder 0 ms) (number ∷ [])),
      chain-more content.count number previous content.last (omega (arith, is, len)) below ∙ ap (λ (l : List ℕ). number ∷ l) h.1 ∙ sym turned,
    )

HasChain-other : (folder : ℕ) (ms : List Message) (m : Message) (content : Content) (previous : List (Option ℕ)) (x : Option ℕ) → eqb m.folder folder ≡ false
    → AreBelow (length previous) (chain content.count previous content.last) → HasChain folder ms content previous → HasChain folder (ms ++ m ∷ []) content (previous ++ x ∷ [])
HasChain-other folder ms m content previous x e below h =
    let same : numbers_in folder 0 ms ≡ numbers_in folder 0 (ms ++ m ∷ []) = sym (numbers_in-push_other folder 0 ms m e) in
    (h.0 ∙ ap length same, chain-push content.count previous x content.last below ∙ h.1 ∙ ap reverse same)

-- the contents after a message
abbrev pub contents_after : List Content → Message → ℕ → List Content
contents_after contents m number = set contents m.folder (one_more (content_at contents m.folder) number)

has_chains : (contents : List Content) (previous : List (Option ℕ)) (ms : List Message) (m : Message) (number : ℕ) → AreChained ms contents previous → m.folder < length contents → number ≡ length ms
    → (f : ℕ) → HasChain f (ms ++ m ∷ []) (content_at (contents_after contents m number) f) (previous ++ (content_at contents m.folder).last ∷ [])
has_chains contents previous ms m number c within is f =
    let last = (content_at contents m.folder).last in
    elim (cases_eq f m.folder) [
      | inl same ↦
          let made : content_at (contents_after contents m number) m.folder ≡ one_more (content_at contents m.folder) number = get_or-set_same contents m.folder _ empty_content within in
          let its : HasChain m.folder (ms ++ m ∷ []) (one_more (content_at contents m.folder) number) (previous ++ last ∷ []) =
          HasChain-same m.folder number ms m (content_at contents m.folder) previous (eqb_same m.folder) is c.len (chain_below ms contents previous m.folder c) (has_chain ms contents previous m.folder c) in
          subst (λ (k : ℕ). HasChain k (ms ++ m ∷ []) (content_at (contents_after contents m number) k) (previous ++ last ∷ [])) (sym same)
          (subst (λ (content : Content). HasChain m.folder (ms ++ m ∷ []) content (previous ++ last ∷ [])) (sym made) its)
      | inr other ↦
          let differ : m.folder ≡ f → ⊥ = λ (e : m.folder ≡ f). other (sym e) in
          let kept : content_at (contents_after contents m number) f ≡ content_at contents f = get_or-set_other contents m.folder f _ empty_content other in
          subst (λ (content : Content). HasChain f (ms ++ m ∷ []) content (previous ++ last ∷ [])) (sym kept)
          (HasChain-other f ms m (content_at contents f) previous last (ne_eqb m.folder f differ) (chain_below ms contents previous f c) (has_chain ms contents previous f c))
    ]

pub AreChained-push : (contents : List Content) (previous : List (Option ℕ)) (ms : List Message) (m : Message) (number : ℕ) → AreChained ms contents previous → m.folder < length contents → number ≡ length ms
    → AreChained (ms ++ m ∷ []) (contents_after contents m number) (previous ++ (content_at contents m.folder).last ∷ [])
AreChained-push contents previous ms m number c within is =
    let each = has_chains contents previous ms m number c within is in
    record {
      len = length-append previous ((content_at contents m.folder).last ∷ []) ∙ ap (λ (n : ℕ). n + 1) c.len ∙ sym (length-append ms (m ∷ []));
      count_is = λ (f : ℕ). (each f).0;
      chain_is = λ (f : ℕ). (each f).1;
    }

-- ---- one more folder

-- a folder without messages at the end is what stands past it
content_at-push : (contents : List Content) (f : ℕ) → content_at (contents ++ empty_content ∷ []) f ≡ content_at contents f
content_at-push [] zero = refl
content_at-push [] (suc f) = refl
content_at-push (x ∷ contents) zero = refl
content_at-push (x ∷ contents) (suc f) = content_at-push contents f

pub AreChained-folder : (contents : List Content) (previous : List (Option ℕ)) (ms : List Message) → AreChained ms contents previous → AreChained ms (contents ++ empty_content ∷ []) previous
AreChained-folder contents previous ms c = record {
  len = c.len;
  count_is = λ (f : ℕ). ap (λ (content : Content). content.count) (content_at-push contents f) ∙ c.count_is f;
  chain_is = λ (f : ℕ). ap (λ (content : Content). chain content.count previous content.last) (content_at-push contents f) ∙ c.chain_is f;
}

-- ---- messages of the same folders

abbrev pub folder_of : Message → ℕ
folder_of message = message.folder

same_front : (x y : ℕ) (xs ys : List ℕ) → x ∷ xs ≡ y ∷ ys → (x ≡ y) × (xs ≡ ys)
same_front x y xs ys e = (cc, cc)

numbers_in-same : (folder at : ℕ) (ms new : List Message) → map folder_of new ≡ map folder_of ms → numbers_in folder at new ≡ numbers_in folder at ms
numbers_in-same folder at [] [] e = refl
numbers_in-same folder at [] (n ∷ new) e = absurd cc
numbers_in-same folder at (m ∷ ms) [] e = absurd cc
numbers_in-same folder at (m ∷ ms) (n ∷ new) e =
    let front = same_front n.folder m.folder (map folder_of new) (map folder_of ms) e in
    ap (λ (l : List ℕ). cond (eqb n.folder folder) (at ∷ l) l) (numbers_in-same folder (at + 1) ms new front.1) ∙ ap (λ (k : ℕ). cond (eqb k folder) (at ∷ numbers_in folder (at + 1) ms) (numbers_in folder (at + 1) ms)) front.0

pub AreChained-same : (contents : List Content) (previous : List (Option ℕ)) (ms new : List Message) → AreChained ms contents previous → map folder_of new ≡ map folder_of ms → length new ≡ length ms → AreChained new contents previous
AreChained-same contents previous ms new c same len = record {
  len = c.len ∙ sym len;
  count_is = λ (f : ℕ). c.count_is f ∙ ap length (sym (numbers_in-same f 0 ms new same));
  chain_is = λ (f : ℕ). c.chain_is f ∙ ap reverse (sym (numbers_in-same f 0 ms new same));
}

-- ---- a list that is gone through

pub all_middle : {T : Type 0} (P : T → Type 0) (xs : List T) (y : T) (ys : List T) → All P (xs ++ y ∷ ys) → P y
all_middle P [] y ys h = All-head P y ys h
all_middle P (x ∷ xs) y ys h = all_middle P xs y ys (All-tail P x (xs ++ y ∷ ys) h)

-- there is room for one more of those that are left
pub lengths_left : {T : Type 0} (xs : List T) (y : T) (ys all : List T) → xs ++ y ∷ ys ≡ all → length xs + 1 ≤ length all
lengths_left xs y ys all e = omega (arith, ap length e, length-append xs (y ∷ ys))
