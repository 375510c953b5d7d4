-- Host names are their own normal forms.
use Rattle.std.proofs.Common.{◌≡◌, ◌≢◌, ℕ, ◌+◌, ◌<◌, ◌-◌, List, [], ◌∷◌, ◌++◌, length, get_or, All, Some, true, false, arith, sym, ap, subst, ◌∙◌, ◌&&◌, ◌==◌, slice_index, option_and_then, length-append, le-leb, inl, inr, suc}
use Rattle.std.proofs.lemmas.Bool.{cases_Bool, ne_eqb, eqb-true}
use Rattle.std.proofs.lemmas.Bool.Decides.{nat_tests}
use Rattle.std.proofs.lemmas.List.{get_or-append-add}
use Rattle.std.proofs.lemmas.List.Elements.{All-weaker, All-head, All-tail}
use Rattle.std.proofs.lemmas.List.Sums.{AllPass-from_list_all, list_all-from_AllPass}
use Rattle.std.specs.Int.{is_in_range}
use Rattle.idna.specs.declared.deny_list.TheConstants.AsciiDenyList.{STD3}
use Rattle.idna.specs.declared.options.Hyphens.TheVariants.{Check}
use Rattle.idna.specs.declared.options.DnsLength.TheVariants.{Verify}
use Rattle.idna.specs.Display.{IsPlain}
use Rattle.idna.specs.Labels.{full_stop, is_full_stop, labels_of, join_labels}
use Rattle.idna.specs.Uts46.{verify_dns_length, passes_dns_length, if_passes}
use Rattle.idna.specs.Validity.{hyphen, is_valid_char, passes_hyphens}
use Rattle.idna.proofs.LabelsLemmas.{HasNoFullStop, labels_of_cons, join_labels-labels_of, HasNoFullStop-labels_of}
use Rattle.idna.proofs.Uts46Lemmas.{to_ascii_by_length, to_ascii-plain}
use Rattle.idna.proofs.ValidityLemmas.{denies-may_be_denied, is_valid_char-ascii}
use Rattle.ace_domains.specs.Domains.{normal_form, is_host_octet, HasLabelLength, IsDnsName, HasInnerHyphens, IsHostName}

at_last : (first others : List ℕ) → 0 < length others → get_or (first ++ full_stop ∷ others) (length (first ++ full_stop ∷ others) - 1) 0 ≡ get_or others (length others - 1) 0
at_last first [] some = absurd (omega arith)
at_last first (x ∷ xs) some =
    let at : length (first ++ full_stop ∷ x ∷ xs) - 1 ≡ length first + suc (length xs) = simp length-append (omega arith) in
    let before : suc (length xs) - 1 ≡ length xs = omega arith in
    rw (at, before) (get_or-append-add first (full_stop ∷ x ∷ xs) (suc (length xs)) 0)

-- the list doesn't end with a full stop
record EndsInLabel (name : List ℕ) : Type 0 where
  some : 0 < length name
  last : is_full_stop (slice_index name (length name - 1)) ≡ false

-- a name whose labels aren't empty ends in a label
ends_in_label : (first : List ℕ) (rest : List (List ℕ)) → All HasLabelLength (first ∷ rest) → All HasNoFullStop (first ∷ rest) → EndsInLabel (join_labels (first ∷ rest))
ends_in_label first [] long none =
    let some = (All-head HasLabelLength first [] long).some in
    record { some = some; last = All-head HasNoFullStop first [] none (length first - 1) 0 (omega arith) }
ends_in_label first (next ∷ rest) long none =
    let more = ends_in_label next rest (All-tail HasLabelLength first (next ∷ rest) long) (All-tail HasNoFullStop first (next ∷ rest) none) in
    let others = join_labels (next ∷ rest) in
    record { some = simp length-append (omega arith); last = ap is_full_stop (at_last first others more.some) ∙ more.last }

in_range : (label : List ℕ) → HasLabelLength label → is_in_range 1 63 (length label) ≡ true
in_range label is = rw (le-leb 1 (length label) is.some, le-leb (length label) 63 is.short)

-- the lengths of such a name are verified
lengths_pass : (name : List ℕ) → IsDnsName name → passes_dns_length Verify name ≡ true
unfolding verify_dns_length
lengths_pass name is =
    let parts = labels_of_cons name in
    let joined : join_labels (parts.0 ∷ parts.1) ≡ name = ap join_labels (sym parts.2) ∙ join_labels-labels_of name in
    let ends =
    subst EndsInLabel joined
    (ends_in_label parts.0 parts.1 (subst (All HasLabelLength) parts.2 is.labels) (subst (All HasNoFullStop) parts.2 (HasNoFullStop-labels_of name))) in
    let labels = list_all-from_AllPass (λ label. is_in_range 1 63 (length label)) (labels_of name)
    (All-weaker HasLabelLength (λ label. is_in_range 1 63 (length label) ≡ true) in_range (labels_of name) is.labels) in
    rw (ends.last, le-leb (length name) 253 is.short, labels)

valid_octet : (c : ℕ) → is_host_octet c ≡ true → (c < 128) × (is_valid_char STD3 c ≡ true)
valid_octet c name =
    let small : c < 128 = grind (arith, nat_tests) in
    (small, rw (is_valid_char-ascii STD3 c small, denies-may_be_denied STD3 c (grind (arith, nat_tests))) (grind (arith, nat_tests)))

unreserved : (third fourth : ℕ) → (third ≡ hyphen → fourth ≢ hyphen) → ((third == hyphen) && (fourth == hyphen)) ≡ false
unreserved third fourth other =
    elim (cases_Bool (third == hyphen)) [
      | inl same ↦ rw same (ne_eqb fourth hyphen (other (eqb-true third hyphen same)))
      | inr differs ↦ rw differs
    ]

hyphens_placed : (label : List ℕ) → HasInnerHyphens label → passes_hyphens Check label ≡ true
unfolding passes_hyphens
hyphens_placed label is =
    rw (
      unreserved (slice_index label 2) (slice_index label 3) is.unreserved,
      ne_eqb (slice_index label 0) hyphen is.first,
      ne_eqb (slice_index label (length label - 1)) hyphen is.last,
    )

pub host_name_own : (name : List ℕ) → IsHostName name → normal_form name ≡ Some name
host_name_own name is =
    let plain : IsPlain STD3 Check name = record {
      valid = All-weaker (λ c. is_host_octet c ≡ true) (λ c. (c < 128) × (is_valid_char STD3 c ≡ true)) valid_octet name (AllPass-from_list_all is_host_octet name is.name_of_dns.octets);
      placed = list_all-from_AllPass (passes_hyphens Check) (labels_of name) (All-weaker HasInnerHyphens (λ label. passes_hyphens Check label ≡ true) hyphens_placed (labels_of name) is.hyphens);
    } in
    to_ascii_by_length STD3 Check Verify name
    ∙ ap (option_and_then (if_passes (passes_dns_length Verify))) (to_ascii-plain STD3 Check name plain)
    ∙ rw (lengths_pass name is.name_of_dns)
