-- What a normal form is.
use Rattle.std.proofs.Common.{◌≡◌, ℕ, ◌-◌, List, length, Option, Some, None, true, false, Bool, arith, sym, subst, ◌∙◌, nat_le, slice_index, option_and_then, unwrap_or, cond, IsAscii, leb-true}
use Rattle.std.proofs.lemmas.Bool.{and_parts}
use Rattle.std.proofs.lemmas.Bool.Decides.{nat_tests}
use Rattle.std.proofs.lemmas.List.Elements.{All-weaker}
use Rattle.std.proofs.lemmas.List.Sums.{AllPass-from_list_all, list_all-from_AllPass}
use Rattle.std.proofs.lemmas.Option.{cond_some}
use Rattle.std.specs.Int.{is_in_range}
use Rattle.std.specs.List.{list_all}
use Rattle.idna.specs.declared.deny_list.TheConstants.AsciiDenyList.{STD3}
use Rattle.idna.specs.declared.options.Hyphens.TheVariants.{Check}
use Rattle.idna.specs.declared.options.DnsLength.TheVariants.{Verify, Ignore}
use Rattle.idna.specs.Labels.{is_full_stop, labels_of}
use Rattle.idna.specs.Uts46.{has_dns_lengths, verify_dns_length, to_ascii, passes_dns_length, if_passes}
use Rattle.idna.proofs.LabelsLemmas.{labels_of_cons, join_labels-labels_of, All-labels_of}
use Rattle.idna.proofs.Uts46Lemmas.{to_ascii_by_length, to_ascii_idem, All-to_ascii, IsAscii-to_ascii, IsOutputByte}
use Rattle.idna.proofs.ValidityLemmas.{denies-STD3}
use Rattle.ace_domains.specs.Domains.{is_atext, IsDomain, normal_form, is_host_octet, HasLabelLength, IsDnsName}

passed : {A : Type 0} (test : A → Bool) (o : Option A) (y : A) → option_and_then (if_passes test) o ≡ Some y → test y ≡ true
passed test (Some x) y e =
    let parts = cond_some (test x) x y e in
    subst (λ z. test z ≡ true) parts.1 parts.0
passed test None y e = absurd (cc e)

otherwise : (b x : Bool) → cond b false x ≡ true → x ≡ true
otherwise true x e = absurd (cc e)
otherwise false x e = e

-- the lengths of a form were verified
lengths_verified : (domain form : List ℕ) → normal_form domain ≡ Some form → has_dns_lengths form ≡ true
unfolding verify_dns_length
lengths_verified domain form e =
    otherwise (is_full_stop (slice_index form (length form - 1))) (has_dns_lengths form)
    (passed (passes_dns_length Verify) (to_ascii STD3 Check Ignore domain) form (sym (to_ascii_by_length STD3 Check Verify domain) ∙ e))

name_octet : (c : ℕ) → IsOutputByte STD3 c → is_host_octet c ≡ true
name_octet c byte =
    let open_ = sym (denies-STD3 c) ∙ byte.allowed in
    let small = byte.ascii in
    let lower = byte.lower in
    grind (arith, nat_tests)

label_length : (label : List ℕ) → is_in_range 1 63 (length label) ≡ true → HasLabelLength label
label_length label e =
    let parts = and_parts (nat_le 1 (length label)) (nat_le (length label) 63) e in
    record { some = leb-true 1 (length label) parts.0; short = leb-true (length label) 63 parts.1 }

pub form_own : (domain form : List ℕ) → normal_form domain ≡ Some form → normal_form form ≡ Some form
form_own domain form e = to_ascii_idem STD3 Check Verify domain form e

pub form_ascii : (domain form : List ℕ) → normal_form domain ≡ Some form → IsAscii form
form_ascii domain form e = IsAscii-to_ascii STD3 Check Verify domain form e

pub form_name : (domain form : List ℕ) → normal_form domain ≡ Some form → IsDnsName form
form_name domain form e =
    let verified = and_parts (nat_le (length form) 253) (list_all (λ label. is_in_range 1 63 (length label)) (labels_of form)) (lengths_verified domain form e) in
    record {
      octets = list_all-from_AllPass is_host_octet form (All-weaker (IsOutputByte STD3) (λ c. is_host_octet c ≡ true) name_octet form (All-to_ascii STD3 Check Verify domain form e));
      labels =
          All-weaker (λ label. is_in_range 1 63 (length label) ≡ true) HasLabelLength label_length (labels_of form)
          (AllPass-from_list_all (λ label. is_in_range 1 63 (length label)) (labels_of form) verified.1);
      short = leb-true (length form) 253 verified.0;
    }

atom_octet : (c : ℕ) → is_host_octet c ≡ true → is_full_stop c ≡ false → is_atext c ≡ true
atom_octet c name other = grind (arith, nat_tests)

-- the labels of a name of the DNS are atoms
pub domain_of_name : (name : List ℕ) → IsDnsName name → IsDomain name
domain_of_name name is =
    let parts = labels_of_cons name in
    let octets =
    All-labels_of (λ c. is_atext c ≡ true) name
    (All-weaker (λ c. is_host_octet c ≡ true) (λ c. is_full_stop c ≡ false → is_atext c ≡ true) atom_octet name (AllPass-from_list_all is_host_octet name is.octets)) in
    record {
      atoms = labels_of name;
      some = rw parts.2 (omega arith);
      each = λ k d lt. record { some = (is.labels k d lt).some; octets = list_all-from_AllPass is_atext _ (octets k d lt) };
      whole = sym (join_labels-labels_of name);
    }

pub form_domain : (domain form : List ℕ) → normal_form domain ≡ Some form → IsDomain form
form_domain domain form e = domain_of_name form (form_name domain form e)

-- a domain without a form is compared by itself alone
pub alone : (a b : List ℕ) (other : Option (List ℕ)) → normal_form a ≡ None → normal_form b ≡ other → a ≡ unwrap_or other b → a ≡ b
alone a b None none e same = same
alone a b (Some form) none e same = let own = form_own b form e in absurd (cc)
