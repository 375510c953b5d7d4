-- The worked failures are failures.
use Rattle.std.proofs.Common.{◌≡◌, ℕ, ◌<◌, List, [], ◌∷◌, ◌++◌, length, Some, None, refl, sym, subst, arith}
use Rattle.std.specs.Prelude.{codes}
use Rattle.std.specs.List.{All}
use Rattle.std.proofs.lemmas.List.Elements.{All-from_recursion}
use Rattle.ace_domains.specs.Domains.{HasInnerHyphens, HasLabelLength, normal_form}
use Rattle.ace_domains.proofs.HostNameLemmas.{host_name_own}
use Rattle.address_grammar.specs.declared.Address.{Address}
use Rattle.address_grammar.specs.Paths.{ComesInPath}
use Rattle.utf8_reports.specs.declared.failure.FailedRecipient.{FailedRecipient}
use Rattle.utf8_reports.specs.Recipients.{IsFailed, IsStatusCode}
use Rattle.utf8_reports.specs.Reports.{IsFailure}

status_code : IsStatusCode (codes "5.6.9")
status_code = record {
  class_digits = codes "5";
  subject = codes "6";
  detail = codes "9";
  is_class = record { some = omega arith; digits = refl };
  is_subject = record { some = omega arith; digits = refl };
  is_detail = record { some = omega arith; digits = refl };
  whole = refl;
}

-- `example.org` is its own normal form
own_name : normal_form (codes "example.org") ≡ Some (codes "example.org")
own_name = host_name_own (codes "example.org") (record {
  name_of_dns = record {
    octets = refl;
    labels = All-from_recursion HasLabelLength (codes "example" ∷ codes "org" ∷ []) (record { some = omega arith; short = omega arith }, (record { some = omega arith; short = omega arith }, tt));
    short = omega arith;
  };
  hyphens = All-from_recursion HasInnerHyphens (codes "example" ∷ codes "org" ∷ [])
      (record { first = omega arith; last = omega arith; unreserved = λ h. omega arith }, (record { first = omega arith; last = omega arith; unreserved = λ h. omega arith }, tt));
})

pub worked_failed : (failed old : List FailedRecipient) (address : Address) (status : List ℕ) → ComesInPath address → status ≡ codes "5.6.9" → old ≡ []
    → failed ≡ old ++ record { address = address; status = status; code = None } ∷ [] → (0 < length failed) × All IsFailed failed
worked_failed failed old address status comes is none made =
    let one : IsFailed (record { address = address; status = status; code = None }) = record { address = comes; status = subst IsStatusCode (sym is) status_code; code = tt } in
    rw (made, none) (omega arith, All-from_recursion IsFailed (record { address = address; status = status; code = None } ∷ []) (one, tt))

pub worked_failure : (path : Address) (name : List ℕ) (failed : List FailedRecipient) → ComesInPath path → name ≡ codes "example.org" → (0 < length failed) × All IsFailed failed
    → IsFailure (record { path = path; name = name; failed = failed; seconds = 0 })
worked_failure path name failed comes is all = record { path = comes; name = subst (λ n. normal_form n ≡ Some n) (sym is) own_name; some = all.0; failed = all.1; seconds = omega arith }
