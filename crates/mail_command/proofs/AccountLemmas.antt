-- The journal that `gen` begins with: a domain, and an account of it.
use Rattle.std.proofs.Common.{◌≡◌, ◌≢◌, ℕ, List, [], ◌∷◌, ◌++◌, length, codes, Option, Some, ap, refl, sym, ◌∙◌, append_assoc, arith}
use Rattle.std.specs.Prelude.{slice_index, ◌-◌}
use Rattle.std.proofs.lemmas.List.Elements.{All-from_recursion}
use Rattle.address_grammar.specs.Paths.{HasPath, in_angles}
use Rattle.address_grammar.proofs.WritingLemmas.{dotted_again, dotted_contents, dotted_shapes, dotted_tokens, dotted_words, dotted_writes, local_written, mark}
use Rattle.ace_domains.specs.Domains.{HasInnerHyphens, HasLabelLength}
use Rattle.ace_domains.proofs.HostNameLemmas.{host_name_own}
use Rattle.journal_records.specs.Addresses.{IsDomainText}
use Rattle.journal_records.specs.Spelling.{journal}
use Rattle.journal_records.specs.declared.versions.Version.TheVariants.{Two}
use Rattle.kept_mail.specs.Kept.{Kept, nothing, store_of}
use Rattle.kept_mail.specs.Records.{AreRecords}
use Rattle.mail_store.specs.Answers.{OpensTo}
use Rattle.mail_store.specs.Opening.{IsBadAt}
use Rattle.mail_store.proofs.Readings.{records_not_bad, same_records}
use Rattle.mail_store.proofs.OpenLemmas.{upgraded_kept}
use Rattle.mail_store.proofs.SettleLemmas.{whole_journal}
use Rattle.mail_command.specs.private.Account.{domain, first_records}

-- ---- the domain

inner_hyphens : (label : List ℕ) → slice_index label 0 ≢ 45 → slice_index label (length label - 1) ≢ 45 → slice_index label 2 ≢ 45 → HasInnerHyphens label
inner_hyphens label first last third = record { first = first; last = last; unreserved = λ bad. absurd (third bad) }

domain_is_text : IsDomainText domain
domain_is_text = host_name_own domain (record {
  name_of_dns = record {
    octets = refl;
    labels = All-from_recursion HasLabelLength (codes "example" ∷ codes "org" ∷ []) (record { some = omega arith; short = omega arith }, (record { some = omega arith; short = omega arith }, tt));
    short = omega arith;
  };
  hyphens = All-from_recursion HasInnerHyphens (codes "example" ∷ codes "org" ∷ [])
      (inner_hyphens (codes "example") (λ bad. cc) (λ bad. cc) (λ bad. cc), (inner_hyphens (codes "org") (λ bad. cc) (λ bad. cc) (λ bad. cc), tt));
})

-- ---- the address

abbrev labels : List (List ℕ)
labels = codes "example" ∷ codes "org" ∷ []

address_is_path : HasPath (in_angles (codes "a@example.org")) (Some (record { local = codes "a"; domain = domain }))
unfolding lib.Utf8.encode
address_is_path =
    let local = local_written (codes "a") in
    let dotted = dotted_again labels (omega arith) in
    let says = dotted_contents labels in
    let following = rw (says) at (dotted_writes (dotted_tokens labels) dotted (dotted_shapes labels refl) (mark 62 ∷ []) (62 ∷ []) refl ([], refl, (62, refl, refl), refl)) in
    record {
      tokens = mark 60 ∷ (local.0 ++ mark 64 ∷ (dotted_tokens labels ++ mark 62 ∷ []));
      has_tokens = record {
        is_line = record { utf8 = (codes "<a@example.org>", (refl, refl)); plain = refl };
        are_tokens = (
          codes "a@example.org>",
          refl,
          (60, refl, refl),
          local.1.writes.are_tokens (mark 64 ∷ (dotted_tokens labels ++ mark 62 ∷ [])) (codes "@example.org>") refl (codes "example.org>", refl, (64, refl, refl), following),
        );
      };
      is_path = record {
        before = [];
        inner = local.0 ++ mark 64 ∷ dotted_tokens labels;
        angled = record {
          open_mark = mark 60;
          close_mark = mark 62;
          after = [];
          whole = ap (λ r. mark 60 ∷ r) (sym (append_assoc local.0 (mark 64 ∷ dotted_tokens labels) (mark 62 ∷ [])));
          opens = refl;
          closes = refl;
          following = refl;
        };
        nothing_before = refl;
        holds = record {
          local = local.0;
          at = mark 64;
          domain = dotted_tokens labels;
          whole = refl;
          is_at = refl;
          is_local = local.1.is_local;
          is_domain = rw (dotted_words labels, dotted) refl;
          local_says = local.1.says;
          domain_says = sym says;
        };
      };
    }

-- ---- the records

are_records : AreRecords Two nothing first_records
are_records = (
  record { fits = omega arith; short = omega arith; of_version = tt; in_order = (domain_is_text, omega arith) },
  (
    record {
      fits = (omega arith, omega arith);
      short = omega arith;
      of_version = tt;
      in_order = (((record { local = codes "a"; domain = domain }, address_is_path), omega arith), omega arith, omega arith, omega arith);
    },
    tt,
  ),
)

-- what is kept of them, and nothing more
pub opens_to_account : (opened : Option (List ℕ)) (kept : Kept) → OpensTo (journal Two first_records) opened kept → kept ≡ store_of first_records
opens_to_account opened kept opens =
    let same = same_records (journal Two first_records) opens.first first_records (opens.version, opens.had) (Two, whole_journal Two first_records are_records) in
    opens.kept_is ∙ ap store_of opens.all_is ∙ upgraded_kept opens.version opens.first ∙ ap store_of same

pub account_not_bad : (at : ℕ) → IsBadAt (journal Two first_records) at → ⊥
account_not_bad at bad = records_not_bad (journal Two first_records) first_records at (Two, whole_journal Two first_records are_records) bad
