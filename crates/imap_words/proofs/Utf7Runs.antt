-- What the engine of modified UTF-7 is, and which octets its symbols are.
use Rattle.std.proofs.Common.{◌≡◌, ℕ, ◌+◌, Bool, true, List, [], ◌∷◌, codes, length, length-append, ◌<◌, ◌≤◌, zero, suc, ap, refl, ◌∙◌, arith}
use Rattle.std.proofs.lemmas.Bool.{and_parts, and_from}
use Rattle.std.specs.List.{list_all, slice_index}
use Rattle.base64.specs.GeneralPurpose.{encode_of, engine_symbols, engine_padding, engine_config, IsStrict}
use Rattle.base64.specs.declared.engine.general_purpose.GeneralPurpose.{GeneralPurpose}
use Rattle.base64.specs.declared.engine.general_purpose.GeneralPurposeConfig.{GeneralPurposeConfig}
use Rattle.base64.specs.declared.engine.general_purpose.TheConstants.{NO_PAD}
use Rattle.base64.specs.Rfc4648.{encode, encode_symbols}
use Rattle.mail_wire.specs.Octets.{is_ascii}
use Rattle.imap_words.specs.Utf7.{modified_base64, is_no_dash}
use Rattle.imap_words.proofs.Passing.{all_join}

abbrev pub symbols : List ℕ
symbols = codes "ABCDEFGHIJKLMNOPQRSTUVWXYZabcdefghijklmnopqrstuvwxyz0123456789+,"

-- the engine writes such runs, and reads nothing else
pub record IsRunEngine (e : GeneralPurpose) : Type 0 where
  pub symbols : engine_symbols e ≡ codes "ABCDEFGHIJKLMNOPQRSTUVWXYZabcdefghijklmnopqrstuvwxyz0123456789+,"
  pub padding : engine_padding e ≡ 61
  pub config : engine_config e ≡ NO_PAD

pub encode_run : (e : GeneralPurpose) (m : List ℕ) → IsRunEngine e → encode_of e m ≡ modified_base64 m
encode_run e m is =
    ap (λ t. encode t e.padding.value e.config.encode_padding m) is.symbols
    ∙ ap (λ p. encode (codes "ABCDEFGHIJKLMNOPQRSTUVWXYZabcdefghijklmnopqrstuvwxyz0123456789+,") p e.config.encode_padding m) is.padding
    ∙ ap (λ (c : GeneralPurposeConfig). encode (codes "ABCDEFGHIJKLMNOPQRSTUVWXYZabcdefghijklmnopqrstuvwxyz0123456789+,") 61 c.encode_padding m) is.config

pub strict_run : (e : GeneralPurpose) → IsRunEngine e → IsStrict e
strict_run e is = rw is.config (refl, refl)

-- ---- each symbol passes what the table passes

pub index_passes : (p : ℕ → Bool) (t : List ℕ) (i : ℕ) → p 0 ≡ true → list_all p t ≡ true → p (slice_index t i) ≡ true
index_passes p [] i null all = null
index_passes p (x ∷ t) zero null all = (and_parts (p x) (list_all p t) all).0
index_passes p (x ∷ t) (suc i) null all = index_passes p t i null (and_parts (p x) (list_all p t) all).1

symbols_pass : (p : ℕ → Bool) (t m : List ℕ) → p 0 ≡ true → list_all p t ≡ true → list_all p (encode_symbols t m) ≡ true
unfolding encode_symbols
symbols_pass p t [] null all = refl
symbols_pass p t (a ∷ []) null all = and_from _ _ (index_passes p t _ null all) (and_from _ _ (index_passes p t _ null all) refl)
symbols_pass p t (a ∷ b ∷ []) null all = and_from _ _ (index_passes p t _ null all) (and_from _ _ (index_passes p t _ null all) (and_from _ _ (index_passes p t _ null all) refl))
symbols_pass p t (a ∷ b ∷ c ∷ rest) null all =
    and_from _ _ (index_passes p t _ null all) (and_from _ _ (index_passes p t _ null all) (and_from _ _ (index_passes p t _ null all) (and_from _ _ (index_passes p t _ null all) (symbols_pass p t rest null all))))

pub run_has_no_dash : (m : List ℕ) → list_all is_no_dash (modified_base64 m) ≡ true
run_has_no_dash m = all_join is_no_dash (encode_symbols symbols m) [] (symbols_pass is_no_dash symbols m refl refl) refl

pub run_is_ascii : (m : List ℕ) → list_all is_ascii (modified_base64 m) ≡ true
run_is_ascii m = all_join is_ascii (encode_symbols symbols m) [] (symbols_pass is_ascii symbols m refl refl) refl

-- a run has a symbol for each octet, or more
symbols_long : (t m : List ℕ) → length m ≤ length (encode_symbols t m)
unfolding encode_symbols
symbols_long t [] = omega arith
symbols_long t (a ∷ []) = omega arith
symbols_long t (a ∷ b ∷ []) = omega arith
symbols_long t (a ∷ b ∷ c ∷ m) = omega (arith, symbols_long t m)

pub run_long : (m : List ℕ) → length m ≤ length (modified_base64 m)
run_long m = omega (arith, symbols_long symbols m, length-append (encode_symbols symbols m) [])

pub run_is_some : (x : ℕ) (m : List ℕ) → 0 < length (modified_base64 (x ∷ m))
run_is_some x m = omega (arith, run_long (x ∷ m))
