-- What is broken off at the end of a file.
use Rattle.std.proofs.Common.{◌≡◌, ℕ, ◌+◌, ◌-◌, ◌*◌, ◌/◌, ◌<◌, ◌≤◌, Bool, true, false, ◌&&◌, List, length, take, drop, Option, Some, None, Result, Ok, Err, option_map, ◌≢◌, refl, sym, ap, subst, ◌∙◌, arith}
use Rattle.std.specs.Prelude.{IfOk, IfSome, IsTrue, ◌↔◌}
use Rattle.std.proofs.lemmas.Bool.{false≢true}
use Rattle.std.proofs.lemmas.List.{take-append-drop, take_all, drop-drop, drop_all, length-drop}
use Rattle.std.proofs.lemmas.List.Folds.{list_all-append}
use Rattle.mail_wire.proofs.AllLemmas.{pass-drop}
use Rattle.journal_records.specs.declared.frames.Frame.{Frame}
use Rattle.journal_records.specs.declared.frames.Frame.TheVariants as frames
use Rattle.mail_store.specs.declared.opening.OpenFault.{OpenFault}
use Rattle.mail_store.specs.private.Replaying.{BreaksFrame}
use Rattle.mail_store.specs.Opening.{AreZeros, EndsInZeros, are_zeros, is_zero}

-- ---- octets in pieces

-- a piece, and what is after it
parts : (octets : List ℕ) (at len : ℕ) → are_zeros (drop at octets) ≡ (are_zeros (take len (drop at octets)) && are_zeros (drop (at + len) octets))
parts octets at len =
    ap are_zeros (sym (take-append-drop len (drop at octets))) ∙ list_all-append is_zero (take len (drop at octets)) (drop len (drop at octets))
    ∙ ap (λ l. are_zeros (take len (drop at octets)) && are_zeros l) (drop-drop len at octets)

-- a piece of zeros
pub zeros_next : (told : Option (List ℕ)) (from at len : ℕ) (piece : List ℕ) → IfSome told (λ octets. are_zeros (drop at octets) ≡ are_zeros (drop from octets))
    → IfSome told (λ octets. piece ≡ take len (drop at octets)) → are_zeros piece ≡ true → IfSome told (λ octets. are_zeros (drop (at + len) octets) ≡ are_zeros (drop from octets))
zeros_next None from at len piece so_far is zeros = tt
zeros_next (Some octets) from at len piece so_far is zeros =
    sym (parts octets at len ∙ ap (λ b. b && are_zeros (drop (at + len) octets)) (ap are_zeros (sym is) ∙ zeros)) ∙ so_far

-- one with another octet
pub zeros_stop : (told : Option (List ℕ)) (from at len : ℕ) (piece : List ℕ) → IfSome told (λ octets. are_zeros (drop at octets) ≡ are_zeros (drop from octets))
    → IfSome told (λ octets. piece ≡ take len (drop at octets)) → are_zeros piece ≡ false → IfSome told (λ octets. false ≡ are_zeros (drop from octets))
zeros_stop None from at len piece so_far is other = tt
zeros_stop (Some octets) from at len piece so_far is other =
    sym (parts octets at len ∙ ap (λ b. b && are_zeros (drop (at + len) octets)) (ap are_zeros (sym is) ∙ other)) ∙ so_far

-- the end
pub zeros_end : (told : Option (List ℕ)) (from at had : ℕ) → IfSome told (λ octets. had ≡ length octets) → had ≤ at
    → IfSome told (λ octets. are_zeros (drop at octets) ≡ are_zeros (drop from octets)) → IfSome told (λ octets. true ≡ are_zeros (drop from octets))
zeros_end None from at had len end so_far = tt
zeros_end (Some octets) from at had len end so_far = sym (ap are_zeros (drop_all at octets (omega (arith, len, end)))) ∙ so_far

pub zeros_begin : (told : Option (List ℕ)) (from : ℕ) → IfSome told (λ octets. are_zeros (drop from octets) ≡ are_zeros (drop from octets))
zeros_begin None from = tt
zeros_begin (Some octets) from = refl

-- ---- the last sector

abbrev last_sector : ℕ → ℕ
last_sector had = (had - 1) / 512

-- there is none within the octets
no_sector : (octets : List ℕ) (at had : ℕ) → had ≡ length octets → at < had → last_sector had * 512 < at → EndsInZeros at (drop at octets) → ⊥
no_sector octets at had len within before e = omega (arith, len, within, before, e.from, e.within, length-drop at octets)

sector_ends : (octets : List ℕ) (at had : ℕ) → had ≡ length octets → at < had → at ≤ last_sector had * 512 → are_zeros (drop (last_sector had * 512) octets) ≡ true
    → EndsInZeros at (drop at octets)
sector_ends octets at had len within from zeros =
    let place : at + (512 * last_sector had - at) ≡ last_sector had * 512 = omega (arith, from) in
    record {
      sector = last_sector had;
      from = omega (arith, from);
      within = omega (arith, len, within, length-drop at octets);
      zeros = ap are_zeros (drop-drop (512 * last_sector had - at) at octets ∙ ap (λ (n : ℕ). drop n octets) place) ∙ zeros;
    }

ends_sector : (octets : List ℕ) (at had : ℕ) → had ≡ length octets → at < had → at ≤ last_sector had * 512 → EndsInZeros at (drop at octets)
    → are_zeros (drop (last_sector had * 512) octets) ≡ true
ends_sector octets at had len within from e =
    let more = last_sector had * 512 - 512 * e.sector in
    let later : 512 * e.sector ≤ last_sector had * 512 = omega (arith, len, within, e.within, e.from, length-drop at octets) in
    let first : at + (512 * e.sector - at) ≡ 512 * e.sector = omega (arith, e.from) in
    let place : 512 * e.sector + more ≡ last_sector had * 512 = omega (arith, later) in
    let rest : drop more (drop (512 * e.sector - at) (drop at octets)) ≡ drop (last_sector had * 512) octets =
    ap (drop more) (drop-drop (512 * e.sector - at) at octets ∙ ap (λ (n : ℕ). drop n octets) first) ∙ drop-drop more (512 * e.sector) octets ∙ ap (λ (n : ℕ). drop n octets) place in
    sym (ap are_zeros rest) ∙ pass-drop is_zero more (drop (512 * e.sector - at) (drop at octets)) e.zeros

pub ends_before : (told : Option (List ℕ)) (at had : ℕ) → IfSome told (λ octets. had ≡ length octets) → at < had → last_sector had * 512 < at
    → IfSome told (λ octets. IsTrue false ↔ EndsInZeros at (drop at octets))
ends_before None at had len within before = tt
ends_before (Some octets) at had len within before = ((λ t. absurd (false≢true t)), λ e. absurd (no_sector octets at had len within before e))

pub ends_decided : (told : Option (List ℕ)) (at had : ℕ) (are : Bool) → IfSome told (λ octets. had ≡ length octets) → at < had → at ≤ last_sector had * 512
    → IfSome told (λ octets. are ≡ are_zeros (drop (last_sector had * 512) octets)) → IfSome told (λ octets. IsTrue are ↔ EndsInZeros at (drop at octets))
ends_decided None at had are len within from is = tt
ends_decided (Some octets) at had are len within from is =
    ((λ t. sector_ends octets at had len within from (sym is ∙ t)), λ e. is ∙ ends_sector octets at had len within from e)

pub ends_by : (told : Option (List ℕ)) (at had : ℕ) (result : Result Bool OpenFault) → IfSome told (λ octets. had ≡ length octets) → at < had → at ≤ last_sector had * 512
    → IfOk result (λ are. IfSome told (λ octets. are ≡ are_zeros (drop (last_sector had * 512) octets))) → IfOk result (λ ends. IfSome told (λ octets. IsTrue ends ↔ EndsInZeros at (drop at octets)))
ends_by told at had (Ok are) len within from is = ends_decided told at had are len within from is
ends_by told at had (Err fault) len within from is = tt

-- ---- by the frame that comes first

abbrev Breaks : Frame → ℕ → Bool → List ℕ → Type 0
Breaks frame at is octets = IsTrue is ↔ BreaksFrame frame at (drop at octets)

pub broken_cut : (told : Option (List ℕ)) (frame : Frame) (at : ℕ) → frame ≡ frames.CutShort → IfSome told (λ octets. IsTrue true ↔ BreaksFrame frame at (drop at octets))
broken_cut None frame at f = tt
broken_cut (Some octets) frame at f = subst (λ (x : Frame). Breaks x at true octets) (sym f) ((λ t. tt), λ b. refl)

zeros_told : (told : Option (List ℕ)) (at : ℕ) (are : Bool) → IfSome told (λ octets. are ≡ are_zeros (drop at octets)) → IfSome told (λ octets. IsTrue are ↔ BreaksFrame frames.Bad at (drop at octets))
zeros_told None at are is = tt
zeros_told (Some octets) at are is = ((λ t. sym is ∙ t), λ zeros. is ∙ zeros)

pub broken_bad : (told : Option (List ℕ)) (frame : Frame) (at : ℕ) (result : Result Bool OpenFault) → frame ≡ frames.Bad → IfOk result (λ are. IfSome told (λ octets. are ≡ are_zeros (drop at octets)))
    → IfOk result (λ is. IfSome told (λ octets. IsTrue is ↔ BreaksFrame frame at (drop at octets)))
broken_bad told frame at (Ok are) f is = subst (λ (x : Frame). IfSome told (λ octets. IsTrue are ↔ BreaksFrame x at (drop at octets))) (sym f) (zeros_told told at are is)
broken_bad told frame at (Err fault) f is = tt

pub broken_other : (told : Option (List ℕ)) (frame : Frame) (at had n : ℕ) → frame ≡ frames.Whole n → IfSome told (λ octets. had ≡ length octets) → at ≤ had → had - at ≢ 4 + n
    → IfSome told (λ octets. IsTrue false ↔ BreaksFrame frame at (drop at octets))
broken_other None frame at had n f len within other = tt
broken_other (Some octets) frame at had n f len within other =
    subst (λ (x : Frame). Breaks x at false octets) (sym f) ((λ t. absurd (false≢true t)), λ b. absurd (other (omega (arith, len, within, b.0, length-drop at octets))))

last_told : (told : Option (List ℕ)) (at had n : ℕ) (ends : Bool) → IfSome told (λ octets. had ≡ length octets) → at ≤ had → had - at ≡ 4 + n
    → IfSome told (λ octets. IsTrue ends ↔ EndsInZeros at (drop at octets)) → IfSome told (λ octets. IsTrue ends ↔ BreaksFrame (frames.Whole n) at (drop at octets))
last_told None at had n ends len within last is = tt
last_told (Some octets) at had n ends len within last is = ((λ t. (omega (arith, len, within, last, length-drop at octets), is.0 t)), λ b. is.1 b.1)

pub broken_last : (told : Option (List ℕ)) (frame : Frame) (at had n : ℕ) (result : Result Bool OpenFault) → frame ≡ frames.Whole n → IfSome told (λ octets. had ≡ length octets) → at ≤ had → had - at ≡ 4 + n
    → IfOk result (λ ends. IfSome told (λ octets. IsTrue ends ↔ EndsInZeros at (drop at octets))) → IfOk result (λ is. IfSome told (λ octets. IsTrue is ↔ BreaksFrame frame at (drop at octets)))
broken_last told frame at had n (Ok ends) f len within last is =
    subst (λ (x : Frame). IfSome told (λ octets. IsTrue ends ↔ BreaksFrame x at (drop at octets))) (sym f) (last_told told at had n ends len within last is)
broken_last told frame at had n (Err fault) f len within last is = tt

-- octets of which nothing is cut off
pub not_cut : (told : Option (List ℕ)) (end had : ℕ) → IfSome told (λ octets. had ≡ length octets) → had ≤ end → told ≡ option_map (take end) told
not_cut None end had n whole = refl
not_cut (Some octets) end had n whole = ap (λ (l : List ℕ). Some l) (sym (take_all end octets (omega (arith, n, whole))))
