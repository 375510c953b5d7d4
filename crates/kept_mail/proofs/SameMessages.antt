-- Messages that keep their folders, their dates and their octets, and changing what stands at a place.
use Rattle.std.proofs.Common.{◌≡◌, ℕ, zero, suc, List, [], ◌∷◌, length, map, refl, sym, ap, subst, arith}
use Rattle.std.specs.List.{AllByRecursion}
use Rattle.std.proofs.lemmas.List.{length-map}
use Rattle.kept_mail.specs.declared.kept.Message.{Message}
use Rattle.kept_mail.specs.Kept.{change_at, with_flags, gone}
use Rattle.kept_mail.proofs.ChainLemmas.{folder_of}

-- ---- what stands at a place

pub length-change_at : {T : Type 0} (change : T → T) (xs : List T) (at : ℕ) → length (change_at change xs at) ≡ length xs
length-change_at change [] at = refl
length-change_at change (x ∷ xs) zero = refl
length-change_at change (x ∷ xs) (suc at) = ap suc (length-change_at change xs at)

map-change_at : {T U : Type 0} (f : T → U) (change : T → T) → ((x : T) → f (change x) ≡ f x) → (xs : List T) (at : ℕ) → map f (change_at change xs at) ≡ map f xs
map-change_at f change keeps [] at = refl
map-change_at f change keeps (x ∷ xs) zero = ap (λ y. y ∷ map f xs) (keeps x)
map-change_at f change keeps (x ∷ xs) (suc at) = ap (λ ys. f x ∷ ys) (map-change_at f change keeps xs at)

-- ---- the same messages

abbrev pub octets_of : Message → List ℕ
octets_of message = message.octets

abbrev pub date_of : Message → List ℕ
date_of message = message.date

-- each has the folder, the date and the octets that it had
pub record AreSameMessages (old new : List Message) : Type 0 where
  pub folders : map folder_of new ≡ map folder_of old
  pub dates : map date_of new ≡ map date_of old
  pub octets : map octets_of new ≡ map octets_of old

pub length-same : (old new : List Message) → AreSameMessages old new → length new ≡ length old
length-same old new same = omega (arith, ap length same.folders, length-map new folder_of, length-map old folder_of)

pub AreSameMessages-flags : (flags : ℕ) (ms : List Message) (at : ℕ) → AreSameMessages ms (change_at (with_flags flags) ms at)
AreSameMessages-flags flags ms at = record {
  folders = map-change_at folder_of (with_flags flags) (λ m. refl) ms at;
  dates = map-change_at date_of (with_flags flags) (λ m. refl) ms at;
  octets = map-change_at octets_of (with_flags flags) (λ m. refl) ms at;
}

pub AreSameMessages-gone : (ms : List Message) (at : ℕ) → AreSameMessages ms (change_at gone ms at)
AreSameMessages-gone ms at = record {
  folders = map-change_at folder_of gone (λ m. refl) ms at;
  dates = map-change_at date_of gone (λ m. refl) ms at;
  octets = map-change_at octets_of gone (λ m. refl) ms at;
}

same_parts : (x y : List ℕ) (xs ys : List (List ℕ)) → x ∷ xs ≡ y ∷ ys → (x ≡ y) × (xs ≡ ys)
same_parts x y xs ys e = (cc, cc)

-- what holds of a part of each message, where these parts stay
pub part-same : (P : List ℕ → Type 0) (part : Message → List ℕ) (old new : List Message) → map part new ≡ map part old
    → AllByRecursion (λ message. P (part message)) old → AllByRecursion (λ message. P (part message)) new
part-same P part [] [] e h = tt
part-same P part [] (n ∷ new) e h = absurd cc
part-same P part (m ∷ old) [] e h = tt
part-same P part (m ∷ old) (n ∷ new) e h =
    let front = same_parts (part n) (part m) (map part new) (map part old) e in
    (subst P (sym front.0) h.0, part-same P part old new front.1 h.1)
