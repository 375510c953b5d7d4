-- What is left of groups that are open.
use Rattle.std.proofs.Common.{◌≡◌, ◌≢◌, ℕ, suc, ◌+◌, ◌≤◌, true, false, List, [], ◌∷◌, ◌++◌, length, refl, sym, ap, ◌∙◌, arith, ◌-◌}
use Rattle.std.proofs.lemmas.Bool.{both_ways}
use Rattle.std.proofs.lemmas.List.{append_assoc, length-append}
use Rattle.field_tokens.specs.Groups.{Inside, End, Plain, Pair, Nested, inside_octets, depth_of, may_stand, IsInside, AreMarks}
use Rattle.field_tokens.specs.declared.groups.Marks.{Marks}
use Rattle.field_tokens.specs.private.Levels.{Levels, LevelStep, NeverCloses}

pub Step-none : (m : Marks) (d : ℕ) (rest : List ℕ) → LevelStep m d rest d rest
Step-none m d rest = record { front = []; whole = refl; onward = λ ys l. l; back = λ xs z e l. (xs, e, l, refl) }

pub Step-more : (m : Marks) (d e f : ℕ) (rest mid after : List ℕ) → LevelStep m d rest e mid → LevelStep m e mid f after → LevelStep m d rest f after
Step-more m d e f rest mid after a b = record {
  front = a.front ++ b.front;
  whole = a.whole ∙ rw (append_assoc) (ap (λ r. a.front ++ r) b.whole);
  onward = λ ys l. rw (append_assoc) (a.onward (b.front ++ ys) (b.onward ys l));
  back = λ xs z same l.
      let p = a.back xs z same l in
      let q = b.back p.0 z p.1 p.2 in
      (q.0, q.1, q.2, p.3 ∙ rw (append_assoc) (ap (λ r. a.front ++ r) q.3));
}

-- an octet that stands for itself
pub Step-plain : (m : Marks) (d b : ℕ) (after : List ℕ) → b ≢ m.open_mark → b ≢ m.close_mark → b ≢ 92 → may_stand m b ≡ true → LevelStep m (suc d) (b ∷ after) (suc d) after
Step-plain m d b after o c s stands = record {
  front = b ∷ [];
  whole = refl;
  onward = λ ys l. (Plain b l.0, l.1, (o, c, s, stands, l.2), l.3, ap (λ r. b ∷ r) l.4, l.5);
  back = λ xs z same l. back l.0 l.1 xs z same l.2 l.3 l.4 l.5;
}
  where
    back : (i : Inside) (ys xs z : List ℕ) → b ∷ after ≡ xs ++ z → IsInside m i → depth_of i + suc d ≤ m.limit → xs ≡ inside_octets m i ++ m.close_mark ∷ ys → Levels m d ys
        → (ws : List ℕ) × (after ≡ ws ++ z) × Levels m (suc d) ws × (xs ≡ b ∷ ws)
    back End ys xs z same is deep e l = let h : b ∷ after ≡ m.close_mark ∷ (ys ++ z) = rw e at same in absurd (c (cc h))
    back (Plain x more) ys xs z same is deep e l =
        let h : b ∷ after ≡ x ∷ ((inside_octets m more ++ m.close_mark ∷ ys) ++ z) = rw e at same in
        let x_is : x ≡ b = cc h in
        (inside_octets m more ++ m.close_mark ∷ ys, cc h, (more, ys, is.4, deep, refl, l), rw (← x_is) e)
    back (Pair x more) ys xs z same is deep e l = let h : b ∷ after ≡ 92 ∷ x ∷ ((inside_octets m more ++ m.close_mark ∷ ys) ++ z) = rw e at same in absurd (s (cc h))
    back (Nested x more) ys xs z same is deep e l =
        let h : b ∷ after ≡ m.open_mark ∷ (((inside_octets m x ++ m.close_mark ∷ inside_octets m more) ++ m.close_mark ∷ ys) ++ z) = rw e at same in absurd (o (cc h))

-- a quoted pair
pub Step-pair : (m : Marks) (d b : ℕ) (after : List ℕ) → AreMarks m → may_stand m b ≡ true → LevelStep m (suc d) (92 ∷ b ∷ after) (suc d) after
Step-pair m d b after marks stands = record {
  front = 92 ∷ b ∷ [];
  whole = refl;
  onward = λ ys l. (Pair b l.0, l.1, (stands, l.2), l.3, ap (λ r. 92 ∷ b ∷ r) l.4, l.5);
  back = λ xs z same l. back l.0 l.1 xs z same l.2 l.3 l.4 l.5;
}
  where
    back : (i : Inside) (ys xs z : List ℕ) → 92 ∷ b ∷ after ≡ xs ++ z → IsInside m i → depth_of i + suc d ≤ m.limit → xs ≡ inside_octets m i ++ m.close_mark ∷ ys → Levels m d ys
        → (ws : List ℕ) × (after ≡ ws ++ z) × Levels m (suc d) ws × (xs ≡ 92 ∷ b ∷ ws)
    back End ys xs z same is deep e l = let h : 92 ∷ b ∷ after ≡ m.close_mark ∷ (ys ++ z) = rw e at same in absurd (marks.close_is (cc h))
    back (Plain x more) ys xs z same is deep e l = let h : 92 ∷ b ∷ after ≡ x ∷ ((inside_octets m more ++ m.close_mark ∷ ys) ++ z) = rw e at same in absurd (is.2 (cc h))
    back (Pair x more) ys xs z same is deep e l =
        let h : 92 ∷ b ∷ after ≡ 92 ∷ x ∷ ((inside_octets m more ++ m.close_mark ∷ ys) ++ z) = rw e at same in
        let x_is : x ≡ b = cc h in
        (inside_octets m more ++ m.close_mark ∷ ys, cc h, (more, ys, is.1, deep, refl, l), rw (← x_is) e)
    back (Nested x more) ys xs z same is deep e l =
        let h : 92 ∷ b ∷ after ≡ m.open_mark ∷ (((inside_octets m x ++ m.close_mark ∷ inside_octets m more) ++ m.close_mark ∷ ys) ++ z) = rw e at same in absurd (marks.open_is (cc h))

-- a close mark
pub Step-close : (m : Marks) (d : ℕ) (after : List ℕ) → AreMarks m → suc d ≤ m.limit → LevelStep m (suc d) (m.close_mark ∷ after) d after
Step-close m d after marks room = record {
  front = m.close_mark ∷ [];
  whole = refl;
  onward = λ ys l. (End, ys, tt, omega arith, refl, l);
  back = λ xs z same l. back l.0 l.1 xs z same l.2 l.3 l.4 l.5;
}
  where
    back : (i : Inside) (ys xs z : List ℕ) → m.close_mark ∷ after ≡ xs ++ z → IsInside m i → depth_of i + suc d ≤ m.limit → xs ≡ inside_octets m i ++ m.close_mark ∷ ys → Levels m d ys
        → (ws : List ℕ) × (after ≡ ws ++ z) × Levels m d ws × (xs ≡ m.close_mark ∷ ws)
    back End ys xs z same is deep e l = let h : m.close_mark ∷ after ≡ m.close_mark ∷ (ys ++ z) = rw e at same in (ys, cc h, l, e)
    back (Plain x more) ys xs z same is deep e l = let h : m.close_mark ∷ after ≡ x ∷ ((inside_octets m more ++ m.close_mark ∷ ys) ++ z) = rw e at same in absurd (is.1 (sym (cc h)))
    back (Pair x more) ys xs z same is deep e l = let h : m.close_mark ∷ after ≡ 92 ∷ x ∷ ((inside_octets m more ++ m.close_mark ∷ ys) ++ z) = rw e at same in absurd (marks.close_is (cc h))
    back (Nested x more) ys xs z same is deep e l =
        let h : m.close_mark ∷ after ≡ m.open_mark ∷ (((inside_octets m x ++ m.close_mark ∷ inside_octets m more) ++ m.close_mark ∷ ys) ++ z) = rw e at same in
        let one : m.limit ≡ 1 = marks.differ (sym (cc h)) in
        absurd (omega arith)

-- an open mark
pub Step-open : (m : Marks) (d : ℕ) (after : List ℕ) → AreMarks m → m.open_mark ≢ m.close_mark → LevelStep m (suc d) (m.open_mark ∷ after) (suc (suc d)) after
Step-open m d after marks other = record {
  front = m.open_mark ∷ [];
  whole = refl;
  onward = λ ys l.
      let more = l.5 in
      (Nested l.0 more.0, more.1, (l.2, more.2), omega arith, ap (λ r. m.open_mark ∷ r) (l.4 ∙ rw (more.4, append_assoc) refl), more.5);
  back = λ xs z same l. back l.0 l.1 xs z same l.2 l.3 l.4 l.5;
}
  where
    back : (i : Inside) (ys xs z : List ℕ) → m.open_mark ∷ after ≡ xs ++ z → IsInside m i → depth_of i + suc d ≤ m.limit → xs ≡ inside_octets m i ++ m.close_mark ∷ ys → Levels m d ys
        → (ws : List ℕ) × (after ≡ ws ++ z) × Levels m (suc (suc d)) ws × (xs ≡ m.open_mark ∷ ws)
    back End ys xs z same is deep e l = let h : m.open_mark ∷ after ≡ m.close_mark ∷ (ys ++ z) = rw e at same in absurd (other (cc h))
    back (Plain x more) ys xs z same is deep e l = let h : m.open_mark ∷ after ≡ x ∷ ((inside_octets m more ++ m.close_mark ∷ ys) ++ z) = rw e at same in absurd (is.0 (sym (cc h)))
    back (Pair x more) ys xs z same is deep e l = let h : m.open_mark ∷ after ≡ 92 ∷ x ∷ ((inside_octets m more ++ m.close_mark ∷ ys) ++ z) = rw e at same in absurd (marks.open_is (cc h))
    back (Nested x more) ys xs z same is deep e l =
        let following : List ℕ = inside_octets m x ++ m.close_mark ∷ (inside_octets m more ++ m.close_mark ∷ ys) in
        let grouped : xs ≡ m.open_mark ∷ following = e ∙ ap (λ r. m.open_mark ∷ r) (append_assoc (inside_octets m x) (m.close_mark ∷ inside_octets m more) (m.close_mark ∷ ys)) in
        let h : m.open_mark ∷ after ≡ m.open_mark ∷ (following ++ z) = rw grouped at same in
        (following, cc h, (x, inside_octets m more ++ m.close_mark ∷ ys, is.0, omega arith, refl, (more, ys, is.1, omega arith, refl, l)), grouped)

-- where as many are open as may be, an open mark leads nowhere
pub NeverCloses-deep : (m : Marks) (d : ℕ) (after : List ℕ) → AreMarks m → m.open_mark ≢ m.close_mark → m.limit ≤ suc d → NeverCloses m (suc d) (m.open_mark ∷ after)
NeverCloses-deep m d after marks other full xs z same l = back l.0 l.1 l.2 l.3 (rw l.4 at same)
  where
    back : (i : Inside) (ys : List ℕ) → IsInside m i → depth_of i + suc d ≤ m.limit → m.open_mark ∷ after ≡ (inside_octets m i ++ m.close_mark ∷ ys) ++ z → ⊥
    back End ys is deep h = other (cc h)
    back (Plain x more) ys is deep h = is.0 (sym (cc h))
    back (Pair x more) ys is deep h = marks.open_is (cc h)
    back (Nested x more) ys is deep h = omega arith

-- nor does the end
pub NeverCloses-end : (m : Marks) (d : ℕ) → NeverCloses m (suc d) []
NeverCloses-end m d [] z same l = omega (arith, ap length l.4, length-append (inside_octets m l.0) (m.close_mark ∷ l.1))
NeverCloses-end m d (x ∷ xs) z same l = cc same

-- nor a backslash at the end
pub NeverCloses-backslash : (m : Marks) (d : ℕ) → AreMarks m → NeverCloses m (suc d) (92 ∷ [])
NeverCloses-backslash m d marks xs z same l = back l.0 l.1 l.2 (rw l.4 at same)
  where
    back : (i : Inside) (ys : List ℕ) → IsInside m i → 92 ∷ [] ≡ (inside_octets m i ++ m.close_mark ∷ ys) ++ z → ⊥
    back End ys is h = marks.close_is (cc h)
    back (Plain x more) ys is h = is.2 (sym (cc h))
    back (Pair x more) ys is h = cc h
    back (Nested x more) ys is h = marks.open_is (cc h)

-- nor an octet that may not stand in the group
pub NeverCloses-plain : (m : Marks) (d b : ℕ) (after : List ℕ) → b ≢ m.open_mark → b ≢ m.close_mark → b ≢ 92 → may_stand m b ≡ false → NeverCloses m (suc d) (b ∷ after)
NeverCloses-plain m d b after o c s bars xs z same l = back l.0 l.1 l.2 (rw l.4 at same)
  where
    back : (i : Inside) (ys : List ℕ) → IsInside m i → b ∷ after ≡ (inside_octets m i ++ m.close_mark ∷ ys) ++ z → ⊥
    back End ys is h = c (cc h)
    back (Plain x more) ys is h = let x_is : x ≡ b = cc h in both_ways (may_stand m b) bars (rw (x_is) at is.3)
    back (Pair x more) ys is h = s (cc h)
    back (Nested x more) ys is h = o (cc h)

-- nor one that is quoted
pub NeverCloses-pair : (m : Marks) (d b : ℕ) (after : List ℕ) → AreMarks m → may_stand m b ≡ false → NeverCloses m (suc d) (92 ∷ b ∷ after)
NeverCloses-pair m d b after marks bars xs z same l = back l.0 l.1 l.2 (rw l.4 at same)
  where
    back : (i : Inside) (ys : List ℕ) → IsInside m i → 92 ∷ b ∷ after ≡ (inside_octets m i ++ m.close_mark ∷ ys) ++ z → ⊥
    back End ys is h = marks.close_is (cc h)
    back (Plain x more) ys is h = is.2 (sym (cc h))
    back (Pair x more) ys is h = let x_is : x ≡ b = cc h in both_ways (may_stand m b) bars (rw (x_is) at is.0)
    back (Nested x more) ys is h = marks.open_is (cc h)

-- the same step, under equal names
pub Step-at : (m : Marks) (d k e f : ℕ) (rest same after : List ℕ) → d ≡ k → e ≡ f → rest ≡ same → LevelStep m k same f after → LevelStep m d rest e after
Step-at m d k e f rest same after p q r step = rw (p, q, r) step

pub NeverCloses-at : (m : Marks) (d k : ℕ) (rest same : List ℕ) → d ≡ k → rest ≡ same → NeverCloses m k same → NeverCloses m d rest
NeverCloses-at m d k rest same p r never = rw (p, r) never
