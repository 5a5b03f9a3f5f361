-- The first seven bytes of two parts from a place on, put over seven zeros, are these bytes, held.
use mathlib.Core.Path.{◌≡◌, refl, ap}
use mathlib.Core.List.{List, ◌++◌, append_assoc}
use Prim.Native.Nat.{ℕ, ◌+◌, ◌-◌, min}
use native.Mathlib.Omega.{arith}
use lib.ListN.{length, take, drop, replicate, length-take, length-append}
use lib.Seq.{take-append_seam, length-take-le, take_at, drop_at}
use borrow.Rule.Slice.PartMut.{put_mid}
use Rattle.std.proofs.lemmas.List.{take_min, drop_min, drop-replicate}
use Rattle.pieces.specs.Held.{longest_record, bytes_of, held_of}
use Rattle.pieces.specs.declared.Held.{Held}
use Rattle.pieces.proofs.Lists.{take-two, drop-two}

-- the first n of two parts put over n zeros
module _ (n : ℕ) (f b : List ℕ) (seam more : ℕ) (s : seam ≡ min (length f) n) (m : more ≡ min (length b) (n - seam)) where
  put_over : (zeros : List ℕ) → zeros ≡ replicate n 0
      → put_mid seam (seam + more - seam) (take seam f ++ drop seam zeros) (take (seam + more - seam) b)
      ≡ take n (f ++ b) ++ replicate (n - length (f ++ b)) 0
  put_over zeros z =
      let k : length (take seam f) ≡ seam = length-take-le seam f (omega (arith, s)) in
      let x : take seam f ≡ take n f = let e : seam ≡ min n (length f) = omega (arith, s) in rw e (take_min n f) in
      let y : take (seam + more - seam) b ≡ take (n - length f) b =
      let e : seam + more - seam ≡ min (n - length f) (length b) = omega (arith, s, m) in rw e (take_min (n - length f) b) in
      let l : n - seam - (seam + more - seam) ≡ n - length (f ++ b) = omega (arith, s, m, length-append f b) in
      rw (
        take_at (take seam f) (drop seam zeros) seam k,
        drop_at (take seam f) (drop seam zeros) seam k,
        z,
        drop-replicate {X = ℕ} seam n 0,
        drop-replicate {X = ℕ} (seam + more - seam) (n - seam) 0,
        l,
        x,
        y,
        take-two n f b,
        append_assoc (take n f) (take (n - length f) b) (replicate (n - length (f ++ b)) 0),
      )

module _ (front back : List ℕ) (at : ℕ) where
  pub first_held : (i j seam more : ℕ) (x y : List ℕ) → i ≡ min at (length front) → j ≡ min (at - length front) (length back)
      → seam ≡ min (length (drop i front)) 7 → more ≡ min (length (drop j back)) (7 - seam)
      → x ≡ take seam (drop i front) → y ≡ take (seam + more - seam) (drop j back)
      → ◌≡◌ {A = Held} (record { bytes = put_mid seam (seam + more - seam) (x ++ drop seam (replicate longest_record 0)) y; count = seam + more }) (held_of (drop at (front ++ back)))
  unfolding held_of
  first_held i j seam more x y ei ej es em ex ey =
      let f = drop i front in
      let b = drop j back in
      let ef : f ≡ drop at front = rw ei (drop_min at front) in
      let eb : b ≡ drop (at - length front) back = rw ej (drop_min (at - length front) back) in
      let d : drop at (front ++ back) ≡ f ++ b = rw (drop-two at front back, ef, eb) in
      let n : seam + more ≡ length (take longest_record (f ++ b)) = omega (arith, es, em, length-take longest_record (f ++ b), length-append f b) in
      let z = put_over longest_record f b seam more es em (replicate longest_record 0) refl in
      rw (d, ex, ey, ← n) (ap (λ (s : List ℕ). record { bytes = s; count = seam + more }) z)

-- what is held are the first seven
pub held_bytes : (xs : List ℕ) → bytes_of (held_of xs) ≡ take longest_record xs
unfolding held_of
held_bytes xs = take-append_seam (take longest_record xs) (replicate (longest_record - length xs) 0)
