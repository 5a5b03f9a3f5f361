-- What is left to tell from a later place: the bytes from there on are the same bytes, and what is told of them goes by the bytes alone.
use mathlib.Core.Path.{◌≡◌, refl, sym, ap, ◌∙◌}
use mathlib.Core.Bool.{Bool, true, false}
use mathlib.Core.List.{List, []}
use Prim.Native.Nat.{ℕ, ◌+◌, ◌≤◌}
use native.Mathlib.Omega.{arith}
use lib.ListN.{length, drop}
use borrow.Author.Tests.{eq-eqb}
use Rattle.rules.specs.Step.{step}
use Rattle.records.specs.Recordings.{Records, event, end, refusal}
use Rattle.pieces.specs.Limit.{seen_from}
use Rattle.pieces.specs.Begun.{joined, allowed, inside, beyond, to_tell}
use Rattle.pieces.specs.declared.Begun.{Begun}
use Rattle.pieces.proofs.Later.{same-beyond, same-inside}
use Rattle.pieces.proofs.Tells.{tells_none}
use Rattle.pieces.proofs.Shifted.{shifted, shift}
use Rattle.transcript.specs.Transcript.{told}
use Rattle.transcript.specs.Feeding.{left}

-- what is told goes by the events alone
told-shifted : (n : ℕ) (rs : Records) (l : List ℕ) → told (shifted n rs) l ≡ told rs l
unfolding told
told-shifted n end l = refl
told-shifted n (refusal r) l = refl
told-shifted n (event v next rest) l = rw (told-shifted n rest (step l v).1)

pub told-drop : (beyond last : Bool) (s : List ℕ) (n : ℕ) (l : List ℕ) → told (seen_from beyond last (drop n s) 0) l ≡ told (seen_from beyond last s n) l
told-drop beyond last s n l =
    let z : n + 0 ≡ n = omega arith in
    sym (told-shifted n (seen_from beyond last (drop n s) 0) l)
    ∙ sym (ap (λ (rs : Records). told rs l) (shift beyond last s n 0)) ∙ ap (λ (i : ℕ). told (seen_from beyond last s i) l) z

-- a state from which the bytes still to come are those from a place on
module _ (b : Begun) (rest : List ℕ) (n : ℕ) (b' : Begun) (rest' : List ℕ) (place : b'.at ≡ b.at + n) (bytes : joined b' rest' ≡ drop n (joined b rest))
    (near : n ≤ allowed b) (there : n ≤ length (joined b rest)) where
  pub left-later : (l : List ℕ) → b'.over ≡ false → length l ≡ 100 → left b' rest' l ≡ told (seen_from (beyond b rest) true (inside b rest) n) l
  unfolding to_tell
  left-later l o w =
      rw (o, eq-eqb (length l) 100 w)
      (rw (same-beyond b rest n b' rest' place bytes near there, same-inside b rest n b' rest' place bytes near there) (told-drop (beyond b rest) true (inside b rest) n l))

-- a run that is over leaves nothing to tell
pub left_over : (b : Begun) (rest l : List ℕ) → b.over ≡ true → left b rest l ≡ ([], l)
unfolding told
left_over b rest l h = rw (tells_none b rest true l h)
