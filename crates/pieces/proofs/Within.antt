-- The bytes inside the limit are so many of those held, and so many of the piece.
use mathlib.Core.Path.{◌≡◌, sym}
use mathlib.Core.List.{List, ◌++◌}
use Prim.Native.Nat.{ℕ, ◌-◌, min}
use native.Mathlib.Omega.{arith}
use lib.ListN.{length, take, length-take}
use Rattle.std.proofs.lemmas.List.{take_min}
use Rattle.pieces.specs.Held.{bytes_of}
use Rattle.pieces.specs.Begun.{allowed, inside}
use Rattle.pieces.specs.declared.Begun.{Begun}
use Rattle.pieces.proofs.Lists.{take-two}

pub lent : (b : Begun) (piece held : List ℕ) (n m : ℕ) → held ≡ bytes_of b.held → n ≡ min (length held) (allowed b)
    → m ≡ min (length piece) (allowed b - length (take n held)) → take n held ++ take m piece ≡ inside b piece
lent b piece held n m h f g =
    let a = allowed b in
    let n' : n ≡ min a (length held) = omega (arith, f) in
    let m' : m ≡ min (a - length held) (length piece) = omega (arith, f, g, length-take n held) in
    rw (n', m', take_min a held, take_min (a - length held) piece, h) (sym (take-two a (bytes_of b.held) piece))
