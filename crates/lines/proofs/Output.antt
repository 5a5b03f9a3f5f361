-- A text placed in the output: a run of stores where it fits, nothing where it does not.
use mathlib.Core.Path.{◌≡◌, refl, sym}
use mathlib.Core.List.{List}
use Prim.Native.Nat.{ℕ, ◌+◌, ◌<◌, ◌≤◌}
use lib.ListN.{length}
use lib.Seq.{sets, sets-eq, take-length}
use borrow.Rule.Slice.PartMut.{put_mid}
use borrow.Author.Tests.{le-leb, lt-leb}
use Rattle.std.proofs.Common.{None, Some}
use Rattle.std.proofs.lemmas.Slice.{put_mid-paste}
use Rattle.lines.specs.Lines.{Text, placed}

module _ (out : List ℕ) (at : ℕ) (text : Text) where
  pub fits : at + length text ≤ length out → placed out at text ≡ (Some (length text), sets out at text)
  unfolding placed
  fits h = rw (le-leb (at + length text) (length out) h, sets-eq text out at h)

  pub unfit : length out < at + length text → placed out at text ≡ (None, out)
  unfolding placed
  unfit h = rw (lt-leb (at + length text) (length out) h)

  -- what a copy into its place leaves
  pub copied : (k : ℕ) (now : List ℕ) → now ≡ text → k ≡ length text → at + length text ≤ length out
      → (Some (length text), put_mid at k out now) ≡ placed out at text
  unfolding placed
  copied k now e l h =
      rw (put_mid-paste at k out now text (length text) e (sym l) refl, take-length text, le-leb (at + length text) (length out) h)
