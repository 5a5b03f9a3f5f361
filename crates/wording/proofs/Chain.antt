-- Texts written one after the other are one text.
use mathlib.Core.Path.{◌≡◌, refl, sym, ◌∙◌}
use mathlib.Core.List.{List, [], ◌∷◌, ◌++◌}
use Prim.Native.Nat.{ℕ, suc, ◌+◌, ◌≤◌}
use native.Mathlib.Nat.{add-zero, zero-add}
use native.Mathlib.Omega.{arith}
use lib.ListN.{length, drop, set, length-append}
use lib.Seq.{sets, sets-eq, take-length}
use borrow.Rule.Slice.PartMut.{put_mid}
use Rattle.std.specs.declared.option.Option.{Option}
use Rattle.std.proofs.Common.{Some}
use Rattle.std.proofs.lemmas.Slice.{put_mid-paste}
use Rattle.wording.specs.Wrote.{Wrote}

sets-append : (s t l : List ℕ) (i : ℕ) → sets (sets l i s) (i + length s) t ≡ sets l i (s ++ t)
sets-append [] t l i = rw (add-zero i)
sets-append (a ∷ s) t l i = let e : i + suc (length s) ≡ suc i + length s = omega arith in rw e (sets-append s t (set l i a) (suc i))

pub then : {out mid after : List ℕ} {at n m : ℕ} {s t : List ℕ} → Wrote out at s n mid → Wrote mid n t m after → Wrote out at (s ++ t) m after
then {out} {mid} {after} {at} {n} {m} {s} {t} p q =
    record {
      next = rw length-append (omega (arith, p.next, q.next));
      bytes = q.bytes ∙ rw (p.bytes, p.next) (sets-append s t out at);
    }

-- a copy into its place
pub copied : (out text now : List ℕ) (at k : ℕ) → now ≡ text → k ≡ length text → at + length text ≤ length out
    → Wrote out at text (at + length text) (put_mid at k out now)
copied out text now at k e l h = record {
  next = refl;
  bytes = rw (put_mid-paste at k out now text (length text) e (sym l) refl, take-length text, sets-eq text out at h);
}

-- the text at the start of an output
pub at-start : (out after text : List ℕ) (n : ℕ) → Wrote out 0 text n after → n ≤ length out
    → ◌≡◌ {A = Option ℕ × List ℕ} (Some n, after) (Some (length text), text ++ drop (length text) out)
at-start out after text n w h =
    let k : n ≡ length text = omega (arith, w.next) in
    rw (w.bytes, sets-eq text out 0 (omega (arith, w.next)), zero-add, k)
