-- How far a feed has filled its output: `whole` is what it will have written in the end, `q` what is still to come of that.
use mathlib.Core.Path.{◌≡◌, refl, ap, sym, ◌∙◌}
use mathlib.Core.List.{List, [], ◌++◌, append_assoc, append-nil}
use Prim.Native.Nat.{ℕ, ◌+◌, ◌-◌, ◌≤◌}
use native.Mathlib.Omega.{arith}
use lib.ListN.{length, take, drop, length-append, take-append-drop}
use lib.Seq.{sets, sets-eq, length-sets, take_at, drop_at, drop-drop, length-take-le}
use Rattle.lines.specs.Lines.{Text}
use Rattle.pieces.specs.declared.How.{How}
use Rattle.transcript.specs.Feeding.{Stretch, stretch, after}
use Rattle.recording.specs.Parts.{stepped, shown}

pub record Reached (whole : Stretch) (out₀ out : List ℕ) (n : ℕ) (q : Stretch) : Type 0 where
  pub text : whole ≡ after (take n out) q
  pub beyond : drop n out ≡ drop n out₀
  pub size : length out ≡ length out₀
  pub within : n ≤ length out

-- nothing written yet, and the whole room left
pub begin : (f : ℕ → Stretch) (out : List ℕ) → Reached (f (length out)) out out 0 (f (length out - 0))
begin f out =
    let room : length out - 0 ≡ length out = omega arith in
    rw room (record { text = refl; beyond = refl; size = refl; within = omega arith })

-- what a text that fits leaves before its end, and after it
module _ (out : List ℕ) (n : ℕ) (t : Text) (h : n + length t ≤ length out) where
  head_length : length (take n out ++ t) ≡ n + length t
  head_length =
      let g : n ≤ length out = omega arith in
      length-append (take n out) t ∙ ap (λ (k : ℕ). k + length t) (length-take-le n out g)

  put-take : take (n + length t) (sets out n t) ≡ take n out ++ t
  put-take = rw (sets-eq t out n h) (take_at (take n out ++ t) (drop (n + length t) out) (n + length t) head_length)

  put-drop : drop (n + length t) (sets out n t) ≡ drop (n + length t) out
  put-drop = rw (sets-eq t out n h) (drop_at (take n out ++ t) (drop (n + length t) out) (n + length t) head_length)

  -- a line written
  pub write : (whole : Stretch) (out₀ : List ℕ) (q : Stretch) → Reached whole out₀ out n (after t q)
      → Reached whole out₀ (sets out n t) (n + length t) q
  write whole out₀ q s =
      record {
        text = s.text ∙ rw (put-take, append_assoc);
        beyond = put-drop ∙ sym (drop-drop (length t) n out) ∙ ap (drop (length t)) s.beyond ∙ drop-drop (length t) n out₀;
        size = length-sets out n t ∙ s.size;
        within = rw (length-sets out n t) h;
      }

-- nothing still to come
pub finish : (whole : Stretch) (out₀ out : List ℕ) (n at : ℕ) (how : How) (l : List ℕ) → Reached whole out₀ out n (stretch [] at how l)
    → (stepped at how n, l, out) ≡ shown whole out₀
finish whole out₀ out n at how l s =
    rw (s.text, append-nil, length-take-le n out s.within, ← s.beyond, take-append-drop n out)
