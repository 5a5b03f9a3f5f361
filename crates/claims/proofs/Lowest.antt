-- The first number that holds in a rising table is the lowest that holds, and the other way round.
use mathlib.Core.Path.{◌≡◌, refl, sym, ◌∙◌}
use mathlib.Core.Bool.{Bool, true, false, ◌&&◌, false≢true, true≢false, and-false}
use mathlib.Core.List.{[], ◌∷◌}
use Prim.Native.Nat.{ℕ, ◌<◌, ◌≤◌}
use native.Mathlib.Omega.{arith}
use lib.Dec.{ltb, eqb}
use borrow.Author.Tests.{ltb-true, ltb-false, eqb-true, eqb-false, eq-eqb, ne_eqb}
use Rattle.rules.specs.Refusals.{Conditions, holds, lowest}
use Rattle.claims.specs.Demand1.{Lowest}
use Rattle.rules.proofs.Bools.{and_l, and_r}

-- the numbers rise, from above b
abbrev pub rising : ℕ → Conditions → Bool
rising b [] = true
rising b (c ∷ cs) = ltb b c.0 && rising c.0 cs

-- no number up to b stands in a table that rises from above b
pub absent : (b m : ℕ) (cs : Conditions) → rising b cs ≡ true → m ≤ b → holds m cs ≡ false
absent b m [] h g = refl
absent b m (c ∷ cs) h g =
    let k = ltb-true b c.0 (and_l (ltb b c.0) (rising c.0 cs) h) in
    rw (ne_eqb m c.0 (λ e. omega arith)) (absent c.0 m cs (and_r (ltb b c.0) (rising c.0 cs) h) (omega arith))

-- one line more at the head: it holds, or it does not
held_head : (k : ℕ) (cs : Conditions) → rising k cs ≡ true → Lowest k ((k, true) ∷ cs)
held_head k cs h =
    record {
      held = rw (eq-eqb k k refl);
      none = λ m g. rw (ne_eqb m k (λ e. omega arith)) (absent k m cs h (omega arith));
    }

passed : (n k : ℕ) (cs : Conditions) → holds n ((k, false) ∷ cs) ≡ holds n cs
passed n k cs = rw (and-false (eqb n k))

pass_head : (n k : ℕ) (cs : Conditions) → Lowest n cs → Lowest n ((k, false) ∷ cs)
pass_head n k cs h =
    record {
      held = passed n k cs ∙ h.held;
      none = λ m g. passed m k cs ∙ h.none m g;
    }

by_head : (b n k : ℕ) (x : Bool) (cs : Conditions) → rising k cs ≡ true → (lowest cs ≡ n → Lowest n cs)
    → lowest ((k, x) ∷ cs) ≡ n → Lowest n ((k, x) ∷ cs)
by_head b n k true cs h ih e = rw (sym e) (held_head k cs h)
by_head b n k false cs h ih e = pass_head n k cs (ih e)

pub first-lowest : (b n : ℕ) (cs : Conditions) → rising b cs ≡ true → (n ≡ 0 → ⊥) → lowest cs ≡ n → Lowest n cs
first-lowest b n [] h z e = absurd (z (sym e))
first-lowest b n (c ∷ cs) h z e =
    let up = and_r (ltb b c.0) (rising c.0 cs) h in
    by_head b n c.0 c.1 cs up (λ d. first-lowest c.0 n cs up z d) e

-- the lowest number that holds is at the head if that holds
at_head : (n k : ℕ) (cs : Conditions) (lower same : Bool) → ltb n k ≡ lower → eqb n k ≡ same
    → rising k cs ≡ true → Lowest n ((k, true) ∷ cs) → k ≡ n
at_head n k cs lower true p q h w = sym (eqb-true n k q)
at_head n k cs true false p q h w =
    absurd (true≢false (sym w.held ∙ rw q (absent k n cs h (let g = ltb-true n k p in omega arith))))
at_head n k cs false false p q h w =
    let g = ltb-false n k p in
    let d = eqb-false n k q in
    absurd (true≢false (sym (rw (eq-eqb k k refl)) ∙ w.none k (below n k g d)))
  where
    below : (n k : ℕ) → k ≤ n → (n ≡ k → ⊥) → k < n
    below n k g d = omega arith

from_head : (n k : ℕ) (x : Bool) (cs : Conditions) → rising k cs ≡ true → (Lowest n cs → lowest cs ≡ n)
    → Lowest n ((k, x) ∷ cs) → lowest ((k, x) ∷ cs) ≡ n
from_head n k true cs h ih w = at_head n k cs (ltb n k) (eqb n k) refl refl h w
from_head n k false cs h ih w =
    ih (record { held = sym (passed n k cs) ∙ w.held; none = λ m g. sym (passed m k cs) ∙ w.none m g })

pub lowest-first : (b n : ℕ) (cs : Conditions) → rising b cs ≡ true → Lowest n cs → lowest cs ≡ n
lowest-first b n [] h w = absurd (false≢true w.held)
lowest-first b n (c ∷ cs) h w =
    let up = and_r (ltb b c.0) (rising c.0 cs) h in
    from_head n c.0 c.1 cs up (λ v. lowest-first c.0 n cs up v) w
