-- A mode reaches a block exactly if one of its pages holds it, as its PARs and PDRs side by side say; no mode reaches a block from 4096 on.
use mathlib.Core.Path.{◌≡◌, refl, ◌∙◌}
use mathlib.Core.Bool.{Bool, true, false}
use mathlib.Core.List.{List}
use Prim.Native.Nat.{ℕ, zero, suc, ◌+◌, ◌-◌, ◌≤◌, ◌<◌}
use native.Mathlib.Omega.{arith}
use lib.ListN.{length, take, drop}
use Rattle.std.proofs.Math.Seq.{drop-cons}
use Rattle.std.specs.List.{list_any, zip}
use Rattle.rules.specs.Words.{word, SR3}
use Rattle.rules.specs.References.{first_page}
use Rattle.rules.specs.Modes.{mode_number}
use Rattle.rules.specs.declared.modes.Mode.{Mode}
use Rattle.rules.specs.declared.modes.Mode.TheVariants.{Kernel, Supervisor, User}
use Rattle.widening.specs.Some.{some}
use Rattle.widening.specs.Reaches.{is_mode, page_reaches, pages_of, reaches}
use Rattle.widening.proofs.Reached.{reached}
use Rattle.reach.specs.Reaching.{holds}
use Rattle.reach.proofs.Holds.{page-reaches}

pub high_none : (l : List ℕ) (mode block : ℕ) → 4096 ≤ block → reaches l mode block ≡ false
high_none l mode block h = at (reaches l mode block) refl
  where
    at : (x : Bool) → reaches l mode block ≡ x → reaches l mode block ≡ false
    at true e = let r = reached l mode block e in absurd (omega (arith, r.2.lies))
    at false e = e

-- n pages from a first on, whose PDRs begin at a place
module _ (l : List ℕ) (block : ℕ) (small : block < 4096) (whole : length l ≡ 100) where
  any_page : (first pdrs n : ℕ) → pdrs ≡ 48 + first → first + n ≤ 48
      → list_any (λ page. holds page.0 page.1 block) (zip (take n (drop first l)) (take n (drop pdrs l))) ≡ some (page_reaches l block) first n
  any_page first pdrs zero e h = refl
  any_page first pdrs (suc n) e h =
      rw (
        drop-cons l first 0 (omega arith),
        drop-cons l pdrs 0 (omega arith),
        any_page (suc first) (suc pdrs) n (omega arith) (omega arith),
        page-reaches l block first small,
        e,
      )

  legal : (mode : Mode) → is_mode (mode_number mode) ≡ true
  legal Kernel = refl
  legal Supervisor = refl
  legal User = refl

  pub by_pages : (mode : Mode) (first n : ℕ) → first ≡ first_page (mode_number mode) → first ≤ 32
      → n ≡ pages_of (word l SR3) (mode_number mode) → n ≤ 16
      → list_any (λ page. holds page.0 page.1 block)
      (zip (take (first + n - first) (drop first l)) (take (48 + (first + n) - (48 + first)) (drop (48 + first) l)))
      ≡ reaches l (mode_number mode) block
  unfolding reaches
  by_pages mode first n f a p b =
      let c : first + n - first ≡ n = omega arith in
      let d : 48 + (first + n) - (48 + first) ≡ n = omega arith in
      rw (legal mode, c, d) (any_page first (48 + first) n refl (omega arith) ∙ rw (f, p))
