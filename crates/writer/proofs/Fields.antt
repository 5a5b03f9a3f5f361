-- What an event whose fields fit tells of each of them.
use mathlib.Core.Path.{◌≡◌, refl}
use mathlib.Core.Bool.{Bool, true, false, cond, not, ◌||◌, true≢false}
use Prim.Native.Nat.{ℕ, suc, ◌≤◌}
use native.Mathlib.Omega.{arith}
use lib.Dec.{ltb}
use lib.IntN.{ℤ}
use borrow.Author.Tests.{ltb-false}
use Rattle.rules.proofs.Bools.{or_l}
use Rattle.rules.specs.Refusals.{lowest}
use Rattle.rules.specs.declared.Reference.{Reference}
use Rattle.writer.specs.Writing.{in_byte, large_reference, large_address, large_change}

-- a condition whose number is not given, and those after it
pub passed : (x : Bool) (n rest : ℕ) → cond x (suc n) rest ≡ 0 → (x ≡ false) × (rest ≡ 0)
passed true n rest h = absurd (omega arith)
passed false n rest h = (refl, h)

pub record Bytes (r : Reference) : Type 0 where
  pub mode : r.mode ≤ 255
  pub space : r.space ≤ 255
  pub access : r.access ≤ 255
  pub phase : r.phase ≤ 255

pub reference_fits : (r : Reference) → lowest (large_reference r) ≡ 0 → Bytes r
reference_fits r h =
    let phase : ℕ = cond (ltb 255 r.phase) 5 0 in
    let access : ℕ = cond (ltb 255 r.access) 4 phase in
    let space : ℕ = cond (ltb 255 r.space) 3 access in
    let past-mode = passed (ltb 255 r.mode) 1 space h in
    let past-space = passed (ltb 255 r.space) 2 access past-mode.1 in
    let past-access = passed (ltb 255 r.access) 3 phase past-space.1 in
    let past-phase = passed (ltb 255 r.phase) 4 0 past-access.1 in
    record {
      mode = ltb-false 255 r.mode past-mode.0;
      space = ltb-false 255 r.space past-space.0;
      access = ltb-false 255 r.access past-access.0;
      phase = ltb-false 255 r.phase past-phase.0;
    }

pub address_fits : (address : ℕ) → lowest (large_address address) ≡ 0 → address ≤ 0o77777777
address_fits address h = ltb-false 0o77777777 address (passed (ltb 0o77777777 address) 5 0 h).0

neither : (x y : Bool) → (x || not y) ≡ false → y ≡ true
neither true y h = absurd (true≢false h)
neither false true h = refl
neither false false h = absurd (true≢false h)

pub change_fits : (register : ℕ) (amount : ℤ) → lowest (large_change register amount) ≡ 0 → (register ≤ 255) × (in_byte amount ≡ true)
change_fits register amount h =
    let good = (passed (ltb 255 register || not (in_byte amount)) 8 0 h).0 in
    (ltb-false 255 register (or_l (ltb 255 register) (not (in_byte amount)) good), neither (ltb 255 register) (in_byte amount) good)
