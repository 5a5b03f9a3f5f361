-- Each premise of demand 3 is needed: the definitions compute the table, and an owner is named for each block of a last map.
use Prim.Native.Nat.{ℕ}
use mathlib.Core.Path.{refl}
use mathlib.Core.Bool.{cond}
use mathlib.Core.List.{List, [], ◌∷◌}
use lib.Dec.{ltb}
use Rattle.page.specs.Length.{length_error}
use Rattle.rules.specs.Addresses.{register_at}
use Rattle.rules.specs.References.{referred, illegal_mode, examined, ruled}
use Rattle.rules.specs.Registers.{written_at}
use Rattle.rules.specs.Others.{cleared}
use Rattle.rules.specs.Refusals.{refusal_of}
use Rattle.rules.specs.Step.{step, accepted}
use Rattle.widening.specs.Widens.{widens_par}
use Rattle.widening.specs.Needed.{Needed, lasts}
use Rattle.widening.proofs.Owned.{all_owned, owned, stray_mode, strays, stray, all_apart}

-- User's blocks lie below block n and Kernel's from there up; and the other way round
abbrev user_below : ℕ → ℕ → ℕ
user_below n block = cond (ltb block n) 3 0

abbrev kernel_below : ℕ → ℕ → ℕ
kernel_below n block = cond (ltb block n) 0 3

abbrev owners : List (ℕ → ℕ)
owners =
    user_below 64 ∷ kernel_below 512 ∷ kernel_below 512 ∷ kernel_below 512 ∷ user_below 192 ∷ user_below 96 ∷ kernel_below 66 ∷ user_below 68
    ∷ user_below 192 ∷ []

pub needed : Needed
unfolding step accepted refusal_of referred illegal_mode examined ruled written_at cleared length_error register_at widens_par all_owned owned stray_mode strays stray
needed = record { lost = refl; shared = refl; parted = all_apart lasts owners refl }
