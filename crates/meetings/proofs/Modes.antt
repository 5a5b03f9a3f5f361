-- The pass over some modes, one at a time; over all three it is the whole one.
use mathlib.Core.Path.{◌≡◌, refl}
use mathlib.Core.List.{List, [], ◌∷◌}
use Prim.Native.Nat.{ℕ, ◌+◌, ◌≤◌, ◌<◌}
use native.Mathlib.Numerals.{add-one}
use lib.ListN.{length, drop, get_or}
use Rattle.std.proofs.Math.Seq.{drop-cons}
use Rattle.std.proofs.lemmas.List.{drop_all}
use Rattle.rules.specs.Modes.{mode_number}
use Rattle.rules.specs.declared.modes.Mode.{Mode}
use Rattle.rules.specs.declared.modes.Mode.TheVariants.{Kernel, Supervisor, User}
use Rattle.meetings.specs.declared.Pass.{Pass}
use Rattle.meetings.specs.Pass.{mode_pass, start, whole_pass}

unfoldable pub modes_pass : List ℕ → List Mode → Pass → Pass
modes_pass l [] s = s
modes_pass l (m ∷ ms) s = modes_pass l ms (mode_pass l (mode_number m) s)

pub modes_first : (l : List ℕ) → modes_pass l (Kernel ∷ Supervisor ∷ User ∷ []) start ≡ whole_pass l
unfolding modes_pass whole_pass
modes_first l = refl

pub modes_next : (l : List ℕ) (ms : List Mode) (i : ℕ) (s : Pass) (d : Mode) → i < length ms
    → modes_pass l (drop i ms) s ≡ modes_pass l (drop (i + 1) ms) (mode_pass l (mode_number (get_or ms i d)) s)
unfolding modes_pass
modes_next l ms i s d h = rw (add-one i, drop-cons ms i d h)

pub modes_over : (l : List ℕ) (ms : List Mode) (i : ℕ) (s : Pass) → length ms ≤ i → modes_pass l (drop i ms) s ≡ s
unfolding modes_pass
modes_over l ms i s h = rw (drop_all i ms h)
