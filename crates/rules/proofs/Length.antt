-- No event changes how many words the store has: every change of a definition is a `set`.
use mathlib.Core.Path.{◌≡◌, refl}
use mathlib.Core.List.{List}
use Prim.Native.Nat.{ℕ}
use lib.ListN.{length, length-set}
use Rattle.rules.specs.References.{referred, illegal_mode, examined, ruled}
use Rattle.rules.specs.Registers.{written_at}
use Rattle.rules.specs.Others.{started, noted, cleared}
use Rattle.rules.specs.Step.{step, accepted}
use Rattle.rules.specs.declared.Event.{Event}
use Rattle.rules.specs.declared.Event.TheVariants.{Refer, Read, Write, Instruction, Interrupt, Change, Init}
use Rattle.rules.proofs.Bools.{cond-last, cond-length, cond_same}

accepted-length : (l : List ℕ) (e : Event) → length (accepted l e).1 ≡ length l
unfolding accepted referred illegal_mode examined ruled written_at started noted cleared
accepted-length l (Refer r) = simp (cond-last, cond-length, length-set, cond_same)
accepted-length l (Read address) = refl
accepted-length l (Write address value) = simp (cond-length, length-set, cond_same)
accepted-length l (Instruction va) = simp (cond-length, length-set, cond_same)
accepted-length l (Interrupt vector) = simp (cond-length, length-set, cond_same)
accepted-length l (Change register amount) = simp (cond-length, length-set, cond_same)
accepted-length l Init = simp length-set

pub length-stays : (l : List ℕ) (e : Event) → length (step l e).1 ≡ length l
unfolding step
length-stays l e = simp (cond-last, cond-length, accepted-length, cond_same)
