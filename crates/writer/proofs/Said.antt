-- `said` is one-to-one: a refusal is read back from its number.
use mathlib.Core.Path.{◌≡◌, sym, ap, ◌∙◌}
use Prim.Native.Nat.{ℕ}
use native.Mathlib.Omega.{arith}
use Rattle.rules.specs.Paper.{number}
use Rattle.rules.proofs.Papers.{numbered, same-refusal}
use Rattle.writer.specs.Writing.{SaidOneToOne}
use Rattle.std.proofs.Common.{Ok, Err, false, eqb, refl}
use Rattle.rules.specs.declared.Refusal.{Refusal}
use Rattle.rules.specs.declared.Refusal.TheVariants.{Store, Mode, Space, Access, Phase, High, Odd, NoRegister, BadChange, Full, Kind, Cut, Long, Room}

pub said_one_to_one : SaidOneToOne
said_one_to_one (Ok m) (Ok n) e = let same : m ≡ n = cc in ap Ok same
said_one_to_one (Ok m) (Err r) e = let apart : ◌≡◌ {A = ℕ} 0 1 = cc in absurd (omega arith)
said_one_to_one (Err r) (Ok n) e = let apart : ◌≡◌ {A = ℕ} 0 1 = cc in absurd (omega arith)
said_one_to_one (Err r) (Err q) e =
    let same : number r ≡ number q = cc in
    ap Err (sym (same-refusal r) ∙ ap numbered same ∙ same-refusal q)

-- no refusal has the number 0
pub no_zero : (r : Refusal) → eqb (number r) 0 ≡ false
no_zero Store = refl
no_zero Mode = refl
no_zero Space = refl
no_zero Access = refl
no_zero Phase = refl
no_zero High = refl
no_zero Odd = refl
no_zero NoRegister = refl
no_zero BadChange = refl
no_zero Full = refl
no_zero Kind = refl
no_zero Cut = refl
no_zero Long = refl
no_zero Room = refl
