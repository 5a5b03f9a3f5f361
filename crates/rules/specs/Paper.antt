-- What an operation gives, an answer or a refusal, in document 01's own terms: its letter, its values, and for a refusal its number.
use Rattle.std.specs.Prelude.{ℕ, ◌≡◌, Bool, Result, Ok, Err}
use Rattle.std.specs.declared.option.Option.{Option}
use Rattle.rules.specs.declared.Answer.{Answer}
use Rattle.rules.specs.declared.Answer.TheVariants.{Granted, Aborted, Word, Done}
use Rattle.rules.specs.declared.Refusal.{Refusal}
use Rattle.rules.specs.declared.Refusal.TheVariants.{Store, Mode, Space, Access, Phase, High, Odd, NoRegister, BadChange, Full, Kind, Cut, Long, Room}

-- G byte trap served; A non-resident length read-only; R word; D done; X number
pub data Paper : Type 0 where
  G : ℕ → Bool → Option ℕ → Paper
  A : Bool → Bool → Bool → Paper
  R : ℕ → Paper
  D : Paper
  X : ℕ → Paper

-- 01, "When the beam won't balance", and 14 of request E2
abbrev pub number : Refusal → ℕ
number Store = 1
number Mode = 2
number Space = 3
number Access = 4
number Phase = 5
number High = 6
number Odd = 7
number NoRegister = 8
number BadChange = 9
number Full = 10
number Kind = 11
number Cut = 12
number Long = 13
number Room = 14

abbrev pub paper : Result Answer Refusal → Paper
paper (Ok (Granted byte trap served)) = G byte trap served
paper (Ok (Aborted nonresident length readonly)) = A nonresident length readonly
paper (Ok (Word w)) = R w
paper (Ok Done) = D
paper (Err r) = X (number r)

-- no two of them have the same letter and values
abbrev pub PaperOneToOne : Type 0
PaperOneToOne = (a b : Result Answer Refusal) → paper a ≡ paper b → a ≡ b
