-- `paper` is one-to-one: an answer is read back from its letter and values.
use Prim.Native.Nat.{ℕ}
use mathlib.Core.Path.{◌≡◌, refl, sym, ap, ◌∙◌}
use mathlib.Core.List.{[], ◌∷◌}
use lib.ListN.{get_or}
use Rattle.std.proofs.Common.{Result, Ok, Err}
use Rattle.rules.specs.Paper.{Paper, G, A, R, D, X, number, paper, PaperOneToOne}
use Rattle.rules.specs.declared.Answer.{Answer}
use Rattle.rules.specs.declared.Answer.TheVariants.{Granted, Aborted, Word, Done}
use Rattle.rules.specs.declared.Refusal.{Refusal}
use Rattle.rules.specs.declared.Refusal.TheVariants.{
  Store,
  Mode,
  Space,
  Access,
  Phase,
  High,
  Odd,
  NoRegister,
  BadChange,
  Full,
  Kind,
  Cut,
  Long,
  Room,
}

unfoldable pub numbered : ℕ → Refusal
numbered n =
    get_or
    (Store ∷ Store ∷ Mode ∷ Space ∷ Access ∷ Phase ∷ High ∷ Odd ∷ NoRegister ∷ BadChange ∷ Full ∷ Kind ∷ Cut ∷ Long ∷ Room ∷ [])
    n Store

pub same-refusal : (r : Refusal) → numbered (number r) ≡ r
unfolding numbered
same-refusal Store = refl
same-refusal Mode = refl
same-refusal Space = refl
same-refusal Access = refl
same-refusal Phase = refl
same-refusal High = refl
same-refusal Odd = refl
same-refusal NoRegister = refl
same-refusal BadChange = refl
same-refusal Full = refl
same-refusal Kind = refl
same-refusal Cut = refl
same-refusal Long = refl
same-refusal Room = refl

back : Paper → Result Answer Refusal
back (G byte trap served) = Ok (Granted byte trap served)
back (A nonresident length readonly) = Ok (Aborted nonresident length readonly)
back (R w) = Ok (Word w)
back D = Ok Done
back (X n) = Err (numbered n)

same_answer : (a : Result Answer Refusal) → back (paper a) ≡ a
unfolding back
same_answer (Ok (Granted byte trap served)) = refl
same_answer (Ok (Aborted nonresident length readonly)) = refl
same_answer (Ok (Word w)) = refl
same_answer (Ok Done) = refl
same_answer (Err r) = ap Err (same-refusal r)

pub paper_one_to_one : PaperOneToOne
paper_one_to_one a b e = sym (same_answer a) ∙ ap back e ∙ same_answer b
