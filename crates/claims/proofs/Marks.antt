-- Of its page's PDR a reference alters A and W only: it stays as it is, or rule 7's marks are added to it.
use mathlib.Core.Path.{◌≡◌, refl, sym}
use mathlib.Core.Bool.{Bool, true, false, cond}
use mathlib.Core.List.{List}
use Prim.Native.Nat.{ℕ, ◌+◌, ◌*◌, ◌<◌}
use native.Mathlib.Omega.{arith}
use lib.Dec.{eqb}
use lib.Bits.{bit_or, or_zero_r}
use lib.ListN.{length, get_or, set}
use lib.Seq.{get_or-set_other, get_or-set_same}
use borrow.Author.Tests.{eqb-true}
use Rattle.page.specs.Sum.{byte_of}
use Rattle.rules.specs.Words.{word, PDR, SR0, bit, relocates}
use Rattle.rules.specs.Addresses.{in_registers}
use Rattle.rules.specs.References.{page_for, aborts, condition, marks_of, ruled, examined, illegal_mode, referred}
use Rattle.rules.specs.Refusals.{refusal_of}
use Rattle.rules.specs.Step.{step, accepted}
use Rattle.rules.specs.declared.Reference.{Reference}
use Rattle.rules.specs.declared.Event.TheVariants.{Refer}
use Rattle.claims.specs.Demand2.{par_for, pdr_for, writing}
use Rattle.claims.specs.Frame.{OnlyMarks}
use Rattle.rules.proofs.Bools.{cond-last, cond-get_or, page-small}

-- a word with A and W added or not
abbrev Marked : ℕ → ℕ → Type 0
Marked new old = (a : Bool) × (w : Bool) × (new ≡ bit_or old (bit a * 0o200 + bit w * 0o100))

unmarked : (old : ℕ) → Marked old old
unmarked old = (false, false, sym (or_zero_r old))

marked : (x : Bool) (old : ℕ) (a w : Bool) → Marked (bit_or old (cond x 0 (bit a * 0o200 + bit w * 0o100))) old
marked true old a w = (false, false, refl)
marked false old a w = (a, w, refl)

either : (x : Bool) (p q old : ℕ) → Marked p old → Marked q old → Marked (cond x p q) old
either true p q old s t = s
either false p q old s t = t

-- the page's PDR lies before SR0
pub before_status : (l : List ℕ) (r : Reference) → PDR (page_for l r) < 96
before_status l r = omega (arith, page-small l r)

module _ (l : List ℕ) (r : Reference) (whole : length l ≡ 100) where
  q : ℕ
  q = PDR (page_for l r)

  added : ℕ
  added = marks_of (byte_of (par_for l r) r.va) (condition (pdr_for l r) (writing r)) (writing r)

  after-sr0 : (m : List ℕ) (s : ℕ) → get_or (set m SR0 s) q 0 ≡ get_or m q 0
  unfolding q
  after-sr0 m s = get_or-set_other m SR0 q s 0 (λ z. omega (arith, before_status l r))

  after-pdr : (v : ℕ) → get_or (set l q v) q 0 ≡ v
  unfolding q
  after-pdr v = get_or-set_same l q v 0 (omega (arith, before_status l r))

  pdr-after : word (referred l r).1 q
      ≡ cond (relocates (word l SR0))
      (cond (eqb r.mode 2) (word l q) (cond (aborts (pdr_for l r) (writing r) r.va) (word l q) (bit_or (word l q) added)))
      (word l q)
  unfolding referred illegal_mode examined ruled q added
  pdr-after = simp (cond-last, cond-get_or, after-sr0, after-pdr)

  referred-marks : Marked (word (referred l r).1 q) (word l q)
  unfolding added
  referred-marks =
      rw pdr-after
      (either (relocates (word l SR0)) _ (word l q) (word l q)
      (either (eqb r.mode 2) (word l q) _ (word l q) (unmarked (word l q))
      (either (aborts (pdr_for l r) (writing r) r.va) (word l q) _ (word l q) (unmarked (word l q))
      (marked (in_registers (byte_of (par_for l r) r.va)) (word l q) (condition (pdr_for l r) (writing r)) (writing r))))
      (unmarked (word l q)))

-- a store of another length is refused
other_length : (l : List ℕ) (r : Reference) → eqb (length l) 100 ≡ false → (step l (Refer r)).1 ≡ l
unfolding step refusal_of
other_length l r e = rw e

by_length : (l : List ℕ) (r : Reference) (x : Bool) → eqb (length l) 100 ≡ x → Marked (word (step l (Refer r)).1 (PDR (page_for l r))) (pdr_for l r)
unfolding step accepted q
by_length l r true e =
    rw (cond-last, cond-get_or)
    (either (eqb (refusal_of l (Refer r)) 0) (word (referred l r).1 (PDR (page_for l r))) (pdr_for l r) (pdr_for l r)
    (referred-marks l r (eqb-true (length l) 100 e)) (unmarked (pdr_for l r)))
by_length l r false e = rw (other_length l r e) (unmarked (pdr_for l r))

pub only_marks : OnlyMarks
only_marks l r = by_length l r (eqb (length l) 100) refl
