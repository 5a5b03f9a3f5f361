-- Every answer of the unit is small: a byte of rule 5 or rule 1, a page of rule 3 or none, a masked word, a number of the table.
use mathlib.Core.Path.{◌≡◌, refl, sym, subst}
use Rattle.std.specs.declared.option.Option.{Option}
use Rattle.std.proofs.Common.{None, Some}
use mathlib.Core.Bool.{Bool, true, false, cond, ◌&&◌}
use mathlib.Core.List.{List, [], ◌∷◌}
use Prim.Native.Nat.{ℕ, ◌+◌, ◌<◌, ◌≤◌}
use native.Mathlib.Omega.{arith}
use lib.Dec.{ltb, eqb}
use lib.Bits.{bit_and, and_le_r}
use borrow.Author.Tests.{ltb-true}
use Rattle.page.specs.Sum.{byte_of}
use Rattle.rules.specs.Paper.{Paper, G, A, X}
use Rattle.rules.specs.Words.{word, PDR, SR0, SR3, relocates, implemented}
use Rattle.rules.specs.Addresses.{register_at}
use Rattle.rules.specs.References.{flat_byte, uses_d, page_for, details, aborts, ruled, examined, illegal_mode, referred}
use Rattle.rules.specs.Refusals.{Conditions, lowest, conditions, refusal_of}
use Rattle.rules.specs.Step.{step, accepted}
use Rattle.rules.specs.declared.Reference.{Reference}
use Rattle.rules.specs.declared.Event.{Event}
use Rattle.rules.specs.declared.Event.TheVariants.{Refer, Read, Write, Instruction, Interrupt, Change, Init}
use Rattle.rules.proofs.Bools.{and_l, and_r, page-small}
use Rattle.board.specs.Codes.{six_bits, OfThe48, Small, Typed, AnswersSmall}

-- whichever way a test goes
either : (x : Bool) (p q : Paper × List ℕ) → Small p.0 → Small q.0 → Small (cond x p q).0
either true p q s t = s
either false p q s t = t

at_most : (x : Bool) (m n k : ℕ) → m ≤ k → n ≤ k → cond x m n ≤ k
at_most true m n k h g = h
at_most false m n k h g = g

-- the numbers of the table
numbered : Conditions → Bool
numbered [] = true
numbered (c ∷ cs) = ltb c.0 14 && numbered cs

below : (x : Bool) (m n : ℕ) → m < 14 → n < 14 → cond x m n < 14
below true m n h g = h
below false m n h g = g

lowest-below : (cs : Conditions) → numbered cs ≡ true → lowest cs < 14
unfolding numbered
lowest-below [] h = omega arith
lowest-below (c ∷ cs) h =
    below c.1 c.0 (lowest cs) (ltb-true c.0 14 (and_l (ltb c.0 14) (numbered cs) h))
    (lowest-below cs (and_r (ltb c.0 14) (numbered cs) h))

all-numbered : (l : List ℕ) (e : Event) → numbered (conditions l e) ≡ true
unfolding numbered
all-numbered l (Refer r) = refl
all-numbered l (Read address) = refl
all-numbered l (Write address value) = refl
all-numbered l (Instruction va) = refl
all-numbered l (Interrupt vector) = refl
all-numbered l (Change register amount) = refl
all-numbered l Init = refl

refusal-below : (l : List ℕ) (e : Event) → refusal_of l e < 14
unfolding refusal_of
refusal-below l e = lowest-below (conditions l e) (all-numbered l e)

flat_small : (x : Bool) (va : ℕ) → va < 0x10000 → cond x va (va + 0o600000) < 0o1000000
flat_small true va h = omega arith
flat_small false va h = omega arith

sum-small : (par va : ℕ) → byte_of par va < 0o1000000
sum-small par va = omega arith

-- an abort, or a grant at a small byte by one of the 48
granted_or_not : (x n e o t : Bool) (k l : List ℕ) (b page : ℕ) → b < 0o1000000 → page < 48
    → Small (cond {A = Paper × List ℕ} x (A n e o, k) (G b t (Some page), l)).0
granted_or_not true n e o t k l b page h p = tt
granted_or_not false n e o t k l b page h p = (h, p)

ruled-small : (l : List ℕ) (page : ℕ) (write : Bool) (loaded va : ℕ) → page < 48 → Small (ruled l page write loaded va).0
unfolding ruled
ruled-small l page write loaded va =
    granted_or_not (aborts (word l (PDR page)) write va) _ _ _ _ _ _ (byte_of (word l page) va) page (sum-small (word l page) va)

referred-small : (l : List ℕ) (r : Reference) → r.va < 0x10000 → Small (referred l r).0
unfolding referred illegal_mode examined
referred-small l r h =
    let d = uses_d (word l SR3) r.mode r.space in
    either (relocates (word l SR0)) (cond (eqb r.mode 2) (illegal_mode l r) (examined l r)) (G (flat_byte r.va) false None, l)
    (either (eqb r.mode 2) (illegal_mode l r) (examined l r) tt
    (ruled-small l (page_for l r) (eqb r.access 1) (details r.phase r.mode d r.va) r.va (page-small l r)))
    (flat_small (ltb r.va 0o160000) r.va h, tt)

word_small : (w place : ℕ) → bit_and w (implemented place) < 0x10000
word_small w place =
    let low = at_most (eqb place SR3) 0o000017 0o177777 0o177777 (omega arith) (omega arith) in
    let status = at_most (eqb place SR0) 0o171777 _ 0o177777 (omega arith) low in
    let pdr = at_most (ltb place 96) 0o077717 _ 0o177777 (omega arith) status in
    let mask = at_most (ltb place 48) 0o007777 _ 0o177777 (omega arith) pdr in
    omega (arith, mask, and_le_r w (implemented place))

accepted-small : (l : List ℕ) (e : Event) → Typed e → Small (accepted l e).0
unfolding accepted
accepted-small l (Refer r) h = referred-small l r h
accepted-small l (Read address) h = word_small (word l (register_at address)) (register_at address)
accepted-small l (Write address value) h = tt
accepted-small l (Instruction va) h = tt
accepted-small l (Interrupt vector) h = tt
accepted-small l (Change register amount) h = tt
accepted-small l Init h = tt

pub answers_small : AnswersSmall
unfolding step
answers_small l e h = either (eqb (refusal_of l e) 0) (accepted l e) (X (refusal_of l e), l) (accepted-small l e h) (refusal-below l e)

-- a page of the 48, or none, has room in six bits
pub six_bits-small : (served : Option ℕ) → OfThe48 served → six_bits served < 64
six_bits-small (Some place) h = omega arith
six_bits-small None h = omega arith

-- as a caller meets it
pub small : (a : Paper) (m l : List ℕ) (e : Event) → (a, m) ≡ step l e → Typed e → Small a
small a m l e h t = subst (λ (o : Paper × List ℕ). Small o.0) (sym h) (answers_small l e t)
