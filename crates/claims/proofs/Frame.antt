-- What an event leaves alone: each word that it does not name, the length, and all but A and W of a reference's PDR.
use mathlib.Core.Path.{◌≡◌, refl, sym, ◌∙◌}
use mathlib.Core.Bool.{Bool, true, false, cond, not, ◌&&◌, ◌||◌, true≢false}
use mathlib.Core.List.{List}
use Prim.Native.Nat.{ℕ}
use lib.Dec.{eqb, ltb}
use lib.ListN.{set}
use lib.Seq.{get_or-set_other}
use borrow.Author.Tests.{eqb-true, eqb-false}
use Rattle.rules.specs.Words.{word, PDR, SR0, SR1, SR2, SR3}
use Rattle.rules.specs.Addresses.{register_at}
use Rattle.rules.specs.References.{page_for, ruled, examined, illegal_mode, referred}
use Rattle.rules.specs.Registers.{written_at}
use Rattle.rules.specs.Others.{started, noted, cleared}
use Rattle.rules.specs.Step.{step, accepted}
use Rattle.rules.specs.declared.Reference.{Reference}
use Rattle.rules.specs.declared.Event.{Event}
use Rattle.rules.specs.declared.Event.TheVariants.{Refer, Read, Write, Instruction, Interrupt, Change, Init}
use Rattle.claims.specs.Frame.{named, OthersStay, Frame}
use Rattle.claims.proofs.Marks.{only_marks}
use Rattle.rules.proofs.Bools.{or_l, or_r, cond-last, cond-get_or, cond_same}
use Rattle.rules.proofs.Length.{length-stays}

-- words that are not named
refer-stays : (l : List ℕ) (r : Reference) (i : ℕ) → (i ≡ SR0 → ⊥) → (i ≡ PDR (page_for l r) → ⊥) → word (referred l r).1 i ≡ word l i
unfolding referred illegal_mode examined ruled
refer-stays l r i n m = simp (cond-last, cond-get_or, get_or-set_other, cond_same)

start-stays : (l : List ℕ) (v i : ℕ) → (i ≡ SR1 → ⊥) → (i ≡ SR2 → ⊥) → word (started l v) i ≡ word l i
unfolding started
start-stays l v i n m = simp (cond-get_or, get_or-set_other, cond_same)

change_stays : (l : List ℕ) (b i : ℕ) → (i ≡ SR1 → ⊥) → word (noted l b) i ≡ word l i
unfolding noted
change_stays l b i n = simp (cond-get_or, get_or-set_other, cond_same)

init_stays : (l : List ℕ) (i : ℕ) → (i ≡ SR0 → ⊥) → (i ≡ SR1 → ⊥) → (i ≡ SR2 → ⊥) → (i ≡ SR3 → ⊥) → word (cleared l) i ≡ word l i
unfolding cleared
init_stays l i a b c d = simp get_or-set_other

-- a write to SR0 or SR3 names its own place
status_stays : (l : List ℕ) (p i a b : ℕ) (x y : Bool) → (i ≡ p → ⊥) → eqb p SR0 ≡ x → eqb p SR3 ≡ y
    → word (cond x (set l SR0 a) (cond y (set l SR3 b) l)) i ≡ word l i
status_stays l p i a b true y n e f = get_or-set_other l SR0 i a 0 (λ z. n (z ∙ sym (eqb-true p SR0 e)))
status_stays l p i a b false true n e f = get_or-set_other l SR3 i b 0 (λ z. n (z ∙ sym (eqb-true p SR3 f)))
status_stays l p i a b false false n e f = refl

page-stays : (l m : List ℕ) (p i a b c : ℕ) (x y : Bool) → ltb p 48 ≡ x → (i ≡ p → ⊥) → (x && eqb i (PDR p)) ≡ false
    → word m i ≡ word l i → word (cond x (set (set l p a) (PDR p) b) (cond y (set l p c) m)) i ≡ word l i
page-stays l m p i a b c true y e n h g =
    get_or-set_other (set l p a) (PDR p) i b 0 (eqb-false i (PDR p) h) ∙ get_or-set_other l p i a 0 n
page-stays l m p i a b c false true e n h g = get_or-set_other l p i c 0 n
page-stays l m p i a b c false false e n h g = g

-- a write to SR1 or SR2 changes nothing
read_only : (l : List ℕ) (p v i : ℕ) (x y : Bool) → eqb p SR1 ≡ x → eqb p SR2 ≡ y → (not x && not y) ≡ false → word (written_at l p v) i ≡ word l i
unfolding written_at
read_only l p v i true y e f h = rw (eqb-true p SR1 e)
read_only l p v i false true e f h = rw (eqb-true p SR2 f)
read_only l p v i false false e f h = absurd (true≢false h)

write-stays : (l : List ℕ) (p v i : ℕ) (x : Bool) → eqb i p ≡ x
    → ((x && not (eqb p SR1) && not (eqb p SR2)) || (ltb p 48 && eqb i (PDR p))) ≡ false → word (written_at l p v) i ≡ word l i
unfolding written_at
write-stays l p v i true e h =
    read_only l p v i (eqb p SR1) (eqb p SR2) refl refl (or_l (not (eqb p SR1) && not (eqb p SR2)) (ltb p 48 && eqb i (PDR p)) h)
write-stays l p v i false e h =
    let n = eqb-false i p e in
    page-stays l _ p i _ _ _ (ltb p 48) (ltb p 96) refl n h (status_stays l p i _ _ (eqb p SR0) (eqb p SR3) n refl refl)

accepted-stays : (l : List ℕ) (e : Event) (i : ℕ) → named l e i ≡ false → word (accepted l e).1 i ≡ word l i
unfolding accepted
accepted-stays l (Refer r) i h =
    refer-stays l r i (eqb-false i SR0 (or_l (eqb i SR0) (eqb i (PDR (page_for l r))) h))
    (eqb-false i (PDR (page_for l r)) (or_r (eqb i SR0) (eqb i (PDR (page_for l r))) h))
accepted-stays l (Read address) i h = refl
accepted-stays l (Write address value) i h = write-stays l (register_at address) value i (eqb i (register_at address)) refl h
accepted-stays l (Instruction va) i h = start-stays l va i (eqb-false i SR1 (or_l (eqb i SR1) (eqb i SR2) h))
    (eqb-false i SR2 (or_r (eqb i SR1) (eqb i SR2) h))
accepted-stays l (Interrupt vector) i h = start-stays l vector i (eqb-false i SR1 (or_l (eqb i SR1) (eqb i SR2) h))
    (eqb-false i SR2 (or_r (eqb i SR1) (eqb i SR2) h))
accepted-stays l (Change register amount) i h = change_stays l _ i (eqb-false i SR1 h)
accepted-stays l Init i h =
    let a = or_l (eqb i SR0 || eqb i SR1 || eqb i SR2) (eqb i SR3) h in
    let b = or_l (eqb i SR0 || eqb i SR1) (eqb i SR2) a in
    init_stays l i (eqb-false i SR0 (or_l (eqb i SR0) (eqb i SR1) b)) (eqb-false i SR1 (or_r (eqb i SR0) (eqb i SR1) b))
    (eqb-false i SR2 (or_r (eqb i SR0 || eqb i SR1) (eqb i SR2) a)) (eqb-false i SR3 (or_r (eqb i SR0 || eqb i SR1 || eqb i SR2) (eqb i SR3) h))

others : OthersStay
unfolding step
others l e i h = simp (cond-last, cond-get_or, accepted-stays l e i h, cond_same)

pub frame : Frame
frame = record { others = others; long = length-stays; marks = only_marks }
