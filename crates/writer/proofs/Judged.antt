-- What an answer tells of the refusal's number, and number 0 of the event: its record fits, and so does its amount.
use mathlib.Core.Path.{◌≡◌, refl, sym, ◌∙◌, ap}
use mathlib.Core.Bool.{Bool, true, false, cond, true≢false, false≢true}
use mathlib.Core.List.{List, [], ◌∷◌, ◌++◌}
use Prim.Native.Nat.{ℕ, zero, suc, ◌+◌, ◌≤◌}
use native.Mathlib.Omega.{arith}
use lib.ListN.{length}
use lib.Dec.{ltb, eqb}
use borrow.Author.Tests.{le-ltb, ltb-false, eqb-true}
use Rattle.rules.specs.Refusals.{Conditions, lowest}
use Rattle.rules.specs.Paper.{number}
use Rattle.rules.specs.declared.Refusal.{Refusal}
use Rattle.rules.specs.declared.Event.{Event}
use Rattle.rules.specs.declared.Event.TheVariants.{Refer, Read, Write, Instruction, Interrupt, Change, Init}
use Rattle.writer.specs.Bytes.{record_of}
use Rattle.writer.proofs.Fields.{passed}
use Rattle.writer.proofs.Said.{no_zero}
use Rattle.writer.specs.Writing.{Said, Used, X, large, short, unwritten, answer, laid, write}

-- no condition of an event's fields has the number 0, which stands for none
abbrev positive : Conditions → Bool
positive [] = true
positive ((zero, x) ∷ cs) = false
positive ((suc n, x) ∷ cs) = positive cs

fields-positive : (e : Event) → positive (large e) ≡ true
fields-positive (Refer r) = refl
fields-positive (Read address) = refl
fields-positive (Write address value) = refl
fields-positive (Instruction va) = refl
fields-positive (Interrupt vector) = refl
fields-positive (Change register amount) = refl
fields-positive Init = refl

-- conditions of which none holds leave the answer to those after them
passing : (cs ds : Conditions) → positive cs ≡ true → lowest cs ≡ 0 → lowest (cs ++ ds) ≡ lowest ds
passing [] ds p h = refl
passing ((zero, x) ∷ cs) ds p h = absurd (false≢true p)
passing ((suc n, true) ∷ cs) ds p h = absurd (omega arith)
passing ((suc n, false) ∷ cs) ds p h = passing cs ds p h

-- and one that holds gives it
stopping : (cs ds : Conditions) → eqb (lowest cs) 0 ≡ false → lowest (cs ++ ds) ≡ lowest cs
stopping [] ds h = absurd (true≢false h)
stopping ((n, true) ∷ cs) ds h = refl
stopping ((n, false) ∷ cs) ds h = stopping cs ds h

first_not_given : (cs ds : Conditions) → lowest (cs ++ ds) ≡ 0 → lowest cs ≡ 0
first_not_given [] ds h = refl
first_not_given ((n, true) ∷ cs) ds h = h
first_not_given ((n, false) ∷ cs) ds h = first_not_given cs ds h

-- an event whose fields fit, and whose record fits in what is left
pub accepted : (room used : ℕ) (e : Event) → lowest (large e) ≡ 0 → used + length (record_of e) ≤ room → unwritten room used e ≡ 0
unfolding unwritten
accepted room used e f h =
    passing (large e) (short room used (length (record_of e))) (fields-positive e) f ∙ rw (le-ltb room (used + length (record_of e)) h)

pub not_large : (room used : ℕ) (e : Event) → unwritten room used e ≡ 0 → lowest (large e) ≡ 0
unfolding unwritten
not_large room used e n = first_not_given (large e) (short room used (length (record_of e))) n

-- and the other way about: a record that is written fits in what is left
roomy : (room used bytes : ℕ) → ◌≡◌ {A = ℕ} (cond (ltb room (used + bytes)) 14 0) 0 → used + bytes ≤ room
roomy room used bytes h = ltb-false room (used + bytes) (passed (ltb room (used + bytes)) 13 0 h).0

pub fitting : (room used : ℕ) (e : Event) → unwritten room used e ≡ 0 → used + length (record_of e) ≤ room
unfolding unwritten
fitting room used e h =
    let left = short room used (length (record_of e)) in
    roomy room used (length (record_of e)) (sym (passing (large e) left (fields-positive e) (not_large room used e h)) ∙ h)

-- an answer is a number of bytes used, or a refusal
is_used : Said → Bool
is_used (Used used) = true
is_used (X n) = false

count : Said → ℕ
count (Used used) = used
count (X n) = n

pub used_tells : (n next used : ℕ) → Used used ≡ answer n next → (n ≡ 0) × (used ≡ next)
unfolding is_used count
used_tells n next used e = by (eqb n 0) refl e
  where
    by : (x : Bool) → eqb n 0 ≡ x → Used used ≡ cond x (Used next) (X n) → (n ≡ 0) × (used ≡ next)
    by true h e = (eqb-true n 0 h, ap count e)
    by false h e = absurd (true≢false (ap is_used e))

refused-tells : (n next k : ℕ) → X k ≡ answer n next → eqb n 0 ≡ false
unfolding is_used
refused-tells n next k e = by (eqb n 0) refl e
  where
    by : (x : Bool) → eqb n 0 ≡ x → X k ≡ cond x (Used next) (X n) → eqb n 0 ≡ false
    by true h e = absurd (false≢true (ap is_used e))
    by false h e = h

-- fields that do not fit refuse, whatever room there is
pub fields_refuse :
    (room used next : ℕ) (e : Event) (r : Refusal) → number r ≡ lowest (large e) → X (number r) ≡ answer (unwritten room used e) next
unfolding unwritten
fields_refuse room used next e r h =
    let given = rw h at (no_zero r) in
    let n = stopping (large e) (short room used (length (record_of e))) given in
    rw (n, h, given)

-- and where they fit the room decides
pub room_decides :
    (room used next : ℕ) (e : Event) (x : Said) → 0 ≡ lowest (large e)
    → x ≡ answer (lowest (short room used (length (record_of e)))) next → x ≡ answer (unwritten room used e) next
unfolding unwritten
room_decides room used next e x f h =
    rw (passing (large e) (short room used (length (record_of e))) (fields-positive e) (sym f)) h

-- what is refused leaves the buffer as it was
pub refusing : (b : List ℕ) (used : ℕ) (e : Event) (k : ℕ) → X k ≡ answer (unwritten (length b) used e) (used + length (record_of e))
    → (X k, b) ≡ write b used e
unfolding write
refusing b used e k told = rw (told, refused-tells (unwritten (length b) used e) (used + length (record_of e)) k told)

-- what is answered by a number of bytes has fields that fit, and room
pub may_write :
    (room used n : ℕ) (e : Event) → Used n ≡ answer (unwritten room used e) (used + length (record_of e))
    → (lowest (large e) ≡ 0) × (used + length (record_of e) ≤ room)
may_write room used n e told =
    let free = (used_tells (unwritten room used e) (used + length (record_of e)) n told).0 in
    (not_large room used e free, fitting room used e free)

-- and then the record stands in the buffer
pub writing :
    (b : List ℕ) (used n : ℕ) (e : Event) (m : List ℕ) → Used n ≡ answer (unwritten (length b) used e) (used + length (record_of e))
    → m ≡ laid b used (record_of e) → (Used n, m) ≡ write b used e
unfolding write
writing b used n e m told stored =
    let tells = used_tells (unwritten (length b) used e) (used + length (record_of e)) n told in
    rw (stored, tells.0, tells.1)
