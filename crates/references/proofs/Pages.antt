-- Rules 4 to 9 over the store are the ruling on its words by value, with PDR and SR0 stored back whether they changed or not.
use mathlib.Core.Path.{◌≡◌, refl, sym, ap, ◌∙◌}
use Rattle.std.proofs.Common.{Some}
use mathlib.Core.Bool.{Bool, true, false, cond, ◌||◌, ◌&&◌}
use mathlib.Core.List.{List}
use Prim.Native.Nat.{ℕ, ◌+◌, ◌%◌}
use lib.Dec.{eqb}
use lib.ListN.{set}
use native.Mathlib.Omega.{arith}
use borrow.Author.Tests.{eq-eqb}
use lib.Seq.{set-get_or}
use lib.Bits.{bit_or}
use Rattle.page.specs.Fields.{block_of}
use Rattle.page.specs.Length.{length_error}
use Rattle.page.specs.Sum.{byte_of}
use Rattle.rules.specs.Paper.{Paper, G, A}
use Rattle.rules.specs.Words.{word, PDR, SR0, SR3, bit, relocates, enables_d}
use Rattle.rules.specs.References.{referred, examined, ruled, place_of, details, non_resident_flag, read_only_flag, condition, traps, marks_of, abort_flags, trap_flag, sr0_after}
use Rattle.rules.specs.Modes.{mode_number}
use Rattle.rules.specs.declared.modes.Mode.{Mode}
use Rattle.rules.specs.declared.modes.Mode.TheVariants.{Kernel, Supervisor, User}
use Rattle.ruling.specs.Rulings.{Ruled, ruling_of}
use Rattle.references.specs.Accepted.{numbers, number_of}
use Rattle.references.specs.declared.Accepted.{Accepted}

abbrev stored : List ℕ → ℕ → Ruled → Paper × List ℕ
stored l page q = (q.0, set (set l (PDR page) q.1.0) SR0 q.1.1)

by_case : (x : Bool) (l : List ℕ) (page : ℕ) (a g : Paper) (s m t : ℕ)
    → cond x (a, set l SR0 s) (g, set (set l (PDR page) m) SR0 t) ≡ stored l page (cond x (a, (word l (PDR page), s)) (g, (m, t)))
by_case true l page a g s m t = rw (set-get_or l (48 + page) 0)
by_case false l page a g s m t = refl

by_value : (l : List ℕ) (page : ℕ) (write : Bool) (loaded va : ℕ)
    → ruled l page write loaded va ≡ stored l page (ruling_of page (word l page) (word l (PDR page)) (word l SR0) write loaded va)
unfolding ruled ruling_of
by_value l page write loaded va =
    let pdr = word l (PDR page) in
    let sr0 = word l SR0 in
    let n = non_resident_flag pdr in
    let e = length_error pdr (block_of va) in
    let o = read_only_flag pdr write in
    let b = byte_of (word l page) va in
    let t = traps sr0 pdr write in
    by_case (n || e || o) l page (A n e o) (G b t (Some page)) (sr0_after sr0 (abort_flags n e o) loaded)
    (bit_or pdr (marks_of b (condition pdr write) write)) (sr0_after sr0 (trap_flag t) loaded)

-- as the code meets it
pub by_ruling : {a : Paper} {pdr sr0 : ℕ} (l : List ℕ) (page : ℕ) (write : Bool) (loaded va : ℕ)
    → (a, (pdr, sr0)) ≡ ruling_of page (word l page) (word l (PDR page)) (word l SR0) write loaded va
    → (a, set (set l (PDR page) pdr) SR0 sr0) ≡ ruled l page write loaded va
by_ruling l page write loaded va e = ap (stored l page) e ∙ sym (by_value l page write loaded va)

-- a flag's number is 1 where it holds
one : (b : Bool) → eqb (bit b) 1 ≡ b
one true = refl
one false = refl

not-illegal : (m : Mode) → eqb (mode_number m) 2 ≡ false
not-illegal Kernel = refl
not-illegal Supervisor = refl
not-illegal User = refl

relocated : (n : ℕ) → (n % 2 ≡ 0 → ⊥) → relocates n ≡ true
relocated n h = eq-eqb (n % 2) 1 (omega arith)

-- with relocation on and a mode that has pages, rule 3 and then the page found, in terms of the accepted reference
pub examined_as : (l : List ℕ) (q : Accepted) (m : Mode) → q.mode ≡ Some m → (word l SR0 % 2 ≡ 0 → ⊥)
    → referred l (numbers q)
    ≡ (let d = q.data_space && enables_d (word l SR3) (mode_number m) in
    ruled l (place_of (mode_number m) d q.va) q.write (details (bit q.phase) (number_of q.mode) d q.va) q.va)
unfolding referred examined
examined_as l q m e h = rw (e, relocated (word l SR0) h, not-illegal m, one q.data_space, one q.write)
