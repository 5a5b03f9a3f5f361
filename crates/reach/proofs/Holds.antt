-- A page reaches a block of memory exactly if the difference modulo 4096 is an allowed block of it.
use mathlib.Core.Path.{◌≡◌}
use mathlib.Core.Bool.{Bool, true, ◌&&◌, and-eq-true_iff}
use mathlib.Core.List.{List}
use Prim.Native.Nat.{ℕ, ◌+◌, ◌-◌, ◌%◌, ◌<◌}
use native.Mathlib.Omega.{arith}
use lib.Dec.{eqb, ltb}
use borrow.Author.Tests.{eqb-true, eq-eqb, lt-ltb, ltb-true}
use Rattle.page.specs.Fields.{base_of}
use Rattle.page.specs.Sum.{memory_block}
use Rattle.rules.specs.Words.{word, PDR}
use Rattle.widening.specs.Some.{some}
use Rattle.widening.specs.Reaches.{allows, page_reaches}
use Rattle.widening.proofs.Reached.{some-found, some_holds}
use Rattle.reach.specs.Reaching.{holds}
use Rattle.std.proofs.lemmas.Bool.Decides.{same_from_decides}

-- block b of a page lies in a block of memory exactly if it is the difference
difference : (par block b : ℕ) → block < 4096 → b < 128 → memory_block par b ≡ block → b ≡ (block + 4096 - base_of par) % 4096
difference par block b h k e = omega arith

lies : (par block : ℕ) → block < 4096 → memory_block par ((block + 4096 - base_of par) % 4096) ≡ block
lies par block h = omega arith

-- block b of a page, by its words
abbrev pub on_page : ℕ → ℕ → ℕ → ℕ → Bool
on_page par pdr block b = allows pdr b && eqb (memory_block par b) block

by_difference : (par pdr block : ℕ) → block < 4096 → some (on_page par pdr block) 0 128 ≡ true → holds par pdr block ≡ true
unfolding holds
by_difference par pdr block h t =
    let d = (block + 4096 - base_of par) % 4096 in
    let s = some-found (on_page par pdr block) 0 128 t in
    let k = (and-eq-true_iff (allows pdr s.0) (eqb (memory_block par s.0) block)).0 s.3 in
    let e : s.0 ≡ d = difference par block s.0 h (omega (arith, s.2)) (eqb-true _ block k.1) in
    (and-eq-true_iff (ltb d 128) (allows pdr d)).1 (lt-ltb d 128 (omega (arith, s.2, e)), rw e at k.0)

difference-holds : (par pdr block : ℕ) → block < 4096 → holds par pdr block ≡ true → some (on_page par pdr block) 0 128 ≡ true
unfolding holds
difference-holds par pdr block h t =
    let d = (block + 4096 - base_of par) % 4096 in
    let k = (and-eq-true_iff (ltb d 128) (allows pdr d)).0 t in
    some_holds (on_page par pdr block) 0 128 d (omega arith) (omega (arith, ltb-true d 128 k.0))
    ((and-eq-true_iff (allows pdr d) (eqb (memory_block par d) block)).1 (k.1, eq-eqb (memory_block par d) block (lies par block h)))

pub page-reaches : (l : List ℕ) (block page : ℕ) → block < 4096 → page_reaches l block page ≡ holds (word l page) (word l (PDR page)) block
unfolding page_reaches
page-reaches l block page h =
    same_from_decides {P = holds (word l page) (word l (PDR page)) block ≡ true} _ _
    (by_difference (word l page) (word l (PDR page)) block h, difference-holds (word l page) (word l (PDR page)) block h) (λ t. t, λ t. t)
