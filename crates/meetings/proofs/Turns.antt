-- The passes of the code's loops, one turn at a time.
use mathlib.Core.Path.{◌≡◌}
use mathlib.Core.List.{List}
use Prim.Native.Nat.{ℕ, suc, ◌+◌, ◌-◌, ◌≤◌, ◌<◌}
use native.Mathlib.Numerals.{add-one}
use native.Mathlib.Omega.{arith}
use Rattle.page.specs.Sum.{memory_block}
use Rattle.rules.specs.Words.{word, PDR}
use Rattle.meetings.specs.declared.Pass.{Pass}
use Rattle.meetings.specs.Pass.{sighted, blocks_pass, page_pass, pages_pass}

-- what is left of a range, one turn later, and at its end
turn : (i e : ℕ) → i < e → e - i ≡ suc (e - suc i)
turn i e h = omega arith

over : (i e : ℕ) → e ≤ i → e - i ≡ 0
over i e h = omega arith

pub blocks_next : (page par b e : ℕ) (s : Pass) → b < e
    → blocks_pass page par b (e - b) s ≡ blocks_pass page par (b + 1) (e - (b + 1)) (sighted page (memory_block par b) s)
unfolding blocks_pass
blocks_next page par b e s h = rw (turn b e h, add-one b)

pub blocks_over : (page par b e : ℕ) (s : Pass) → e ≤ b → blocks_pass page par b (e - b) s ≡ s
unfolding blocks_pass
blocks_over page par b e s h = rw (over b e h)

pub pages_next : (l : List ℕ) (page e : ℕ) (s : Pass) → page < e
    → pages_pass l page (e - page) s ≡ pages_pass l (page + 1) (e - (page + 1)) (page_pass page (word l page) (word l (PDR page)) s)
unfolding pages_pass
pages_next l page e s h = rw (turn page e h, add-one page)

pub pages_over : (l : List ℕ) (page e : ℕ) (s : Pass) → e ≤ page → pages_pass l page (e - page) s ≡ s
unfolding pages_pass
pages_over l page e s h = rw (over page e h)
