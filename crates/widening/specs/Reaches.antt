-- 01: the blocks a mode reaches.
use Rattle.std.specs.Prelude.{ℕ, ◌+◌, ◌≤◌, ◌<◌, ◌≡◌, ◌↔◌, Bool, true, cond, not, ◌&&◌, ◌||◌, List, eqb}
use Rattle.page.specs.Length.{length_error}
use Rattle.page.specs.Sum.{memory_block}
use Rattle.rules.specs.Keys.{key_of, non_resident}
use Rattle.rules.specs.Words.{word, PDR, SR3, enables_d}
use Rattle.rules.specs.References.{first_page}
use Rattle.widening.specs.Some.{some}

-- an allowed block of a page: the key is 1, 2, 4, 5 or 6, and the block is within the length
abbrev pub allows : ℕ → ℕ → Bool
allows pdr b = not (non_resident (key_of pdr)) && not (length_error pdr b)

-- block b of a page is allowed, and lies in a block of memory: (PAR + b) modulo 4096
abbrev pub lies_in : List ℕ → ℕ → ℕ → ℕ → Bool
lies_in l block page b = allows (word l (PDR page)) b && eqb (memory_block (word l page) b) block

unfoldable pub page_reaches : List ℕ → ℕ → ℕ → Bool
page_reaches l block page = some (lies_in l block page) 0 128

-- Kernel, Supervisor and User; mode 2 reaches none
abbrev pub is_mode : ℕ → Bool
is_mode mode = eqb mode 0 || eqb mode 1 || eqb mode 3

-- the pages of the sets SR3 lets a mode use: eight of its I set, then eight of its D set if SR3 enables D
abbrev pub pages_of : ℕ → ℕ → ℕ
pages_of sr3 mode = cond (enables_d sr3 mode) 16 8

unfoldable pub reaches : List ℕ → ℕ → ℕ → Bool
reaches l mode block = is_mode mode && some (page_reaches l block) (first_page mode) (pages_of (word l SR3) mode)

-- two modes reach a common block
unfoldable pub shared : List ℕ → ℕ → Bool
shared l block =
    (reaches l 0 block && reaches l 1 block) || (reaches l 0 block && reaches l 3 block)
    || (reaches l 1 block && reaches l 3 block)

-- no two modes reach a common block
unfoldable pub apart : List ℕ → Bool
apart l = not (some (shared l) 0 4096)

-- a mode reaches a block of memory by block b of a page
pub record Reached (l : List ℕ) (mode block page b : ℕ) : Type 0 where
  pub legal : is_mode mode ≡ true
  pub first : first_page mode ≤ page
  pub last : page < first_page mode + pages_of (word l SR3) mode
  pub within : b < 128
  pub allowed : allows (word l (PDR page)) b ≡ true
  pub lies : memory_block (word l page) b ≡ block

-- the definitions in the form of a statement: there are a page and a block of it
abbrev pub ReachesIs : Type 0
ReachesIs = (l : List ℕ) (mode block : ℕ) → (reaches l mode block ≡ true) ↔ ((page : ℕ) × (b : ℕ) × Reached l mode block page b)

-- and any two modes that reach a block are one
abbrev pub ApartIs : Type 0
ApartIs =
    (l : List ℕ)
    → (apart l ≡ true) ↔ ((m n block : ℕ) → reaches l m block ≡ true → reaches l n block ≡ true → m ≡ n)
