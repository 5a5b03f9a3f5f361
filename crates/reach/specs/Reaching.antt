-- Whether a mode reaches a block: refused by 1 or 2, or as `reaches` says.
use Rattle.std.specs.Prelude.{ℕ, ◌+◌, ◌-◌, ◌%◌, Bool, cond, ◌&&◌, List, eqb, ltb, length, Result, Ok, Err}
use Rattle.page.specs.Fields.{base_of}
use Rattle.rules.specs.declared.Refusal.{Refusal}
use Rattle.rules.specs.declared.Refusal.TheVariants.{Store, Mode}
use Rattle.widening.specs.Reaches.{allows, reaches}

unfoldable pub reaching_of : List ℕ → ℕ → ℕ → Result Bool Refusal
reaching_of l mode block =
    cond (eqb (length l) 100)
    (cond (ltb 3 mode) (Err Mode) (Ok (reaches l mode block)))
    (Err Store)

-- the only block of a page that can lie in a block of memory, if it is one and allowed. That a page so reaches the block is shown in proofs/
unfoldable pub holds : ℕ → ℕ → ℕ → Bool
holds par pdr block =
    let b = (block + 4096 - base_of par) % 4096 in
    ltb b 128 && allows pdr b
