-- The addresses of the 100 registers, and the register at an address.
use Rattle.std.specs.Prelude.{ℕ, zero, suc, ◌+◌, ◌*◌, ◌-◌, ◌/◌, ◌%◌, Bool, cond, List, [], ◌∷◌, get_or, ltb, eqb}

-- where each of the six sets of PARs begins: Kernel I and D, Supervisor I and D, User I and D
abbrev pub set_address : ℕ → ℕ
set_address set = get_or (0o772340 ∷ 0o772360 ∷ 0o772240 ∷ 0o772260 ∷ 0o777640 ∷ 0o777660 ∷ []) set 0

-- each eight words in steps of 2
abbrev pub par_address : ℕ → ℕ
par_address page = set_address (page / 8) + 2 * (page % 8)

-- the PDRs stand 40 lower
abbrev pub address_of : ℕ → ℕ
address_of place =
    cond (ltb place 48) (par_address place)
    (cond (ltb place 96) (par_address (place - 48) - 0o40)
    (get_or (0o777572 ∷ 0o777574 ∷ 0o777576 ∷ 0o772516 ∷ []) (place - 96) 0))

-- f i, f (i + 1), .., n of them
abbrev pub values : {T : Type 0} → (ℕ → T) → ℕ → ℕ → List T
values f i zero = []
values f i (suc n) = f i ∷ values f (suc i) n

-- the index of the first a, or the length where there is none
abbrev pub index_of : ℕ → List ℕ → ℕ
index_of a [] = 0
index_of a (x ∷ xs) = cond (eqb a x) 0 (suc (index_of a xs))

-- the place of the register at an address, 100 where there is none
unfoldable pub register_at : ℕ → ℕ
register_at address = index_of address (values address_of 0 100)

abbrev pub is_register : ℕ → Bool
is_register address = ltb (register_at address) 100

-- a byte lies in one of the 100 registers' words
abbrev pub in_registers : ℕ → Bool
in_registers byte = is_register (byte / 2 * 2)
