-- The premises of demand 3 on one step, each for itself, so that one can be dropped alone.
use Rattle.std.specs.Prelude.{ℕ, ◌≡◌, Bool, true, not, ◌&&◌, ◌||◌, List, [], ◌∷◌, ltb, eqb, replicate}
use Rattle.page.specs.Fields.{ed_of}
use Rattle.rules.specs.Keys.{key_of, non_resident}
use Rattle.rules.specs.Words.{word, PDR, SR3}
use Rattle.rules.specs.Addresses.{register_at}
use Rattle.rules.specs.Refusals.{refusal_of}
use Rattle.rules.specs.declared.Event.{Event}
use Rattle.rules.specs.declared.Event.TheVariants.{Refer, Read, Write, Instruction, Interrupt, Change, Init}
use Rattle.widening.specs.Widens.{widens_par, keeps_blocks, keeps_rights}
use Rattle.widening.specs.Runs.{is_init, place_written, leaves_on, permitted}

-- a PDR write to a resident page passes a test
abbrev pub of_pdr : List ℕ → ℕ → Bool → Bool
of_pdr l place test = not (not (ltb place 48) && ltb place 96) || non_resident (key_of (word l place)) || test

-- what widening asks of a write: the twelve bits, ED, length and rights, each for itself
abbrev pub widenings : List ℕ → ℕ → ℕ → List Bool
widenings l place value =
    (not (ltb place 48) || widens_par (word l (PDR place)) (word l place) value)
    ∷ of_pdr l place (eqb (ed_of value) (ed_of (word l place)))
    ∷ of_pdr l place (keeps_blocks (word l place) value)
    ∷ of_pdr l place (keeps_rights (key_of (word l place)) (key_of value))
    ∷ []

abbrev pub page_premises : List ℕ → Event → List Bool
page_premises l (Refer r) = replicate 4 true
page_premises l (Read address) = replicate 4 true
page_premises l (Write address value) = widenings l (register_at address) value
page_premises l (Instruction va) = replicate 4 true
page_premises l (Interrupt vector) = replicate 4 true
page_premises l (Change register amount) = replicate 4 true
page_premises l Init = replicate 4 true

-- no INIT; no write to SR3; a write leaves relocation on; then the four of widening
abbrev pub premises : List ℕ → Event → List Bool
premises l e = not (is_init e) ∷ not (eqb (place_written e) SR3) ∷ leaves_on l e ∷ page_premises l e

abbrev pub every : List Bool → Bool
every [] = true
every (b ∷ bs) = b && every bs

-- a step is permitted if it is refused or keeps every premise
abbrev pub PremisesAre : Type 0
PremisesAre = (l : List ℕ) (e : Event) → permitted l e ≡ (not (eqb (refusal_of l e) 0) || every (premises l e))
