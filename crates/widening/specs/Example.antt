-- The premises of demand 3 can be met: a run that widens, with a grant, a refusal and an abort, and maps of three modes that stay apart.
use Rattle.std.specs.Prelude.{ℕ, ◌≡◌, true, false, List, [], ◌∷◌, set, replicate, Some}
use Rattle.rules.specs.Paper.{Paper, G, A, D, X}
use Rattle.rules.specs.Words.{PDR, SR0}
use Rattle.rules.specs.declared.Event.{Event}
use Rattle.rules.specs.declared.Event.TheVariants.{Refer, Write}
use Rattle.widening.specs.Reaches.{apart}
use Rattle.widening.specs.Runs.{after, answers, calm}
use Rattle.widening.specs.LastMap.{On}

-- a page's PAR and PDR
abbrev pub mapping : ℕ → ℕ → ℕ → List ℕ → List ℕ
mapping page par pdr l = set (set l page par) (PDR page) pdr

-- relocation on; page 0 of Kernel (32 blocks, key 6), of Supervisor (64 blocks, key 2) and of User (the upper 64 blocks, key 6)
abbrev pub start : List ℕ
start =
    mapping 0 0o0100 0o017406 (mapping 16 0o1000 0o037402 (mapping 32 0o2000 0o040016
    (set (replicate 100 0) SR0 0o000001)))

abbrev pub refer : ℕ → ℕ → ℕ → ℕ → Event
refer mode space access va = Refer (record { mode = mode; space = space; access = access; phase = 0; va = va })

abbrev pub run : List Event
run =
    refer 0 0 1 0o000217  -- Kernel writes: granted
    ∷ refer 1 0 0 0o000017  -- Supervisor and User read: granted
    ∷ refer 3 1 0 0o017777
    ∷ Write 0o772300 0o077406  -- Kernel's length grows to 128 blocks
    ∷ Write 0o772200 0o037404  -- Supervisor's key 2 becomes 4
    ∷ Write 0o777642 0o2200  -- User page 1 has key 0: its PAR may change
    ∷ Write 0o777602 0o077402  -- and then its PDR
    ∷ Write 0o772301 0o000000  -- an odd address: refused
    ∷ refer 3 0 1 0o020000  -- User writes where it may only read: aborted
    ∷ refer 0 0 1 0o000217  -- Kernel's write again
    ∷ []

abbrev pub answered : List Paper
answered =
    G 0o010217 false (Some 0) ∷ G 0o100017 false (Some 16) ∷ G 0o217777 false (Some 32)
    ∷ D ∷ D ∷ D ∷ D ∷ X 7 ∷ A false false true ∷ G 0o010217 false (Some 0) ∷ []

-- every premise of demand 3 holds of this run, and its answers are these
pub record Example : Type 0 where
  pub on : On start
  pub steps : calm start run ≡ true
  pub given : answers start run ≡ answered
  pub parted : apart (after start run) ≡ true
