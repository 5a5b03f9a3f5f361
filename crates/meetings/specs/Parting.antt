-- The answer whether the modes are apart: the lowest block that two modes share, and of the modes that reach it the two lowest,
-- each with its lowest page that does.
use Rattle.std.specs.Prelude.{◌≡◌, ◌↔◌, true, cond, List, ℕ, eqb, ltb, length, Result, Ok, Err, Some, None}
use Rattle.std.specs.declared.option.Option.{Option}
use Rattle.rules.specs.Words.{word, SR3}
use Rattle.rules.specs.References.{first_page}
use Rattle.rules.specs.declared.Refusal.{Refusal}
use Rattle.rules.specs.declared.Refusal.TheVariants.{Store}
use Rattle.widening.specs.Reaches.{page_reaches, pages_of, reaches, shared, apart}
use Rattle.meetings.specs.declared.Meeting.{Meeting}
use Rattle.meetings.specs.Firsts.{first_of}

-- a mode's lowest page that reaches a block
abbrev pub lowest_page : List ℕ → ℕ → ℕ → ℕ
lowest_page l block mode = first_of (page_reaches l block) (first_page mode) (pages_of (word l SR3) mode)

abbrev pub meeting_of : List ℕ → ℕ → ℕ → ℕ → Meeting
meeting_of l block m n = record { block = block; first = lowest_page l block m; second = lowest_page l block n }

-- the two lowest modes that reach a shared block: Kernel and Supervisor, Kernel and User, or Supervisor and User
unfoldable pub meeting_at : List ℕ → ℕ → Meeting
meeting_at l block =
    cond (reaches l 0 block)
    (cond (reaches l 1 block) (meeting_of l block 0 1) (meeting_of l block 0 3))
    (meeting_of l block 1 3)

-- the meeting at the lowest shared block, if there is one
abbrev pub meeting_in : List ℕ → Option Meeting
meeting_in l = let block = first_of (shared l) 0 4096 in cond (ltb block 4096) (Some (meeting_at l block)) None

unfoldable pub parting_of : List ℕ → Result (Option Meeting) Refusal
parting_of l = cond (eqb (length l) 100) (Ok (meeting_in l)) (Err Store)

-- no meeting is answered exactly if the store is whole and no two modes reach a common block
abbrev pub ApartIs : Type 0
ApartIs = (l : List ℕ) → (parting_of l ≡ Ok None) ↔ ((length l ≡ 100) × (apart l ≡ true))
