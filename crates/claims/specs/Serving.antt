-- Request E1: a grant says which page served. With relocation on it is the page of rule 3, one of the 48; with relocation off, none.
use Rattle.std.specs.Prelude.{ℕ, ◌<◌, ◌≡◌, Bool, cond, List, None, Some}
use Rattle.std.specs.declared.option.Option.{Option}
use Rattle.rules.specs.Paper.{G}
use Rattle.rules.specs.Words.{word, SR0, relocates}
use Rattle.rules.specs.References.{page_for}
use Rattle.rules.specs.Step.{step}
use Rattle.rules.specs.declared.Reference.{Reference}
use Rattle.rules.specs.declared.Event.TheVariants.{Refer}

-- every grant there is
abbrev pub ServedBy : Type 0
ServedBy =
    (l : List ℕ) (r : Reference) (byte : ℕ) (trap : Bool) (served : Option ℕ) → (step l (Refer r)).0 ≡ G byte trap served
    → served ≡ cond (relocates (word l SR0)) (Some (page_for l r)) None

-- the place, counted as in the store, is that of a PAR
abbrev pub AmongThe48 : Type 0
AmongThe48 = (l : List ℕ) (r : Reference) → page_for l r < 48

pub record Serving : Type 0 where
  pub by : ServedBy
  pub among : AmongThe48
