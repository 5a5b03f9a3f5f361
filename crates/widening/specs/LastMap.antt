-- Demand 3: "Audit only the last map. From relocation on, over any sequence of events with no INIT and no write to SR3, in which each accepted
-- write leaves relocation on and, for a page, only widens: what was granted once is granted again at the same byte; and if in the last map no
-- two modes reach a common block, no byte was granted to two modes at any moment." Request E1: "the page is the same each time".
-- The sequence is `calm` (Runs); the map is `apart` (Reaches).
use Rattle.std.specs.Prelude.{ℕ, ◌/◌, ◌≤◌, ◌≡◌, Bool, true, List, ◌++◌, length}
use Rattle.std.specs.declared.option.Option.{Option}
use Rattle.rules.specs.Paper.{G}
use Rattle.rules.specs.Words.{word, SR0, relocates}
use Rattle.rules.specs.Step.{step}
use Rattle.rules.specs.declared.Reference.{Reference}
use Rattle.rules.specs.declared.Event.{Event}
use Rattle.rules.specs.declared.Event.TheVariants.{Refer}
use Rattle.widening.specs.Reaches.{reaches, apart}
use Rattle.widening.specs.Runs.{after, calm}

-- from relocation on, in a whole store
pub record On (l : List ℕ) : Type 0 where
  pub whole : length l ≡ 100
  pub relocating : relocates (word l SR0) ≡ true

-- a reference is granted at a byte, served by a page or none, with or without a trap
abbrev pub Granted : List ℕ → Reference → ℕ → Option ℕ → Type 0
Granted l r byte served = (trap : Bool) × ((step l (Refer r)).0 ≡ G byte trap served)

-- the same mode, space, access and VA, in a phase
abbrev pub in_phase : ℕ → Reference → Reference
in_phase phase r = record { mode = r.mode; space = r.space; access = r.access; phase = phase; va = r.va }

-- what was granted once, after es, is granted again at the same byte by the same page: there, after any fs that follow, and in either phase
abbrev pub Kept : Type 0
Kept =
    (l : List ℕ) → On l → (es fs : List Event) → calm l (es ++ fs) ≡ true
    → (r : Reference) (byte : ℕ) (served : Option ℕ) → Granted (after l es) r byte served
    → (phase : ℕ) → phase ≤ 1 → Granted (after l (es ++ fs)) (in_phase phase r) byte served

-- if after the whole run no two modes reach a common block, a byte granted at two moments, after es and after gs, was granted to one mode
abbrev pub NeverShared : Type 0
NeverShared =
    (l : List ℕ) → On l → (run es fs gs hs : List Event) → run ≡ es ++ fs → run ≡ gs ++ hs → calm l run ≡ true
    → apart (after l run) ≡ true
    → (r q : Reference) (byte : ℕ) (served other : Option ℕ) → Granted (after l es) r byte served → Granted (after l gs) q byte other
    → r.mode ≡ q.mode

pub record Demand3 : Type 0 where
  pub kept : Kept
  pub never_shared : NeverShared

-- what the second half rests on. Relocation is on at every point of the run
abbrev pub StaysOn : Type 0
StaysOn = (l : List ℕ) → On l → (es : List Event) → calm l es ≡ true → On (after l es)

-- a byte granted to a mode lies in a block that the mode reaches
abbrev pub GrantsReached : Type 0
GrantsReached =
    (l : List ℕ) → On l → (r : Reference) (byte : ℕ) (served : Option ℕ) → Granted l r byte served → reaches l r.mode (byte / 64) ≡ true

-- what a mode reaches at a point of the run it reaches at every later point
abbrev pub ReachGrows : Type 0
ReachGrows =
    (l : List ℕ) → On l → (es fs : List Event) → calm l (es ++ fs) ≡ true
    → (mode block : ℕ) → reaches (after l es) mode block ≡ true → reaches (after l (es ++ fs)) mode block ≡ true
