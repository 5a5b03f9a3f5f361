-- Each premise of demand 3 is needed: a table of single steps, each of which drops one premise alone. The grant is lost, or its page,
-- and User is granted the byte that Kernel was granted, although in the last map no two modes reach a common block.
use Rattle.std.specs.Prelude.{ℕ, ◌≡◌, Bool, true, false, List, [], ◌∷◌, map, set, replicate, None, Some}
use Rattle.std.specs.declared.option.Option.{Option}
use Rattle.rules.specs.Paper.{Paper, G, A}
use Rattle.rules.specs.Words.{word, SR0, SR3, relocates}
use Rattle.rules.specs.Step.{step}
use Rattle.rules.specs.declared.Event.{Event}
use Rattle.rules.specs.declared.Event.TheVariants.{Write, Init}
use Rattle.widening.specs.Reaches.{apart}
use Rattle.widening.specs.Runs.{after}
use Rattle.widening.specs.Premises.{premises}
use Rattle.widening.specs.Example.{mapping, refer}

-- one line: the premise dropped (0 relocation on at first, 1 no INIT, 2 no write to SR3, 3 relocation left on, 4 PAR, 5 ED, 6 length, 7 rights);
-- a store; a reference that it grants, at a byte by a page; the step; and the answer to the same reference after the step
pub record Line : Type 0 where
  pub premise : ℕ
  pub store : List ℕ
  pub asks : Event
  pub byte : ℕ
  pub served : Option ℕ
  pub drops : Event
  pub again : Paper

abbrev pub line : ℕ → List ℕ → Event → ℕ → Option ℕ → Event → Paper → Line
line n l r b p e a = record { premise = n; store = l; asks = r; byte = b; served = p; drops = e; again = a }

-- a line, a reference of User that is granted the same byte after the step, and the page or none that serves it
abbrev pub Both : Type 0
Both = Line × Event × Option ℕ

-- SR0, then PAR and PDR of page 0 of Kernel I and of User I; every other word 0
abbrev pub holding : ℕ → ℕ → ℕ → ℕ → ℕ → List ℕ
holding sr0 kernelPar kernelPdr userPar userPdr =
    mapping 0 kernelPar kernelPdr (mapping 32 userPar userPdr (set (replicate 100 0) SR0 sr0))

-- SR3 enables D for Kernel, whose D page 0 has this PAR
abbrev pub with_d : ℕ → List ℕ → List ℕ
with_d par l = mapping 8 par 0o077406 (set l SR3 0o000004)

-- a write by Kernel, space 0
abbrev pub kernel : ℕ → Event
kernel va = refer 0 0 1 va

-- a line with such a reference: a write by User, space 0
abbrev pub and_user : ℕ → Option ℕ → Line → Both
and_user va served t = (t, refer 3 0 1 va, served)

abbrev pub sharing : List Both
sharing =
    -- relocation off at first, then on
    and_user 0o017 (Some 32)
    (line 0 (holding 0 0o100 0o077406 0 0o000406) (kernel 0o017) 0o000017 None (Write 0o777572 1) (G 0o010017 false (Some 0)))
    -- INIT
    ∷ and_user 0o010217 None
    (line 1 (holding 1 0o100 0o077406 0o1000 0o077406) (kernel 0o217) 0o010217 (Some 0) Init (G 0o000217 false None))
    -- SR3 disables D for Kernel
    ∷ and_user 0o217 (Some 32)
    (line 2 (with_d 0o1000 (holding 1 0o100 0o077406 0o1000 0o077406)) (refer 0 1 1 0o217) 0o100217 (Some 8) (Write 0o772516 0) (G 0o010217 false (Some 0)))
    -- SR0 bit 0 is written 0
    ∷ and_user 0o010217 None
    (line 3 (holding 1 0o100 0o077406 0o1000 0o077406) (kernel 0o217) 0o010217 (Some 0) (Write 0o777572 0) (G 0o000217 false None))
    -- another PAR at a resident page
    ∷ and_user 0o217 (Some 32)
    (line 4 (holding 1 0o100 0o077406 0o100 0o077406) (kernel 0o217) 0o010217 (Some 0) (Write 0o772340 0o300) (G 0o030217 false (Some 0)))
    -- ED 0 becomes 1
    ∷ and_user 0o217 (Some 32)
    (line 5 (holding 1 0o100 0o077406 0o100 0o017406) (kernel 0o217) 0o010217 (Some 0) (Write 0o772300 0o077416) (A false true false))
    -- ED 0, a smaller length; ED 1, a larger one
    ∷ and_user 0o017 (Some 32)
    (line 6 (holding 1 0o100 0o077406 0o102 0o017406) (kernel 0o217) 0o010217 (Some 0) (Write 0o772300 0o000406) (A false true false))
    ∷ and_user 0o217 (Some 32)
    (line 6 (holding 1 0o100 0o000016 0o100 0o001406) (kernel 0o217) 0o010217 (Some 0) (Write 0o772300 0o002016) (A false true false))
    -- key 6 becomes 0
    ∷ and_user 0o217 (Some 32)
    (line 7 (holding 1 0o100 0o077406 0o100 0o077406) (kernel 0o217) 0o010217 (Some 0) (Write 0o772300 0o077400) (A true false false))
    ∷ []

-- two more, of the first half alone
abbrev pub table : List Line
table =
    -- SR3 disables D for Kernel, whose D page 0 and I page 0 lie over the same blocks: the byte is kept, the page is not
    line 2 (with_d 0o100 (holding 1 0o100 0o077406 0o1000 0o077406)) (refer 0 1 1 0o217) 0o010217 (Some 8) (Write 0o772516 0)
    (G 0o010217 false (Some 0))
    -- key 6 becomes 2: the write is lost, but Kernel still reaches the block
    ∷ line 7 (holding 1 0o100 0o077406 0o1000 0o077406) (kernel 0o217) 0o010217 (Some 0) (Write 0o772300 0o077402) (A false false true)
    ∷ map (λ t. t.0) sharing

abbrev pub last : Line → List ℕ
last t = after t.store (t.drops ∷ [])

-- which premises hold; the reference's answers before and after the step
abbrev pub found : Line → List Bool × Paper × Paper
found t =
    (relocates (word t.store SR0) ∷ premises t.store t.drops, (step t.store t.asks).0, (step (last t) t.asks).0)

-- every premise but one; a grant at the byte by the page; the answer that the line gives
abbrev pub expected : Line → List Bool × Paper × Paper
expected t = (set (replicate 8 true) t.premise false, G t.byte false t.served, t.again)

-- the answers to User, and the last maps
abbrev pub taken : List Paper
taken = map (λ t. (step (last t.0) t.1).0) sharing

abbrev pub lasts : List (List ℕ)
lasts = map (λ t. last t.0) sharing

pub record Needed : Type 0 where
  pub lost : map found table ≡ map expected table
  pub shared : taken ≡ map (λ t. G t.0.byte false t.2) sharing
  pub parted : map apart lasts ≡ replicate 9 true
