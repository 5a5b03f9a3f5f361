-- The starred readings of document 01, as one table: a store, an event, the answer, and words of the store afterwards.
use Rattle.std.specs.Prelude.{ℕ, ◌≡◌, true, false, List, [], ◌∷◌, map, set, replicate, pos, negsuc, None, Some}
use Rattle.rules.specs.Paper.{Paper, G, A, D}
use Rattle.rules.specs.Words.{word, PDR, SR0, SR1}
use Rattle.rules.specs.Step.{step}
use Rattle.rules.specs.declared.Event.{Event}
use Rattle.rules.specs.declared.Event.TheVariants.{Refer, Change}

-- all registers 0, but one page's PAR and PDR, and SR0
abbrev pub holding : ℕ → ℕ → ℕ → ℕ → List ℕ
holding page par pdr sr0 = set (set (set (replicate 100 0) page par) (PDR page) pdr) SR0 sr0

abbrev pub noting : ℕ → List ℕ
noting sr1 = set (replicate 100 0) SR1 sr1

abbrev pub reading : ℕ → ℕ → Event
reading mode va = Refer (record { mode = mode; space = 0; access = 0; phase = 0; va = va })

abbrev pub writing : ℕ → ℕ → Event
writing mode va = Refer (record { mode = mode; space = 0; access = 1; phase = 0; va = va })

-- one line: the store and the event, the answer, and a place with the word it holds afterwards
pub record Line : Type 0 where
  pub store : List ℕ
  pub event : Event
  pub answer : Paper
  pub place : ℕ
  pub holds : ℕ

abbrev pub line : List ℕ → Event → Paper → ℕ → ℕ → Line
line l e a p w = record { store = l; event = e; answer = a; place = p; holds = w }

abbrev pub table : List Line
table =
    -- PAR 3456, VA 167456: byte 355256
    line (holding 7 0o3456 0o77406 0o000001) (reading 0 0o167456) (G 0o355256 false (Some 7)) SR0 0o000001
    -- ED 0, length 051: VA 005177 granted, 005200 aborted
    ∷ line (holding 0 0 0o24406 0o000001) (reading 0 0o005177) (G 0o005177 false (Some 0)) SR0 0o000001
    ∷ line (holding 0 0 0o24406 0o000001) (reading 0 0o005200) (A false true false) SR0 0o040001
    -- ED 1, length 126: VA 012600 granted, 012577 aborted
    ∷ line (holding 0 0 0o53016 0o000001) (reading 0 0o012600) (G 0o012600 false (Some 0)) SR0 0o000001
    ∷ line (holding 0 0 0o53016 0o000001) (reading 0 0o012577) (A false true false) SR0 0o040001
    -- PAR 7777, VA 000100: byte 000000
    ∷ line (holding 0 0o7777 0o77406 0o000001) (reading 0 0o000100) (G 0 false (Some 0)) SR0 0o000001
    -- relocation off: 157777 stays, 160000 gives 760000
    ∷ line (holding 0 0 0 0) (reading 0 0o157777) (G 0o157777 false None) SR0 0
    ∷ line (holding 0 0 0 0) (reading 0 0o160000) (G 0o760000 false None) SR0 0
    -- key 0 past the length: flags 140000; key 2, write past the length: 060000
    ∷ line (holding 0 0 0o24400 0o000001) (reading 0 0o005200) (A true true false) SR0 0o140001
    ∷ line (holding 0 0 0o24402 0o000001) (writing 0 0o005200) (A false true true) SR0 0o060001
    -- SR0 000001, mode 2, phase 0, VA 160000: SR0 100117
    ∷ line (holding 0 0 0 0o000001) (reading 2 0o160000) (A true false false) SR0 0o100117
    -- SR0 001001, User I page 3, key 4, permitted read, phase 0: SR0 011147
    ∷ line (holding 35 0 0o77404 0o001001) (reading 3 0o060000) (G 0 true (Some 35)) SR0 0o011147
    -- from SR1 0, register 6 by -2 gives 000366; then register 1 by +2 gives 010766
    ∷ line (noting 0) (Change 6 (negsuc 1)) D SR1 0o000366
    ∷ line (noting 0o000366) (Change 1 (pos 2)) D SR1 0o010766
    ∷ []

-- what the definitions give for a line
abbrev pub found : Line → Paper × ℕ
found t = let s = step t.store t.event in (s.0, word s.1 t.place)

abbrev pub expected : Line → Paper × ℕ
expected t = (t.answer, t.holds)

abbrev pub Readings : Type 0
Readings = map found table ≡ map expected table
