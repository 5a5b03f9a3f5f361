-- The verdict on a write by the place that it is to: the premises as the code takes them. That they are demand 3's is shown in proofs/.
use Rattle.std.specs.Prelude.{Bool, cond, List, ℕ, eqb, ltb, Some, None}
use Rattle.std.specs.declared.option.Option.{Option}
use Rattle.page.specs.Fields.{ed_of}
use Rattle.rules.specs.Keys.{key_of, non_resident}
use Rattle.rules.specs.Words.{word, PDR, SR0, SR3, relocates}
use Rattle.widening.specs.Widens.{widens_par, keeps_blocks, keeps_rights}
use Rattle.auditing.specs.declared.Reason.{Reason}
use Rattle.auditing.specs.declared.Reason.TheVariants.{WritesSr3, RelocationOff, ChangesPar, ChangesEd, Narrows, LosesRights}

-- SR0 bit 0 after the write
abbrev pub left_on : ℕ → ℕ → ℕ → Bool
left_on sr0 place value = cond (eqb place SR0) (relocates value) (relocates sr0)

abbrev pub par_verdict : ℕ → ℕ → ℕ → Option Reason
par_verdict pdr old new = cond (widens_par pdr old new) None (Some ChangesPar)

-- ED, length and rights of a resident page
abbrev pub pdr_verdict : ℕ → ℕ → Option Reason
pdr_verdict old new =
    cond (non_resident (key_of old)) None
    (cond (eqb (ed_of new) (ed_of old))
    (cond (keeps_blocks old new)
    (cond (keeps_rights (key_of old) (key_of new)) None (Some LosesRights))
    (Some Narrows))
    (Some ChangesEd))

unfoldable pub place_verdict : List ℕ → ℕ → ℕ → Option Reason
place_verdict l place value =
    cond (eqb place SR3) (Some WritesSr3)
    (cond (left_on (word l SR0) place value)
    (cond (ltb place 48) (par_verdict (word l (PDR place)) (word l place) value)
    (cond (ltb place 96) (pdr_verdict (word l place) value) None))
    (Some RelocationOff))
