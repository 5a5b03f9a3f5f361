-- The longer reasons: each arm is a case of the definition.
use borrow.Author.Rules.{rules}
use Rattle.wording.proofs.parts.put_reason.Goals as goal

pub returns-in-RelocationOff : goal.returns-in-RelocationOff
returns-in-RelocationOff c = (rw c.in-RelocationOff.is c.put-in-RelocationOff.ensures, search rules)

pub returns-in-ChangesPar : goal.returns-in-ChangesPar
returns-in-ChangesPar c = (rw c.in-ChangesPar.is c.put-in-ChangesPar.ensures, search rules)

pub returns-in-ChangesEd : goal.returns-in-ChangesEd
returns-in-ChangesEd c = (rw c.in-ChangesEd.is c.put-in-ChangesEd.ensures, search rules)

pub returns-in-Narrows : goal.returns-in-Narrows
returns-in-Narrows c = (rw c.in-Narrows.is c.put-in-Narrows.ensures, search rules)

pub returns-in-LosesRights : goal.returns-in-LosesRights
returns-in-LosesRights c = (rw c.in-LosesRights.is c.put-in-LosesRights.ensures, search rules)
