-- `mode_reaches` meets its contract: the mode's PARs and PDRs side by side say what `reaches` says.
use mathlib.Core.Path.{◌∙◌}
use Rattle.reach.proofs.ByPages.{by_pages}
use borrow.Author.Rules.{rules}
use Rattle.reach.proofs.mode_reaches.Goals as goal

pub returns : goal.returns
returns c =
    let f = c.first_page-first.ensures in
    let p = c.pages.ensures in
    c.some_page.ensures ∙ by_pages _ _ c.requires (search rules) _ _ _ f.0 f.1 p.0 p.1
