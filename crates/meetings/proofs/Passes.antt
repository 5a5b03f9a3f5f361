-- The passes hold what each page sees: a page's blocks together are one sight of each block that the page reaches.
use mathlib.Core.Path.{◌≡◌, refl}
use mathlib.Core.Bool.{Bool, true, false, cond, ◌||◌}
use mathlib.Core.List.{List}
use Prim.Native.Nat.{ℕ, zero, suc, ◌-◌, ◌/◌}
use native.Mathlib.Omega.{arith}
use lib.Dec.{eqb}
use borrow.Author.Tests.{eq-eqb}
use Rattle.std.proofs.Common.{Some, None}
use Rattle.std.specs.declared.option.Option.{Option}
use Rattle.page.specs.Sum.{memory_block}
use Rattle.rules.specs.Keys.{key_of, non_resident}
use Rattle.rules.specs.Words.{word, PDR}
use Rattle.widening.specs.Some.{some}
use Rattle.widening.specs.Reaches.{page_reaches}
use Rattle.meetings.specs.declared.Pass.{Pass}
use Rattle.meetings.specs.Pass.{blocks_pass, sighted, first_block, end_block, page_pass, pages_pass}
use Rattle.meetings.proofs.Ranges.{by-range}
use Rattle.meetings.proofs.Tracks.{Two, seeing, Tracks, alike, sighting}

-- to see a page twice is to see it once
again : (page : ℕ) (f s : Option ℕ) → seeing page (seeing page (f, s)) ≡ seeing page (f, s)
unfolding seeing
again page None None = rw (eq-eqb (page / 16) (page / 16) refl)
again page None (Some s) = refl
again page (Some f) (Some s) = refl
again page (Some f) None = at (eqb (f / 16) (page / 16)) refl
  where
    at : (b : Bool) → eqb (f / 16) (page / 16) ≡ b → seeing page (seeing page (Some f, None)) ≡ seeing page (Some f, None)
    at true e = simp e
    at false e = simp e

-- e the block of this turn, r one of the later
twice : (e r : Bool) (page : ℕ) (a : Two)
    → cond r (seeing page (cond e (seeing page a) a)) (cond e (seeing page a) a) ≡ cond (e || r) (seeing page a) a
twice true true page a = again page a.0 a.1
twice true false page a = refl
twice false r page a = refl

blocks_track : (page par b n : ℕ) → (s : Pass) (A : ℕ → Two) → Tracks s A
    → Tracks (blocks_pass page par b n s) (λ x. cond (some (λ c. eqb (memory_block par c) x) b n) (seeing page (A x)) (A x))
unfolding blocks_pass
blocks_track page par b zero s A t = t
blocks_track page par b (suc n) s A t =
    let m = memory_block par b in
    alike _ _ _ (λ x. twice (eqb m x) (some (λ c. eqb (memory_block par c) x) (suc b) n) page (A x))
    (blocks_track page par (suc b) n (sighted page m s) (λ x. cond (eqb m x) (seeing page (A x)) (A x))
    (sighting page m (omega arith) s A t))

page_track : (l : List ℕ) (page : ℕ) → (s : Pass) (A : ℕ → Two) → Tracks s A
    → Tracks (page_pass page (word l page) (word l (PDR page)) s) (λ x. cond (page_reaches l x page) (seeing page (A x)) (A x))
unfolding page_pass
page_track l page s A t = by (non_resident (key_of pdr)) refl
  where
    par : ℕ
    par = word l page

    pdr : ℕ
    pdr = word l (PDR page)

    by : (n : Bool) → non_resident (key_of pdr) ≡ n
        → Tracks (cond (non_resident (key_of pdr)) s (blocks_pass page par (first_block pdr) (end_block pdr - first_block pdr) s))
        (λ x. cond (page_reaches l x page) (seeing page (A x)) (A x))
    by true e = rw e (alike s A _ (λ x. rw (by-range l x page, e)) t)
    by false e = rw e (alike _ _ _ (λ x. rw (by-range l x page, e)) (blocks_track page par (first_block pdr) (end_block pdr - first_block pdr) s A t))

-- the two of a block after n pages from a page on
unfoldable pub passing : List ℕ → ℕ → ℕ → ℕ → Two → Two
passing l x page zero a = a
passing l x page (suc n) a = passing l x (suc page) n (cond (page_reaches l x page) (seeing page a) a)

pub pages_track : (l : List ℕ) (page n : ℕ) → (s : Pass) (A : ℕ → Two) → Tracks s A
    → Tracks (pages_pass l page n s) (λ x. passing l x page n (A x))
unfolding pages_pass passing
pages_track l page zero s A t = t
pages_track l page (suc n) s A t =
    pages_track l (suc page) n (page_pass page (word l page) (word l (PDR page)) s)
    (λ x. cond (page_reaches l x page) (seeing page (A x)) (A x)) (page_track l page s A t)
