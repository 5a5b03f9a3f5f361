-- What a pass holds, block by block: the first page that reached the block, and the first after it of another mode. The owners are
-- the first of each block, and the lowest meeting is at the lowest block that has a second.
use mathlib.Core.Path.{◌≡◌, refl, sym, ap, ◌∙◌}
use mathlib.Core.Bool.{Bool, true, false, cond}
use Prim.Native.Nat.{ℕ, ◌/◌, ◌<◌}
use native.Mathlib.Omega.{arith}
use lib.Dec.{eqb, ltb}
use lib.ListN.{length, get_or, set, length-set, length-replicate, get_or-replicate}
use lib.Seq.{get_or-set_same, get_or-set_other}
use borrow.Author.Tests.{eqb-true, eqb-false, ltb-true, ltb-false}
use Rattle.std.proofs.Common.{Some, None}
use Rattle.std.specs.declared.option.Option.{Option}
use Rattle.meetings.specs.declared.Meeting.{Meeting}
use Rattle.meetings.specs.declared.Pass.{Pass}
use Rattle.meetings.specs.Pass.{start, is_below, met, sighted, sighted_by}

-- a block's first page and its second, of another mode
abbrev pub Two : Type 0
Two = Option ℕ × Option ℕ

abbrev pub neither : Two
neither = (None, None)

-- the second, where a page of the first's mode or of another reached the block too
abbrev pub second_by : Option ℕ → ℕ → ℕ → Option ℕ
second_by None f page = cond (eqb (f / 16) (page / 16)) None (Some page)
second_by (Some s) f page = Some s

abbrev pub seen_by : Option ℕ → Option ℕ → ℕ → Two
seen_by None s page = (Some page, s)
seen_by (Some f) s page = (Some f, second_by s f page)

-- the two of a block after one more page reached it
unfoldable pub seeing : ℕ → Two → Two
seeing page a = seen_by a.0 a.1 page

-- a lowest meeting, and none
pub record Lowest (m : Meeting) (A : ℕ → Two) : Type 0 where
  pub inside : m.block < 4096
  pub below : (x : ℕ) → x < m.block → (A x).1 ≡ None
  pub first : (A m.block).0 ≡ Some m.first
  pub second : (A m.block).1 ≡ Some m.second

abbrev pub LowestIs : Option Meeting → (ℕ → Two) → Type 0
LowestIs None A = (x : ℕ) → x < 4096 → (A x).1 ≡ None
LowestIs (Some m) A = Lowest m A

pub record Tracks (s : Pass) (A : ℕ → Two) : Type 0 where
  pub size : length s.owners ≡ 4096
  pub owner : (x : ℕ) → x < 4096 → get_or s.owners x None ≡ (A x).0
  pub only : (x : ℕ) → x < 4096 → (A x).0 ≡ None → (A x).1 ≡ None
  pub lowest : LowestIs s.lowest A

-- the same two for each block
alike_lowest : (o : Option Meeting) (A B : ℕ → Two) → ((x : ℕ) → A x ≡ B x) → LowestIs o A → LowestIs o B
alike_lowest None A B e t = λ x h. rw (← e x) (t x h)
alike_lowest (Some m) A B e t =
    record {
      inside = t.inside;
      below = λ x h. rw (← e x) (t.below x h);
      first = rw (← e m.block) t.first;
      second = rw (← e m.block) t.second;
    }

pub alike : (s : Pass) (A B : ℕ → Two) → ((x : ℕ) → A x ≡ B x) → Tracks s A → Tracks s B
alike s A B e t =
    record {
      size = t.size;
      owner = λ x h. rw (← e x) (t.owner x h);
      only = λ x h. rw (← e x) (t.only x h);
      lowest = alike_lowest s.lowest A B e t.lowest;
    }

pub started : Tracks start (λ x. neither)
started =
    record {
      size = length-replicate {A = Option ℕ} 4096 None;
      owner = λ x h. get_or-replicate {A = Option ℕ} 4096 x None None h;
      only = λ x h e. refl;
      lowest = λ x h. refl;
    }

-- one sighting: a page reaches block m
module _ (page m : ℕ) (inside : m < 4096) (s : Pass) (A : ℕ → Two) (t : Tracks s A) where
  -- the two after it, and a claim on them at m and elsewhere
  abbrev after : ℕ → Two
  after x = cond (eqb m x) (seeing page (A x)) (A x)

  split : (P : Two → Type 0) (x : ℕ) → (m ≡ x → P (seeing page (A m))) → ((x ≡ m → ⊥) → P (A x)) → P (after x)
  split P x p q = at (eqb m x) refl
    where
      at : (b : Bool) → eqb m x ≡ b → P (cond b (seeing page (A x)) (A x))
      at true e = let k = eqb-true m x e in rw (← k) (p k)
      at false e = let n = eqb-false m x e in q (λ k. n (sym k))

  -- no second of the block is the lowest meeting's
  other_block : (l : Meeting) → Lowest l A → (A m).1 ≡ None → m ≡ l.block → ⊥
  other_block l w z e = let k : Some l.second ≡ None = sym w.second ∙ (ap (λ x. (A x).1) (sym e) ∙ z) in cc

  -- a lowest meeting is kept where the block has no second yet, and lies above it or gets none
  keeps : (l : Meeting) → Lowest l A → (A m).1 ≡ None → (m < l.block → (seeing page (A m)).1 ≡ None) → Lowest l after
  keeps l w z f =
      record {
        inside = w.inside;
        below = λ x h. split (λ (a : Two). a.1 ≡ None) x (λ k. f (omega arith)) (λ n. w.below x h);
        first = split (λ (a : Two). a.0 ≡ Some l.first) l.block (λ k. absurd (other_block l w z k)) (λ n. w.first);
        second = split (λ (a : Two). a.1 ≡ Some l.second) l.block (λ k. absurd (other_block l w z k)) (λ n. w.second);
      }

  -- it becomes the owner
  owns : (A m).0 ≡ None → Tracks (record { owners = set s.owners m (Some page); lowest = s.lowest }) after
  unfolding seeing
  owns e =
      let z : (A m).1 ≡ None = t.only m inside e in
      record {
        size = length-set s.owners m (Some page) ∙ t.size;
        owner = λ x h.
            split (λ (a : Two). get_or (set s.owners m (Some page)) x None ≡ a.0) x
            (λ k. rw (← k, e) (get_or-set_same s.owners m (Some page) None (omega (arith, t.size))))
            (λ n. get_or-set_other s.owners m x (Some page) None n ∙ t.owner x h);
        only = λ x h. split (λ (a : Two). a.0 ≡ None → a.1 ≡ None) x (λ k. rw e (λ q. z)) (λ n. t.only x h);
        lowest = low s.lowest t.lowest z;
      }
    where
      low : (o : Option Meeting) → LowestIs o A → (A m).1 ≡ None → LowestIs o after
      low None w z = λ x h. split (λ (a : Two). a.1 ≡ None) x (λ k. rw e z) (λ n. w x h)
      low (Some l) w z = keeps l w z (λ h. rw e z)

  -- the two of the block stay
  stays : seeing page (A m) ≡ A m → Tracks s after
  stays f = alike s A after (λ x. split (λ (a : Two). A x ≡ a) x (λ k. rw (← k) (sym f)) (λ n. refl)) t

  -- it is a second of the block: the lowest meeting, or a later one
  meets : (f : ℕ) → (A m).0 ≡ Some f → (A m).1 ≡ None → seeing page (A m) ≡ (Some f, Some page)
      → Tracks (met (record { block = m; first = f; second = page }) s) after
  unfolding met
  meets f e z g = by s.lowest t.lowest
    where
      owner : (x : ℕ) → x < 4096 → get_or s.owners x None ≡ (after x).0
      owner x h = split (λ (a : Two). get_or s.owners x None ≡ a.0) x (λ k. rw (← k, g) (t.owner m inside ∙ e)) (λ n. t.owner x h)

      only : (x : ℕ) → x < 4096 → (after x).0 ≡ None → (after x).1 ≡ None
      only x h = split (λ (a : Two). a.0 ≡ None → a.1 ≡ None) x (λ k. rw g (λ q. cc)) (λ n. t.only x h)

      -- no block below has a second
      first_second : ((x : ℕ) → x < m → (A x).1 ≡ None) → Lowest (record { block = m; first = f; second = page }) after
      first_second w =
          record {
            inside = inside;
            below = λ x h. split (λ (a : Two). a.1 ≡ None) x (λ k. absurd (omega arith)) (λ n. w x h);
            first = split (λ (a : Two). a.0 ≡ Some f) m (λ k. rw g) (λ n. absurd (n refl));
            second = split (λ (a : Two). a.1 ≡ Some page) m (λ k. rw g) (λ n. absurd (n refl));
          }

      by : (o : Option Meeting) → LowestIs o A
          → Tracks (cond (is_below m o) (record { owners = s.owners; lowest = Some (record { block = m; first = f; second = page }) })
          (record { owners = s.owners; lowest = o })) after
      by None w =
          record { size = t.size; owner = owner; only = only; lowest = first_second (λ x h. w x (omega arith)) }
      by (Some l) w = at (ltb m l.block) refl
        where
          at : (b : Bool) → ltb m l.block ≡ b
              → Tracks (cond b (record { owners = s.owners; lowest = Some (record { block = m; first = f; second = page }) })
              (record { owners = s.owners; lowest = Some l })) after
          at true h =
              let k = ltb-true m l.block h in
              record { size = t.size; owner = owner; only = only; lowest = first_second (λ x h. w.below x (omega arith)) }
          at false h =
              let k = ltb-false m l.block h in
              record { size = t.size; owner = owner; only = only; lowest = keeps l w z (λ q. absurd (omega arith)) }

  -- a second that the block has already is at the lowest meeting or after it
  has_second : (f q : ℕ) → (A m).1 ≡ Some q → met (record { block = m; first = f; second = page }) s ≡ s
  unfolding met
  has_second f q e = by s.lowest t.lowest
    where
      by : (o : Option Meeting) → LowestIs o A
          → ◌≡◌ {A = Pass} (cond (is_below m o) (record { owners = s.owners; lowest = Some (record { block = m; first = f; second = page }) })
          (record { owners = s.owners; lowest = o })) (record { owners = s.owners; lowest = o })
      by None w = let k : Some q ≡ None = sym e ∙ w m inside in cc
      by (Some l) w = at (ltb m l.block) refl
        where
          at : (b : Bool) → ltb m l.block ≡ b
              → ◌≡◌ {A = Pass} (cond b (record { owners = s.owners; lowest = Some (record { block = m; first = f; second = page }) })
              (record { owners = s.owners; lowest = Some l })) (record { owners = s.owners; lowest = Some l })
          at true h = let k : Some q ≡ None = sym e ∙ w.below m (ltb-true m l.block h) in cc
          at false h = refl

  pub sighting : Tracks (sighted page m s) after
  unfolding sighted seeing
  sighting = rw (t.owner m inside) (by (A m).0 refl (A m).1 refl)
    where
      by : (o : Option ℕ) → (A m).0 ≡ o → (z : Option ℕ) → (A m).1 ≡ z → Tracks (sighted_by o page m s) after
      by None e z g = owns e
      by (Some f) e z g = at (eqb (f / 16) (page / 16)) refl z g
        where
          at : (d : Bool) → eqb (f / 16) (page / 16) ≡ d → (z : Option ℕ) → (A m).1 ≡ z
              → Tracks (cond d s (met (record { block = m; first = f; second = page }) s)) after
          at true h None k = stays (rw (e, k, h))
          at true h (Some q) k = stays (rw (e, k))
          at false h None k = meets f e k (rw (e, k, h))
          at false h (Some q) k = rw (has_second f q k) (stays (rw (e, k)))
