-- A landing that does not end the run uses bytes up and counts them: where a line did not fit, those before it; else all of the
-- piece. So the end comes nearer with each.
use Rattle.std.proofs.Common.{Ok, None}
use mathlib.Core.Path.{◌≡◌, refl, sym}
use mathlib.Core.Bool.{Bool, true, false, cond, false≢true}
use mathlib.Core.List.{List}
use Prim.Native.Nat.{ℕ, ◌+◌, ◌-◌, ◌*◌, ◌<◌, ◌≤◌, min}
use native.Mathlib.Omega.{arith}
use lib.Dec.{lit≤}
use lib.ListN.{length, length-append, length-take}
use borrow.Author.Tests.{ltb-false}
use Rattle.records.proofs.Parts.{stands}
use Rattle.pieces.specs.Limit.{limit, seen_at}
use Rattle.pieces.specs.Held.{bytes_of, held_of}
use Rattle.pieces.specs.Begun.{fresh, joined, allowed, inside, beyond, Few, held_count, Offers, landed}
use Rattle.pieces.specs.declared.Begun.{Begun}
use Rattle.pieces.specs.declared.How.{How}
use Rattle.pieces.specs.declared.How.TheVariants.{Full, Spent, Stopped}
use Rattle.pieces.proofs.States.{paused-count, holding-count, few-landed}
use Rattle.pieces.proofs.Tells.{none_left}

module _ (b : Begun) (piece : List ℕ) (few : Few b) where
  all : length (joined b piece) ≡ held_count b + length piece
  all = length-append (bytes_of b.held) piece

  some : length (inside b piece) ≡ min (allowed b) (length (joined b piece))
  some = length-take (allowed b) (joined b piece)

  -- what is held where no record is left
  rest : (last : Bool) (at : ℕ) → at ≤ length (inside b piece) → seen_at (beyond b piece) last (inside b piece) at ≡ Ok None
      → (length (joined b piece) ≤ allowed b) × (length (joined b piece) - at ≤ 7)
  rest last at n e =
      let none = none_left (beyond b piece) last (inside b piece) at (stands (inside b piece) at) e in
      let short = ltb-false (allowed b) (length (joined b piece)) none.0 in
      (short, omega (arith, none.1, short, some))

  pub uses : (h : How) (last : Bool) (at : ℕ) → Offers piece last → at ≤ length (inside b piece) → (h ≡ Full → 0 < at)
      → (h ≡ Spent → seen_at (beyond b piece) last (inside b piece) at ≡ Ok None)
      → let k = landed b piece last at h in k.begun.over ≡ false → held_count k.begun < held_count b + 2 * k.taken
  unfolding landed
  uses Full last at o n f s e = let k = f refl in let c = paused-count b piece at few in omega (arith, k, c)
  uses Spent true at o n f s e = absurd (false≢true (sym e))
  uses Spent false at o n f s e =
      let c = holding-count b piece at few (rest false at n (s refl)).1 in
      omega (arith, c, all, o)
  uses Stopped last at o n f s e = absurd (false≢true (sym e))

  pub counts : (h : How) (last : Bool) (at : ℕ) → at ≤ length (inside b piece)
      → (h ≡ Spent → seen_at (beyond b piece) last (inside b piece) at ≡ Ok None) → b.at + held_count b ≤ limit
      → let k = landed b piece last at h in k.begun.over ≡ false
      → (k.begun.at + held_count k.begun ≡ b.at + held_count b + k.taken) × (k.begun.at + held_count k.begun ≤ limit)
  unfolding landed
  counts Full last at n s m e =
      let c = paused-count b piece at few in
      let i = some in
      (omega (arith, c, n, i, m), omega (arith, c, n, i, m))
  counts Spent true at n s m e = absurd (false≢true (sym e))
  counts Spent false at n s m e =
      let r = rest false at n (s refl) in
      let c = holding-count b piece at few r.1 in
      let i = some in
      (omega (arith, c, n, i, m, r, all), omega (arith, c, n, i, m, r, all))
  counts Stopped last at n s m e = absurd (false≢true (sym e))

-- a state that pieces lead to: few bytes are held, and those so far are inside the limit
pub record Sound (b : Begun) : Type 0 where
  pub few : Few b
  pub inside : b.over ≡ false → b.at + held_count b ≤ limit

pub few-fresh : Few fresh
unfolding held_of
few-fresh = lit≤ tt

pub none-held : held_count fresh ≡ 0
unfolding held_of
none-held = refl

pub sound-fresh : Sound fresh
sound-fresh = record { few = few-fresh; inside = λ e. omega (arith, none-held) }

-- how far the end may be: the bytes that the limit still allows, counted twice, and those held
abbrev pub bytes_left : Begun → ℕ
bytes_left b = 2 * (limit - (b.at + held_count b)) + held_count b

abbrev pub to_go : Begun → ℕ
to_go b = cond b.over 0 (1 + bytes_left b)

not_over : (b : Begun) → b.over ≡ false → to_go b ≡ 1 + bytes_left b
not_over b h = rw h

-- what a landing does to both
module _ (b : Begun) (piece : List ℕ) (last : Bool) (at : ℕ) (h : How) (sound : Sound b) (going : b.over ≡ false)
    (within : at ≤ length (inside b piece)) (spent : h ≡ Spent → seen_at (beyond b piece) last (inside b piece) at ≡ Ok None) where
  pub landed-sound : Sound (landed b piece last at h).begun
  landed-sound =
      record {
        few = few-landed b piece last at h;
        inside = λ g. (counts b piece sound.few h last at within spent (sound.inside going) g).1;
      }

  by_over : (t : Bool) → let k = (landed b piece last at h).begun in
      Offers piece last → (h ≡ Full → 0 < at) → k.over ≡ t → cond t 0 (1 + bytes_left k) < 1 + bytes_left b
  by_over true o f g = omega arith
  by_over false o f g =
      let p = uses b piece sound.few h last at o within f spent g in
      let c = counts b piece sound.few h last at within spent (sound.inside going) g in
      let m = sound.inside going in
      omega (arith, p, c, m)

  pub landed-nearer : Offers piece last → (h ≡ Full → 0 < at) → to_go (landed b piece last at h).begun < to_go b
  landed-nearer o f = rw (not_over b going) (by_over (landed b piece last at h).begun.over o f refl)
