-- Every permitted step leaves a map at least as wide, and so does every run of them: by the event, then by induction on the run.
use mathlib.Core.Path.{◌≡◌, refl, sym, ◌∙◌}
use mathlib.Core.Bool.{Bool, true, false, cond, not, ◌&&◌, ◌||◌, false≢true, and-eq-true_iff}
use mathlib.Core.List.{List, [], ◌∷◌, ◌++◌}
use Prim.Native.Nat.{ℕ}
use native.Mathlib.Omega.{arith}
use lib.Dec.{eqb, ltb}
use lib.ListN.{length}
use borrow.Author.Tests.{eqb-true}
use Rattle.rules.specs.Words.{word, SR0, SR3, relocates}
use Rattle.rules.specs.Addresses.{register_at, is_register}
use Rattle.rules.specs.Refusals.{refusal_of, odd}
use Rattle.rules.specs.Others.{change_byte}
use Rattle.rules.specs.Step.{step, accepted}
use Rattle.rules.specs.declared.Event.{Event}
use Rattle.rules.specs.declared.Event.TheVariants.{Refer, Read, Write, Instruction, Interrupt, Change, Init}
use Rattle.widening.specs.Widens.{widens}
use Rattle.widening.specs.Runs.{after, calm, permitted, is_init, place_written}
use Rattle.widening.specs.LastMap.{On}
use Rattle.widening.proofs.Wider.{Wider, same_map, wider_trans}
use Rattle.widening.proofs.Stays.{same_self, referred-same, started-same, noted-same}
use Rattle.widening.proofs.Writes.{written_wider}

-- an accepted write is to a register: s, h, o, r the tests of the store, a high address, an odd one, a register's
is_register_lem : (s h o r : Bool) → ◌≡◌ {A = ℕ} (cond s 1 (cond h 6 (cond o 7 (cond (not o && not r) 8 0)))) 0 → r ≡ true
is_register_lem true h o r e = absurd (omega arith)
is_register_lem false true o r e = absurd (omega arith)
is_register_lem false false true r e = absurd (omega arith)
is_register_lem false false false true e = refl
is_register_lem false false false false e = absurd (omega arith)

write_register : (l : List ℕ) (address value : ℕ) → refusal_of l (Write address value) ≡ 0 → is_register address ≡ true
unfolding refusal_of
write_register l address value e =
    is_register_lem (not (eqb (length l) 100)) (ltb 0o777777 address) (odd address) (is_register address) e

-- the four tests of a permitted event
four : (i s o w : Bool) → (not i && not s && o && w) ≡ true → (i ≡ false) × (s ≡ false) × (o ≡ true) × (w ≡ true)
four true s o w h = absurd (false≢true h)
four false true o w h = absurd (false≢true h)
four false false true w h = (refl, refl, refl, h)
four false false false w h = absurd (false≢true h)

implied : (x y : Bool) → x ≡ true → (not x || y) ≡ true → y ≡ true
implied true y e h = h
implied false y e h = absurd (false≢true e)

module _ (l : List ℕ) (whole : length l ≡ 100) where
  accepted_wider : (e : Event) → refusal_of l e ≡ 0 → is_init e ≡ false → eqb (place_written e) SR3 ≡ false
      → (not (ltb (place_written e) 100) || relocates (word (accepted l e).1 SR0)) ≡ true → widens l e ≡ true → Wider l (accepted l e).1
  unfolding accepted
  accepted_wider (Refer r) z i s o w = same_map l _ (referred-same l whole r)
  accepted_wider (Read address) z i s o w = same_map l l (same_self l)
  accepted_wider (Write address value) z i s o w =
      written_wider l whole (register_at address) value s (implied (is_register address) _ (write_register l address value z) o) w
  accepted_wider (Instruction va) z i s o w = same_map l _ (started-same l whole va)
  accepted_wider (Interrupt vector) z i s o w = same_map l _ (started-same l whole vector)
  accepted_wider (Change register amount) z i s o w = same_map l _ (noted-same l whole (change_byte register amount))
  accepted_wider Init z i s o w = absurd (false≢true (sym i))

  step_wider : (e : Event) → permitted l e ≡ true → Wider l (step l e).1
  unfolding step permitted
  step_wider e h = by (eqb (refusal_of l e) 0) refl
    where
      by : (x : Bool) → eqb (refusal_of l e) 0 ≡ x → Wider l (step l e).1
      by true z =
          let t = four (is_init e) (eqb (place_written e) SR3)
          (not (ltb (place_written e) 100) || relocates (word (accepted l e).1 SR0)) (widens l e) (rw z at h) in
          rw z (accepted_wider e (eqb-true (refusal_of l e) 0 z) t.0 t.1 t.2 t.3)
      by false z = rw z (same_map l l (same_self l))

-- any number of steps
pub run_wider : (l : List ℕ) → length l ≡ 100 → (es : List Event) → calm l es ≡ true → Wider l (after l es)
run_wider l whole [] h = same_map l l (same_self l)
run_wider l whole (e ∷ es) h =
    let t = (and-eq-true_iff (permitted l e) (calm (step l e).1 es)).0 h in
    let w = step_wider l whole e t.0 in
    wider_trans l (step l e).1 (after (step l e).1 es) w (run_wider (step l e).1 (w.size ∙ whole) es t.1)

-- a run in two parts: the first and, from the store that it leaves, the second
pub after-append : (l : List ℕ) (es fs : List Event) → after l (es ++ fs) ≡ after (after l es) fs
after-append l [] fs = refl
after-append l (e ∷ es) fs = after-append (step l e).1 es fs

pub calm-append : (l : List ℕ) (es fs : List Event) → calm l (es ++ fs) ≡ true → (calm l es ≡ true) × (calm (after l es) fs ≡ true)
calm-append l [] fs h = (refl, h)
calm-append l (e ∷ es) fs h =
    let t = (and-eq-true_iff (permitted l e) (calm (step l e).1 (es ++ fs))).0 h in
    let s = calm-append (step l e).1 es fs t.1 in
    ((and-eq-true_iff (permitted l e) (calm (step l e).1 es)).1 (t.0, s.0), s.1)

-- every point of a run has relocation on
pub stays_on_lem : (l : List ℕ) → On l → (es : List Event) → calm l es ≡ true → On (after l es)
stays_on_lem l o es h =
    let w = run_wider l o.whole es h in
    record { whole = w.size ∙ o.whole; relocating = w.on o.relocating }

-- from one point of a run to a later one
pub later_wider : (l : List ℕ) → On l → (es fs : List Event) → calm l (es ++ fs) ≡ true → Wider (after l es) (after l (es ++ fs))
later_wider l o es fs h =
    let s = calm-append l es fs h in
    rw (after-append l es fs) (run_wider (after l es) (stays_on_lem l o es s.0).whole fs s.1)
