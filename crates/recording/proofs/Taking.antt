-- An event and its line, by whether the line fits: where it does not, there was not room for any.
use Rattle.std.proofs.Common.{Some}
use Rattle.std.specs.declared.option.Option.{Option}
use Rattle.std.specs.Option.{is_some}
use mathlib.Core.Path.{◌≡◌, refl, sym, ap, ◌∙◌}
use mathlib.Core.Bool.{Bool, true, false, cond}
use mathlib.Core.List.{List}
use Prim.Native.Nat.{ℕ, ◌+◌, ◌-◌, ◌<◌, ◌≤◌}
use native.Mathlib.Omega.{arith}
use lib.Dec.{leb, ltb}
use lib.ListN.{length}
use borrow.Author.Tests.{leb-true, leb-false, lt-ltb}
use Rattle.rules.specs.Step.{step}
use Rattle.rules.specs.declared.Event.{Event}
use Rattle.lines.specs.Lines.{Text, line_of, longest, placed}
use Rattle.lines.proofs.Lengths.{most}
use Rattle.lines.proofs.Output.{fits, unfit}
use Rattle.recording.specs.Parts.{taken}

-- what is put lies within the output
pub put_within : (out : List ℕ) (n : ℕ) (t : Text) (put : Option ℕ) (out' : List ℕ) (k : ℕ) → (put, out') ≡ placed out n t → put ≡ Some k → n + k ≤ length out
put_within out n t put out' k e h = of (leb (n + length t) (length out)) refl
  where
    of : (b : Bool) → leb (n + length t) (length out) ≡ b → n + k ≤ length out
    of true f =
        let m : ◌≡◌ {A = Option ℕ} (Some k) (Some (length t)) = sym h ∙ ap (λ (x : Option ℕ × List ℕ). x.0) (e ∙ fits out n t (leb-true (n + length t) (length out) f)) in
        let q : k ≡ length t = cc in
        omega (arith, q, leb-true (n + length t) (length out) f)
    of false f =
        let m = ap (λ (x : Option ℕ × List ℕ). x.0) (e ∙ unfit out n t (leb-false (n + length t) (length out) f)) in
        cc

-- an event, and its line put
module _ (l : List ℕ) (e : Event) (out : List ℕ) (n : ℕ) (w : n ≤ length out) (put : Option ℕ) (out' : List ℕ)
    (placing : (put, out') ≡ placed out n (line_of (step l e).0)) where
  line : Text
  line = line_of (step l e).0

  room : ℕ
  room = length out - n

  -- by whether the line fits
  fit : leb (length line) room ≡ true → (put, (step l e).1, out') ≡ taken l e out n
  unfolding taken line room
  fit h = rw (h, ← placing)

  no-fit : leb (length line) room ≡ false → (put, l, out') ≡ taken l e out n
  unfolding taken line room
  no-fit h =
      let f = placing ∙ unfit out n line (omega (arith, leb-false (length line) room h, w)) in
      rw h (ap (λ (x : Option ℕ × List ℕ). (x.0, l, x.1)) f)

  pub not_put : is_some put ≡ false → (spare kept : List ℕ) → kept ≡ cond (ltb (length out - n) longest) l spare → (put, kept, out') ≡ taken l e out n
  unfolding line room
  not_put h spare kept s = of (leb (length line) room) refl
    where
      of : (b : Bool) → leb (length line) room ≡ b → (put, kept, out') ≡ taken l e out n
      of true k =
          let f : put ≡ Some (length line) = ap (λ (x : Option ℕ × List ℕ). x.0) (placing ∙ fits out n line (omega (arith, leb-true (length line) room k, w))) in
          let z : true ≡ false = rw f at h in
          cc
      of false k =
          let short : length out - n < longest = omega (arith, leb-false (length line) room k, most (step l e).0) in
          rw (s, lt-ltb (length out - n) longest short) (no-fit k)

  pub was_put : is_some put ≡ true → (l' : List ℕ) → l' ≡ (step l e).1 → (put, l', out') ≡ taken l e out n
  unfolding line room
  was_put h l' f = rw f (of (leb (length line) room) refl)
    where
      of : (b : Bool) → leb (length line) room ≡ b → (put, (step l e).1, out') ≡ taken l e out n
      of true k = fit k
      of false k =
          let f = ap (λ (x : Option ℕ × List ℕ). x.0) (placing ∙ unfit out n line (omega (arith, leb-false (length line) room k, w))) in
          cc
