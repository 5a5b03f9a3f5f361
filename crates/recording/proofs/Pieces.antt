-- A feed, by the tests that come before the records: over, 1, or the records inside the limit.
use mathlib.Core.Path.{◌≡◌, ap}
use mathlib.Core.Bool.{Bool, true, false}
use mathlib.Core.List.{List}
use Prim.Native.Nat.{ℕ}
use lib.ListN.{length}
use borrow.Author.Tests.{ne_eqb}
use Rattle.rules.specs.Paper.{X}
use Rattle.rules.specs.declared.Refusal.TheVariants.{Store}
use Rattle.records.specs.Recordings.{refusal}
use Rattle.lines.specs.Lines.{line_of}
use Rattle.pieces.specs.Begun.{to_tell, landed}
use Rattle.pieces.specs.declared.Begun.{Begun}
use Rattle.pieces.specs.declared.Reached.{Reached as Landing}
use Rattle.pieces.specs.declared.How.TheVariants.{Spent}
use Rattle.pieces.proofs.Tells.{tells_none, or_over, or_going}
use Rattle.transcript.specs.Feeding.{fitting, feed_of, fed}
use Rattle.transcript.specs.declared.Fed.{Fed}
use Rattle.recording.specs.Parts.{shown, going, ended}
use Rattle.recording.specs.declared.Stepped.{Stepped}
use Rattle.recording.proofs.Reached.{begin}
use Rattle.recording.proofs.Ahead.{stops}

module _ (l : List ℕ) (b : Begun) (piece : List ℕ) (last : Bool) (out : List ℕ) where
  pub when_store : (length l ≡ 100 → ⊥) → (q : Stepped) (out' : List ℕ) → (q, out') ≡ ended out 0 0 (line_of (X 1))
      → (q, l, out') ≡ shown (going b piece last l (length out)) out
  unfolding going
  when_store h q out' u =
      rw (ne_eqb (length l) 100 h)
      (stops (fitting (length out) (refusal Store) 0 l) out out 0 Store 0 l (begin (λ room. fitting room (refusal Store) 0 l) out) q out' u)

  pub when_over : b.over ≡ true → (q : Landing) → q ≡ landed b piece true 0 Spent
      → (record { reached = q; written = 0 }, l, out) ≡ fed l b piece last out
  unfolding fed fitting
  when_over h q e = rw (e, tells_none b piece last l h, or_over last b.over h)

  tells : b.over ≡ false → feed_of b piece last l (length out) ≡ going b piece last l (length out)
  unfolding to_tell going
  tells h = rw h

  pub when_going : b.over ≡ false → (s : Stepped) (l' out' : List ℕ) → (s, l', out') ≡ shown (going b piece last l (length out)) out
      → (q : Landing) → q ≡ landed b piece last s.at s.how
      → (record { reached = q; written = s.written }, l', out') ≡ fed l b piece last out
  unfolding fed
  when_going h s l' out' e q f =
      let shape : Stepped × List ℕ × List ℕ → Fed × List ℕ × List ℕ =
      λ y. (record { reached = landed b piece last y.0.at y.0.how; written = y.0.written }, y.1, y.2) in
      rw (f, or_going last b.over h, tells h) (ap shape e)
