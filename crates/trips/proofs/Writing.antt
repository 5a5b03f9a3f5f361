-- What is read at a place is written as the bytes that stand there: over the seven kinds, each field from its bytes.
use Rattle.std.proofs.Common.{Ok, Some}
use mathlib.Core.Path.{◌≡◌, refl, sym, ap, ◌∙◌}
use mathlib.Core.Bool.{true, false, false≢true}
use mathlib.Core.List.{List, ◌∷◌, ◌++◌}
use Prim.Native.Nat.{ℕ, zero, suc, ◌+◌, ◌≤◌}
use native.Mathlib.Omega.{arith}
use lib.ListN.{length, drop}
use lib.Seq.{drop-cons}
use lib.Dec.{ltb, leb}
use borrow.Author.Tests.{le-ltb, leb-true}
use Rattle.rules.proofs.Bools.{and_r}
use Rattle.rules.specs.declared.Event.{Event}
use Rattle.records.specs.Bytes.{byte_at, low_first}
use Rattle.records.specs.Kinds.{known, body_of}
use Rattle.records.specs.Records.{event_of, record_at}
use Rattle.records.specs.declared.Cursor.{Cursor}
use Rattle.records.proofs.Laws.{whole_tells}
use Rattle.writer.specs.Bytes.{bytes_of, record_of}
use Rattle.trips.specs.Trips.{Bytes}
use Rattle.trips.proofs.Numbers.{run, low_byte, bytes_back, below, complement-back, in_byte_lem}
use Rattle.trips.proofs.Reading.{Fits}

-- what holds of the seven kinds holds of each known one
kinds : (P : ℕ → Type 0) → P 1 → P 2 → P 3 → P 4 → P 5 → P 6 → P 7 → (kind : ℕ) → known kind ≡ true → P kind
kinds P a b c d e f g zero h = absurd (false≢true h)
kinds P a b c d e f g (suc zero) h = a
kinds P a b c d e f g (suc (suc zero)) h = b
kinds P a b c d e f g (suc (suc (suc zero))) h = c
kinds P a b c d e f g (suc (suc (suc (suc zero)))) h = d
kinds P a b c d e f g (suc (suc (suc (suc (suc zero))))) h = e
kinds P a b c d e f g (suc (suc (suc (suc (suc (suc zero)))))) h = f
kinds P a b c d e f g (suc (suc (suc (suc (suc (suc (suc zero))))))) h = g
kinds P a b c d e f g (suc (suc (suc (suc (suc (suc (suc (suc k)))))))) h =
    let n : ℕ = suc (suc (suc (suc (suc (suc (suc (suc k))))))) in
    absurd (omega (arith, leb-true n 7 (and_r (ltb 0 n) (leb n 7) h)))

plus_assoc : (a b c : ℕ) → a + b + c ≡ a + (b + c)
plus_assoc a b c = omega arith

module _ (s : List ℕ) where
  -- the bytes of kind 1's body, and of kind 3's
  run_6 : (at : ℕ) → run 6 s at ≡ byte_at s at ∷ byte_at s (at + 1) ∷ byte_at s (at + 2) ∷ byte_at s (at + 3) ∷ run 2 s (at + 4)
  unfolding run
  run_6 at = simp plus_assoc

  run_5 : (at : ℕ) → run 5 s at ≡ run 3 s at ++ run 2 s (at + 3)
  unfolding run
  run_5 at = simp plus_assoc

  pub run_drop : (n at : ℕ) → at + n ≤ length s → run n s at ++ drop (at + n) s ≡ drop at s
  unfolding run
  run_drop zero at h = let same : at + 0 ≡ at = omega arith in ap (λ (k : ℕ). drop k s) same
  run_drop (suc n) at h =
      let rest = run_drop n (at + 1) (omega arith) in
      let same : at + 1 + n ≡ at + suc n = omega arith in
      let more : at + 1 ≡ suc at = omega arith in
      ap (λ (l : List ℕ). byte_at s at ∷ l) (rw same at rest ∙ ap (λ (k : ℕ). drop k s) more) ∙ sym (drop-cons s at 0 (omega arith))

module _ (s : List ℕ) (bytes : Bytes s) where
  byte_fits : (at : ℕ) → ltb 255 (byte_at s at) ≡ false
  byte_fits at = let h = bytes at in le-ltb 255 (byte_at s at) (omega arith)

  address_fits : (at : ℕ) → ltb 0o77777777 (low_first 3 s at) ≡ false
  address_fits at = let h = below s bytes 3 at in le-ltb 0o77777777 (low_first 3 s at) (omega (arith, h))

  pub fits-back : (at kind : ℕ) → known kind ≡ true → Fits (event_of kind s at)
  unfolding event_of
  fits-back at =
      kinds (λ (kind : ℕ). Fits (event_of kind s at))
      (rw (byte_fits at, byte_fits (at + 1), byte_fits (at + 2), byte_fits (at + 3)))
      (rw (address_fits at))
      (rw (address_fits at))
      refl
      refl
      (rw (byte_fits at, in_byte_lem s bytes (at + 1)))
      refl

  change_back : (at : ℕ) → record_of (event_of 6 s at) ≡ 6 ∷ run 2 s at
  unfolding event_of record_of run
  change_back at = rw (low_byte s bytes at, complement-back s bytes (at + 1))

  init_back : (at : ℕ) → record_of (event_of 7 s at) ≡ 7 ∷ run 0 s at
  unfolding event_of record_of run
  init_back at = refl

  pub record_back : (at kind : ℕ) → known kind ≡ true → record_of (event_of kind s at) ≡ kind ∷ run (body_of kind) s at
  unfolding event_of record_of
  record_back at =
      kinds (λ (kind : ℕ). record_of (event_of kind s at) ≡ kind ∷ run (body_of kind) s at)
      (rw (low_byte s bytes at, low_byte s bytes (at + 1), low_byte s bytes (at + 2), low_byte s bytes (at + 3), run_6 s at)
      (ap (λ (l : List ℕ). 1 ∷ byte_at s at ∷ byte_at s (at + 1) ∷ byte_at s (at + 2) ∷ byte_at s (at + 3) ∷ l) (bytes_back s bytes 2 (at + 4))))
      (ap (λ (l : List ℕ). 2 ∷ l) (bytes_back s bytes 3 at))
      (rw (run_5 s at)
      (ap (λ (l : List ℕ). 3 ∷ l ++ bytes_of 2 (low_first 2 s (at + 3))) (bytes_back s bytes 3 at) ∙
      ap (λ (l : List ℕ). 3 ∷ run 3 s at ++ l) (bytes_back s bytes 2 (at + 3))))
      (ap (λ (l : List ℕ). 4 ∷ l) (bytes_back s bytes 2 at))
      (ap (λ (l : List ℕ). 5 ∷ l) (bytes_back s bytes 2 at))
      (change_back at)
      (init_back at)

  -- a whole record at a place: its event fits, and is written as its bytes
  pub whole_back : (at : ℕ) (e : Event) (c : Cursor) → record_at s at ≡ Ok (Some (e, c)) → Fits e × (record_of e ++ drop c.at s ≡ drop at s)
  unfolding run
  whole_back at e c h =
      let k = whole_tells s at e c h in
      let kind = byte_at s at in
      let next : c.at ≡ at + suc (body_of kind) = omega (arith, k.place) in
      rw (k.read, next) (
        fits-back (at + 1) kind k.kind,
        ap (λ (l : List ℕ). l ++ drop (at + suc (body_of kind)) s) (record_back (at + 1) kind k.kind) ∙ run_drop s (suc (body_of kind)) at (omega (arith, k.ends)),
      )
