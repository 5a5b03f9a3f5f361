-- A text written at a place of the output: the place after it, and the output afterwards.
use Rattle.std.specs.Prelude.{ℕ, ◌+◌, ◌≡◌, List, length}
use Rattle.std.proofs.lemmas.List.Edits.{sets}

pub record Wrote (out : List ℕ) (at : ℕ) (text : List ℕ) (n : ℕ) (after : List ℕ) : Type 0 where
  pub next : n ≡ at + length text
  pub bytes : after ≡ sets out at text
