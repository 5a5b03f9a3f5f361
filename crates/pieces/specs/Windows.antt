-- The bytes inside the limit as code lends them: of those held, and of the piece.
use Rattle.std.specs.Prelude.{ℕ, ◌-◌, List, take}
use Rattle.pieces.specs.Held.{bytes_of}
use Rattle.pieces.specs.Begun.{allowed, held_count}
use Rattle.pieces.specs.declared.Begun.{Begun}

abbrev pub front : Begun → List ℕ
front b = take (allowed b) (bytes_of b.held)

abbrev pub back : Begun → List ℕ → List ℕ
back b piece = take (allowed b - held_count b) piece
