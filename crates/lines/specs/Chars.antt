-- A text's characters by their numbers.
use Rattle.std.specs.Prelude.{ℕ, List, [] as none, ◌∷◌ as ◌then◌}
use Prim.Native.Char.{code}
use Prim.Native.String.{String, [], ◌∷◌}

abbrev pub chars : String → List ℕ
chars [] = none
chars (c ∷ s) = code c then chars s
