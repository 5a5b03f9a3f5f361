-- A state between pieces as C holds it, eleven words of 64 bits: seven for the bytes of a begun record, how many they are, how many
-- bytes came before them, whether the run is over, and how many bytes of its piece the last call took.
use Rattle.std.specs.Prelude.{ℕ, ◌%◌, true, false, not, List, [], ◌∷◌, ◌++◌, map, get_or, drop, eqb}
use Rattle.rules.specs.Words.{bit}
use Rattle.pieces.specs.Held.{held_of}
use Rattle.pieces.specs.Begun.{begun}
use Rattle.pieces.specs.declared.Begun.{Begun}
use Rattle.pieces.specs.declared.Reached.{Reached}
use Rattle.transcript.specs.Feeding.{fed}
use Rattle.transcript.specs.declared.Fed.{Fed}

abbrev pub seven : List ℕ
seven = 0 ∷ 1 ∷ 2 ∷ 3 ∷ 4 ∷ 5 ∷ 6 ∷ []

-- what the words say: the low bytes of the first seven; over if the tenth is not 0
unfoldable pub begun_by : List ℕ → Begun
begun_by w =
    begun (record { bytes = map (λ i. get_or w i 0 % 256) seven; count = get_or w 7 0 }) (get_or w 8 0) (not (eqb (get_or w 9 0) 0))

-- the words for how far a piece was taken
unfoldable pub words_of : Reached → List ℕ
words_of r =
    let b = r.begun in
    map (λ i. get_or b.held.bytes i 0) seven ++ b.held.count ∷ b.at ∷ bit b.over ∷ r.taken ∷ []

-- a feed as C sees it: the number of bytes written, the store, the state and the output afterwards
unfoldable pub counted : Fed × List ℕ × List ℕ → ℕ × List ℕ × List ℕ × List ℕ
counted f = (f.0.written, f.1, words_of f.0.reached, f.2)

-- a recording in one call, from a place on, as C sees it: no state goes in or comes out
unfoldable pub wholly : List ℕ → List ℕ → ℕ → List ℕ → ℕ × List ℕ × List ℕ
wholly l r at out =
    let f = fed l (begun (held_of []) at false) (drop at r) true out in
    (f.0.written, f.1, f.2)
