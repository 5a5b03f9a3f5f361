-- However a recording is cut, its audit is that of the uncut recording (request E4). The proof is in proofs/.
use Rattle.std.specs.Prelude.{ℕ, ◌≡◌, true, List, ◌++◌}
use Rattle.pieces.specs.Begun.{all_of}
use Rattle.account.specs.Reports.{audit_of}
use Rattle.account.specs.Surveys.{begins, surveyed, report_of, surveys_of}

abbrev pub AnyCut : Type 0
AnyCut =
    (pieces : List (List ℕ)) (piece l : List ℕ)
    → let v = surveys_of pieces (begins l) l in
    let w = surveyed v.1 v.0 piece true in
    (report_of w.1 w.0, w.1) ≡ audit_of l (all_of pieces ++ piece)
