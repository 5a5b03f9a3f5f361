-- Which page served: a grant tells it.
use Rattle.rules.proofs.Bools.{page-small}
use Rattle.rules.proofs.Referring.{granted-tells}
use Rattle.claims.specs.Serving.{ServedBy, Serving}

served_by : ServedBy
served_by l r byte trap served g = (granted-tells l r byte trap served g).1

pub serving : Serving
serving = record { by = served_by; among = page-small }
