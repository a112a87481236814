-- Texts that are written for something are not empty.
use Rattle.std.proofs.Common.{◌≡◌, ℕ, List, [], ◌++◌}
use Rattle.std.specs.Prelude.{codes}
use Rattle.ber_core.specs.declared.fault.Fault.{Fault}
use Rattle.list_core.proofs.Emptiness.{back_nil}
use Rattle.text_core.specs.LineText.{fault_line}

abbrev pub IsThere : List ℕ → Type 0
IsThere text = text ≡ [] → ⊥

-- a line has its end
pub ends : (xs : List ℕ) → IsThere (xs ++ codes "\n")
ends xs e = let h = back_nil xs (codes "\n") e in cc

pub fault_there : (n : ℕ) (f : Fault) → IsThere (fault_line n f)
fault_there n f = ends _
