-- There are no more members than octets.
use Rattle.std.proofs.Common.{◌-◌, ◌≤◌, List, [], ◌∷◌, length, ap, arith}
use Rattle.std.proofs.lemmas.List.{length-append}
use Rattle.std.specs.Prelude.{ℕ}
use Rattle.mms_data.specs.Data.{Data}
use Rattle.mms_data.specs.computed.Left.{data_in, AreMembers}
use Rattle.mms_data.specs.Spelling.{SpellsAll}
use Rattle.mms_data.proofs.Again.{spelled_some}
use Rattle.mms_data.proofs.Found.{all_found}
use Rattle.mms_data.proofs.Front.{read_in}

no_more_than : (ds : List Data) (L : ℕ) (o : List ℕ) → SpellsAll ds L o → length ds ≤ length o
no_more_than [] L o s = omega arith
no_more_than (d ∷ ds) L o s = omega (arith, spelled_some d L s.0 s.2, no_more_than ds L s.1 s.3, ap length s.4, length-append s.0 s.1)

pub few_members : (k : ℕ) (o : List ℕ) → k ≤ 16 → AreMembers k o → length (data_in k o) ≤ length o
few_members k o few good = no_more_than (data_in k o) (17 - k) o (all_found k (17 - k) (omega arith) 0 o (data_in k o) (read_in k o good))
