-- Members that are known to stand in octets.
use Rattle.std.proofs.Common.{◌≡◌, ℕ, List, sym, ◌∙◌, arith}
use Rattle.ber_core.proofs.Steps.{ok_is}
use Rattle.mms_data.specs.Data.{Data}
use Rattle.mms_data.specs.Spelling.{SpellSome, SpellsAll}
use Rattle.mms_data.specs.computed.Left.{AreMembers, data_in}
use Rattle.mms_data.proofs.Again.{all_again}
use Rattle.mms_data.proofs.Found.{all_found}
use Rattle.mms_data.proofs.Front.{is_members, read_in}

pub some_there : (o : List ℕ) → AreMembers 16 o → SpellSome 1 o
some_there o are = (data_in 16 o, all_found 16 1 (omega arith) 0 o (data_in 16 o) (read_in 16 o are))

pub same_there : (o : List ℕ) (ds : List Data) → AreMembers 16 o → SpellsAll ds 1 o → ds ≡ data_in 16 o
same_there o ds are s = ok_is ds (data_in 16 o) (sym (all_again 16 1 (omega arith) 0 o ds s) ∙ read_in 16 o are)

-- the members that octets spell stand there
pub spelled_there : (o : List ℕ) (ds : List Data) → SpellsAll ds 1 o → AreMembers 16 o × (data_in 16 o ≡ ds)
spelled_there o ds s = is_members 16 o ds (all_again 16 1 (omega arith) 0 o ds s)
