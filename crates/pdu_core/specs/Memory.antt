-- Which APDUs are kept without memory of their own.
use Rattle.std.specs.Prelude.{◌≡◌, [], IfSome}
use Rattle.pdu_core.specs.declared.goose.GoosePdu.{GoosePdu}
use Rattle.pdu_core.specs.declared.sampled.asdu.Asdu.{Asdu}

-- texts without octets, and no members: such an APDU needs no memory
pub record GooseNeedsNoMemory {A : Type 0} (p : GoosePdu A) : Type 0 where
  pub gocb_ref : p.gocb_ref ≡ []
  pub dat_set : p.dat_set ≡ []
  pub go_id : IfSome p.go_id (λ o. o ≡ [])
  pub members : p.members ≡ []

-- the same of an ASDU: whatever octets it has, they are none
pub record AsduNeedsNoMemory {A : Type 0} (a : Asdu A) : Type 0 where
  pub sv_id : a.sv_id ≡ []
  pub dat_set : IfSome a.dat_set (λ o. o ≡ [])
  pub sample : a.sample ≡ []
  pub smp_mod : IfSome a.smp_mod (λ o. o ≡ [])
  pub field_89 : IfSome a.field_89 (λ o. o ≡ [])
