-- Which APDUs of Sampled Values have a spelling.
use Rattle.std.specs.Prelude.{◌<◌, ◌≤◌, ◌^◌, ℕ, List, length, IfSome}
use Rattle.std.specs.List.{AllByRecursion}
use Rattle.ber_core.specs.Contents.{AreVisible}
use Rattle.mms_data.specs.Contents.{IsFewOctets}
use Rattle.mms_data.specs.Spellable.{IsTime}
use Rattle.pdu_core.specs.declared.sampled.asdu.Asdu.{Asdu}
use Rattle.pdu_core.specs.declared.sampled.asdu.SvPdu.{SvPdu}

-- a number of so many octets
abbrev pub IsFixed : ℕ → ℕ → Type 0
IsFixed size n = n < 256 ^ size

-- one to sixteen octets
abbrev pub AreFew : List ℕ → Type 0
AreFew o = IsFewOctets (length o)

-- each field of the ASDU has a spelling
pub record IsSpellableAsdu {A : Type 0} (a : Asdu A) : Type 0 where
  pub sv_id : AreVisible a.sv_id
  pub dat_set : IfSome a.dat_set AreVisible
  pub smp_cnt : IsFixed 2 a.smp_cnt
  pub conf_rev : IsFixed 4 a.conf_rev
  pub refr_tm : IfSome a.refr_tm IsTime
  pub smp_synch : IsFixed 1 a.smp_synch
  pub smp_rate : IfSome a.smp_rate (IsFixed 2)
  pub smp_mod : IfSome a.smp_mod AreFew
  pub field_89 : IfSome a.field_89 AreFew

-- a count that noASDU can say
abbrev pub IsAsduCount : ℕ → Type 0
IsAsduCount n = (1 ≤ n) × (n ≤ 65535)

-- there are 1 to 65535 ASDUs, and each has a spelling
pub record IsSpellableSv {A : Type 0} (p : SvPdu A) : Type 0 where
  pub count : IsAsduCount (length p.asdus)
  pub each : AllByRecursion IsSpellableAsdu p.asdus
