-- What the views of Sampled Values stand for, and where their slices stand.
use Rattle.std.specs.Prelude.{◌≡◌, ℕ, List, slice_range, Option, IfSome, Result, Ok, Err}
use Rattle.std.specs.Borrow.{Bor}
use Rattle.std.specs.Iterator.{YieldsFirstBy}
use Rattle.ber_core.specs.declared.fault.Fault.{Fault}
use Rattle.mms_data.specs.Place.{IsPart}
use Rattle.pdu_core.specs.computed.SampledValue.{asdus_in}
use Rattle.pdu_core.specs.Views.{IsPartIf, octets_if}
use Rattle.pdu_core.specs.declared.sampled.asdu.Asdu.{Asdu}
use Rattle.pdu_core.specs.declared.sampled.asdu.SvPdu.{SvPdu}
use Rattle.pdu_core.specs.declared.sampled.view.AsduView.{AsduView}
use Rattle.pdu_core.specs.declared.sampled.view.Asdus.{Asdus}
use Rattle.pdu_core.specs.declared.sampled.view.SvView.{SvView}

-- the ASDU that a view stands for
abbrev pub asdu_of : {A : Type 0} → AsduView → Asdu A
asdu_of v = record {
  sv_id = v.sv_id.now;
  dat_set = octets_if v.dat_set;
  smp_cnt = v.smp_cnt;
  conf_rev = v.conf_rev;
  refr_tm = v.refr_tm;
  smp_synch = v.smp_synch;
  smp_rate = v.smp_rate;
  sample = v.sample.now;
  smp_mod = octets_if v.smp_mod;
  field_89 = octets_if v.field_89;
}

-- the ASDUs that are still to come
abbrev pub asdus_left : {A : Type 0} → Asdus → List (Asdu A)
asdus_left s = asdus_in s.octets.now s.at s.end

-- the APDU that a view stands for
abbrev pub sv_of : {A : Type 0} → SvView → SvPdu A
sv_of v = record { asdus = asdus_left v.asdus }

-- the call answers a view of this APDU
abbrev pub ShowsSv : {A : Type 0} → Result SvView Fault → SvPdu A → Type 0
ShowsSv (Ok v) p = sv_of v ≡ p
ShowsSv (Err f) p = ⊥

-- the octets that ASDUs are read from
abbrev pub asdus_source : Asdus → Bor (List ℕ)
asdus_source s = s.octets

-- the octets of the ASDUs that are still to come
abbrev pub asdus_region : Asdus → List ℕ
asdus_region s = slice_range s.octets.now s.at s.end

-- whatever octets the view hands out are a part of the source
pub record AsduIsPart (v : AsduView) (source : Bor (List ℕ)) : Type 0 where
  pub sv_id : IsPart v.sv_id source
  pub dat_set : IsPartIf v.dat_set source
  pub sample : IsPart v.sample source
  pub smp_mod : IsPartIf v.smp_mod source
  pub field_89 : IsPartIf v.field_89 source

-- a call of next gave the first ASDU that was left, in place
abbrev pub GivesAsdu : Asdus → Option AsduView → Asdus → Type 0
GivesAsdu s r t = YieldsFirstBy (asdu_of {A = Unit {0}}) asdus_left s r t × IfSome r (λ v. AsduIsPart v (asdus_source s) × (asdus_source t ≡ asdus_source s))
