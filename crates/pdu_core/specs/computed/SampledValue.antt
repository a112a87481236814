-- The ASDUs and the savPdu that reading gives, from the values of their fields.
use Rattle.std.specs.Prelude.{◌≡◌, ℕ, Bool, true, false, List, [], ◌∷◌, Option, Some, None, Result, Ok, Err, get_or}
use Rattle.ber_core.specs.computed.Reading.{◌>>=◌}
use Rattle.ber_core.specs.declared.fault.Fault.{Fault}
use Rattle.mms_data.specs.declared.time.UtcTime.{UtcTime}
use Rattle.pdu_core.specs.Contents.{Item, a_time, a_fixed, some_octets}
use Rattle.pdu_core.specs.computed.GooseValue.{optional_text, text_of}
use Rattle.pdu_core.specs.computed.SampledReading.{asdus_at, sv_at}
use Rattle.pdu_core.specs.declared.sampled.asdu.Asdu.{Asdu}
use Rattle.pdu_core.specs.declared.sampled.asdu.SvPdu.{SvPdu}

abbrev pub fixed_of : Option Item → ℕ
fixed_of (Some (a_fixed size n)) = n
fixed_of _ = 0

abbrev pub optional_fixed : Option Item → Option ℕ
optional_fixed (Some (a_fixed size n)) = Some n
optional_fixed _ = None

abbrev pub optional_time : Option Item → Option UtcTime
optional_time (Some (a_time t)) = Some t
optional_time _ = None

abbrev pub octets_of : Option Item → List ℕ
octets_of (Some (some_octets o)) = o
octets_of _ = []

abbrev pub optional_octets : Option Item → Option (List ℕ)
optional_octets (Some (some_octets o)) = Some o
optional_octets _ = None

-- the ASDU whose fields have these values
abbrev pub asdu_of_items : {A : Type 0} → List (Option Item) → Asdu A
asdu_of_items vs = record {
  sv_id = text_of (get_or vs 0 None);
  dat_set = optional_text (get_or vs 1 None);
  smp_cnt = fixed_of (get_or vs 2 None);
  conf_rev = fixed_of (get_or vs 3 None);
  refr_tm = optional_time (get_or vs 4 None);
  smp_synch = fixed_of (get_or vs 5 None);
  smp_rate = optional_fixed (get_or vs 6 None);
  sample = octets_of (get_or vs 7 None);
  smp_mod = optional_octets (get_or vs 8 None);
  field_89 = optional_octets (get_or vs 9 None);
}

-- the ASDUs whose fields have these values
abbrev pub asdus_of_items : {A : Type 0} → List (List (Option Item)) → List (Asdu A)
asdus_of_items [] = []
asdus_of_items (vs ∷ more) = asdu_of_items vs ∷ asdus_of_items more

abbrev pub values_or_none : Result (List (List (Option Item))) Fault → List (List (Option Item))
values_or_none (Ok vss) = vss
values_or_none (Err f) = []

-- the ASDUs that stand in the octets from p to e
abbrev pub asdus_in : {A : Type 0} → List ℕ → ℕ → ℕ → List (Asdu A)
asdus_in octets p e = asdus_of_items (values_or_none (asdus_at octets p e))

abbrev pub are_read : Result (List (List (Option Item))) Fault → Bool
are_read (Ok vss) = true
are_read (Err f) = false

-- ASDUs fill the octets from p to e
abbrev pub AreAsdus : List ℕ → ℕ → ℕ → Type 0
AreAsdus octets p e = are_read (asdus_at octets p e) ≡ true

-- the APDU that fills the octets from p to e
abbrev pub sv_value : {A : Type 0} → List ℕ → ℕ → ℕ → Result (SvPdu A) Fault
sv_value octets p e = sv_at octets p e >>= λ vss. Ok (record { asdus = asdus_of_items vss })
