-- The APDU that reading gives, from the values of its fields.
use Rattle.std.specs.Prelude.{ℕ, Bool, false, List, [], Option, Some, None, Result, Ok, get_or}
use Rattle.ber_core.specs.computed.Reading.{◌>>=◌}
use Rattle.ber_core.specs.declared.fault.Fault.{Fault}
use Rattle.mms_data.specs.Data.{Data}
use Rattle.mms_data.specs.declared.time.UtcTime.{UtcTime}
use Rattle.pdu_core.specs.Contents.{Item, a_text, a_number, a_flag, a_time, some_members}
use Rattle.pdu_core.specs.computed.GooseReading.{goose_at}
use Rattle.pdu_core.specs.declared.goose.GoosePdu.{GoosePdu}

abbrev pub optional_text : Option Item → Option (List ℕ)
optional_text (Some (a_text t)) = Some t
optional_text _ = None

abbrev pub text_of : Option Item → List ℕ
text_of (Some (a_text t)) = t
text_of _ = []

abbrev pub number_of : Option Item → ℕ
number_of (Some (a_number n)) = n
number_of _ = 0

abbrev pub flag_of : Option Item → Bool
flag_of (Some (a_flag b)) = b
flag_of _ = false

abbrev pub time_of : Option Item → UtcTime
time_of (Some (a_time t)) = t
time_of _ = record { seconds = 0; fraction = 0; quality = 0 }

abbrev pub members_of : Option Item → List Data
members_of (Some (some_members ds)) = ds
members_of _ = []

-- the APDU whose fields have these values
abbrev pub pdu_of_items : {A : Type 0} → List (Option Item) → GoosePdu A
pdu_of_items vs = record {
  gocb_ref = text_of (get_or vs 0 None);
  live = number_of (get_or vs 1 None);
  dat_set = text_of (get_or vs 2 None);
  go_id = optional_text (get_or vs 3 None);
  t = time_of (get_or vs 4 None);
  st_num = number_of (get_or vs 5 None);
  sq_num = number_of (get_or vs 6 None);
  simulation = flag_of (get_or vs 7 None);
  conf_rev = number_of (get_or vs 8 None);
  nds_com = flag_of (get_or vs 9 None);
  members = members_of (get_or vs 11 None);
}

-- the APDU that fills the octets from p to e
abbrev pub goose_value : {A : Type 0} → List ℕ → ℕ → ℕ → Result (GoosePdu A) Fault
goose_value octets p e = goose_at octets p e >>= λ vs. Ok (pdu_of_items vs)
