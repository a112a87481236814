-- The frames of a publisher (IEC 61850-8-1): frame k of a state.
use Rattle.std.specs.Prelude.{ℕ, Bool, true, false, List, []}
use Rattle.mms_data.specs.Data.{Data}
use Rattle.mms_data.specs.declared.time.UtcTime.{UtcTime}
use Rattle.frame_core.specs.declared.frame.Apdu.TheVariants as apdus
use Rattle.frame_core.specs.declared.frame.Frame.{Frame}
use Rattle.publish_core.specs.declared.control.Control.{Control}
use Rattle.publish_core.specs.declared.table.Step.{Step}
use Rattle.publish_core.specs.Numbers.{sequence_number}
use Rattle.publish_core.specs.Table.{step_at, step_of}

-- what a publisher is made of: its control, the steps of its table, the status number of its first state
pub record Setup (A : Type 0) : Type 0 where
  pub control : Control A
  pub table : List Step
  pub first : ℕ

-- what a publisher is made of, by its parts
abbrev pub setup : {A : Type 0} → Control A → List Step → ℕ → Setup A
setup control table first = record { control = control; table = table; first = first }

-- what a change hands in: the time of the change, and the values of the data set
pub record Change : Type 0 where
  pub t : UtcTime
  pub values : List Data

-- what a change hands in, by its parts
abbrev pub change : UtcTime → List Data → Change
change t values = record { t = t; values = values }

-- Reserved 1: its top bit is the simulation bit
abbrev pub simulation_word : Bool → ℕ
simulation_word true = 0x8000
simulation_word false = 0

-- the frame of a change with these numbers: status number, sequence number, lifetime
abbrev pub frame_with : {A : Type 0} → Control A → Change → ℕ → ℕ → ℕ → Frame A
frame_with control change state sequence live = record {
  destination = control.destination;
  source = control.source;
  tag = control.tag;
  app_id = control.app_id;
  reserved1 = simulation_word control.simulation;
  reserved2 = 0;
  apdu = apdus.Goose (record {
    gocb_ref = control.gocb_ref;
    live = live;
    dat_set = control.dat_set;
    go_id = control.go_id;
    t = change.t;
    st_num = state;
    sq_num = sequence;
    simulation = control.simulation;
    conf_rev = control.conf_rev;
    nds_com = control.nds_com;
    members = change.values;
  });
  trailer = [];
}

-- frame k of the state with this status number: the lifetime is that of the step of frame k
abbrev pub frame : {A : Type 0} → Control A → List Step → ℕ → Change → ℕ → Frame A
frame control table state change k = frame_with control change state (sequence_number k) (step_at table (step_of table k)).live_ms
