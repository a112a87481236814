-- A few lists of events with their entries, and counts of samples with their answers, computed.
use Rattle.std.proofs.Common.{◌≡◌, ℕ, ◌*◌, ◌^◌, ◌-◌, Bool, true, false, None, List, [], ◌∷◌, refl}
use Rattle.mms_data.specs.Data.{simple, boolean}
use Rattle.pdu_core.specs.declared.goose.GoosePdu.{GoosePdu}
use Rattle.block_core.specs.declared.block.Block.{Block}
use Rattle.subscribe_core.specs.declared.entry.Entry.{Entry}
use Rattle.subscribe_core.specs.declared.entry.Entry.TheVariants as says
use Rattle.subscribe_core.specs.declared.entry.Reason.TheVariants.{ConfRev, Simulated}
use Rattle.subscribe_core.specs.EventsRead.{OfGoose, OfClock, OfMode, EventRead}
use Rattle.subscribe_core.specs.State.{fresh_state}
use Rattle.subscribe_core.specs.computed.Steps.{run_events}
use Rattle.subscribe_core.specs.computed.WatchAnswers.{seen_all}
use Rattle.subscribe_core.specs.declared.watch.Seen.TheVariants.{First, Next, Skipped, Same, Late, OutOfRange}

-- the APDU of control block G with data set D and one boolean
abbrev apdu : Bool → ℕ → ℕ → ℕ → GoosePdu (Unit {0})
apdu simulation state sequence live = record {
  gocb_ref = 71 ∷ [];
  live = live;
  dat_set = 68 ∷ [];
  go_id = None;
  t = record { seconds = 0; fraction = 0; quality = 0 };
  st_num = state;
  sq_num = sequence;
  simulation = simulation;
  conf_rev = 1;
  nds_com = false;
  members = simple (boolean true) ∷ [];
}

abbrev block : ℕ → ℕ → Block (Unit {0})
block app_id conf_rev = record { app_id = app_id; gocb_ref = 71 ∷ []; dat_set = 68 ∷ []; go_id = None; conf_rev = conf_rev; entries = 1 }

-- moments in milliseconds
abbrev frame_of : ℕ → Bool → ℕ → ℕ → ℕ → ℕ → EventRead
frame_of app_id simulation at state sequence live = record { moment = 1000 * at; content = OfGoose (record { app_id = app_id; pdu = apdu simulation state sequence live }) }

abbrev real : ℕ → ℕ → ℕ → ℕ → EventRead
real at state sequence live = frame_of 1 false at state sequence live

abbrev test : ℕ → ℕ → ℕ → ℕ → EventRead
test at state sequence live = frame_of 1 true at state sequence live

abbrev clock : ℕ → EventRead
clock at = record { moment = 1000 * at; content = OfClock }

abbrev mode : ℕ → Bool → EventRead
mode at on = record { moment = 1000 * at; content = OfMode on }

abbrev act : ℕ → ℕ → ℕ → Entry (Unit {0})
act b state sequence = says.Act b state sequence (record { seconds = 0; fraction = 0; quality = 0 }) (simple (boolean true) ∷ [])

abbrev entries : List (Block (Unit {0})) → List EventRead → List (List (Entry (Unit {0})))
entries blocks events = run_events (fresh_state blocks) events

numbers : entries (block 1 1 ∷ []) (real 0 1 0 2000 ∷ real 1 1 0 2000 ∷ real 2 3 0 2000 ∷ real 3 2 4 2000 ∷ real 4 3 1 2000 ∷ real 5 3 0 2000 ∷ [])
    ≡ (act 0 1 0 ∷ []) ∷ (says.Repeated 0 1 0 ∷ []) ∷ (act 0 3 0 ∷ []) ∷ (says.Older 0 2 4 ∷ []) ∷ (says.Refreshed 0 3 1 ∷ []) ∷ (says.Older 0 3 0 ∷ []) ∷ []
numbers = refl

expiry : entries (block 1 1 ∷ []) (real 0 1 0 2000 ∷ real 2000 1 1 2000 ∷ []) ≡ (act 0 1 0 ∷ []) ∷ (says.Expired 0 ∷ act 0 1 1 ∷ []) ∷ []
expiry = refl

renewal : entries (block 1 1 ∷ []) (real 0 5 7 1000 ∷ real 900 5 7 5000 ∷ clock 999 ∷ clock 1000 ∷ [])
    ≡ (act 0 5 7 ∷ []) ∷ (says.Repeated 0 5 7 ∷ []) ∷ [] ∷ (says.Expired 0 ∷ []) ∷ []
renewal = refl

earlier_moment : entries (block 1 1 ∷ []) (real 1000 1 0 200 ∷ real 900 1 1 200 ∷ clock 1150 ∷ clock 1200 ∷ [])
    ≡ (act 0 1 0 ∷ []) ∷ (says.Refreshed 0 1 1 ∷ []) ∷ [] ∷ (says.Expired 0 ∷ []) ∷ []
earlier_moment = refl

two_blocks : entries (block 1 1 ∷ block 2 1 ∷ []) (real 0 1 0 2000 ∷ frame_of 2 false 500 1 0 2000 ∷ frame_of 2 false 2000 1 1 2000 ∷ [])
    ≡ (act 0 1 0 ∷ []) ∷ (act 1 1 0 ∷ []) ∷ (says.Expired 0 ∷ says.Refreshed 1 1 1 ∷ []) ∷ []
two_blocks = refl

first_reason : entries (block 1 2 ∷ []) (test 0 1 0 2000 ∷ []) ≡ (says.Refused 0 ConfRev ∷ []) ∷ []
first_reason = refl

there_and_back : entries (block 1 1 ∷ []) (mode 0 true ∷ real 0 7 0 2000 ∷ test 100 1 0 2000 ∷ real 200 7 1 2000 ∷ test 300 1 1 2000 ∷ mode 400 false ∷ test 500 1 2 2000 ∷ real 600 7 2 2000 ∷ [])
    ≡ [] ∷ (act 0 7 0 ∷ []) ∷ (says.Switched 0 ∷ act 0 1 0 ∷ []) ∷ (says.Refused 0 Simulated ∷ []) ∷ (says.Refreshed 0 1 1 ∷ []) ∷ (says.Switched 0 ∷ []) ∷ (says.Refused 0 Simulated ∷ []) ∷ (act 0 7 2 ∷ []) ∷ []
there_and_back = refl

expiry_stays_simulated : entries (block 1 1 ∷ []) (mode 0 true ∷ test 0 1 0 1000 ∷ clock 1000 ∷ real 1100 2 0 2000 ∷ test 1200 1 0 1000 ∷ [])
    ≡ [] ∷ (says.Switched 0 ∷ act 0 1 0 ∷ []) ∷ (says.Expired 0 ∷ []) ∷ (says.Refused 0 Simulated ∷ []) ∷ (act 0 1 0 ∷ []) ∷ []
expiry_stays_simulated = refl

both_at_once : entries (block 1 1 ∷ []) (mode 0 true ∷ real 0 1 0 1000 ∷ test 1000 1 0 1000 ∷ mode 2000 false ∷ [])
    ≡ [] ∷ (act 0 1 0 ∷ []) ∷ (says.Expired 0 ∷ says.Switched 0 ∷ act 0 1 0 ∷ []) ∷ (says.Expired 0 ∷ says.Switched 0 ∷ []) ∷ []
both_at_once = refl

greatest_moment : entries (block 1 1 ∷ []) (record { moment = 2 ^ 64 - 1; content = OfGoose (record { app_id = 1; pdu = apdu false 1 0 2000 }) } ∷ record { moment = 2 ^ 64 - 1; content = OfClock } ∷ [])
    ≡ (act 0 1 0 ∷ []) ∷ [] ∷ []
greatest_moment = refl

-- a trip recording: a retransmission lost, a frame repeated, two states out of order, an expiry and a restart, and a simulated
-- trip with the way back
recording : entries (block 1 1 ∷ []) (real 0 4 120 2000 ∷ real 1000 4 121 2000 ∷ real 1200 5 0 2000 ∷ real 1201 5 0 2000 ∷ real 1208 5 2 2000 ∷ real 1300 7 0 2000 ∷ real 1301 6 0 2000 ∷ real 1304 7 1 2000 ∷ clock 3400 ∷ real 4000 1 0 2000 ∷ mode 4500 true ∷ test 4600 1 0 2000 ∷ real 5000 1 1 2000 ∷ mode 5500 false ∷ real 6000 1 2 2000 ∷ [])
    ≡ (act 0 4 120 ∷ []) ∷ (says.Refreshed 0 4 121 ∷ []) ∷ (act 0 5 0 ∷ []) ∷ (says.Repeated 0 5 0 ∷ []) ∷ (says.Refreshed 0 5 2 ∷ []) ∷ (act 0 7 0 ∷ []) ∷ (says.Older 0 6 0 ∷ []) ∷ (says.Refreshed 0 7 1 ∷ []) ∷ (says.Expired 0 ∷ []) ∷ (act 0 1 0 ∷ []) ∷ [] ∷ (says.Switched 0 ∷ act 0 1 0 ∷ []) ∷ (says.Refused 0 Simulated ∷ []) ∷ (says.Switched 0 ∷ []) ∷ (act 0 1 2 ∷ []) ∷ []
recording = refl

-- ---- counts of samples

pub record AreCounts : Type 0 where
  pub half_a_second : seen_all 4000 None (3998 ∷ 3999 ∷ 0 ∷ 2 ∷ 1 ∷ 2 ∷ 4000 ∷ []) ≡ First ∷ Next ∷ Next ∷ Skipped 1 ∷ Late ∷ Same ∷ OutOfRange ∷ []
  pub least_period : seen_all 2 None (0 ∷ 1 ∷ 0 ∷ []) ≡ First ∷ Next ∷ Next ∷ []
  -- half the period is late, and one less is not
  pub half : seen_all 8 None (0 ∷ 4 ∷ 3 ∷ []) ≡ First ∷ Late ∷ Skipped 2 ∷ []

pub are_counts : AreCounts
are_counts = record { half_a_second = refl; least_period = refl; half = refl }
