-- What the frames of an input show of senders and of streams: each frame of GOOSE a pair of stNum and sqNum, and each ASDU of
-- Sampled Values a count.
use Rattle.std.specs.Prelude.{ℕ, ◌*◌, ◌&&◌, ◌==◌, max, Bool, true, false, not, List, [], ◌∷◌, ◌++◌, map, Option, None, Result, Ok, Err, if◌then◌else◌}
use Rattle.std.specs.List.{flat_map, list_any}
use Rattle.std.specs.Str.{bytes_eq}
use Rattle.ber_core.specs.declared.fault.Fault.{Fault}
use Rattle.pdu_core.specs.declared.goose.GoosePdu.{GoosePdu}
use Rattle.pdu_core.specs.declared.sampled.asdu.Asdu.{Asdu}
use Rattle.list_core.specs.declared.event.Event.{Event}
use Rattle.list_core.specs.declared.event.EventKind.{EventKind}
use Rattle.list_core.specs.declared.event.EventKind.TheVariants as kinds
use Rattle.frame_core.specs.declared.frame.Apdu.{Apdu}
use Rattle.frame_core.specs.declared.frame.Apdu.TheVariants as apdus
use Rattle.frame_core.specs.declared.frame.Frame.{Frame}
use Rattle.frame_core.specs.computed.FrameReading.{frame_at}
use Rattle.loss_core.specs.declared.sender.Pair.{Pair}
use Rattle.loss_core.specs.declared.sender.Arrival.{Arrival}
use Rattle.loss_core.specs.declared.stream.Sample.{Sample}
use Rattle.loss_core.specs.Periods.{Period, period_of}

-- A sender by APPID, gocbRef and simulation (IEC 61850-8-1), or a stream by APPID, source address and svID (IEC 61850-9-2).
pub data Key : Type 0 where
  sender : ℕ → List ℕ → Bool → Key
  stream : ℕ → List ℕ → List ℕ → Key

-- two truth values are the same
abbrev pub same_truth : Bool → Bool → Bool
same_truth true b = b
same_truth false b = not b

-- two keys are one
abbrev pub same_key : Key → Key → Bool
same_key (sender a r s) (sender b q t) = a == b && (bytes_eq r q && same_truth s t)
same_key (sender a r s) (stream b o i) = false
same_key (stream a o i) (sender b r s) = false
same_key (stream a o i) (stream b p j) = a == b && (bytes_eq o p && bytes_eq i j)

-- the period of a stream, by its svID; a sender has none
abbrev pub period_for : List Period → Key → Option ℕ
period_for periods (sender app_id reference simulation) = None
period_for periods (stream app_id source id) = period_of periods id

-- what is shown: of a sender a frame's pair and its lifetime in microseconds, 1,000 times timeAllowedtoLive; of a stream smpCnt and smpSynch
pub data Shown : Type 0 where
  frame : Pair → ℕ → Shown
  sample : ℕ → ℕ → Shown

-- what is shown of a key, at the greatest moment so far
pub record Sight : Type 0 where
  pub key : Key
  pub moment : ℕ
  pub shown : Shown

-- what a frame of GOOSE shows
abbrev pub sight_of_goose : {A : Type 0} → ℕ → ℕ → GoosePdu A → Sight
sight_of_goose moment app_id p =
    record { key = sender app_id p.gocb_ref p.simulation; moment = moment; shown = frame (record { state = p.st_num; sequence = p.sq_num }) (1000 * p.live) }

-- what an ASDU shows
abbrev pub sight_of_asdu : {A : Type 0} → ℕ → ℕ → List ℕ → Asdu A → Sight
sight_of_asdu moment app_id source a = record { key = stream app_id source a.sv_id; moment = moment; shown = sample a.smp_cnt a.smp_synch }

-- what an APDU shows
abbrev pub sights_with : {A : Type 0} → ℕ → ℕ → List ℕ → Apdu A → List Sight
sights_with moment app_id source (apdus.Goose p) = sight_of_goose moment app_id p ∷ []
sights_with moment app_id source (apdus.Sampled p) = map (sight_of_asdu moment app_id source) p.asdus

-- what octets show, which read so
abbrev pub sights_read : {A : Type 0} → ℕ → Result (Frame A) Fault → List Sight
sights_read moment (Ok f) = sights_with moment f.app_id f.source f.apdu
sights_read moment (Err f) = []

-- what an event shows at a moment
abbrev pub sights_of : {A : Type 0} → ℕ → EventKind A → List Sight
sights_of moment (kinds.Frame octets) = sights_read {A = Unit {0}} moment (frame_at octets)
sights_of moment kinds.Clock = []
sights_of moment (kinds.Mode on) = []

-- the greatest moment of events
abbrev pub greatest_moment : {A : Type 0} → List (ℕ × Event A) → ℕ
greatest_moment [] = 0
greatest_moment (e ∷ es) = max e.1.moment (greatest_moment es)

-- what events show, in their order, each at the greatest moment up to it, where this is that of the events before
abbrev pub sights_from : {A : Type 0} → ℕ → List (ℕ × Event A) → List Sight
sights_from moment [] = []
sights_from moment (e ∷ es) = sights_of (max moment e.1.moment) e.1.kind ++ sights_from (max moment e.1.moment) es

-- what events show
abbrev pub sights_in : {A : Type 0} → List (ℕ × Event A) → List Sight
sights_in items = sights_from 0 items

-- the frame of a sight, as it came
abbrev pub arrival_in : ℕ → Shown → List Arrival
arrival_in moment (frame p lifetime) = record { pair = p; moment = moment; lifetime = lifetime } ∷ []
arrival_in moment (sample count synch) = []

-- the sample of a sight, as it came
abbrev pub sample_in : ℕ → Shown → List Sample
sample_in moment (frame p lifetime) = []
sample_in moment (sample count synch) = record { count = count; moment = moment } ∷ []

-- its smpSynch
abbrev pub synch_in : Shown → List ℕ
synch_in (frame p lifetime) = []
synch_in (sample count synch) = synch ∷ []

-- what is so of the sights of a key, in their order
abbrev pub of_key : {X : Type 0} → (Sight → List X) → Key → List Sight → List X
of_key what key seen = flat_map (λ s. if same_key s.key key then what s else []) seen

-- the frames of a sender
abbrev pub frames_of : Key → List Sight → List Arrival
frames_of key seen = of_key (λ s. arrival_in s.moment s.shown) key seen

-- the samples of a stream
abbrev pub samples_of : Key → List Sight → List Sample
samples_of key seen = of_key (λ s. sample_in s.moment s.shown) key seen

-- the smpSynch of each
abbrev pub synchs_of : Key → List Sight → List ℕ
synchs_of key seen = of_key (λ s. synch_in s.shown) key seen

-- one key more, if it is not there
abbrev pub with_key : List Key → Key → List Key
with_key keys key = if list_any (λ k. same_key k key) keys then keys else keys ++ key ∷ []

-- the keys of sights behind others, in the order of their first occurrence
abbrev pub keys_from : List Key → List Sight → List Key
keys_from keys [] = keys
keys_from keys (s ∷ seen) = keys_from (with_key keys s.key) seen

-- the keys of sights, in the order of their first occurrence
abbrev pub keys_in : List Sight → List Key
keys_in seen = keys_from [] seen
