-- A few numbers, what short lists of calls give, and why changes are refused, computed.
use Rattle.std.proofs.Common.{◌≡◌, ℕ, ◌-◌, ◌^◌, false, true, Option, None, Some, List, [], ◌∷◌, refl}
use Rattle.std.specs.Prelude.{replicate}
use Rattle.ber_core.specs.computed.ContentsReading.{all_visible_at}
use Rattle.ber_core.specs.Written.{integer_size, short_integer, short_length, written_element}
use Rattle.mms_data.specs.Data.{Data, boolean, octets, simple, unsigned}
use Rattle.frame_core.specs.declared.frame.Frame.{Frame}
use Rattle.publish_core.specs.declared.control.Control.{Control}
use Rattle.publish_core.specs.declared.fault.PublishFault.{PublishFault}
use Rattle.publish_core.specs.declared.fault.PublishFault.TheVariants as faults
use Rattle.publish_core.specs.declared.table.Step.{Step}
use Rattle.publish_core.specs.Frames.{change, frame_with, setup}
use Rattle.publish_core.specs.computed.Judgement.{refusal}
use Rattle.publish_core.specs.Numbers.{number_behind, sequence_number, state_number}
use Rattle.publish_core.specs.Run.{Call, Changed, Polled, call}
use Rattle.publish_core.specs.computed.Step.{fresh_publisher, run_calls}

-- status numbers and sequence numbers go on at 1 behind 4294967295
pub record AreNumbers : Type 0 where
  pub first : state_number 7 0 ≡ 7
  pub last : state_number 4294967295 0 ≡ 4294967295
  pub wrapped : state_number 4294967295 1 ≡ 1
  pub behind_last : number_behind 4294967295 ≡ 1
  pub behind : number_behind 1 ≡ 2
  pub of_change : sequence_number 0 ≡ 0
  pub of_retransmission : sequence_number 1 ≡ 1
  pub most : sequence_number 4294967295 ≡ 4294967295
  pub past : sequence_number 4294967296 ≡ 1

numbers : AreNumbers
numbers = record { first = refl; last = refl; wrapped = refl; behind_last = refl; behind = refl; of_change = refl; of_retransmission = refl; most = refl; past = refl }

abbrev control : Control (Unit {0})
control = record {
  destination = 1 ∷ 0x0c ∷ 0xcd ∷ 1 ∷ 0 ∷ 1 ∷ [];
  source = 2 ∷ 0 ∷ 0 ∷ 0 ∷ 0 ∷ 1 ∷ [];
  tag = None;
  app_id = 1;
  gocb_ref = 71 ∷ [];
  dat_set = 68 ∷ [];
  go_id = None;
  conf_rev = 1;
  entries = 1;
  simulation = false;
  nds_com = false;
}

-- two steps: 10 ms until the first retransmission, and a second between all others
abbrev steps : List Step
steps = record { wait_ms = 10; live_ms = 2000 } ∷ record { wait_ms = 1000; live_ms = 3000 } ∷ []

abbrev say : ℕ → ℕ → Call
say at value = call at (Changed (change (record { seconds = at; fraction = 0; quality = 0 }) (simple (unsigned value) ∷ [])))

abbrev ask : ℕ → Call
ask at = call at Polled

-- the frame of a change to this value, which was handed in at a moment, with its status number, sequence number and lifetime
abbrev sent : ℕ → ℕ → ℕ → ℕ → ℕ → Option (Frame (Unit {0}))
sent at value state sequence live = Some (frame_with control (change (record { seconds = at; fraction = 0; quality = 0 }) (simple (unsigned value) ∷ [])) state sequence live)

abbrev given : List Call → List (Option (Frame (Unit {0})))
given calls = run_calls (fresh_publisher (setup control steps 4294967295)) calls

-- a retransmission is due once its wait is over and not before, and each has the next sequence number
retransmissions : given (ask 0 ∷ say 0 5 ∷ ask 9999 ∷ ask 10000 ∷ ask 1009999 ∷ ask 1010000 ∷ [])
    ≡ None ∷ sent 0 5 4294967295 0 2000 ∷ None ∷ sent 0 5 4294967295 1 3000 ∷ None ∷ sent 0 5 4294967295 2 3000 ∷ []
retransmissions = refl

-- a change begins the next state at once; a moment below an earlier one counts as the greatest so far
next_state : given (say 20000 5 ∷ say 20001 6 ∷ ask 3 ∷ ask 30001 ∷ [])
    ≡ sent 20000 5 4294967295 0 2000 ∷ sent 20001 6 1 0 2000 ∷ None ∷ sent 20001 6 1 1 3000 ∷ []
next_state = refl

-- why the change to these values is refused, if it is
abbrev refused_for : List Data → Option PublishFault
refused_for values = refusal control steps 1 (change (record { seconds = 0; fraction = 0; quality = 0 }) values)

-- 1,438 octets are the most with which every frame fits. With one more the first frame still does; its retransmissions with
-- the sequence number 4294967295, which is written in four octets more, do not.
pub record AreRefused : Type 0 where
  pub accepted : refused_for (simple (boolean true) ∷ []) ≡ None
  pub no_value : refused_for [] ≡ Some faults.EntriesDiffer
  pub two_values : refused_for (simple (boolean true) ∷ simple (boolean true) ∷ []) ≡ Some faults.EntriesDiffer
  pub too_great : refused_for (simple (unsigned (2 ^ 64)) ∷ []) ≡ Some faults.NotSpellable
  pub greatest : refused_for (simple (unsigned (2 ^ 64 - 1)) ∷ []) ≡ None
  pub longest : refused_for (simple (octets (replicate 1438 0)) ∷ []) ≡ None
  pub too_long : refused_for (simple (octets (replicate 1439 0)) ∷ []) ≡ Some faults.WouldNotFit

are_refused : AreRefused
unfolding all_visible_at written_element short_length short_integer integer_size
are_refused = record { accepted = refl; no_value = refl; two_values = refl; too_great = refl; greatest = refl; longest = refl; too_long = refl }
