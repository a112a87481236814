-- A run of three calls, and a subscriber that receives its frames repeated and reordered, with one lost.
use Rattle.std.proofs.Common.{◌≡◌, ℕ, zero, suc, Bool, true, false, Some, None, List, [], ◌∷◌, map, slice_get, Ok, refl, ap, ap₂, ◌∙◌, subst, arith, le_refl}
use Rattle.std.proofs.lemmas.Option.{none-some, same_Some}
use Rattle.frame_core.specs.Frame.{SpellsFrame}
use Rattle.list_core.specs.declared.event.Event.{Event}
use Rattle.list_core.specs.declared.event.EventKind.{EventKind}
use Rattle.list_core.specs.declared.event.EventKind.TheVariants as kinds
use Rattle.frame_core.specs.declared.frame.Frame.{Frame}
use Rattle.frame_core.proofs.ReadingLaws.{frame_again}
use Rattle.mms_data.specs.Data.{boolean, simple}
use Rattle.mms_data.specs.declared.time.UtcTime.{UtcTime}
use Rattle.publish_core.specs.declared.control.Control.{Control}
use Rattle.publish_core.specs.declared.table.Step.{Step}
use Rattle.publish_core.specs.Frames.{Change, Setup, change, frame, setup}
use Rattle.publish_core.specs.Run.{Call, Changed, First, GivesFrame, Next, Polled, call, trace_of_calls}
use Rattle.block_core.specs.declared.block.Block.{Block}
use Rattle.subscribe_core.specs.declared.entry.Entry.TheVariants as says
use Rattle.subscribe_core.specs.computed.Content.{content_by, reading_of}
use Rattle.subscribe_core.specs.EventsRead.{Content}
use Rattle.subscribe_core.specs.State.{fresh_state}
use Rattle.subscribe_core.specs.computed.Steps.{run_events}
use Rattle.joint_laws.specs.Stems.{IsOfRun, IsPublishedUnder, StemsFromRun}

abbrev at_zero : UtcTime
at_zero = record { seconds = 0; fraction = 0; quality = 0 }

-- control block G with data set D and one boolean
abbrev control : Control (Unit {0})
control = record {
  destination = 1 ∷ 12 ∷ 205 ∷ 1 ∷ 0 ∷ 1 ∷ [];
  source = 2 ∷ 0 ∷ 0 ∷ 0 ∷ 0 ∷ 1 ∷ [];
  tag = None;
  app_id = 1;
  gocb_ref = 71 ∷ [];
  dat_set = 68 ∷ [];
  go_id = None;
  conf_rev = 1;
  entries = 1;
  simulation = false;
  nds_com = false;
}

abbrev steps : List Step
steps = record { wait_ms = 10; live_ms = 2000 } ∷ record { wait_ms = 1000; live_ms = 3000 } ∷ []

abbrev to : Bool → Change
to value = change at_zero (simple (boolean value) ∷ [])

-- the first state has the number 5
abbrev p : Setup (Unit {0})
p = setup control steps 5

-- a change to true, a poll when the first wait is over, a change to false
abbrev calls : List Call
calls = call 0 (Changed (to true)) ∷ call 10000 Polled ∷ call 20000 (Changed (to false)) ∷ []

-- what is published under 5 and 6

five : IsPublishedUnder p calls 5 (to true)
five = record { c = 0; call = 0; is_change = record { request = refl; before = refl }; numbered = refl }

six : IsPublishedUnder p calls 6 (to false)
six = record { c = 1; call = 2; is_change = record { request = refl; before = refl }; numbered = refl }

-- the retransmission of state 5, and the first frame of state 6

abbrev again : Frame (Unit {0})
again = frame control steps 5 (to true) 1

abbrev new : Frame (Unit {0})
new = frame control steps 6 (to false) 0

gives_again : GivesFrame steps (trace_of_calls calls) 1 0 1 (to true)
gives_again = Next (First (record { request = refl; before = refl })) (record { later = le_refl 1; poll = refl; due = le_refl 10000; between = λ h more less. absurd (omega arith) })

gives_new : GivesFrame steps (trace_of_calls calls) 2 1 0 (to false)
gives_new = First (record { request = refl; before = refl })

-- Octets that spell these two frames are received so: state 5 without its first frame, its retransmission twice, state 6,
-- and the retransmission once more.

abbrev event : ℕ → List ℕ → Event (Unit {0})
event moment octets = record { moment = moment; kind = kinds.Frame octets }

abbrev block : Block (Unit {0})
block = record { app_id = 1; gocb_ref = 71 ∷ []; dat_set = 68 ∷ []; go_id = None; conf_rev = 1; entries = 1 }

abbrev content : Frame (Unit {0}) → Content
content f = content_by (Ok f)

frame_octets : EventKind (Unit {0}) → List ℕ
frame_octets (kinds.Frame o) = o
frame_octets _ = []

module _ (again_octets new_octets : List ℕ) (again_spelled : SpellsFrame again again_octets) (new_spelled : SpellsFrame new new_octets) where
  abbrev events : List (Event (Unit {0}))
  events = event 10500 again_octets ∷ event 10600 again_octets ∷ event 20500 new_octets ∷ event 20600 again_octets ∷ []

  of_again : IsOfRun p calls again_octets
  of_again = record { call = 1; published = again; publishes = record { c = 0; k = 1; change = to true; gives = gives_again; is_frame = refl }; received = again; spelled = again_spelled; same = refl }

  of_new : IsOfRun p calls new_octets
  of_new = record { call = 2; published = new; publishes = record { c = 1; k = 0; change = to false; gives = gives_new; is_frame = refl }; received = new; spelled = new_spelled; same = refl }

  -- every frame that is received is of the run

  moved : (x e : Event (Unit {0})) (octets : List ℕ) → IsOfRun p calls (frame_octets x.kind) → Some x ≡ Some e → e.kind ≡ kinds.Frame octets → IsOfRun p calls octets
  unfolding frame_octets
  moved x e octets w at kind =
      subst (λ (o : List ℕ). IsOfRun p calls o) (ap frame_octets (ap (λ (y : Event (Unit {0})). y.kind) (same_Some x e at) ∙ kind)) w

  all_of_run : (i : ℕ) (e : Event (Unit {0})) (octets : List ℕ) → slice_get events i ≡ Some e → e.kind ≡ kinds.Frame octets → IsOfRun p calls octets
  unfolding frame_octets
  all_of_run zero e octets at kind = moved (event 10500 again_octets) e octets of_again at kind
  all_of_run (suc zero) e octets at kind = moved (event 10600 again_octets) e octets of_again at kind
  all_of_run (suc (suc zero)) e octets at kind = moved (event 20500 new_octets) e octets of_new at kind
  all_of_run (suc (suc (suc zero))) e octets at kind = moved (event 20600 again_octets) e octets of_again at kind
  all_of_run (suc (suc (suc (suc i)))) e octets at kind = absurd (none-some e at)

  -- so each epoch stems from it
  stems : (s : ℕ) → StemsFromRun block events (map reading_of events) s p calls
  stems s = record { some = omega arith; no_wrap = omega arith; each = λ i f e octets good at kind. all_of_run i e octets at kind }

  -- and the actions carry what was published: state 5 once, though its first frame was lost, then state 6
  readings_are : map reading_of events
      ≡ record { moment = 10500; content = content again } ∷ record { moment = 10600; content = content again } ∷ record { moment = 20500; content = content new } ∷ record { moment = 20600; content = content again } ∷ []
  readings_are =
      ap₂ (λ (x y : Content). record { moment = 10500; content = x } ∷ record { moment = 10600; content = x } ∷ record { moment = 20500; content = y } ∷ record { moment = 20600; content = x } ∷ [])
      (ap content_by (frame_again again_octets again again_spelled)) (ap content_by (frame_again new_octets new new_spelled))

  entries_are : run_events (fresh_state (block ∷ [])) (map reading_of events)
      ≡ (says.Act 0 5 1 at_zero (simple (boolean true) ∷ []) ∷ []) ∷ (says.Repeated 0 5 1 ∷ []) ∷ (says.Act 0 6 0 at_zero (simple (boolean false) ∷ []) ∷ []) ∷ (says.Older 0 5 1 ∷ []) ∷ []
  entries_are = ap (run_events (fresh_state (block ∷ []))) readings_are
