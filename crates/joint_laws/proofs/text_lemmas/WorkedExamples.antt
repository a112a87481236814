-- Written lists, and scripts with what `publish` writes of them, computed: a wrong definition does not check.
use Rattle.std.proofs.Common.{◌≡◌, ℕ, zero, suc, true, false, List, [], ◌∷◌, ◌++◌, length, take, slice_get, None, Some, Ok, Err, inl, inr, refl, arith}
use Rattle.std.proofs.lemmas.Option.{none-some, same_Some}
use Rattle.std.specs.Prelude.{codes}
use Rattle.std.specs.Fmt.{digits}
use Rattle.hex.specs.Hex.{decode_pairs, encode_with}
use Rattle.ber_core.specs.computed.ContentsReading.{all_visible_at, boolean_at}
use Rattle.ber_core.specs.computed.Reading.{header_at, length_at}
use Rattle.ber_core.specs.Written.{integer_size, short_integer, short_length, written_element}
use Rattle.mms_data.specs.computed.ContentsReading.{simple_at}
use Rattle.mms_data.specs.computed.KindReading.{kind_at}
use Rattle.mms_data.specs.computed.Reading.{member_at, member_with, members_at, members_with}
use Rattle.list_core.specs.declared.device.InputEnd.TheVariants.{End, Open}
use Rattle.list_core.specs.declared.event.Event.{Event}
use Rattle.list_core.specs.declared.event.EventKind.TheVariants.{Clock, Mode}
use Rattle.list_core.specs.declared.event_lines.EventLines.TheVariants.{After, First}
use Rattle.list_core.specs.declared.event_lines.MomentUnit.TheVariants.{Milliseconds}
use Rattle.list_core.specs.declared.line_rules.ItemFault.TheVariants as fault
use Rattle.list_core.specs.declared.list_fault.ListCause.TheVariants.{LineForm}
use Rattle.list_core.specs.EventLine.{event_rules}
use Rattle.list_core.specs.Items.{Listing, items_said, stops}
use Rattle.list_core.specs.Lines.{faulty, finished, reading}
use Rattle.subscribe_core.specs.declared.entry.Entry.{Entry}
use Rattle.subscribe_core.specs.declared.entry.Entry.TheVariants.{Expired, NotSubscribed}
use Rattle.script_core.specs.declared.script.ScriptCause.{ScriptCause}
use Rattle.script_core.specs.declared.script.ScriptItem.{ScriptItem}
use Rattle.engine_core.specs.declared.ending.Ending.TheVariants.{InputFault}
use Rattle.engine_core.specs.declared.stopped.Halt.TheVariants as halt
use Rattle.engine_core.specs.EngineText.{ItemText, exactly}
use Rattle.engine_core.specs.Input.{IsRead}
use Rattle.engine_core.specs.Run.{list_faults, list_input}
use Rattle.engine_core.specs.RunOver.{Run}
use Rattle.frame_engines.specs.ShowText.{show_text}
use Rattle.engine_core.specs.computed.WholeText.{told, told_after, whole_text}
use Rattle.exchange_engines.specs.computed.PublishStep.{publish_text}
use Rattle.joint_laws.specs.ListText.{lines_from, list_of_text, list_text}
use Rattle.publish_core.specs.Frames.{Change, Setup, change, setup}
use Rattle.publish_core.specs.Run.{Call, Changed, Polled, call, trace_of_calls}
use Rattle.publish_core.specs.declared.fault.PublishFault.TheVariants as publish
use Rattle.joint_laws.specs.PublishedReplay.{SaysRun, TellsStop, script_of_text}

-- ---- written lists

abbrev events : List (Event (Unit {0}))
events = record { moment = 7; kind = Clock } ∷ record { moment = 8; kind = Mode true } ∷ []

abbrev entries : List (List (Entry (Unit {0})))
entries = (Expired 0 ∷ []) ∷ [] ∷ (Expired 1 ∷ NotSubscribed ∷ []) ∷ []

pub record AreLists : Type 0 where
  pub written : list_text events ≡ codes "V2\nC 7\nM 8 on\n"
  pub read : list_of_text {A = Unit {0}} (codes "V2\nC 7\nM 8 on\n") ≡ record { items = (2, record { moment = 7; kind = Clock }) ∷ (3, record { moment = 8; kind = Mode true }) ∷ []; stop = finished }
  pub replayed : lines_from 2 entries ≡ codes "2 expired 0\n4 expired 1\n4 not-subscribed\n"

pub lists : AreLists
unfolding reading items_said digits
lists = record { written = refl; read = refl; replayed = refl }

-- ---- scripts

-- a control block of one boolean, with two steps
abbrev script_head : List ℕ
script_head = codes "control,010ccd010001,020000000001,,0001,G,D,,1,1,0,0,1\nstep,10,2000\nstep,1000,3000\n"

abbrev published : List ℕ → List ℕ
published script = whole_text (publish_text {A = Unit {0}}) (script_of_text End script)

pub record AreScripts : Type 0 where
  pub none : published [] ≡ codes "V2\n# 1 script ScriptForm\n"
  pub no_change : published (script_head ++ codes "poll,5\n") ≡ codes "V2\n"
  -- a change, a poll before the wait is over, and one at its end: the frame of the second step, with its lifetime
  pub sent : published (script_head ++ codes "change,0,0000000000000000,8301ff\npoll,9\npoll,10\n")
      ≡ codes "V2\nF 0 010ccd01000102000000000188b80001003500000000612b800147810207d0820144840800000000000000008501018601008701008801018901008a0101ab038301ff\nF 10000 010ccd01000102000000000188b80001003500000000612b80014781020bb8820144840800000000000000008501018601018701008801018901008a0101ab038301ff\n"
  pub entries_differ : published (script_head ++ codes "change,0,0000000000000000,\n") ≡ codes "V2\n# 4 script EntriesDiffer\n"

pub scripts : AreScripts
unfolding reading items_said decode_pairs encode_with digits told_after members_at members_with member_at member_with kind_at header_at length_at simple_at boolean_at all_visible_at written_element short_length short_integer integer_size
scripts = record { none = refl; no_change = refl; sent = refl; entries_differ = refl }

-- ---- scripts that stop before their end

-- a change that is accepted, one without values, which is refused, and a poll behind it
abbrev refusing : List ℕ
refusing = script_head ++ codes "change,0,0000000000000000,8301ff\nchange,7,0000000000000000,\npoll,9\n"

abbrev one_frame : List ℕ
one_frame = codes "V2\nF 0 010ccd01000102000000000188b80001003500000000612b800147810207d0820144840800000000000000008501018601008701008801018901008a0101ab038301ff\n"

pub record AreStopped : Type 0 where
  pub refused : published refusing ≡ one_frame ++ codes "# 5 script EntriesDiffer\n"
  pub faulty : published (script_head ++ codes "change,0,0000000000000000,8301ff\nchange\npoll,9\n") ≡ one_frame ++ codes "# 5 script ScriptForm\n"
  pub bad_members : published (script_head ++ codes "change,0,0000000000000000,8301\n") ≡ codes "V2\n# 4 script Members 1 LengthPastEnd\n"
  -- the last line is a comment, by which a list says nothing
  pub comment : list_of_text {A = Unit {0}} (one_frame ++ codes "# 5 script EntriesDiffer\n") ≡ list_of_text one_frame

pub stopped : AreStopped
unfolding reading items_said decode_pairs encode_with digits told_after members_at members_with member_at member_with kind_at header_at length_at simple_at boolean_at all_visible_at written_element short_length short_integer integer_size
stopped = record { refused = refl; faulty = refl; bad_members = refl; comment = refl }

-- what such a script says: the run up to the change that is refused, which has no value where the control has one
abbrev one_boolean : Setup (Unit {0})
one_boolean = setup (record {
  destination = 0x01 ∷ 0x0c ∷ 0xcd ∷ 0x01 ∷ 0x00 ∷ 0x01 ∷ [];
  source = 0x02 ∷ 0x00 ∷ 0x00 ∷ 0x00 ∷ 0x00 ∷ 0x01 ∷ [];
  tag = None;
  app_id = 1;
  gocb_ref = codes "G";
  dat_set = codes "D";
  go_id = None;
  conf_rev = 1;
  entries = 1;
  simulation = false;
  nds_com = false;
}) (record { wait_ms = 10; live_ms = 2000 } ∷ record { wait_ms = 1000; live_ms = 3000 } ∷ []) 1

abbrev no_value : Change
no_value = change (record { seconds = 0; fraction = 0; quality = 0 }) []

abbrev polled_once : Listing (ScriptItem (Unit {0})) ScriptCause
polled_once = script_of_text End (script_head ++ codes "poll,5\nchange,7,0000000000000000,\npoll,9\n")

pub record IsPolledOnce (left : List Call) : Type 0 where
  pub says : SaysRun one_boolean (call 5000 Polled ∷ []) polled_once
  pub ends : TellsStop one_boolean (call 5000 Polled ∷ []) left polled_once (told publish_text polled_once).stop

pub is_polled_once : IsPolledOnce (call 7000 (Changed no_value) ∷ call 9000 Polled ∷ [])
unfolding reading items_said decode_pairs digits told_after members_at members_with
is_polled_once = record {
  says = record { calls_left = call 7000 (Changed no_value) ∷ call 9000 Polled ∷ []; items = refl; accepted = λ i handed_in at. absurd (polled_alone i handed_in at); stops = (publish.EntriesDiffer, λ same. absurd (none_is_one same)) };
  ends = record { line = 5; why = publish.EntriesDiffer; there = refl; refused = λ same. absurd (none_is_one same); stops = refl };
}
  where
    none_is_one : length no_value.values ≡ one_boolean.control.entries → ⊥
    none_is_one same = absurd (omega (arith, same))

    polled_alone : (i : ℕ) (handed_in : Change) → (trace_of_calls (call 5000 Polled ∷ [])).request i ≡ Some (Changed handed_in) → ⊥
    polled_alone zero handed_in at = absurd cc
    polled_alone (suc i) handed_in at = absurd cc

-- ---- a run

-- an event, and a line that no list has: both are read before the run ends
abbrev bad_list : List ℕ
bad_list = codes "C 7\nX\n"

abbrev shown_clock : ItemText
shown_clock = record { text = codes "1 clock 7000\n"; is_finding = false }

-- `show` writes the time, and ends at line 2 by its fault, while the reader is open
run_to_a_fault :
    Run (IsRead (list_input (event_rules {A = Unit {0}}) First) Open bad_list) list_faults (exactly (show_text {A = Unit {0}})) InputFault (Some (fault.Line 2 LineForm)) (Some []) (Some (codes "1 clock 7000\n2 list LineForm\n"))
unfolding reading items_said digits
run_to_a_fault = record {
  items = (1, record { moment = 7000; kind = Clock }) ∷ [];
  texts = shown_clock ∷ [];
  are_texts = record { one_each = refl; each = each };
  held = Some (codes "1 clock 7000\n");
  written = refl;
  answer = Err (Some (fault.Line 2 LineForm));
  read = record {
    onward = stops (faulty (fault.Line 2 LineForm));
    says = refl;
    tells = refl;
    stands = record {
      line = record {
        lines_before = 1;
        settled = After Milliseconds;
        earlier = codes "C 7\n";
        onward = codes "X\n";
        whole = refl;
        starts_line = inr (inl (codes "C 7", refl));
        at_most = omega arith;
        for_this_line = inl refl;
        says = refl;
      };
      is_of = refl;
    };
  };
  ends = inl (record { halt = halt.Fault (fault.Line 2 LineForm); stops = (codes "2 list LineForm\n", (refl, refl), refl); has_ending = refl; by = refl });
}
  where
    each : (i : ℕ) (e : ℕ × Event (Unit {0})) (w : ItemText) → slice_get ((1, record { moment = 7000; kind = Clock }) ∷ []) i ≡ Some e → slice_get (shown_clock ∷ []) i ≡ Some w →
        (show_text {A = Unit {0}}).of_item (take i ((1, record { moment = 7000; kind = Clock }) ∷ [])) e ≡ Ok (w.text, w.is_finding)
    each zero e w here there = rw (← same_Some _ e here, ← same_Some _ w there) refl
    each (suc i) e w here there = absurd (none-some e here)
