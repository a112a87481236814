-- What a few fields and lines of scripts say, computed.
use Rattle.std.proofs.Common.{◌≡◌, false, true, None, Some, [], ◌∷◌, Ok, Err, inl, inr, refl, arith}
use Rattle.std.specs.Prelude.{codes}
use Rattle.hex.specs.Hex.{decode_pairs}
use Rattle.ber_core.specs.computed.ContentsReading.{all_visible_at, boolean_at}
use Rattle.ber_core.specs.computed.Reading.{header_at, length_at}
use Rattle.ber_core.specs.declared.fault.Cause.TheVariants as causes
use Rattle.mms_data.specs.computed.ContentsReading.{simple_at}
use Rattle.mms_data.specs.Data.{boolean, simple}
use Rattle.mms_data.specs.computed.KindReading.{kind_at}
use Rattle.mms_data.specs.computed.Reading.{member_at, member_with, members_at, members_with}
use Rattle.list_core.specs.declared.event_lines.MomentUnit.TheVariants.{Milliseconds, Microseconds}
use Rattle.script_core.specs.ScriptFields.{flag_in, tag_in}
use Rattle.script_core.specs.RefusedLines.{IsRefusedLine}
use Rattle.script_core.specs.computed.LineReading.{line_said, script_said}
use Rattle.script_core.specs.Lines.{SaysControl, SaysPoll, SaysStep}
use Rattle.script_core.specs.declared.script.ScriptCause.TheVariants as cause
use Rattle.script_core.specs.declared.script.ScriptItem.TheVariants as item
use Rattle.script_core.specs.declared.script.ScriptLines.TheVariants.{First, After}
use Rattle.script_core.specs.declared.script.ScriptPart.TheVariants as part

pub record AreFields : Type 0 where
  pub tag : tag_in (codes "8064") ≡ Some (Some (record { control = 0x8064 }))
  pub no_tag : tag_in [] ≡ Some None
  pub off : flag_in (codes "0") ≡ Some false
  pub on : flag_in (codes "1") ≡ Some true
  pub no_flag : flag_in (codes "2") ≡ None

fields : AreFields
unfolding decode_pairs
fields = record { tag = refl; no_tag = refl; off = refl; on = refl; no_flag = refl }

pub record AreLines : Type 0 where
  pub comment : line_said {A = Unit {0}} Milliseconds part.Control (codes "# a bay") ≡ Ok (None, part.Control)
  pub step : line_said {A = Unit {0}} Milliseconds (part.Steps 0) (codes "step,10,2000") ≡ Ok (Some (item.Step (record { wait_ms = 10; live_ms = 2000 })), part.Steps 1)
  pub no_wait : line_said {A = Unit {0}} Milliseconds (part.Steps 0) (codes "step,0,2000") ≡ Err cause.StepTimes
  pub short_life : line_said {A = Unit {0}} Milliseconds (part.Steps 0) (codes "step,10,10") ≡ Err cause.StepTimes
  pub step_17 : line_said {A = Unit {0}} Milliseconds (part.Steps 16) (codes "step,10,2000") ≡ Err cause.StepCount
  pub late_step : line_said {A = Unit {0}} Milliseconds part.Calls (codes "step,10,2000") ≡ Err cause.ScriptForm
  pub poll : line_said {A = Unit {0}} Milliseconds (part.Steps 1) (codes "poll,10") ≡ Ok (Some (item.Poll 10000), part.Calls)
  pub fine_poll : line_said {A = Unit {0}} Microseconds part.Calls (codes "poll,10") ≡ Ok (Some (item.Poll 10), part.Calls)
  pub early_poll : line_said {A = Unit {0}} Milliseconds (part.Steps 0) (codes "poll,10") ≡ Err cause.StepCount
  pub no_moment : line_said {A = Unit {0}} Milliseconds part.Calls (codes "poll,") ≡ Err cause.Moment
  pub odd : line_said {A = Unit {0}} Milliseconds part.Calls (codes "change,1500,0000000000000000,83010") ≡ Err cause.Hex
  pub version : script_said {A = Unit {0}} First (codes "V2") ≡ Ok (None, After Microseconds part.Control)

lines : AreLines
unfolding decode_pairs
lines = record { comment = refl; step = refl; no_wait = refl; short_life = refl; step_17 = refl; late_step = refl; poll = refl; fine_poll = refl; early_poll = refl; no_moment = refl; odd = refl; version = refl }

-- the fields of some of these lines, by the relation of their kind
pub record AreSaid : Type 0 where
  pub control : SaysControl {A = Unit {0}} (codes "010ccd010001" ∷ codes "020000000001" ∷ [] ∷ codes "0001" ∷ codes "G" ∷ codes "D" ∷ [] ∷ codes "1" ∷ codes "2" ∷ codes "0" ∷ codes "1" ∷ codes "5" ∷ [])
      (record {
        destination = 0x01 ∷ 0x0c ∷ 0xcd ∷ 0x01 ∷ 0x00 ∷ 0x01 ∷ [];
        source = 0x02 ∷ 0x00 ∷ 0x00 ∷ 0x00 ∷ 0x00 ∷ 0x01 ∷ [];
        tag = None;
        app_id = 1;
        gocb_ref = codes "G";
        dat_set = codes "D";
        go_id = None;
        conf_rev = 1;
        entries = 2;
        simulation = false;
        nds_com = true;
      }) 5
  pub step : SaysStep (codes "10" ∷ codes "2000" ∷ []) (record { wait_ms = 10; live_ms = 2000 })
  pub poll : SaysPoll Milliseconds (codes "10" ∷ []) 10000

said : AreSaid
unfolding decode_pairs
said = record {
  control = record { size = refl; destination = refl; source = refl; tag = refl; app_id = refl; gocb_ref = refl; dat_set = refl; go_id = refl; conf_rev = refl; entries = refl; simulation = refl; nds_com = refl; first_state = refl };
  step = record { size = refl; wait = refl; live = refl };
  poll = record { size = refl; moment_is = refl };
}

-- some of the lines that are refused, by the relation of their cause
pub record AreRefused : Type 0 where
  pub short_life : IsRefusedLine (Unit {0}) Milliseconds (part.Steps 0) (codes "step") (codes "10" ∷ codes "10" ∷ []) cause.StepTimes
  pub step_17 : IsRefusedLine (Unit {0}) Milliseconds (part.Steps 16) (codes "step") (codes "10" ∷ codes "2000" ∷ []) cause.StepCount
  pub early_poll : IsRefusedLine (Unit {0}) Milliseconds (part.Steps 0) (codes "poll") (codes "10" ∷ []) cause.StepCount
  pub no_moment : IsRefusedLine (Unit {0}) Milliseconds part.Calls (codes "poll") ([] ∷ []) cause.Moment
  pub odd : IsRefusedLine (Unit {0}) Milliseconds part.Calls (codes "change") (codes "1500" ∷ codes "0000000000000000" ∷ codes "83010" ∷ []) cause.Hex

refused : AreRefused
unfolding decode_pairs
refused = record {
  short_life = record { steps = 0; step = record { wait_ms = 10; live_ms = 10 }; is_line = record { named = refl; stands_behind = refl; says = record { size = refl; wait = refl; live = refl } }; bad = λ good. absurd (omega (arith, good.1)) };
  step_17 = inl (record { steps = 16; step = record { wait_ms = 10; live_ms = 2000 }; is_line = record { named = refl; stands_behind = refl; says = record { size = refl; wait = refl; live = refl } }; is_good = (omega arith, omega arith); is_full = omega arith });
  early_poll = inr (record { is_line = inr (record { named = refl; behind_control = λ e. absurd cc; size = refl }); no_step = refl });
  no_moment = record { is_line = inr (record { named = refl; behind_control = λ e. absurd cc; size = refl }); may_stand = tt; bad = refl };
  odd = record { is_line = record { named = refl; behind_control = λ e. absurd cc; size = refl }; may_stand = tt; moment = 1500000; moment_is = refl; bad = inr refl };
}

-- a control line and a change as in docs/FORMATS.md, with shorter names, each with what makes it a fault
pub record AreKept : Type 0 where
  pub control : script_said {A = Unit {0}} First (codes "control,010ccd010001,020000000001,,0001,G,D,,1,1,0,0,1")
      ≡ Ok (
        Some (item.Control (record {
          destination = 0x01 ∷ 0x0c ∷ 0xcd ∷ 0x01 ∷ 0x00 ∷ 0x01 ∷ [];
          source = 0x02 ∷ 0x00 ∷ 0x00 ∷ 0x00 ∷ 0x00 ∷ 0x01 ∷ [];
          tag = None;
          app_id = 1;
          gocb_ref = codes "G";
          dat_set = codes "D";
          go_id = None;
          conf_rev = 1;
          entries = 1;
          simulation = false;
          nds_com = false;
        }) 1),
        After Milliseconds (part.Steps 0),
      )
  pub first_zero : line_said {A = Unit {0}} Milliseconds part.Control (codes "control,010ccd010001,020000000001,,0001,G,D,,1,1,0,0,0") ≡ Err cause.FirstState
  pub field_less : line_said {A = Unit {0}} Milliseconds part.Control (codes "control,010ccd010001,020000000001,,0001,G,D,,1,1,0,0") ≡ Err cause.ScriptForm
  pub second_control : line_said {A = Unit {0}} Milliseconds (part.Steps 0) (codes "control,010ccd010001,020000000001,,0001,G,D,,1,1,0,0,1") ≡ Err cause.ScriptForm
  pub change : script_said {A = Unit {0}} (After Milliseconds part.Calls) (codes "change,1500,0000000000000000,830100")
      ≡ Ok (Some (item.Change 1500000 (record { seconds = 0; fraction = 0; quality = 0 }) (simple (boolean false) ∷ [])), After Milliseconds part.Calls)
  pub first_change : script_said {A = Unit {0}} (After Microseconds (part.Steps 2)) (codes "change,7,010203040506070a,8301ff830100")
      ≡ Ok (Some (item.Change 7 (record { seconds = 0x01020304; fraction = 0x050607; quality = 0x0a }) (simple (boolean true) ∷ simple (boolean false) ∷ [])), After Microseconds part.Calls)
  pub no_members : line_said {A = Unit {0}} Milliseconds part.Calls (codes "change,0,0000000000000000,") ≡ Ok (Some (item.Change 0 (record { seconds = 0; fraction = 0; quality = 0 }) []), part.Calls)
  pub bad_members : line_said {A = Unit {0}} Milliseconds part.Calls (codes "change,0,0000000000000000,8301") ≡ Err (cause.Members (record { place = 1; cause = causes.LengthPastEnd }))

kept : AreKept
unfolding decode_pairs members_at members_with member_at member_with kind_at header_at length_at simple_at boolean_at all_visible_at
kept = record { control = refl; first_zero = refl; field_less = refl; second_control = refl; change = refl; first_change = refl; no_members = refl; bad_members = refl }
