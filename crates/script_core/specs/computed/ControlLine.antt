-- The control line of a script: DST, SRC, TAG, APPID, gocbRef, datSet, goID, confRev, ENTRIES, SIM, COM, FIRST. It stands first.
use Rattle.std.specs.Prelude.{ℕ, ◌==◌, Bool, false, List, [], ◌∷◌, Option, Some, None, Result, Ok, Err, if◌then◌else◌}
use Rattle.frame_core.specs.declared.vlan_tag.VlanTag.{VlanTag}
use Rattle.publish_core.specs.declared.control.Control.{Control}
use Rattle.block_core.specs.BlockText.{go_id_of, texts_keep}
use Rattle.block_core.specs.Commas.{number_by, octets_in, text_in, word_in}
use Rattle.script_core.specs.declared.script_control.ControlEnd.{ControlEnd}
use Rattle.script_core.specs.declared.script.ScriptCause.{ScriptCause}
use Rattle.script_core.specs.declared.script.ScriptCause.TheVariants as cause
use Rattle.script_core.specs.declared.script.ScriptItem.{ScriptItem}
use Rattle.script_core.specs.declared.script.ScriptItem.TheVariants as item
use Rattle.script_core.specs.declared.script.ScriptPart.{ScriptPart}
use Rattle.script_core.specs.declared.script.ScriptPart.TheVariants as part
use Rattle.script_core.specs.ScriptFields.{flag_in, tag_in}

-- what a control line says: the control block, and the status number of its first state
pub record ControlLine : Type 0 where
  pub destination : List ℕ
  pub source : List ℕ
  pub tag : Option VlanTag
  pub app_id : ℕ
  pub gocb_ref : List ℕ
  pub dat_set : List ℕ
  pub go_id : Option (List ℕ)
  pub numbers : ControlEnd

-- the control block of a control line
abbrev pub block_of_line : {A : Type 0} → ControlLine → Control A
block_of_line l = record {
  destination = l.destination;
  source = l.source;
  tag = l.tag;
  app_id = l.app_id;
  gocb_ref = l.gocb_ref;
  dat_set = l.dat_set;
  go_id = l.go_id;
  conf_rev = l.numbers.conf_rev;
  entries = l.numbers.entries;
  simulation = l.numbers.simulation;
  nds_com = l.numbers.nds_com;
}

-- a control line, where each field says something
abbrev pub control_with : Option (List ℕ) → Option (List ℕ) → Option (Option VlanTag) → Option ℕ → Option (List ℕ) → Option (List ℕ) → Option (List ℕ) → Option ControlEnd → Option ControlLine
control_with (Some destination) (Some source) (Some tag) (Some app_id) (Some gocb_ref) (Some dat_set) (Some go_id) (Some numbers) =
    Some (record { destination = destination; source = source; tag = tag; app_id = app_id; gocb_ref = gocb_ref; dat_set = dat_set; go_id = go_id_of go_id; numbers = numbers })
control_with _ _ _ _ _ _ _ _ = None

-- confRev, the count of entries, simulation, ndsCom and the first status number
abbrev pub numbers_with : Option ℕ → Option ℕ → Option Bool → Option Bool → Option ℕ → Option ControlEnd
numbers_with (Some conf_rev) (Some entries) (Some simulation) (Some nds_com) (Some first) =
    Some (record { conf_rev = conf_rev; entries = entries; simulation = simulation; nds_com = nds_com; first = first })
numbers_with _ _ _ _ _ = None

-- the numbers that the last five fields of a control line say
abbrev pub numbers_in : List (List ℕ) → Option ControlEnd
numbers_in (conf_rev ∷ entries ∷ simulation ∷ nds_com ∷ first ∷ []) =
    numbers_with (number_by conf_rev) (number_by entries) (flag_in simulation) (flag_in nds_com) (number_by first)
numbers_in _ = None

-- DST, SRC, TAG, APPID, gocbRef, datSet, goID (empty: none), confRev, entries, SIM, COM, FIRST
abbrev pub control_of : List (List ℕ) → Option ControlLine
control_of (destination ∷ source ∷ tag ∷ app_id ∷ gocb_ref ∷ dat_set ∷ go_id ∷ conf_rev ∷ entries ∷ simulation ∷ nds_com ∷ first ∷ []) =
    control_with (octets_in 6 destination) (octets_in 6 source) (tag_in tag) (word_in app_id) (text_in gocb_ref) (text_in dat_set) (text_in go_id)
    (numbers_with (number_by conf_rev) (number_by entries) (flag_in simulation) (flag_in nds_com) (number_by first))
control_of _ = None

-- the control line stands first, and its first status number is not 0
abbrev pub control_said : {A : Type 0} → ScriptPart → Option ControlLine → Result (Option (ScriptItem A) × ScriptPart) ScriptCause
control_said part.Control (Some l) = if l.numbers.first == 0 then Err cause.FirstState else Ok (Some (item.Control (block_of_line l) l.numbers.first), part.Steps 0)
control_said _ _ = Err cause.ScriptForm

-- whether something of a control line is kept in memory: it is accepted, and one of its texts is not empty
abbrev pub control_keeps : ScriptPart → Option ControlLine → Bool
control_keeps part.Control (Some l) = if l.numbers.first == 0 then false else texts_keep l.gocb_ref l.dat_set l.go_id
control_keeps _ _ = false
