-- The lines of a script of `publish` (profile): for each kind of line what its fields say, where it may stand, and which
-- ones say an item.
use Rattle.std.specs.Prelude.{◌≡◌, ℕ, ◌+◌, ◌<◌, List, length, Option, Some, None, option_and_then, option_map, slice_get, ⊤, codes}
use Rattle.mms_data.specs.Data.{Data}
use Rattle.mms_data.specs.Spelling.{SpellsAll}
use Rattle.mms_data.specs.declared.time.UtcTime.{UtcTime}
use Rattle.list_core.specs.EventLine.{moment_of}
use Rattle.list_core.specs.declared.event_lines.MomentUnit.{MomentUnit}
use Rattle.block_core.specs.BlockText.{go_id_of}
use Rattle.block_core.specs.Commas.{number_by, octets_in, text_in, word_in}
use Rattle.publish_core.specs.declared.control.Control.{Control}
use Rattle.publish_core.specs.declared.table.Step.{Step}
use Rattle.publish_core.specs.Table.{IsGood, most_steps}
use Rattle.script_core.specs.ScriptFields.{all_octets_in, flag_in, tag_in, time_in}
use Rattle.script_core.specs.declared.script.ScriptItem.{ScriptItem}
use Rattle.script_core.specs.declared.script.ScriptItem.TheVariants as item
use Rattle.script_core.specs.declared.script.ScriptPart.{ScriptPart}
use Rattle.script_core.specs.declared.script.ScriptPart.TheVariants as part

-- ---- what the fields behind the name of a line say

-- field i, read so, says this
abbrev pub SaysField : {X : Type 0} → List (List ℕ) → ℕ → (List ℕ → Option X) → X → Type 0
SaysField fields i read x = option_and_then read (slice_get fields i) ≡ Some x

-- field i, read so, says nothing
abbrev pub SaysNoField : {X : Type 0} → List (List ℕ) → ℕ → (List ℕ → Option X) → Type 0
SaysNoField fields i read = option_and_then read (slice_get fields i) ≡ None

-- a goID: a text; an empty field is none
abbrev pub id_in : List ℕ → Option (Option (List ℕ))
id_in field = option_map go_id_of (text_in field)

-- `control,DST,SRC,TAG,APPID,gocbRef,datSet,goID,confRev,ENTRIES,SIM,COM,FIRST`: the fields behind the name say this control
-- block, and the status number of its first state
pub record SaysControl {A : Type 0} (fields : List (List ℕ)) (control : Control A) (first : ℕ) : Type 0 where
  pub size : length fields ≡ 12
  pub destination : SaysField fields 0 (octets_in 6) control.destination
  pub source : SaysField fields 1 (octets_in 6) control.source
  pub tag : SaysField fields 2 tag_in control.tag
  pub app_id : SaysField fields 3 word_in control.app_id
  pub gocb_ref : SaysField fields 4 text_in control.gocb_ref
  pub dat_set : SaysField fields 5 text_in control.dat_set
  pub go_id : SaysField fields 6 id_in control.go_id
  pub conf_rev : SaysField fields 7 number_by control.conf_rev
  pub entries : SaysField fields 8 number_by control.entries
  pub simulation : SaysField fields 9 flag_in control.simulation
  pub nds_com : SaysField fields 10 flag_in control.nds_com
  pub first_state : SaysField fields 11 number_by first

-- `step,WAIT,LIVE`: the fields behind the name say this step
pub record SaysStep (fields : List (List ℕ)) (s : Step) : Type 0 where
  pub size : length fields ≡ 2
  pub wait : SaysField fields 0 number_by s.wait_ms
  pub live : SaysField fields 1 number_by s.live_ms

-- `change,MOMENT,T,MEMBERS`: the fields behind the name say this moment, this time of the change, and octets that spell these
-- values
pub record SaysChange (unit : MomentUnit) (fields : List (List ℕ)) (moment : ℕ) (t : UtcTime) (values : List Data) : Type 0 where
  pub size : length fields ≡ 3
  pub moment_is : SaysField fields 0 (moment_of unit) moment
  pub time_is : SaysField fields 1 time_in t
  pub octets : List ℕ
  pub members : SaysField fields 2 all_octets_in octets
  pub spelled : SpellsAll values 1 octets

-- `poll,MOMENT`: the field behind the name says this moment
pub record SaysPoll (unit : MomentUnit) (fields : List (List ℕ)) (moment : ℕ) : Type 0 where
  pub size : length fields ≡ 1
  pub moment_is : SaysField fields 0 (moment_of unit) moment

-- ---- which lines have a form and its place, where lines of some part may stand

-- a control line: it stands first, and says this control block and the status number of its first state
pub record IsControlLine {A : Type 0} (p : ScriptPart) (name : List ℕ) (fields : List (List ℕ)) (control : Control A) (first : ℕ) : Type 0 where
  pub named : name ≡ codes "control"
  pub stands_first : p ≡ part.Control
  pub says : SaysControl fields control first

-- the line of a step: it stands behind the control line and so many other steps, and says this step
pub record IsStepLine (p : ScriptPart) (name : List ℕ) (fields : List (List ℕ)) (steps : ℕ) (s : Step) : Type 0 where
  pub named : name ≡ codes "step"
  pub stands_behind : p ≡ part.Steps steps
  pub says : SaysStep fields s

-- the line of a change: it stands behind the control line, and has three fields
pub record IsChangeLine (p : ScriptPart) (name : List ℕ) (fields : List (List ℕ)) : Type 0 where
  pub named : name ≡ codes "change"
  pub behind_control : ¬ (p ≡ part.Control)
  pub size : length fields ≡ 3

-- the line of a poll: it stands behind the control line, and has one field
pub record IsPollLine (p : ScriptPart) (name : List ℕ) (fields : List (List ℕ)) : Type 0 where
  pub named : name ≡ codes "poll"
  pub behind_control : ¬ (p ≡ part.Control)
  pub size : length fields ≡ 1

-- a change or a poll may stand here: behind the control line and a step
abbrev pub MayCall : ScriptPart → Type 0
MayCall part.Control = ⊥
MayCall (part.Steps n) = 0 < n
MayCall part.Calls = ⊤

-- ---- which lines say an item, and which part follows them

-- a control line whose first status number is not 0; steps follow it
pub record AcceptsControl {A : Type 0} (p : ScriptPart) (name : List ℕ) (fields : List (List ℕ)) (control : Control A) (first : ℕ) (next : ScriptPart) : Type 0 where
  pub is_line : IsControlLine p name fields control first
  pub first_state : 0 < first
  pub follows : next ≡ part.Steps 0

-- the line of a good step, behind fewer than the most steps of a table; further steps may follow it
pub record AcceptsStep (p : ScriptPart) (name : List ℕ) (fields : List (List ℕ)) (s : Step) (next : ScriptPart) : Type 0 where
  pub steps : ℕ
  pub is_line : IsStepLine p name fields steps s
  pub is_good : IsGood s
  pub has_room : steps < most_steps
  pub follows : next ≡ part.Steps (steps + 1)

-- the line of a change, which may stand here; changes and polls follow it
pub record AcceptsChange (unit : MomentUnit) (p : ScriptPart) (name : List ℕ) (fields : List (List ℕ)) (moment : ℕ) (t : UtcTime) (values : List Data) (next : ScriptPart) : Type 0 where
  pub named : name ≡ codes "change"
  pub may_stand : MayCall p
  pub says : SaysChange unit fields moment t values
  pub follows : next ≡ part.Calls

-- the line of a poll, which may stand here; changes and polls follow it
pub record AcceptsPoll (unit : MomentUnit) (p : ScriptPart) (name : List ℕ) (fields : List (List ℕ)) (moment : ℕ) (next : ScriptPart) : Type 0 where
  pub named : name ≡ codes "poll"
  pub may_stand : MayCall p
  pub says : SaysPoll unit fields moment
  pub follows : next ≡ part.Calls

-- Where lines of this part may stand, a line with this name and these fields says an item, and lines of the next part may follow.
abbrev pub IsLine : {A : Type 0} → MomentUnit → ScriptPart → List ℕ → List (List ℕ) → ScriptItem A → ScriptPart → Type 0
IsLine unit p name fields (item.Control control first) next = AcceptsControl p name fields control first next
IsLine unit p name fields (item.Step s) next = AcceptsStep p name fields s next
IsLine unit p name fields (item.Change moment t values) next = AcceptsChange unit p name fields moment t values next
IsLine unit p name fields (item.Poll moment) next = AcceptsPoll unit p name fields moment next
