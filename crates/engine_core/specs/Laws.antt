-- What holds of each run.
use Rattle.std.specs.Prelude.{◌≡◌, Bool, true, false, List, ℕ, Option}
use Rattle.std.specs.Io.KnownBytes.{Appends}
use Rattle.list_core.specs.declared.device.InputEnd.{InputEnd}
use Rattle.list_core.specs.declared.line_rules.ItemFault.{ItemFault}
use Rattle.list_core.specs.Device.{AppendsPrefix}
use Rattle.list_core.specs.Items.{Rules, Listing, listing}
use Rattle.list_core.specs.Lines.{finished, faulty}
use Rattle.list_core.specs.ReadItems.{is_failed_read}
use Rattle.engine_core.specs.declared.ending.Ending.{Ending}
use Rattle.engine_core.specs.declared.ending.Ending.TheVariants.{Done, Findings, InputFault, ReadFault, WriteFault, Memory}
use Rattle.engine_core.specs.Ending.{ending_by_fault}
use Rattle.engine_core.specs.EngineText.{Text}
use Rattle.engine_core.specs.Run.{Writes}
use Rattle.engine_core.specs.computed.WholeText.{told, whole_text}

-- the whole text of a list stands written, which has no fault; something was found or nothing was
pub record LeavesWhole {X C : Type 0} (t : Text X C) (found : Bool) (l : Listing X C) (old new : Option (List ℕ)) : Type 0 where
  pub ends : (told t l).stop ≡ finished
  pub finds : (told t l).found ≡ found
  pub written : Appends old new (whole_text t l)

-- the whole text of a list stands written, which ends by a fault of this ending
pub record LeavesFaulty {X C : Type 0} (t : Text X C) (ending : Ending) (l : Listing X C) (old new : Option (List ℕ)) : Type 0 where
  pub why : ItemFault C
  pub ends : (told t l).stop ≡ faulty why
  pub has_ending : ending_by_fault is_failed_read why ≡ ending
  pub written : Appends old new (whole_text t l)

-- what stands written of the whole text of a list, by the ending
abbrev pub LeavesOfWhole : {X C : Type 0} → Text X C → Ending → Listing X C → Option (List ℕ) → Option (List ℕ) → Type 0
LeavesOfWhole t Done l old new = LeavesWhole t false l old new
LeavesOfWhole t Findings l old new = LeavesWhole t true l old new
LeavesOfWhole t InputFault l old new = LeavesFaulty t InputFault l old new
LeavesOfWhole t ReadFault l old new = LeavesFaulty t ReadFault l old new
LeavesOfWhole t WriteFault l old new = AppendsPrefix old new (whole_text t l)
LeavesOfWhole t Memory l old new = AppendsPrefix old new (whole_text t l)

-- of the whole text of the list that was read, a run leaves all where it ends at the end or by a fault of it, and else a prefix
abbrev pub RunsWriteWholeTexts : Type 0 → Type 0 → Type 0 → Type 0
RunsWriteWholeTexts S X C =
    (r : Rules S X C) (s : S) (t : Text X C) (ending : Ending) (z : InputEnd) (read : List ℕ) (old new : Option (List ℕ)) →
    Writes r s t ending z read old new → LeavesOfWhole t ending (listing r s z 0 read) old new
