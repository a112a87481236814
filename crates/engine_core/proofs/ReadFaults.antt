-- A run ends by a read fault only where the source of its input failed.
use Rattle.std.proofs.Common.{Option, ◌≡◌, ℕ, List, Err, true, false, ap, ◌∙◌, refl}
use Rattle.list_core.specs.declared.device.InputEnd.{InputEnd}
use Rattle.list_core.specs.declared.device.InputEnd.TheVariants.{Failed}
use Rattle.list_core.specs.declared.list_fault.ListCause.{ListCause}
use Rattle.list_core.specs.declared.list_fault.ListCause.TheVariants.{LineTooLong, LineForm, Moment, Hex, ListTooLong, ReadFailed}
use Rattle.list_core.specs.declared.line_rules.ItemFault.{ItemFault}
use Rattle.list_core.specs.declared.line_rules.ItemFault.TheVariants as fault
use Rattle.list_core.specs.Lines.{faulty}
use Rattle.list_core.specs.Items.{Numbered, Rules}
use Rattle.list_core.specs.ReadItems.{is_failed_read, is_of_source}
use Rattle.list_core.proofs.Stops.{ItemsMean, listing-means}
use Rattle.capture_core.proofs.StopsTold.{capture_means}
use Rattle.engine_core.specs.declared.ending.Ending.{Ending}
use Rattle.engine_core.specs.declared.ending.Ending.TheVariants.{ReadFault}
use Rattle.engine_core.specs.EngineText.{Allowed}
use Rattle.engine_core.specs.CaptureRun.{capture_input}
use Rattle.engine_core.specs.Input.{Input, IsRead}
use Rattle.engine_core.specs.Run.{list_input}
use Rattle.engine_core.specs.RunOver.{Leaves}
use Rattle.engine_core.proofs.ReaderRuns.{failed_read}

-- a cause that is the source's
of_source : (why : ListCause) → is_of_source why ≡ true → why ≡ ReadFailed
of_source ReadFailed e = refl
of_source LineTooLong e = cc
of_source LineForm e = cc
of_source Moment e = cc
of_source Hex e = cc
of_source ListTooLong e = cc

blamed : {C : Type 0} (f : ItemFault C) (z : InputEnd) → ItemsMean (faulty f) z → is_failed_read f ≡ true → z ≡ Failed
blamed (fault.Lines f) z h e = h (of_source f.cause e)
blamed (fault.Line n why) z h e = cc

-- an input stops by a failed read only where its source failed
abbrev pub Blames : {X C F : Type 0} → Input X C F → Type 0
Blames {F = F} input = (z : InputEnd) (read : List ℕ) (f : F) → (input.says z read).stop ≡ faulty f → input.faults.failed f ≡ true → z ≡ Failed

pub list_blames : {S X C : Type 0} (r : Rules S X C) (s : S) → Blames (list_input r s)
list_blames r s z read f stops = blamed f z (rw stops at (listing-means r s z 0 read))

pub capture_blames : (A : Type 0) → Blames (capture_input {A = A})
capture_blames A z read f stops = rw stops at (capture_means z read)

-- so does a run, where no item is refused by such a fault
pub source_failed : {X C F : Type 0} (input : Input X C F) (t : Allowed X C F) (ending : Ending) (by : Option F) (z : InputEnd) (read : List ℕ) (old new : Option (List ℕ)) → Blames input →
    ((before : List (ℕ × X)) (e : ℕ × X) (why : C) → t.of_item before e (Err why) → input.faults.failed (input.faults.refused e.0 why) ≡ false) → Leaves input t ending by z read old new → ending ≡ ReadFault → z ≡ Failed
source_failed {X} {C} {F} input t ending by z read old new blames never run is =
    let f = failed_read (IsRead input z read) input.faults t never ending by old new run is in
    blames z read f.1 (ap (λ (l : Numbered X F). l.stop) f.2.says ∙ ap (λ (l : Numbered X F). l.stop) f.2.tells) f.3
