-- A run over a fresh reader of a list, where one text alone may be written, writes it of the list.
use Rattle.std.proofs.Common.{Option, ◌≡◌, ℕ, List, [], refl, subst}
use Rattle.list_core.specs.declared.device.InputEnd.{InputEnd}
use Rattle.list_core.specs.declared.device.InputEnd.TheVariants.{Failed, Open}
use Rattle.list_core.specs.declared.line_rules.ItemFault.{ItemFault}
use Rattle.list_core.specs.Items.{Rules}
use Rattle.list_core.specs.ItemReader.{ReaderState}
use Rattle.engine_core.specs.declared.ending.Ending.{Ending}
use Rattle.engine_core.specs.declared.ending.Ending.TheVariants.{ReadFault}
use Rattle.engine_core.specs.declared.stopped.Stopped.{Stopped}
use Rattle.engine_core.specs.EngineText.{Alike, Allowed, Text, exactly}
use Rattle.engine_core.specs.Run.{list_faults, list_input}
use Rattle.engine_core.specs.RunOver.{Leaves, RunsOver}
use Rattle.engine_core.proofs.InputRuns.{GivenSo}
use Rattle.engine_core.proofs.ListRuns.{list_reader, list_run}
use Rattle.engine_core.proofs.ReadFaults.{list_blames, source_failed}
use Rattle.engine_core.proofs.ReaderRuns.{runs_alike}

-- a reader stands before the first line of a list, for which this is settled
pub record IsFresh {S : Type 0} (s : S) (state : ReaderState S) : Type 0 where
  pub is_open : state.ending ≡ Open
  pub no_line : state.taken ≡ 0
  pub no_octet : state.held ≡ []
  pub has_settled : state.settled ≡ s

pub listed : {S X C I : Type 0} (r : Rules S X C) (s : S) (state : I → ReaderState S) (number : I → ℕ) (t : Allowed X C (ItemFault C)) (text : Text X C) → Alike t (exactly text) → (start : I) (stopped : Stopped I (ItemFault C)) (old new : Option (List ℕ)) → IsFresh s (state start) →
    RunsOver (list_reader r state number) t start stopped old new →
    GivenSo (state start).left (state stopped.reader).left (λ given. Leaves (list_input r s) (exactly text) stopped.ending stopped.fault (state stopped.reader).ending given old new)
listed {S = S} r s state number t text same start stopped old new fresh run =
    subst (λ (k : S). GivenSo (state start).left (state stopped.reader).left (λ given. Leaves (list_input r k) (exactly text) stopped.ending stopped.fault (state stopped.reader).ending given old new)) fresh.has_settled
    (list_run r state number (exactly text) start stopped old new fresh.is_open fresh.no_line fresh.no_octet (runs_alike list_faults stopped.ending stopped.fault old new t (exactly text) same run))

-- it ends by a read fault only where the source of the list failed
pub listed_failed : {S X C : Type 0} (r : Rules S X C) (s : S) (text : Text X C) (ending : Ending) (fault : Option (ItemFault C)) (z : InputEnd) (read : List ℕ) (old new : Option (List ℕ)) → Leaves (list_input r s) (exactly text) ending fault z read old new → ending ≡ ReadFault → z ≡ Failed
listed_failed r s text ending fault z read old new w = source_failed (list_input r s) (exactly text) ending fault z read old new (list_blames r s) (λ before e why is. refl) w
