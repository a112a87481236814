-- What a call that reads into memory answers. Where memory was refused nothing is said.
use Rattle.std.specs.Prelude.{◌≡◌, Result, Ok, Err}
use Rattle.ber_core.specs.declared.fault.Fault.{Fault}
use Rattle.mms_data.specs.declared.fault.ReadFault.{ReadFault}
use Rattle.mms_data.specs.declared.fault.ReadFault.TheVariants as errors

-- it answers what is seen as this value, unless memory was refused
abbrev pub ReadsAs : {X Y : Type 0} → (X → Y) → Result X ReadFault → Y → Type 0
ReadsAs view (Ok v) x = view v ≡ x
ReadsAs view (Err (errors.Memory e)) x = Unit {0}
ReadsAs view (Err (errors.Fault f)) x = ⊥

-- it answers this value, unless memory was refused
abbrev pub Reads : {X : Type 0} → Result X ReadFault → X → Type 0
Reads r x = ReadsAs (λ v. v) r x

-- the fault that it answers, if any, is such
abbrev pub IfRefused : {X : Type 0} → Result X ReadFault → (Fault → Type 0) → Type 0
IfRefused (Ok v) P = Unit {0}
IfRefused (Err (errors.Memory e)) P = Unit {0}
IfRefused (Err (errors.Fault f)) P = P f
