-- What a write of a line answers.
use Rattle.std.specs.Prelude.{◌≡◌, ℕ, List, Option, Bool, true, false, Result, Ok, Err}
use Rattle.std.specs.Io.KnownBytes.{Appends}
use Rattle.list_core.specs.Device.{AppendsPrefix}
use Rattle.list_core.specs.declared.whole_write.WriteFault.{WriteFault}
use Rattle.list_core.specs.declared.whole_write.WriteFault.TheVariants as fault

-- the text of what is listable was written, or a prefix of it where the sink failed; of what is not, nothing
abbrev pub WritesListable : {T : Type 0} → Type 0 → List ℕ → Result T WriteFault → Option (List ℕ) → Option (List ℕ) → Type 0
WritesListable listable text (Ok t) old new = listable × Appends old new text
WritesListable listable text (Err fault.WriteFailed) old new = listable × AppendsPrefix old new text
WritesListable listable text (Err fault.NotListable) old new = (listable → ⊥) × (new ≡ old)

-- whether the sink failed
abbrev pub write_failed : {T : Type 0} → Result T WriteFault → Bool
write_failed (Ok t) = false
write_failed (Err fault.NotListable) = false
write_failed (Err fault.WriteFailed) = true
