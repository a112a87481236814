-- What is appended in its written form spells the APDU that has a spelling.
use Rattle.std.proofs.Common.{◌≡◌, ◌++◌, List, Result, Ok, Err, refl}
use Rattle.std.specs.Prelude.{ℕ, ◌↔◌, IsOk, OnOk}
use Rattle.ber_core.specs.declared.fault.Full.{Full}
use Rattle.pdu_core.specs.Goose.{SpellsGoose}
use Rattle.pdu_core.specs.Sampled.{SpellsSv}
use Rattle.pdu_core.specs.SampledSpellable.{IsSpellableSv}
use Rattle.pdu_core.specs.SampledWritten.{HasWrittenSv, written_sv}
use Rattle.pdu_core.specs.Spellable.{IsSpellableGoose}
use Rattle.pdu_core.specs.Written.{Appends, HasWrittenGoose, written_goose}
use Rattle.pdu_core.specs.declared.goose.GoosePdu.{GoosePdu}
use Rattle.pdu_core.specs.declared.sampled.asdu.SvPdu.{SvPdu}
use Rattle.pdu_core.proofs.SampledWrittenSpelled.{written_sv_is_spelled}
use Rattle.pdu_core.proofs.WrittenSpelled.{written_is_spelled}

pub goose_appended : {A : Type 0} (p : GoosePdu A) (Room : Type 0) (r : Result (Unit {0}) Full) (old new : List ℕ) → IsOk r ↔ (HasWrittenGoose p × Room) → OnOk r (new ≡ old ++ written_goose p) → IsSpellableGoose p → OnOk r (Appends (SpellsGoose p) old new)
goose_appended p Room (Ok u) old new fits is spellable = (written_goose p, written_is_spelled p spellable (fits.0 refl).0, is)
goose_appended p Room (Err f) old new fits is spellable = tt

pub sv_appended : {A : Type 0} (p : SvPdu A) (Room : Type 0) (r : Result (Unit {0}) Full) (old new : List ℕ) → IsOk r ↔ (HasWrittenSv p × Room) → OnOk r (new ≡ old ++ written_sv p) → IsSpellableSv p → OnOk r (Appends (SpellsSv p) old new)
sv_appended p Room (Ok u) old new fits is spellable = (written_sv p, written_sv_is_spelled p spellable (fits.0 refl).0, is)
sv_appended p Room (Err f) old new fits is spellable = tt
