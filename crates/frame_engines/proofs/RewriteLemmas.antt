-- The written form of a frame that was read.
use Rattle.std.proofs.Common.{◌≡◌, ℕ, List, Some, None, Ok, Err, Result, refl, ap, sym, ◌∙◌, Bool, true}
use Rattle.std.specs.Prelude.{◌↔◌, IsErr, OnOk, if◌then◌else◌, is_ok}
use Rattle.ber_core.specs.declared.fault.Fault.{Fault}
use Rattle.ber_core.specs.declared.fault.Full.{Full}
use Rattle.frame_core.specs.declared.frame.Frame.{Frame}
use Rattle.frame_core.specs.declared.frame_view.FrameView.{FrameView}
use Rattle.frame_core.specs.FrameViews.{frame_of}
use Rattle.frame_core.specs.computed.FrameReading.{frame_at}
use Rattle.frame_core.specs.Written.{ApduIsSpellable, IsTooLong, written_frame}
use Rattle.frame_core.specs.computed.WrittenTest.{fits}
use Rattle.frame_core.proofs.PutLaws.{fits_short, too_long_fails}
use Rattle.frame_engines.specs.WrittenForm.{fitting_form, written_form}

-- a frame with spellings of its fields is written exactly where it is not too long, and what is written is the fitting form
pub form_seen : {A : Type 0} (f : Frame A) (o : List ℕ) (r : Result (Unit {0}) Full) → ApduIsSpellable f.apdu → (IsErr r ↔ IsTooLong f) → OnOk r (o ≡ written_frame f)
    → fitting_form (Ok f) ≡ (if is_ok r then Some o else None)
form_seen f o (Err e) spelled long is = ap (λ (b : Bool). if b then Some (written_frame f) else None) (too_long_fails f (long.0 refl))
form_seen f o (Ok u) spelled long is =
    ap (λ (b : Bool). if b then Some (written_frame f) else None) (fits_short f spelled (λ more. let none = long.1 more in cc))
    ∙ ap (λ (l : List ℕ). Some l) (sym is)

-- what is written of what was read is the written form of the frame which the octets spell
pub form_read : (octets : List ℕ) (v : FrameView) (o : List ℕ) (r : Result (Unit {0}) Full) → frame_at octets ≡ Ok (frame_of {A = Unit {0}} v)
    → ApduIsSpellable (frame_of {A = Unit {0}} v).apdu → (IsErr r ↔ IsTooLong (frame_of {A = Unit {0}} v))
    → OnOk r (o ≡ written_frame (frame_of {A = Unit {0}} v)) → written_form octets ≡ (if is_ok r then Some o else None)
form_read octets v o r e spelled long is =
    ap (λ (x : Result (Frame (Unit {0})) Fault). fitting_form x) e ∙ form_seen (frame_of {A = Unit {0}} v) o r spelled long is

-- octets that are the written form of the frame that was read are the form themselves
pub form_known : {A : Type 0} (f : Frame A) (octets : List ℕ) → (octets ≡ written_frame f) × (fits f ≡ true) → fitting_form (Ok f) ≡ Some octets
form_known f octets (is, fit) = ap (λ (b : Bool). if b then Some (written_frame f) else None) fit ∙ ap (λ (l : List ℕ). Some l) (sym is)
