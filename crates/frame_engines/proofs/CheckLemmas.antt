-- What is noted of a frame that was read.
use Rattle.std.proofs.Common.{◌≡◌, ◌++◌, ℕ, List, [], Bool, true, false, Ok, Err, Result, ap, sym, ◌∙◌, refl, arith, length-append}
use Rattle.std.specs.Prelude.{Option, Some, None, ◌≢◌, ◌∷◌, ◌↔◌, IsErr, OnOk, codes, if◌then◌else◌, length, nat_lt}
use Rattle.std.proofs.lemmas.Bool.Decides.{nat_tests}
use Rattle.std.specs.Fmt.{decimal}
use Rattle.std.specs.Str.{bytes_eq}
use Rattle.std.proofs.lemmas.Slice.Eq.{bytes_eq-Decides}
use Rattle.ber_core.specs.declared.fault.Full.{Full}
use Rattle.frame_core.specs.declared.frame.Frame.{Frame}
use Rattle.frame_core.specs.Written.{ApduIsSpellable, IsTooLong, written_frame}
use Rattle.frame_core.specs.computed.WrittenTest.{fits}
use Rattle.object_core.specs.declared.counted.Form.{Form}
use Rattle.object_core.specs.declared.counted.Form.TheVariants.{Text, Object}
use Rattle.frame_engines.specs.declared.engines.check.Note.{Note}
use Rattle.frame_engines.specs.declared.engines.check.Note.TheVariants.{NotWritten, Destination}
use Rattle.list_core.specs.declared.event.EventKind.TheVariants as kind
use Rattle.frame_core.specs.computed.FrameReading.{frame_at}
use Rattle.frame_engines.specs.computed.InForm.{frame_notes_in, note_in, octets_notes_in}
use Rattle.frame_engines.specs.CheckObject.{notes_in}
use Rattle.frame_engines.specs.CheckText.{goes_where_recommended, has_text, is_form}
use Rattle.frame_engines.specs.WrittenForm.{fitting_form, written_form}
use Rattle.list_core.proofs.Emptiness.{back_nil}
use Rattle.frame_engines.proofs.RewriteLemmas.{form_known, form_seen}

-- nothing is noted only where it holds
pub note_holds : (form : Form) (n moment : ℕ) (note : Note) (holds : Bool) → note_in form n moment note holds ≡ [] → holds ≡ true
note_holds form n moment note true e = refl
note_holds Text n moment NotWritten false e = let h = back_nil (decimal n) (codes " not-written\n") e in cc
note_holds Text n moment Destination false e = let h = back_nil (decimal n) (codes " destination\n") e in cc
note_holds (Object counted) n moment note false e = cc

-- a text was appended to so many octets, where there is one
pub text_there : (n m : ℕ) (old new text : List ℕ) → n ≡ length old → m ≡ length new → new ≡ old ++ text → nat_lt n m ≡ has_text text
text_there n m old new [] p q e = let same = ap length e in let none = length-append old [] in grind (arith, nat_tests)
text_there n m old new (c ∷ text) p q e = let same = ap length e in let more = length-append old (c ∷ text) in grind (arith, nat_tests)

-- what was written is compared with the octets
pub form_compared : {A : Type 0} (f : Frame A) (form octets : List ℕ) (r : Result (Unit {0}) Full) (u : Unit {0}) (same : Bool) → ApduIsSpellable f.apdu → (IsErr r ↔ IsTooLong f)
    → OnOk r (form ≡ written_frame f) → r ≡ Ok u → same ≡ bytes_eq form octets → same ≡ is_form (fitting_form (Ok f)) octets
form_compared f form octets (Ok u) v same spelled long is h e =
    e ∙ sym (ap (λ (x : Option (List ℕ)). is_form x octets) (form_seen f form (Ok u) spelled long is))
form_compared f form octets (Err x) v same spelled long is h e = cc

-- octets that are known to be the written form are compared with nothing
pub own_form : {A : Type 0} (f : Frame A) (octets : List ℕ) → (octets ≡ written_frame f) × (fits f ≡ true) → true ≡ is_form (fitting_form (Ok f)) octets
own_form f octets known =
    sym ((bytes_eq-Decides octets octets).1 refl) ∙ ap (λ (x : Option (List ℕ)). is_form x octets) (sym (form_known f octets known))

-- what does not hold is false
not_so : (b : Bool) → (b ≡ true → ⊥) → false ≡ b
not_so true wrong = absurd (wrong refl)
not_so false wrong = refl

-- octets of another count than the written form has are not those of the form
pub another_length : {A : Type 0} (f : Frame A) (octets : List ℕ) → length (written_frame f) ≢ length octets → false ≡ is_form (fitting_form (Ok f)) octets
another_length f octets differ = in_case (fits f) where
  in_case : (b : Bool) → false ≡ is_form (if b then Some (written_frame f) else None) octets
  in_case true = not_so (bytes_eq (written_frame f) octets) (λ same. differ (ap length ((bytes_eq-Decides (written_frame f) octets).0 same)))
  in_case false = refl

-- what is noted of the event of a frame is what is noted of its octets
pub notes_of_frame : (A : Type 0) (form : Form) (n moment : ℕ) (octets : List ℕ) → octets_notes_in form n moment octets ≡ notes_in {A = A} form n moment (kind.Frame octets)
notes_of_frame A Text n moment octets = refl
notes_of_frame A (Object counted) n moment octets = refl

-- what is noted of octets that are read so, where it is known whether they are those of their written form
pub notes_of_read : (form : Form) (n moment : ℕ) (o : List ℕ) (f : Frame (Unit {0})) (written : Bool) → frame_at o ≡ Ok f → written ≡ is_form (written_form o) o
    → note_in form n moment NotWritten written ++ note_in form n moment Destination (goes_where_recommended f) ≡ octets_notes_in form n moment o
notes_of_read form n moment o f written read is = in_form form where
  known : written ≡ is_form (fitting_form (Ok f)) o
  known = is ∙ ap (λ r. is_form (fitting_form r) o) read

  in_form : (g : Form) → note_in g n moment NotWritten written ++ note_in g n moment Destination (goes_where_recommended f) ≡ octets_notes_in g n moment o
  in_form Text = ap (λ b. note_in Text n moment NotWritten b ++ note_in Text n moment Destination (goes_where_recommended f)) known ∙ sym (ap (λ r. frame_notes_in Text n moment o r) read)
  in_form (Object counted) = ap (λ b. note_in (Object counted) n moment NotWritten b ++ note_in (Object counted) n moment Destination (goes_where_recommended f)) known ∙ sym (ap (λ r. frame_notes_in (Object counted) n moment o r) read)
