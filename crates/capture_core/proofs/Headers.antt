-- What the header of a capture says of the octets behind it.
use Rattle.std.proofs.Common.{◌≡◌, ℕ, false, ltb, List, ◌++◌, length, drop, Option, ap, ◌∙◌, arith}
use Rattle.std.proofs.lemmas.List.{take_at, drop_at, length-append}
use Rattle.std.proofs.lemmas.Bool.Decides.{nat_tests}
use Rattle.list_core.specs.declared.device.InputEnd.{InputEnd}
use Rattle.capture_core.specs.declared.form.CaptureForm.{CaptureForm}
use Rattle.capture_core.specs.Header.{header_of}
use Rattle.capture_core.specs.Capture.{records_behind, capture}

-- a whole header stands first
pub capture_first : (z : InputEnd) (header more : List ℕ) (form : Option CaptureForm) → length header ≡ 24 → form ≡ header_of header → capture z (header ++ more) ≡ records_behind form z more
capture_first z header more form h e =
    let whole : ltb (length (header ++ more)) 24 ≡ false = simp length-append (grind (arith, nat_tests)) in
    rw (whole, e) (ap (λ l. records_behind (header_of l) z (drop 24 (header ++ more))) (take_at header more 24 h) ∙ ap (records_behind (header_of header) z) (drop_at header more 24 h))
