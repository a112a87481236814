-- The texts of a few values and lines, computed, as docs/FORMATS.md shows them: a wrong definition does not check.
use Rattle.std.proofs.Common.{◌≡◌, true, pos, negsuc, [], ◌∷◌, refl}
use Rattle.std.specs.Prelude.{codes}
use Rattle.std.specs.Fmt.{digits}
use Rattle.hex.specs.Hex.{encode_with}
use Rattle.ber_core.specs.declared.fault.Cause.TheVariants as causes
use Rattle.list_core.specs.declared.list_fault.ListCause.TheVariants as list
use Rattle.capture_core.specs.declared.capture_fault.CaptureCause.TheVariants as capture
use Rattle.mms_data.specs.Data.{boolean, bits, integer, unsigned, floating, octets, visible, binary_time, mms_text, utc, simple, array, structure, items_of}
use Rattle.text_core.specs.LineText.{capture_line, clock_line, fault_line, list_fault_line}
use Rattle.text_core.specs.ValueText.{members_text, simple_text, value_text}

pub record AreTexts : Type 0 where
  pub truth : simple_text (boolean true) ≡ codes "true"
  pub double_point : simple_text (bits 6 (0x80 ∷ [])) ≡ codes "bits:10"
  pub no_bits : simple_text (bits 0 []) ≡ codes "bits:"
  pub below_zero : simple_text (integer (negsuc 1)) ≡ codes "int:-2"
  pub above : simple_text (integer (pos 10)) ≡ codes "int:10"
  pub without_sign : simple_text (unsigned 10) ≡ codes "uint:10"
  pub float : simple_text (floating (8 ∷ 0x3f ∷ 0x80 ∷ 0 ∷ 0 ∷ [])) ≡ codes "float:083f800000"
  pub some_octets : simple_text (octets (0xab ∷ [])) ≡ codes "oct:ab"
  pub no_octets : simple_text (octets []) ≡ codes "oct:"
  pub letters : simple_text (visible (65 ∷ 34 ∷ 92 ∷ [])) ≡ 34 ∷ 65 ∷ 92 ∷ 34 ∷ 92 ∷ 92 ∷ 34 ∷ []
  pub day_time : simple_text (binary_time (0 ∷ 1 ∷ 2 ∷ 3 ∷ [])) ≡ codes "btime:00010203"
  pub mms : simple_text (mms_text (65 ∷ [])) ≡ codes "mms:41"
  pub moment : simple_text (utc (record { seconds = 0x01020304; fraction = 0x050607; quality = 0x0a })) ≡ codes "utc:010203040506070a"
  pub nested : value_text (structure (items_of (simple (boolean true) ∷ array (items_of []) ∷ []))) ≡ codes "(true [])"
  pub several : members_text (simple (unsigned 1) ∷ simple (unsigned 2) ∷ []) ≡ codes "{uint:1 uint:2}"
  pub none : members_text [] ≡ codes "{}"

texts : AreTexts
unfolding digits encode_with
texts = record { truth = refl; double_point = refl; no_bits = refl; below_zero = refl; above = refl; without_sign = refl; float = refl; some_octets = refl; no_octets = refl; letters = refl; day_time = refl; mms = refl; moment = refl; nested = refl; several = refl; none = refl }

pub record AreShortLines : Type 0 where
  pub clock : clock_line 3 1500000 ≡ codes "3 clock 1500000\n"
  pub fault : fault_line 12 (record { place = 59; cause = causes.EntryCount }) ≡ codes "12 fault 59 EntryCount\n"
  pub last : list_fault_line (record { line = 7; cause = list.LineForm }) ≡ codes "7 list LineForm\n"
  pub last_of_capture : capture_line (record { number = 7; cause = capture.BlockForm }) ≡ codes "7 capture BlockForm\n"

short_lines : AreShortLines
unfolding digits
short_lines = record { clock = refl; fault = refl; last = refl; last_of_capture = refl }
