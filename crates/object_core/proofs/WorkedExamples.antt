-- The objects of a few values and events, computed: a wrong definition does not check.
use Rattle.std.proofs.Common.{◌≡◌, true, pos, negsuc, [], ◌∷◌, refl}
use Rattle.std.specs.Prelude.{codes, Some, from_bits}
use Rattle.std.specs.Float.{binary32, binary64, float_is_finite}
use lib.Ieee.{of_bits, of_fields}
use Rattle.std.specs.Fmt.{digits}
use Rattle.hex.specs.Hex.{encode_with}
use Rattle.ber_core.specs.declared.fault.Cause.TheVariants as causes
use Rattle.list_core.specs.declared.list_fault.ListCause.TheVariants as list
use Rattle.capture_core.specs.declared.capture_fault.CaptureCause.TheVariants as capture
use Rattle.mms_data.specs.Data.{boolean, bits, integer, unsigned, octets, visible, binary_time, mms_text, utc, simple, array, structure, items_of}
use Rattle.date_core.specs.DateText.{date_text, month_behind, year_behind}
use Rattle.object_core.specs.declared.counted.Counted.TheVariants as counted
use Rattle.object_core.specs.EventObject.{capture_fault_object, fault_object, list_fault_object}
use Rattle.object_core.specs.MemberObject.{AreMembers, IsFloatValue, IsMember, float_in}
use Rattle.object_core.specs.Times.{moment_of, quality_value}

pub record AreMemberObjects : Type 0 where
  pub truth : IsMember (simple (boolean true)) (codes "true")
  pub some_bits : IsMember (simple (bits 3 (0xff ∷ 0xf8 ∷ []))) (codes "{\"bits\":\"1111111111111\"}")
  pub no_bits : IsMember (simple (bits 0 [])) (codes "{\"bits\":\"\"}")
  pub below_zero : IsMember (simple (integer (negsuc 9223372036854775807))) (codes "{\"int\":-9223372036854775808}")
  pub greatest : IsMember (simple (unsigned 18446744073709551615)) (codes "{\"uint\":18446744073709551615}")
  pub some_octets : IsMember (simple (octets (1 ∷ 2 ∷ []))) (codes "{\"oct\":\"0102\"}")
  pub day_time : IsMember (simple (binary_time (0 ∷ 0 ∷ 0 ∷ 0 ∷ []))) (codes "{\"btime\":\"00000000\"}")
  pub mms : IsMember (simple (mms_text (0xc3 ∷ 0xa9 ∷ []))) (codes "{\"mms\":\"c3a9\"}")
  pub letters : IsMember (simple (visible (34 ∷ 92 ∷ 47 ∷ 126 ∷ []))) (codes "\"\\\"\\\\/~\"")
  pub nested : AreMembers (structure (items_of (array (items_of []) ∷ structure (items_of (simple (integer (pos 1)) ∷ [])) ∷ [])) ∷ []) (codes "[{\"structure\":[{\"array\":[]},{\"structure\":[{\"int\":1}]}]}]")
  pub none : AreMembers [] (codes "[]")

members : AreMemberObjects
unfolding digits encode_with
members = record {
  truth = refl;
  some_bits = refl;
  no_bits = refl;
  below_zero = refl;
  greatest = refl;
  some_octets = refl;
  day_time = refl;
  mms = refl;
  letters = refl;
  nested = (_ ∷ [], refl, ((_ ∷ _ ∷ [], refl, (([], refl, tt), ((_ ∷ [], refl, (refl, tt)), tt))), tt));
  none = ([], refl, tt);
}

pub record AreTimes : Type 0 where
  pub half : moment_of (record { seconds = 0x6553f100; fraction = 0x800000; quality = 0 }) ≡ 1700000000500000
  -- the fraction is cut, not rounded
  pub nearly_a_second : moment_of (record { seconds = 0x6553f100; fraction = 0xffffff; quality = 0 }) ≡ 1700000000999999
  pub last : moment_of (record { seconds = 0xffffffff; fraction = 0; quality = 0 }) ≡ 4294967295000000
  pub known : quality_value 0x8a ≡ codes "{\"leapSecondsKnown\":true,\"clockFailure\":false,\"clockNotSynchronized\":false,\"timeAccuracy\":10}"
  pub failure : quality_value 0x40 ≡ codes "{\"leapSecondsKnown\":false,\"clockFailure\":true,\"clockNotSynchronized\":false,\"timeAccuracy\":0}"
  pub all_set : quality_value 0xff ≡ codes "{\"leapSecondsKnown\":true,\"clockFailure\":true,\"clockNotSynchronized\":true,\"timeAccuracy\":31}"
  pub moment : IsMember (simple (utc (record { seconds = 0x6553f100; fraction = 0x800000; quality = 0x8a })))
      (codes "{\"utc\":\"6553f1008000008a\",\"time\":\"2023-11-14T22:13:20.500000Z\",\"quality\":{\"leapSecondsKnown\":true,\"clockFailure\":false,\"clockNotSynchronized\":false,\"timeAccuracy\":10}}")

times : AreTimes
unfolding digits encode_with quality_value date_text month_behind year_behind
times = record { half = refl; nearly_a_second = refl; last = refl; known = refl; failure = refl; all_set = refl; moment = refl }

pub record AreFaultObjects : Type 0 where
  pub frame : fault_object counted.Line 2 1700000000000000 (record { place = 1; cause = causes.Truncated })
      ≡ codes "{\"line\":2,\"microseconds\":1700000000000000,\"time\":\"2023-11-14T22:13:20.000000Z\",\"kind\":\"fault\",\"offset\":1,\"error\":\"Truncated\"}\n"
  pub later : fault_object counted.Packet 1 253402300800000000 (record { place = 0; cause = causes.Ends })
      ≡ codes "{\"packet\":1,\"microseconds\":253402300800000000,\"time\":null,\"kind\":\"fault\",\"offset\":0,\"error\":\"Ends\"}\n"
  pub line : list_fault_object (record { line = 2; cause = list.LineForm }) ≡ codes "{\"line\":2,\"kind\":\"list\",\"error\":\"LineForm\"}\n"
  pub capture_fault : capture_fault_object (record { number = 2; cause = capture.CaptureShort }) ≡ codes "{\"packet\":2,\"kind\":\"capture\",\"error\":\"CaptureShort\"}\n"

faults : AreFaultObjects
unfolding digits date_text month_behind year_behind
faults = record { frame = refl; later = refl; line = refl; capture_fault = refl }

pub record AreFloats : Type 0 where
  pub single : float_in (8 ∷ 0x43 ∷ 0xc8 ∷ 0 ∷ 0 ∷ []) ≡ Some (binary32, from_bits binary32 0x43c80000)
  pub double : float_in (11 ∷ 0x41 ∷ 0x70 ∷ 0 ∷ 0 ∷ 0x10 ∷ 0 ∷ 0 ∷ 0 ∷ []) ≡ Some (binary64, from_bits binary64 0x4170000010000000)
  pub not_a_number : IsFloatValue (8 ∷ 0x7f ∷ 0xc0 ∷ 0 ∷ 0 ∷ []) (codes "null")
  pub infinite : IsFloatValue (11 ∷ 0xff ∷ 0xf0 ∷ 0 ∷ 0 ∷ 0 ∷ 0 ∷ 0 ∷ 0 ∷ []) (codes "null")
  pub too_short : IsFloatValue (8 ∷ []) (codes "null")
  pub too_long : IsFloatValue (8 ∷ 0 ∷ 0 ∷ 0 ∷ 0 ∷ 0 ∷ 0 ∷ 0 ∷ 0 ∷ []) (codes "null")
  pub single_as_double : IsFloatValue (11 ∷ 0 ∷ 0 ∷ 0 ∷ 0 ∷ []) (codes "null")
  pub other_form : IsFloatValue (9 ∷ 0 ∷ 0 ∷ 0 ∷ 0 ∷ []) (codes "null")

floats : AreFloats
unfolding of_bits of_fields float_is_finite
floats = record { single = refl; double = refl; not_a_number = refl; infinite = refl; too_short = refl; too_long = refl; single_as_double = refl; other_form = refl }
