-- Reading a frame as a function on octets: laws tie it to what spells a frame and to its first fault.
use Rattle.std.specs.Prelude.{ℕ, ◌+◌, List, length, slice_range, Result, Ok, ◌==◌, Option, Some, None, if◌then◌else◌}
use Rattle.ber_core.specs.computed.Reading.{◌>>=◌}
use Rattle.ber_core.specs.declared.fault.Fault.{Fault}
use Rattle.frame_core.specs.computed.ApduReading.{apdu_value}
use Rattle.frame_core.specs.Envelope.{apdu_from, apdu_to, ether_place, word_at}
use Rattle.frame_core.specs.computed.EnvelopeReading.{envelope_judged}
use Rattle.frame_core.specs.declared.frame.Apdu.{Apdu}
use Rattle.frame_core.specs.declared.frame.Frame.{Frame}
use Rattle.frame_core.specs.declared.vlan_tag.VlanTag.{VlanTag}

-- the tag, if the octets behind the addresses announce one
abbrev pub tag_at : List ℕ → Option VlanTag
tag_at o = if word_at o 12 == 0x8100 then Some (record { control = word_at o 14 }) else None

-- the frame with this APDU, whose other parts stand in o
abbrev pub frame_around : {A : Type 0} → Apdu A → List ℕ → Frame A
frame_around a o = record {
  destination = slice_range o 0 6;
  source = slice_range o 6 12;
  tag = tag_at o;
  app_id = word_at o (ether_place o + 2);
  reserved1 = word_at o (ether_place o + 6);
  reserved2 = word_at o (ether_place o + 8);
  apdu = a;
  trailer = slice_range o (apdu_to o) (length o);
}

-- the envelope is judged first, then the APDU that its EtherType announces is read
unfoldable pub frame_at : {A : Type 0} → List ℕ → Result (Frame A) Fault
frame_at o = do
  i ← envelope_judged o
  a ← apdu_value (word_at o (ether_place o)) o (apdu_from o) (apdu_to o)
  Ok (frame_around a o)
