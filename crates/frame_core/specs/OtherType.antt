-- Frames of other protocols than GOOSE and Sampled Values.
use Rattle.std.specs.Prelude.{◌≡◌, ◌≤◌, ◌+◌, ◌&&◌, ◌||◌, ◌==◌, ℕ, Bool, List, length, nat_le, not, Option, Some, None, if◌then◌else◌}
use Rattle.frame_core.specs.Apdu.{IsApduType}
use Rattle.frame_core.specs.Envelope.{ether_place, word_at}
use Rattle.frame_core.specs.Frame.{SpellsFrame}
use Rattle.frame_core.specs.declared.frame.Frame.{Frame}

-- o, however long, reaches past its EtherType (IEEE 802.3), which is t and announces no APDU: it is behind a tag where there is one
-- (IEEE 802.1Q)
pub record IsOther (t : ℕ) (o : List ℕ) : Type 0 where
  pub addresses : 14 ≤ length o
  pub there : ether_place o + 2 ≤ length o
  pub ether_type : word_at o (ether_place o) ≡ t
  pub other : ¬ IsApduType t

-- this EtherType is neither that of GOOSE nor that of Sampled Values
abbrev pub is_other : ℕ → Bool
is_other t = not (t == 0x88b8 || t == 0x88ba)

-- the EtherType of such a frame, of no other one
abbrev pub other_type : List ℕ → Option ℕ
other_type o =
    if nat_le 14 (length o) && nat_le (ether_place o + 2) (length o) && is_other (word_at o (ether_place o))
    then Some (word_at o (ether_place o)) else None

-- octets of another protocol spell no frame of GOOSE or Sampled Values
abbrev pub OtherIsNoFrame : Type 0 → Type 0
OtherIsNoFrame A = (o : List ℕ) (t : ℕ) (f : Frame A) → IsOther t o → SpellsFrame f o → ⊥
