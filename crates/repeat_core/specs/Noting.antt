-- Noting where the parts of an APDU of GOOSE stand.
use Rattle.std.specs.Prelude.{◌≡◌, ℕ, List, length, Option, Some, None}
use Rattle.ber_core.specs.declared.element.Header.{Header}
use Rattle.pdu_core.specs.declared.goose.GoosePdu.{GoosePdu}
use Rattle.repeat_core.specs.Noted.{IsPlaced, noted_pdu}
use Rattle.repeat_core.specs.Numbered.{goose_numbered}
use Rattle.repeat_core.specs.Standing.{HasMembers, StandsAround}
use Rattle.repeat_core.specs.declared.notes.Notes.{Notes}
use Rattle.repeat_core.specs.declared.notes.Part.{Part}

-- the place behind an element that may stand at a place
abbrev pub place_behind : ℕ → Option Header → ℕ
place_behind p None = p
place_behind p (Some h) = h.contents_to

-- the contents of an element that may stand at a place
abbrev pub part_behind : ℕ → Option Header → Part
part_behind p None = record { from = p; to = p }
part_behind p (Some h) = record { from = h.contents_from; to = h.contents_to }

-- the APDU stands in these octets as is noted
pub record IsNoted (p : GoosePdu (Unit {0})) (o : List ℕ) (n : Notes) : Type 0 where
  pub pdu : noted_pdu o n 0 0 ≡ goose_numbered 0 0 p
  pub placed : IsPlaced (length o) n
  pub members : HasMembers o n
  pub around : StandsAround (noted_pdu o n 0 0) o n
