-- Where a frame of GOOSE stands in octets of which something is noted, and what is known of octets that are alike.
use Rattle.std.specs.Prelude.{◌≡◌, ◌≤◌, ◌+◌, ◌-◌, ℕ, List, ◌∷◌, length, slice_range, take, drop, Option, Ok}
use Rattle.ber_core.specs.Element.{contents_of}
use Rattle.ber_core.specs.Fields.{SpellsFields}
use Rattle.ber_core.specs.Length.{Len}
use Rattle.ber_core.specs.declared.element.Header.{Header}
use Rattle.mms_data.specs.computed.Left.{AreMembers, data_in}
use Rattle.pdu_core.specs.Contents.{Item, SpellsContents, a_number, contents_grammar, number}
use Rattle.pdu_core.specs.Goose.{SpellsGoose, goose_fields, goose_items}
use Rattle.pdu_core.specs.declared.goose.GoosePdu.{GoosePdu}
use Rattle.frame_core.specs.Envelope.{apdu_to, ether_place, word_at}
use Rattle.frame_core.specs.computed.EnvelopeReading.{envelope_judged}
use Rattle.repeat_core.specs.Noted.{IsPlaced, noted_pdu, part_of}
use Rattle.repeat_core.specs.declared.notes.Notes.{Notes}

-- the envelope of a frame of GOOSE stands in these octets, its EtherType at a place and its APDU up to another
pub record HasEnvelopeAt (o : List ℕ) (place end : ℕ) : Type 0 where
  pub judged : envelope_judged o ≡ Ok tt
  pub announced : word_at o (ether_place o) ≡ 0x88b8
  pub place_is : place ≡ ether_place o
  pub end_is : end ≡ apdu_to o

-- the same at the places that are noted
abbrev pub HasEnvelope : List ℕ → Notes → Type 0
HasEnvelope o n = HasEnvelopeAt o n.ether_type n.end

-- an element of this identifier fills the octets from where its header begins to where that ends it
pub record HasFront (id : ℕ) (o : List ℕ) (h : Header) : Type 0 where
  pub size : List ℕ
  pub header : slice_range o h.at h.contents_from ≡ id ∷ size
  pub sized : Len (h.contents_to - h.contents_from) size

-- The element 61 fills the octets from at to end. In its contents some fields stand before timeAllowedtoLive, between it and
-- sqNum, and behind that, with these values: nothing is said of what the contents of the two say.
pub record Around (us vs ws : List (Option Item)) (o : List ℕ) (n : Notes) : Type 0 where
  pub contents_from : ℕ
  pub size : List ℕ
  pub begins : n.ether_type + 10 ≤ contents_from
  pub front : contents_from ≤ n.live.at
  pub header : slice_range o (n.ether_type + 10) contents_from ≡ 0x61 ∷ size
  pub sized : Len (n.end - contents_from) size
  pub before : SpellsFields contents_grammar (take 1 goose_fields) us (slice_range o contents_from n.live.at)
  pub between : SpellsFields contents_grammar (take 4 (drop 2 goose_fields)) vs (slice_range o n.live.contents_to n.sq_num.at)
  pub after : SpellsFields contents_grammar (drop 7 goose_fields) ws (slice_range o n.sq_num.contents_to n.end)
  pub live : HasFront 0x81 o n.live
  pub sq_num : HasFront 0x86 o n.sq_num

-- the fields that the APDU has beside the two numbers stand around these
abbrev pub StandsAround : GoosePdu (Unit {0}) → List ℕ → Notes → Type 0
StandsAround p o n = Around (take 1 (goose_items p)) (take 4 (drop 2 (goose_items p))) (drop 7 (goose_items p)) o n

-- the members that are noted stand in these octets, and are counted
pub record HasMembers (o : List ℕ) (n : Notes) : Type 0 where
  pub spelled : AreMembers 16 (part_of o n.members)
  pub counted : n.entries ≡ length (data_in 16 (part_of o n.members))

-- a frame of GOOSE stands in these octets as is noted
pub record Stands (o : List ℕ) (n : Notes) : Type 0 where
  pub envelope : HasEnvelope o n
  pub members : HasMembers o n
  pub around : StandsAround (noted_pdu o n 0 0) o n

-- the contents of an element spell this number
abbrev pub SpellsNumber : ℕ → List ℕ → Header → Type 0
SpellsNumber n o h = SpellsContents number (a_number n) (contents_of o h)

-- the frame that is noted stands in these octets, with these numbers
pub record Shows (o : List ℕ) (n : Notes) (live sq_num : ℕ) : Type 0 where
  pub placed : IsPlaced (length o) n
  pub envelope : HasEnvelope o n
  pub members : HasMembers o n
  pub spelled : SpellsGoose {A = Unit {0}} (noted_pdu o n live sq_num) (slice_range o (n.ether_type + 10) n.end)
