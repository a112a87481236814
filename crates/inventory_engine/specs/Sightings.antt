-- What the frames of a list show: each frame of GOOSE a control block, and each ASDU of Sampled Values a stream.
use Rattle.std.specs.Prelude.{ℕ, Bool, ◌&&◌, List, [], ◌∷◌, map, Option, Some, None, Result, Ok, Err, codes, if◌then◌else◌}
use Rattle.std.specs.List.{concat, flat_map}
use Rattle.std.specs.Fmt.{decimal}
use Rattle.ber_core.specs.declared.fault.Fault.{Fault}
use Rattle.pdu_core.specs.declared.sampled.asdu.Asdu.{Asdu}
use Rattle.list_core.specs.declared.event.Event.{Event}
use Rattle.list_core.specs.declared.event.EventKind.{EventKind}
use Rattle.list_core.specs.declared.event.EventKind.TheVariants as kinds
use Rattle.block_core.specs.Commas.{is_field}
use Rattle.frame_core.specs.declared.frame.Apdu.{Apdu}
use Rattle.frame_core.specs.declared.frame.Apdu.TheVariants as apdus
use Rattle.frame_core.specs.declared.frame.Frame.{Frame}
use Rattle.frame_core.specs.computed.FrameReading.{frame_at}
use Rattle.text_core.specs.Pieces.{four_digits, quoted, quoted_or_dash}
use Rattle.object_core.specs.Objects.{Field}
use Rattle.inventory_engine.specs.Configuration.{Configuration, configuration_of}
use Rattle.inventory_engine.specs.SightingObject.{block_fields, stream_fields}

-- A control block by its APPID and its gocbRef (IEC 61850-8-1), or a stream, which has no APPID here, by its svID (IEC 61850-9-2), the text that tells how it is configured, and the same by named fields.
pub record Sighting : Type 0 where
  pub app_id : Option ℕ
  pub name : List ℕ
  pub text : List ℕ
  pub fields : List Field

-- what tells control blocks and streams apart
abbrev pub Key : Type 0
Key = Option ℕ × List ℕ

-- the key of a sighting: APPID and gocbRef, or svID alone
abbrev pub key_of : Sighting → Key
key_of s = (s.app_id, s.name)

-- a text that is absent is empty in a BLOCK
abbrev pub text_or_none : Option (List ℕ) → List ℕ
text_or_none None = []
text_or_none (Some text) = text

-- the three texts of a control block can stand in a BLOCK
abbrev pub has_fields : Configuration → Bool
has_fields c = is_field c.gocb_ref && is_field c.dat_set && is_field (text_or_none c.go_id)

-- the BLOCK of a control block: APPID, gocbRef, datSet, goID, confRev and the count of members
abbrev pub block_parts : Configuration → List (List ℕ)
block_parts c =
    four_digits c.app_id
    ∷ codes ","
    ∷ c.gocb_ref
    ∷ codes ","
    ∷ c.dat_set
    ∷ codes ","
    ∷ text_or_none c.go_id
    ∷ codes ","
    ∷ decimal c.conf_rev
    ∷ codes ","
    ∷ decimal c.entries
    ∷ []

-- the same fields by their names, with texts between quotation marks
abbrev pub named_parts : Configuration → List (List ℕ)
named_parts c =
    codes "appid="
    ∷ four_digits c.app_id
    ∷ codes " ref="
    ∷ quoted c.gocb_ref
    ∷ codes " set="
    ∷ quoted c.dat_set
    ∷ codes " id="
    ∷ quoted_or_dash c.go_id
    ∷ codes " rev="
    ∷ decimal c.conf_rev
    ∷ codes " entries="
    ∷ decimal c.entries
    ∷ []

-- the text of a control block: a BLOCK, where its texts can stand in one
abbrev pub block_text : Configuration → List ℕ
block_text c = if has_fields c then concat (block_parts c) else concat (named_parts c)

-- a control block that is configured so
abbrev pub block_sighting : Configuration → Sighting
block_sighting c = record { app_id = Some c.app_id; name = c.gocb_ref; text = block_text c; fields = block_fields (block_text c) c }

-- the text of a stream: svID and confRev
abbrev pub stream_parts : ℕ → List ℕ → List (List ℕ)
stream_parts conf_rev sv_id = codes "id=" ∷ quoted sv_id ∷ codes " rev=" ∷ decimal conf_rev ∷ []

-- a stream of this confRev and svID
abbrev pub stream_by : ℕ → List ℕ → Sighting
stream_by conf_rev sv_id = record { app_id = None; name = sv_id; text = concat (stream_parts conf_rev sv_id); fields = stream_fields conf_rev sv_id }

-- the stream of an ASDU
abbrev pub stream_sighting : {A : Type 0} → Asdu A → Sighting
stream_sighting a = stream_by a.conf_rev a.sv_id

-- the streams of several ASDUs, in their order
abbrev pub stream_sightings : {A : Type 0} → List (Asdu A) → List Sighting
stream_sightings asdus = map stream_sighting asdus

-- what an APDU in a frame with this APPID shows
abbrev pub sightings_with : {A : Type 0} → ℕ → Apdu A → List Sighting
sightings_with app_id (apdus.Goose p) = block_sighting (configuration_of app_id p) ∷ []
sightings_with app_id (apdus.Sampled p) = stream_sightings p.asdus

-- what octets show, which read so
abbrev pub sightings_read : {A : Type 0} → Result (Frame A) Fault → List Sighting
sightings_read (Ok f) = sightings_with f.app_id f.apdu
sightings_read (Err f) = []

-- what an event shows
abbrev pub sightings_of : {A : Type 0} → EventKind A → List Sighting
sightings_of (kinds.Frame octets) = sightings_read {A = Unit {0}} (frame_at octets)
sightings_of kinds.Clock = []
sightings_of (kinds.Mode on) = []

-- what several events show, in their order
abbrev pub sightings_in : {A : Type 0} → List (ℕ × Event A) → List Sighting
sightings_in items = flat_map (λ e. sightings_of e.1.kind) items
