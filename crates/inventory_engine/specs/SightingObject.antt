-- The objects of sightings: what `blocks` writes as JSON.
use Rattle.std.specs.Prelude.{ℕ, List, [], ◌∷◌, ◌++◌, codes}
use Rattle.std.specs.Fmt.{decimal}
use Rattle.text_core.specs.Pieces.{quoted, two_octets}
use Rattle.object_core.specs.declared.counted.Counted.{Counted}
use Rattle.object_core.specs.EventObject.{event_fields}
use Rattle.object_core.specs.Objects.{Field, object_line, octets_value, text_or_null}
use Rattle.inventory_engine.specs.Configuration.{Configuration}

-- the fields of a control block by themselves; a goID that is there and empty is an empty text
abbrev pub name_fields : Configuration → List Field
name_fields c =
    (codes "appid", octets_value (two_octets c.app_id))
    ∷ (codes "gocbRef", quoted c.gocb_ref)
    ∷ (codes "datSet", quoted c.dat_set)
    ∷ (codes "goID", text_or_null c.go_id)
    ∷ (codes "confRev", decimal c.conf_rev)
    ∷ (codes "entries", decimal c.entries)
    ∷ []

-- the same behind the text of its line
abbrev pub block_fields : List ℕ → Configuration → List Field
block_fields text c = (codes "text", quoted text) ∷ name_fields c

-- the fields of a stream with this confRev and svID
abbrev pub stream_fields : ℕ → List ℕ → List Field
stream_fields conf_rev sv_id = (codes "confRev", decimal conf_rev) ∷ (codes "svID", quoted sv_id) ∷ []

-- the event, a kind, and the fields
abbrev pub sighting_object : Counted → ℕ → ℕ → List ℕ → List Field → List ℕ
sighting_object counted n moment kind fields = object_line (event_fields counted n moment kind ++ fields)
