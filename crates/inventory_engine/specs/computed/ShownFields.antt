-- What a sighting is of, and its fields.
use Rattle.std.specs.Prelude.{ℕ, List, Option}
use Rattle.pdu_core.specs.Views.{octets_if}
use Rattle.object_core.specs.Objects.{Field}
use Rattle.inventory_engine.specs.declared.sighting.Shown.{Shown}
use Rattle.inventory_engine.specs.declared.sighting.Shown.TheVariants as shown
use Rattle.inventory_engine.specs.declared.block_text.ShownBlock.{ShownBlock}
use Rattle.inventory_engine.specs.Configuration.{Configuration}
use Rattle.inventory_engine.specs.Sightings.{Sighting}
use Rattle.inventory_engine.specs.SightingObject.{block_fields, stream_fields}

-- how a control block is configured that is shown
abbrev pub configuration_shown : ShownBlock → Configuration
configuration_shown b = record { app_id = b.app_id; gocb_ref = b.gocb_ref.now; dat_set = b.dat_set.now; go_id = octets_if b.go_id; conf_rev = b.conf_rev; entries = b.entries }

-- the fields of a sighting, where its text is this
abbrev pub shown_fields : Shown → List ℕ → List Field
shown_fields (shown.Block block) text = block_fields text (configuration_shown block)
shown_fields (shown.Stream conf_rev sv_id) text = stream_fields conf_rev sv_id.now

-- the sighting of this text
abbrev pub sighting_by : Option ℕ → List ℕ → Shown → List ℕ → Sighting
sighting_by app_id name what text = record { app_id = app_id; name = name; text = text; fields = shown_fields what text }
