-- The objects of a few control blocks and streams, computed: a wrong definition does not check.
use Rattle.std.proofs.Common.{◌≡◌, ℕ, List, Option, Some, None, [], refl}
use Rattle.std.specs.Prelude.{codes}
use Rattle.std.specs.Fmt.{digits}
use Rattle.hex.specs.Hex.{encode_with}
use Rattle.date_core.specs.DateText.{date_text, month_behind, year_behind}
use Rattle.object_core.specs.declared.counted.Counted.TheVariants.{Line}
use Rattle.object_core.specs.declared.counted.Form.TheVariants.{Object}
use Rattle.inventory_engine.specs.BlocksText.{telling}
use Rattle.inventory_engine.specs.Sightings.{Sighting, block_sighting}

-- a control block with this gocbRef and goID
abbrev shown : List ℕ → Option (List ℕ) → Sighting
shown gocb_ref go_id = block_sighting (record { app_id = 1; gocb_ref = gocb_ref; dat_set = codes "D"; go_id = go_id; conf_rev = 1; entries = 0 })

pub record AreBlockObjects : Type 0 where
  pub first : (telling (Object Line) 2 1700000000000000).of_first (shown (codes "G") None)
      ≡ codes "{\"line\":2,\"microseconds\":1700000000000000,\"time\":\"2023-11-14T22:13:20.000000Z\",\"kind\":\"block\",\"text\":\"0001,G,D,,1,0\",\"appid\":\"0001\",\"gocbRef\":\"G\",\"datSet\":\"D\",\"goID\":null,\"confRev\":1,\"entries\":0}\n"
  -- a goID that is there and empty
  pub empty : (telling (Object Line) 3 1700000000000000).of_changed (shown (codes "G") (Some []))
      ≡ codes "{\"line\":3,\"microseconds\":1700000000000000,\"time\":\"2023-11-14T22:13:20.000000Z\",\"kind\":\"block-changed\",\"text\":\"0001,G,D,,1,0\",\"appid\":\"0001\",\"gocbRef\":\"G\",\"datSet\":\"D\",\"goID\":\"\",\"confRev\":1,\"entries\":0}\n"
  -- one that no BLOCK can tell
  pub comma : (telling (Object Line) 2 1700000000000000).of_first (shown (codes "a,\"b") None)
      ≡ codes "{\"line\":2,\"microseconds\":1700000000000000,\"time\":\"2023-11-14T22:13:20.000000Z\",\"kind\":\"block\",\"text\":\"appid=0001 ref=\\\"a,\\\\\\\"b\\\" set=\\\"D\\\" id=- rev=1 entries=0\",\"appid\":\"0001\",\"gocbRef\":\"a,\\\"b\",\"datSet\":\"D\",\"goID\":null,\"confRev\":1,\"entries\":0}\n"

block_objects : AreBlockObjects
unfolding digits encode_with date_text month_behind year_behind
block_objects = record { first = refl; empty = refl; comma = refl }
