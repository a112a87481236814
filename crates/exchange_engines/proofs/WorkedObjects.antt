-- The objects of a few entries and samples, computed: a wrong definition does not check.
use Rattle.std.proofs.Common.{◌≡◌, List, true, None, [], ◌∷◌, refl}
use Rattle.std.specs.Prelude.{codes}
use Rattle.std.specs.Fmt.{digits}
use Rattle.hex.specs.Hex.{encode_with}
use Rattle.mms_data.specs.Data.{boolean, simple}
use Rattle.mms_data.specs.declared.time.UtcTime.{UtcTime}
use Rattle.block_core.specs.declared.block.Block.{Block}
use Rattle.subscribe_core.specs.declared.entry.Entry.TheVariants as says
use Rattle.subscribe_core.specs.declared.entry.Reason.TheVariants as reason
use Rattle.subscribe_core.specs.declared.watch.Seen.TheVariants as seen
use Rattle.date_core.specs.DateText.{date_text, month_behind, year_behind}
use Rattle.object_core.specs.declared.counted.Counted.TheVariants.{Line, Packet}
use Rattle.object_core.specs.Times.{quality_value}
use Rattle.exchange_engines.specs.EntryObject.{IsEntryObject, twice_object}
use Rattle.exchange_engines.specs.SampleObject.{sample_object}

-- the control block G, and one of which the gocbRef has a quotation mark and a backslash
abbrev blocks : List (Block (Unit {0}))
blocks =
    record { app_id = 1; gocb_ref = codes "G"; dat_set = codes "D"; go_id = None; conf_rev = 1; entries = 1 }
    ∷ record { app_id = 0xabcd; gocb_ref = codes "a\"b\\"; dat_set = codes "D"; go_id = None; conf_rev = 1; entries = 1 } ∷ []

-- half a second behind 2023-11-14T22:13:20Z
abbrev t : UtcTime
t = record { seconds = 0x6553f100; fraction = 0x800000; quality = 0 }

pub record AreEntryObjects : Type 0 where
  pub act : IsEntryObject Line blocks 2 1700000000503000 (says.Act 0 1 0 t (simple (boolean true) ∷ []))
      (codes "{\"line\":2,\"microseconds\":1700000000503000,\"time\":\"2023-11-14T22:13:20.503000Z\",\"kind\":\"act\",\"block\":0,\"appid\":\"0001\",\"gocbRef\":\"G\",\"t\":\"6553f10080000000\",\"tTime\":\"2023-11-14T22:13:20.500000Z\",\"tQuality\":{\"leapSecondsKnown\":false,\"clockFailure\":false,\"clockNotSynchronized\":false,\"timeAccuracy\":0},\"delay\":3000,\"stNum\":1,\"sqNum\":0,\"members\":[true]}\n")
  -- t is later than the event
  pub early : IsEntryObject Packet blocks 3 1700000000499999 (says.Act 1 2 0 t [])
      (codes "{\"packet\":3,\"microseconds\":1700000000499999,\"time\":\"2023-11-14T22:13:20.499999Z\",\"kind\":\"act\",\"block\":1,\"appid\":\"abcd\",\"gocbRef\":\"a\\\"b\\\\\",\"t\":\"6553f10080000000\",\"tTime\":\"2023-11-14T22:13:20.500000Z\",\"tQuality\":{\"leapSecondsKnown\":false,\"clockFailure\":false,\"clockNotSynchronized\":false,\"timeAccuracy\":0},\"delay\":-1,\"stNum\":2,\"sqNum\":0,\"members\":[]}\n")
  pub refreshed : IsEntryObject Line blocks 3 1700000000000000 (says.Refreshed 0 1 1)
      (codes "{\"line\":3,\"microseconds\":1700000000000000,\"time\":\"2023-11-14T22:13:20.000000Z\",\"kind\":\"refreshed\",\"block\":0,\"appid\":\"0001\",\"gocbRef\":\"G\",\"stNum\":1,\"sqNum\":1}\n")
  pub expired : IsEntryObject Line blocks 6 1700000002000000 (says.Expired 0)
      (codes "{\"line\":6,\"microseconds\":1700000002000000,\"time\":\"2023-11-14T22:13:22.000000Z\",\"kind\":\"expired\",\"block\":0,\"appid\":\"0001\",\"gocbRef\":\"G\"}\n")
  pub refused : IsEntryObject Line blocks 2 0 (says.Refused 0 reason.ConfRev)
      (codes "{\"line\":2,\"microseconds\":0,\"time\":\"1970-01-01T00:00:00.000000Z\",\"kind\":\"refused\",\"block\":0,\"appid\":\"0001\",\"gocbRef\":\"G\",\"reason\":\"ConfRev\"}\n")
  pub not_subscribed : IsEntryObject Line blocks 3 253402300800000000 says.NotSubscribed (codes "{\"line\":3,\"microseconds\":253402300800000000,\"time\":null,\"kind\":\"not-subscribed\"}\n")
  pub twice : twice_object blocks 0 ≡ codes "{\"kind\":\"blocks\",\"block\":0,\"appid\":\"0001\",\"gocbRef\":\"G\",\"error\":\"SameBlockTwice\"}\n"

entry_objects : AreEntryObjects
unfolding digits encode_with quality_value date_text month_behind year_behind
entry_objects = record {
  act = (codes "[true]", (_ ∷ [], refl, (refl, tt)), refl);
  early = (codes "[]", ([], refl, tt), refl);
  refreshed = refl;
  expired = refl;
  refused = refl;
  not_subscribed = refl;
  twice = refl;
}

pub record AreSampleObjects : Type 0 where
  pub skipped : sample_object Line 2 1700000000000000 (record { position = 2; count = 3 }) (seen.Skipped 2)
      ≡ codes "{\"line\":2,\"microseconds\":1700000000000000,\"time\":\"2023-11-14T22:13:20.000000Z\",\"kind\":\"skipped\",\"asdu\":2,\"smpCnt\":3,\"missing\":2}\n"
  pub late : sample_object Line 2 0 (record { position = 4; count = 2 }) seen.Late
      ≡ codes "{\"line\":2,\"microseconds\":0,\"time\":\"1970-01-01T00:00:00.000000Z\",\"kind\":\"late\",\"asdu\":4,\"smpCnt\":2}\n"

sample_objects : AreSampleObjects
unfolding digits date_text month_behind year_behind
sample_objects = record { skipped = refl; late = refl }
