-- The objects of a subscriber's entries: what `replay` writes as JSON, one object for each entry.
use Rattle.std.specs.Prelude.{◌≡◌, ℕ, ℤ, pos, ◌-ℤ◌, List, [], ◌∷◌, ◌++◌, Option, Some, None, slice_get, codes}
use Rattle.std.specs.Fmt.{decimal, signed_decimal}
use Rattle.mms_data.specs.Data.{Data}
use Rattle.mms_data.specs.declared.time.UtcTime.{UtcTime}
use Rattle.block_core.specs.declared.block.Block.{Block}
use Rattle.subscribe_core.specs.declared.entry.Entry.{Entry}
use Rattle.subscribe_core.specs.declared.entry.Entry.TheVariants as says
use Rattle.text_core.specs.Pieces.{quoted, two_octets}
use Rattle.object_core.specs.declared.counted.Counted.{Counted}
use Rattle.object_core.specs.EventObject.{event_fields, fault_object}
use Rattle.object_core.specs.MemberObject.{AreMembers}
use Rattle.object_core.specs.Objects.{Field, in_quotes, object_line, octets_value}
use Rattle.object_core.specs.Times.{moment_of, time_fields}
use Rattle.exchange_engines.specs.ExchangeNames.{name_of_reason}

-- APPID and gocbRef of a block
abbrev pub name_fields : {A : Type 0} → Option (Block A) → List Field
name_fields None = []
name_fields (Some b) = (codes "appid", octets_value (two_octets b.app_id)) ∷ (codes "gocbRef", quoted b.gocb_ref) ∷ []

-- the position of a block, and its name
abbrev pub block_fields : {A : Type 0} → List (Block A) → ℕ → List Field
block_fields blocks i = (codes "block", decimal i) ∷ name_fields (slice_get blocks i)

-- what the object of an entry of a block begins with
abbrev pub entry_fields : {A : Type 0} → Counted → List (Block A) → ℕ → ℕ → List ℕ → ℕ → List Field
entry_fields counted blocks n moment kind block = event_fields counted n moment kind ++ block_fields blocks block

-- a frame's stNum and sqNum
abbrev pub pair_fields : ℕ → ℕ → List Field
pair_fields state sequence = (codes "stNum", decimal state) ∷ (codes "sqNum", decimal sequence) ∷ []

-- the microseconds from t to a moment, below zero where t is later
abbrev pub delay_from : UtcTime → ℕ → ℤ
delay_from t moment = pos moment -ℤ pos (moment_of t)

-- what an action says besides: t, how long before the event that was, the frame's numbers, and the members
abbrev pub act_fields : ℕ → ℕ → ℕ → UtcTime → List ℕ → List Field
act_fields moment state sequence t members =
    time_fields (codes "t") (codes "tTime") (codes "tQuality") t
    ++ (codes "delay", signed_decimal (delay_from t moment)) ∷ pair_fields state sequence ++ (codes "members", members) ∷ []

-- the object of an entry about a frame's numbers
abbrev pub pair_object : {A : Type 0} → Counted → List (Block A) → ℕ → ℕ → List ℕ → ℕ → ℕ → ℕ → List ℕ
pair_object counted blocks n moment kind block state sequence = object_line (entry_fields counted blocks n moment kind block ++ pair_fields state sequence)

-- the object of an action: the members' are any texts of them
abbrev pub IsActObject : {A : Type 0} → Counted → List (Block A) → ℕ → ℕ → ℕ → ℕ → ℕ → UtcTime → List Data → List ℕ → Type 0
IsActObject counted blocks n moment block state sequence t members text =
    (held : List ℕ) × AreMembers members held × (text ≡ object_line (entry_fields counted blocks n moment (codes "act") block ++ act_fields moment state sequence t held))

-- an object of an entry of an event with this number and moment; but for the digits of floats there is one
abbrev pub IsEntryObject : {A : Type 0} → Counted → List (Block A) → ℕ → ℕ → Entry A → List ℕ → Type 0
IsEntryObject counted blocks n moment (says.Expired block) text = text ≡ object_line (entry_fields counted blocks n moment (codes "expired") block)
IsEntryObject counted blocks n moment (says.Switched block) text = text ≡ object_line (entry_fields counted blocks n moment (codes "switched") block)
IsEntryObject counted blocks n moment (says.Act block state sequence t members) text = IsActObject counted blocks n moment block state sequence t members text
IsEntryObject counted blocks n moment (says.Refreshed block state sequence) text = text ≡ pair_object counted blocks n moment (codes "refreshed") block state sequence
IsEntryObject counted blocks n moment (says.Repeated block state sequence) text = text ≡ pair_object counted blocks n moment (codes "repeated") block state sequence
IsEntryObject counted blocks n moment (says.Older block state sequence) text = text ≡ pair_object counted blocks n moment (codes "old") block state sequence
IsEntryObject counted blocks n moment (says.Refused block reason) text =
    text ≡ object_line (entry_fields counted blocks n moment (codes "refused") block ++ (codes "reason", in_quotes (name_of_reason reason)) ∷ [])
IsEntryObject counted blocks n moment says.NotSubscribed text = text ≡ object_line (event_fields counted n moment (codes "not-subscribed"))
IsEntryObject counted blocks n moment says.Sampled text = text ≡ object_line (event_fields counted n moment (codes "sampled"))
IsEntryObject counted blocks n moment (says.Faulty fault) text = text ≡ fault_object counted n moment fault

-- objects of the entries of an event, one after the other
abbrev pub AreEntryObjects : {A : Type 0} → Counted → List (Block A) → ℕ → ℕ → List (Entry A) → List ℕ → Type 0
AreEntryObjects counted blocks n moment [] text = text ≡ []
AreEntryObjects counted blocks n moment (x ∷ entries) text =
    (first : List ℕ) × (others : List ℕ) × IsEntryObject counted blocks n moment x first × AreEntryObjects counted blocks n moment entries others × (text ≡ first ++ others)

-- the one object for a block given twice, at its position
abbrev pub twice_object : {A : Type 0} → List (Block A) → ℕ → List ℕ
twice_object blocks i = object_line ((codes "kind", in_quotes (codes "blocks")) ∷ block_fields blocks i ++ (codes "error", in_quotes (codes "SameBlockTwice")) ∷ [])
