-- Which frames are a block's, and the reasons for which one is refused (profile).
use Rattle.std.specs.Prelude.{ℕ, ◌*◌, Bool, true, false, not, ◌&&◌, ◌==◌, Option, Some, None, List, [], ◌∷◌, length, if◌then◌else◌}
use Rattle.std.specs.Str.{bytes_eq}
use Rattle.block_core.specs.declared.block.Block.{Block}
use Rattle.subscribe_core.specs.declared.entry.Reason.{Reason}
use Rattle.subscribe_core.specs.declared.entry.Reason.TheVariants.{DatSet, GoId, ConfRev, Commissioning, Simulated, Entries, StateZero, LiveZero}
use Rattle.subscribe_core.specs.declared.registers.Facts.{Facts}
use Rattle.subscribe_core.specs.EventsRead.{FrameRead}

-- the frame is one of the block: it has its APPID and its gocbRef
abbrev pub is_of : {A : Type 0} → FrameRead → Block A → Bool
is_of f b = b.app_id == f.app_id && bytes_eq b.gocb_ref f.pdu.gocb_ref

-- a goID is awaited, and it is another or absent
abbrev pub has_other_id : Option (List ℕ) → Option (List ℕ) → Bool
has_other_id None id = false
has_other_id (Some awaited) None = true
has_other_id (Some awaited) (Some id) = not (bytes_eq awaited id)

-- the reason holds against a frame of the block; the first argument says whether the frame is of the other kind
abbrev pub holds : {A : Type 0} → Bool → Block A → FrameRead → Reason → Bool
holds other_kind b f DatSet = not (bytes_eq b.dat_set f.pdu.dat_set)
holds other_kind b f GoId = has_other_id b.go_id f.pdu.go_id
holds other_kind b f ConfRev = not (b.conf_rev == f.pdu.conf_rev)
holds other_kind b f Commissioning = f.pdu.nds_com
holds other_kind b f Simulated = other_kind
holds other_kind b f Entries = not (b.entries == length f.pdu.members)
holds other_kind b f StateZero = f.pdu.st_num == 0
holds other_kind b f LiveZero = f.pdu.live == 0

-- the reasons in the order in which they are told
abbrev pub reasons : List Reason
reasons = DatSet ∷ GoId ∷ ConfRev ∷ Commissioning ∷ Simulated ∷ Entries ∷ StateZero ∷ LiveZero ∷ []

-- the first of the reasons for which the test is true
abbrev pub first_of : (Reason → Bool) → List Reason → Option Reason
first_of p [] = None
first_of p (r ∷ rs) = if p r then Some r else first_of p rs

-- the first reason that holds against a frame of the block
abbrev pub reason_of : {A : Type 0} → Bool → Block A → FrameRead → Option Reason
reason_of other_kind b f = first_of (holds other_kind b f) reasons

-- no reason holds
abbrev pub is_clear : Option Reason → Bool
is_clear None = true
is_clear (Some r) = false

-- the facts of a frame: its pair of numbers, and timeAllowedtoLive in microseconds
abbrev pub facts_of_frame : FrameRead → Facts
facts_of_frame f = record { state = f.pdu.st_num; sequence = f.pdu.sq_num; lifetime = 1000 * f.pdu.live }

-- the facts, unless there is a reason against the frame
abbrev pub facts_unless_refused : Option Reason → Facts → Option Facts
facts_unless_refused None facts = Some facts
facts_unless_refused (Some r) facts = None
