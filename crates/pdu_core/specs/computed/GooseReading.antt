-- Reading an APDU from left to right, with the first fault that is met. Laws in both directions tie it to the
-- spellings and the faults.
use Rattle.std.specs.Prelude.{◌==◌, ℕ, drop, List, [], ◌∷◌, length, Option, Some, Result, Ok, if◌then◌else◌}
use Rattle.ber_core.specs.computed.FieldReading.{ends_at, fields_at, required_at}
use Rattle.ber_core.specs.computed.Reading.{refused, ◌>>=◌}
use Rattle.ber_core.specs.declared.fault.Fault.{Fault}
use Rattle.ber_core.specs.declared.fault.Cause.TheVariants as causes
use Rattle.mms_data.specs.Data.{Data}
use Rattle.pdu_core.specs.Contents.{Item, a_number, some_members}
use Rattle.pdu_core.specs.computed.ContentsReading.{item_at}
use Rattle.pdu_core.specs.Goose.{goose_front, goose_end}

-- the count is that of the members
abbrev pub count_at : ℕ → ℕ → List Data → Result (Unit {0}) Fault
count_at place n ds = if n == length ds then Ok tt else refused place causes.EntryCount

abbrev pub counted_end : ℕ → List (Option Item) → List (Option Item) → Result (List (Option Item)) Fault
counted_end place vs (Some (a_number n) ∷ Some (some_members ds) ∷ []) = count_at place n ds >>= λ _. Ok vs
counted_end place vs _ = refused place causes.EntryCount

-- the values, of which the last two have to be the count and its members
abbrev pub counted : ℕ → List (Option Item) → Result (List (Option Item)) Fault
counted place vs = counted_end place vs (drop 10 vs)

-- the values of the APDU that fills the octets from p to e
unfoldable pub goose_at : List ℕ → ℕ → ℕ → Result (List (Option Item)) Fault
goose_at octets p e = do
  h ← required_at 0x61 octets p e
  x ← fields_at item_at goose_front [] octets h.contents_from h.contents_to
  y ← fields_at item_at goose_end x.0 octets x.1 h.contents_to
  i ← ends_at y.1 h.contents_to
  j ← ends_at h.contents_to e
  counted x.1 y.0
