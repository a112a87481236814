-- Reading a savPdu from left to right, with the first fault that is met. Laws in both directions tie it to the
-- spellings and the faults.
use Rattle.std.specs.Prelude.{◌==◌, ℕ, pos, List, [], ◌∷◌, drop, length, Option, Some, Result, Ok, if◌then◌else◌}
use Rattle.ber_core.specs.computed.ContentsReading.{integer_at, natural}
use Rattle.ber_core.specs.Element.{contents_of}
use Rattle.ber_core.specs.computed.FieldReading.{Read, ends_at, fields_at, required_at}
use Rattle.ber_core.specs.computed.Reading.{refused, ◌>>=◌}
use Rattle.ber_core.specs.computed.RepeatedReading.{each_at}
use Rattle.ber_core.specs.declared.element.Header.{Header}
use Rattle.ber_core.specs.declared.fault.Fault.{Fault}
use Rattle.ber_core.specs.declared.fault.Cause.TheVariants as causes
use Rattle.pdu_core.specs.Asdu.{asdu_fields}
use Rattle.pdu_core.specs.Contents.{Item}
use Rattle.pdu_core.specs.computed.ContentsReading.{item_at}
use Rattle.pdu_core.specs.Sampled.{SvKind, asdu_count, asdus, SvItem, a_count, some_asdus, sv_fields}

-- the values of the fields of the ASDU behind a header
abbrev pub asdu_in : Read (Unit {0}) (List (Option Item))
asdu_in k octets h = fields_at item_at asdu_fields [] octets h.contents_from h.contents_to >>= λ x. (ends_at x.1 h.contents_to >>= λ _. Ok x.0)

-- the values of the ASDU at p, in a region that ends at e, and the place behind it
unfoldable pub asdu_at : List ℕ → ℕ → ℕ → Result (List (Option Item) × ℕ) Fault
asdu_at octets p e = required_at 0x30 octets p e >>= λ h. (asdu_in tt octets h >>= λ vs. Ok (vs, h.contents_to))

-- the values of the fields of an ASDU, where those behind its first one, which has this value, fill the region from p to e
abbrev pub behind_first : Option Item → List ℕ → ℕ → ℕ → Result (List (Option Item)) Fault
behind_first x octets p e = fields_at item_at (drop 1 asdu_fields) (x ∷ []) octets p e >>= λ y. (ends_at y.1 e >>= λ _. Ok y.0)

-- the values of the ASDUs from p to e
unfoldable pub asdus_at : List ℕ → ℕ → ℕ → Result (List (List (Option Item))) Fault
asdus_at octets p e = each_at asdu_in 0x30 tt octets p e

-- the number of contents, from 1 to 65535
unfoldable pub count_in : List ℕ → Header → Result ℕ Fault
count_in octets h = integer_at (pos 1) (pos 65535) h.at h.contents_from (contents_of octets h) >>= λ n. Ok (natural n)

-- the value of contents
abbrev pub sv_item_at : Read SvKind SvItem
sv_item_at asdu_count octets h = count_in octets h >>= λ n. Ok (a_count n)
sv_item_at asdus octets h = asdus_at octets h.contents_from h.contents_to >>= λ vss. Ok (some_asdus vss)

-- the count is that of the ASDUs
abbrev pub asdu_count_at : ℕ → ℕ → List (List (Option Item)) → Result (Unit {0}) Fault
asdu_count_at place n vss = if n == length vss then Ok tt else refused place causes.AsduCount

-- the ASDUs, where the values are the count and them
abbrev pub counted_asdus : ℕ → List (Option SvItem) → Result (List (List (Option Item))) Fault
counted_asdus place (Some (a_count n) ∷ Some (some_asdus vss) ∷ []) = asdu_count_at place n vss >>= λ _. Ok vss
counted_asdus place _ = refused place causes.AsduCount

-- the values of the ASDUs of the APDU that fills the octets from p to e
unfoldable pub sv_at : List ℕ → ℕ → ℕ → Result (List (List (Option Item))) Fault
sv_at octets p e = do
  h ← required_at 0x60 octets p e
  x ← fields_at sv_item_at sv_fields [] octets h.contents_from h.contents_to
  i ← ends_at x.1 h.contents_to
  j ← ends_at h.contents_to e
  counted_asdus h.contents_from x.0
