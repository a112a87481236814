-- The written form of an APDU: each length and number in the fewest octets, FF for true, and each boolean there
-- (profile).
use Rattle.std.specs.Prelude.{◌≡◌, ◌<◌, ◌^◌, ℕ, pos, true, false, List, [], ◌∷◌, ◌++◌, length, Option, Some, None}
use Rattle.byteorder.specs.Endian.{big_bytes}
use Rattle.ber_core.specs.Fields.{Field}
use Rattle.ber_core.specs.Written.{short_integer, written_element}
use Rattle.mms_data.specs.Written.{written_all, written_time}
use Rattle.pdu_core.specs.Contents.{Kind, Item, a_text, a_number, a_flag, a_time, some_members, a_fixed, some_octets}
use Rattle.pdu_core.specs.Goose.{goose_fields, goose_items}
use Rattle.pdu_core.specs.declared.goose.GoosePdu.{GoosePdu}

-- the written contents of a field
abbrev pub written_item : Item → List ℕ
written_item (a_text t) = t
written_item (a_number n) = short_integer (pos n)
written_item (a_flag true) = 255 ∷ []
written_item (a_flag false) = 0 ∷ []
written_item (a_time t) = written_time t
written_item (some_members ds) = written_all ds
written_item (a_fixed size n) = big_bytes size n
written_item (some_octets o) = o

-- octets of this property were appended
abbrev pub Appends : (List ℕ → Type 0) → List ℕ → List ℕ → Type 0
Appends Property old new = (o : List ℕ) × Property o × (new ≡ old ++ o)

-- a field that is there as its element, and else nothing
abbrev pub written_field : ℕ → Option Item → List ℕ
written_field id None = []
written_field id (Some x) = written_element id (written_item x)

-- one field after the other
abbrev pub written_fields : List (Field Kind Item) → List (Option Item) → List ℕ
written_fields [] vs = []
written_fields (g ∷ gs) [] = []
written_fields (g ∷ gs) (v ∷ vs) = written_field g.identifier v ++ written_fields gs vs

-- the contents of an APDU's element
abbrev pub goose_contents : {A : Type 0} → GoosePdu A → List ℕ
goose_contents p = written_fields goose_fields (goose_items p)

-- the written form of an APDU
abbrev pub written_goose : {A : Type 0} → GoosePdu A → List ℕ
written_goose p = written_element 0x61 (goose_contents p)

-- the contents have at most 4294967295 octets: the APDU has a written form
abbrev pub HasWrittenGoose : {A : Type 0} → GoosePdu A → Type 0
HasWrittenGoose p = length (goose_contents p) < 2 ^ 32
