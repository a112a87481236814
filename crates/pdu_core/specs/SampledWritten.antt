-- The written form of a savPdu: its spelling with the fewest octets everywhere.
use Rattle.std.specs.Prelude.{◌<◌, ◌^◌, ℕ, pos, List, [], ◌∷◌, ◌++◌, length}
use Rattle.ber_core.specs.Written.{short_integer, written_element}
use Rattle.pdu_core.specs.Asdu.{asdu_fields, asdu_items}
use Rattle.pdu_core.specs.Written.{written_fields}
use Rattle.pdu_core.specs.declared.sampled.asdu.Asdu.{Asdu}
use Rattle.pdu_core.specs.declared.sampled.asdu.SvPdu.{SvPdu}

-- the contents of an ASDU's element
abbrev pub asdu_contents : {A : Type 0} → Asdu A → List ℕ
asdu_contents a = written_fields asdu_fields (asdu_items a)

-- an ASDU
abbrev pub written_asdu : {A : Type 0} → Asdu A → List ℕ
written_asdu a = written_element 0x30 (asdu_contents a)

-- one ASDU after the other
abbrev pub written_asdus : {A : Type 0} → List (Asdu A) → List ℕ
written_asdus [] = []
written_asdus (a ∷ more) = written_asdu a ++ written_asdus more

-- the contents of an APDU's element
abbrev pub sv_contents : {A : Type 0} → SvPdu A → List ℕ
sv_contents p = written_element 0x80 (short_integer (pos (length p.asdus))) ++ written_element 0xa2 (written_asdus p.asdus)

-- the written form of an APDU
abbrev pub written_sv : {A : Type 0} → SvPdu A → List ℕ
written_sv p = written_element 0x60 (sv_contents p)

-- the contents have at most 4294967295 octets: the APDU has a written form
abbrev pub HasWrittenSv : {A : Type 0} → SvPdu A → Type 0
HasWrittenSv p = length (sv_contents p) < 2 ^ 32
