-- Simple values whose first three octets tell that they are good: the identifier, a length in one octet, and the first
-- octet of the contents.
use Rattle.std.specs.Prelude.{◌≡◌, ◌≤◌, ◌<◌, ◌+◌, ℕ, ⊤, List, ◌∷◌, length}
use Rattle.mms_data.specs.Kinds.{simple_identifier}
use Rattle.mms_data.specs.declared.kinds.SimpleKind.{SimpleKind}
use Rattle.mms_data.specs.declared.kinds.SimpleKind.TheVariants as kinds

-- contents of n octets, of which this is the first, spell a value of the kind, whatever the others are
abbrev pub IsPlain : SimpleKind → ℕ → ℕ → Type 0
IsPlain kinds.Boolean n first = n ≡ 1
IsPlain kinds.BitString n first = (2 ≤ n) × (first ≤ 7)
IsPlain kinds.Integer n first = n ≤ 8
IsPlain kinds.Unsigned n first = (n ≤ 8) × (first < 128)
IsPlain kinds.FloatingPoint n first = n ≤ 16
IsPlain kinds.OctetString n first = ⊤
IsPlain kinds.VisibleString n first = ⊥
IsPlain kinds.BinaryTime n first = ⊥
IsPlain kinds.MmsString n first = ⊤
IsPlain kinds.UtcTime n first = n ≡ 8

-- the identifier announces a kind of which such contents spell a value
pub record AnnouncesPlain (id n first : ℕ) : Type 0 where
  pub kind : SimpleKind
  pub identifier : id ≡ simple_identifier kind
  pub some : 1 ≤ n
  pub few : n ≤ 127
  pub plain : IsPlain kind n first

-- the octets are such a member
pub record IsPlainMember (o : List ℕ) : Type 0 where
  pub id : ℕ
  pub first : ℕ
  pub others : List ℕ
  pub parts : o ≡ id ∷ (length others + 1) ∷ first ∷ others
  pub announced : AnnouncesPlain id (length others + 1) first
