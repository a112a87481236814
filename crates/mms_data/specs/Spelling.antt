-- The spellings of Data (ISO 9506-2), and the first fault of octets that spell no members.
use Rattle.std.specs.Prelude.{◌≡◌, ◌≤◌, ◌<◌, ◌+◌, ◌%◌, ◌⊎◌, ℕ, List, [], ◌∷◌, ◌++◌, length}
use Rattle.ber_core.specs.Length.{Len}
use Rattle.ber_core.specs.Element.{Elem, IsIdentifier}
use Rattle.ber_core.specs.Faults.{LengthFault, fault_of}
use Rattle.ber_core.specs.declared.fault.Fault.{Fault}
use Rattle.ber_core.specs.declared.fault.Cause.TheVariants as causes
use Rattle.mms_data.specs.Data.{Data, simple, array, structure, Items, no_items, item, items_of}
use Rattle.mms_data.specs.Kinds.{IsKnown, simple_identifier, simple_kind}
use Rattle.mms_data.specs.Contents.{SpellsSimple, SimpleFault}
use Rattle.mms_data.specs.declared.kinds.SimpleKind.{SimpleKind}

abbrev mutual
  -- o spells the value, which stands at the level L, at most 16 (profile): it is the element of its kind, whose
  -- contents spell it, or spell its members at the next level
  pub Spells : Data → ℕ → List ℕ → Type 0
  Spells (simple s) L o = (L ≤ 16) × (c : List ℕ) × Elem (simple_identifier (simple_kind s)) c o × SpellsSimple s c
  Spells (array ds) L o = (L ≤ 16) × (c : List ℕ) × Elem 0xa1 c o × SpellsItems ds (L + 1) c
  Spells (structure ds) L o = (L ≤ 16) × (c : List ℕ) × Elem 0xa2 c o × SpellsItems ds (L + 1) c

  -- o is the spellings of members, one after the other
  pub SpellsItems : Items → ℕ → List ℕ → Type 0
  SpellsItems no_items L o = o ≡ []
  SpellsItems (item d ds) L o = (first : List ℕ) × (rest : List ℕ) × Spells d L first × SpellsItems ds L rest × (o ≡ first ++ rest)

-- o is the spellings of a list of values at the level L, one after the other
abbrev pub SpellsAll : List Data → ℕ → List ℕ → Type 0
SpellsAll ds L o = SpellsItems (items_of ds) L o

-- o is the spellings of some list of values at the level L
abbrev pub SpellSome : ℕ → List ℕ → Type 0
SpellSome L o = (ds : List Data) × SpellsAll ds L o

-- The first fault of members at the level L, whose octets stand at p: behind a good member; or at the first: it
-- is too deep, its identifier has more than one octet or announces no kind, its length is at fault, its contents
-- are, or the members that its contents hold.
pub data FaultIn (f : Fault) : ℕ → ℕ → List ℕ → Type 0 where
  later : {L p : ℕ} {o : List ℕ} (d : Data) (first rest : List ℕ) → Spells d L first → o ≡ first ++ rest → FaultIn f L (p + length first) rest → FaultIn f L p o
  too_deep : {L p id : ℕ} {more : List ℕ} → 16 < L → f ≡ fault_of p causes.TooDeep → FaultIn f L p (id ∷ more)
  high : {L p id : ℕ} {more : List ℕ} → L ≤ 16 → id % 32 ≡ 31 → f ≡ fault_of p causes.HighTag → FaultIn f L p (id ∷ more)
  unexpected : {L p id : ℕ} {more : List ℕ} → L ≤ 16 → IsIdentifier id → ¬ IsKnown id → f ≡ fault_of p causes.UnexpectedTag → FaultIn f L p (id ∷ more)
  in_length : {L p id : ℕ} {more : List ℕ} → L ≤ 16 → IsKnown id → LengthFault f p more → FaultIn f L p (id ∷ more)
  in_contents : {L p : ℕ} {o : List ℕ} (k : SimpleKind) (c size rest : List ℕ) → L ≤ 16 → o ≡ simple_identifier k ∷ size ++ (c ++ rest) → Len (length c) size
      → SimpleFault f k p (p + 1 + length size) c → FaultIn f L p o
  within : {L p : ℕ} {o : List ℕ} (id : ℕ) (c size rest : List ℕ) → L ≤ 16 → (id ≡ 0xa1) ⊎ (id ≡ 0xa2) → o ≡ id ∷ size ++ (c ++ rest) → Len (length c) size
      → FaultIn f (L + 1) (p + 1 + length size) c → FaultIn f L p o
