-- A sequence of fields, as an APDU and an ASDU are (ISO/IEC 8825-1, 8.9): elements in a stated order, each with an
-- identifier of its own, some of which may be left out. What octets spell such a sequence, and their first fault where
-- they spell none. What the contents of a field spell is told by its kind, in a grammar that each sequence brings
-- along.
use Rattle.std.specs.Prelude.{◌≡◌, ◌≢◌, ℕ, ◌+◌, ◌%◌, List, [], ◌∷◌, ◌++◌, length, Option, Some, None}
use Rattle.ber_core.specs.Length.{Len}
use Rattle.ber_core.specs.Element.{Elem, IsHeader}
use Rattle.ber_core.specs.Faults.{HeaderFault, LengthFault, fault_of}
use Rattle.ber_core.specs.declared.element.Header.{Header}
use Rattle.ber_core.specs.declared.fault.Fault.{Fault}
use Rattle.ber_core.specs.declared.fault.Cause.TheVariants as causes

-- whether a field may be absent, and what its absence means: it is always there, it is optional and then has no value,
-- or it then has this default
pub data Presence (I : Type 0) : Type 0 where
  always : Presence I
  optional : Presence I
  default : I → Presence I

-- a field of a sequence: its identifier, its kind of contents, its presence
pub record Field (K I : Type 0) : Type 0 where
  pub identifier : ℕ
  pub kind : K
  pub presence : Presence I

-- for each kind, which contents spell an item, and which fault those have that spell none, where the element stands at
-- one place and its contents at another
pub record Grammar (K I : Type 0) : Type 1 where
  pub spells : K → I → List ℕ → Type 0
  pub fault : Fault → K → ℕ → ℕ → List ℕ → Type 0

-- a field that is left out has this value: none where it is optional, else its default
abbrev pub AbsenceMeans : {I : Type 0} → Presence I → Option I → Type 0
AbsenceMeans always v = ⊥
AbsenceMeans optional v = v ≡ None
AbsenceMeans (default d) v = v ≡ Some d

-- a field may be absent unless it is always there
abbrev pub MayBeAbsent : {I : Type 0} → Presence I → Type 0
MayBeAbsent always = ⊥
MayBeAbsent optional = Unit {0}
MayBeAbsent (default d) = Unit {0}

-- an element of this identifier begins the octets
abbrev pub BeginsWith : ℕ → List ℕ → Type 0
BeginsWith id [] = ⊥
BeginsWith id (first ∷ more) = first ≡ id

-- the element of this identifier stands at this place, inside the region that ends at end, and the header says where
abbrev pub IsField : ℕ → List ℕ → ℕ → ℕ → Header → Type 0
IsField id octets at end h = IsHeader octets at end h × (h.identifier ≡ id)

-- the identifier begins o, which stands at the place p, and the front of its element is at fault
abbrev pub PresentFault : ℕ → Fault → ℕ → List ℕ → Type 0
PresentFault id f p o = BeginsWith id o × HeaderFault f p o

-- The fault where the element of an identifier must stand at the place p: nothing is there; another identifier is,
-- of more than one octet or of one; or the front of the element is at fault.
pub data RequiredFault (id : ℕ) (f : Fault) (p : ℕ) : List ℕ → Type 0 where
  nothing_there : f ≡ fault_of p causes.ElementMissing → RequiredFault id f p []
  high_there : {b : ℕ} {bs : List ℕ} → b ≢ id → b % 32 ≡ 31 → f ≡ fault_of p causes.HighTag → RequiredFault id f p (b ∷ bs)
  another_there : {b : ℕ} {bs : List ℕ} → b ≢ id → b % 32 ≢ 31 → f ≡ fault_of p causes.UnexpectedTag → RequiredFault id f p (b ∷ bs)
  wrong_there : {o : List ℕ} → PresentFault id f p o → RequiredFault id f p o

-- o is one field: it is filled, by an element of its identifier whose contents spell the value; or it is left out,
-- where o is nothing and the value is what absence means
pub data SpellsField {K I : Type 0} (G : Grammar K I) (g : Field K I) (v : Option I) (o : List ℕ) : Type 0 where
  filled : (x : I) (c : List ℕ) → v ≡ Some x → Elem g.identifier c o → G.spells g.kind x c → SpellsField G g v o
  left_out : AbsenceMeans g.presence v → o ≡ [] → SpellsField G g v o

-- o is the spelling of one field after the other, each with its value
abbrev pub SpellsFields : {K I : Type 0} → Grammar K I → List (Field K I) → List (Option I) → List ℕ → Type 0
SpellsFields G [] [] o = o ≡ []
SpellsFields G [] (v ∷ vs) o = ⊥
SpellsFields G (g ∷ gs) [] o = ⊥
SpellsFields G (g ∷ gs) (v ∷ vs) o = (a b : List ℕ) × SpellsField G g v a × SpellsFields G gs vs b × (o ≡ a ++ b)

-- The first fault of a sequence of fields, whose octets stand at the place p: it is behind a good field, or
-- behind one that may be absent and is; or the octets end before, or go on with another identifier than, the
-- next field that is always there; or it is in the field's length or contents; or there is no field left.
pub data FieldsFault {K I : Type 0} (G : Grammar K I) (f : Fault) : List (Field K I) → ℕ → List ℕ → Type 0 where
  later : {g : Field K I} {gs : List (Field K I)} {p : ℕ} {o : List ℕ} (x : I) (c a b : List ℕ) → Elem g.identifier c a → G.spells g.kind x c → o ≡ a ++ b → FieldsFault G f gs (p + length a) b → FieldsFault G f (g ∷ gs) p o
  absent : {g : Field K I} {gs : List (Field K I)} {p : ℕ} {o : List ℕ} → MayBeAbsent g.presence → ¬ BeginsWith g.identifier o → FieldsFault G f gs p o → FieldsFault G f (g ∷ gs) p o
  missing : {g : Field K I} {gs : List (Field K I)} {p : ℕ} → g.presence ≡ always → f ≡ fault_of p causes.ElementMissing → FieldsFault G f (g ∷ gs) p []
  high : {g : Field K I} {gs : List (Field K I)} {p b : ℕ} {bs : List ℕ} → g.presence ≡ always → b % 32 ≡ 31 → f ≡ fault_of p causes.HighTag → FieldsFault G f (g ∷ gs) p (b ∷ bs)
  unexpected : {g : Field K I} {gs : List (Field K I)} {p b : ℕ} {bs : List ℕ} → g.presence ≡ always → b ≢ g.identifier → b % 32 ≢ 31 → f ≡ fault_of p causes.UnexpectedTag → FieldsFault G f (g ∷ gs) p (b ∷ bs)
  in_length : {g : Field K I} {gs : List (Field K I)} {p b : ℕ} {bs : List ℕ} → b ≡ g.identifier → LengthFault f p bs → FieldsFault G f (g ∷ gs) p (b ∷ bs)
  in_contents : {g : Field K I} {gs : List (Field K I)} {p : ℕ} {o : List ℕ} (c size rest : List ℕ) → o ≡ g.identifier ∷ size ++ (c ++ rest) → Len (length c) size → G.fault f g.kind p (p + 1 + length size) c → FieldsFault G f (g ∷ gs) p o
  extra : {p b : ℕ} {bs : List ℕ} → f ≡ fault_of p causes.ExtraOctets → FieldsFault G f [] p (b ∷ bs)

-- contents that are a sequence of fields themselves: they spell its values, and their fault is its first fault; what a
-- count among the fields says is not compared here
abbrev pub nested : {K I : Type 0} → Grammar K I → List (Field K I) → Grammar (Unit {0}) (List (Option I))
nested G gs = record { spells = λ _ vs c. SpellsFields G gs vs c; fault = λ f _ at from c. FieldsFault G f gs from c }
