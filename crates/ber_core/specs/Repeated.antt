-- Elements of one identifier and one kind, one after the other and any number of them, as the ASDUs of an APDU are
-- (ISO/IEC 8825-1, 8.10). What octets spell them, and their first fault where they spell none.
use Rattle.std.specs.Prelude.{◌≡◌, ◌≢◌, ℕ, ◌+◌, ◌%◌, List, [], ◌∷◌, ◌++◌, length}
use Rattle.ber_core.specs.Length.{Len}
use Rattle.ber_core.specs.Element.{Elem}
use Rattle.ber_core.specs.Faults.{LengthFault, fault_of}
use Rattle.ber_core.specs.Fields.{Grammar}
use Rattle.ber_core.specs.declared.fault.Fault.{Fault}
use Rattle.ber_core.specs.declared.fault.Cause.TheVariants as causes

-- o is one element of this identifier and kind after the other, each with its value
abbrev pub SpellsEach : {K I : Type 0} → Grammar K I → ℕ → K → List I → List ℕ → Type 0
SpellsEach G id k [] o = o ≡ []
SpellsEach G id k (x ∷ xs) o = (c a b : List ℕ) × Elem id c a × G.spells k x c × SpellsEach G id k xs b × (o ≡ a ++ b)

-- o is one such element
abbrev pub IsElement : {K I : Type 0} → Grammar K I → ℕ → K → List ℕ → Type 0
IsElement {I = I} G id k o = (x : I) × (c : List ℕ) × Elem id c o × G.spells k x c

-- The octets, which stand at the place p, begin with no such element: another identifier stands there, or the
-- element's length or contents are at fault.
pub data FrontFault {K I : Type 0} (G : Grammar K I) (id : ℕ) (k : K) (f : Fault) : ℕ → List ℕ → Type 0 where
  high : {p b : ℕ} {bs : List ℕ} → b % 32 ≡ 31 → f ≡ fault_of p causes.HighTag → FrontFault G id k f p (b ∷ bs)
  unexpected : {p b : ℕ} {bs : List ℕ} → b ≢ id → b % 32 ≢ 31 → f ≡ fault_of p causes.UnexpectedTag → FrontFault G id k f p (b ∷ bs)
  in_length : {p b : ℕ} {bs : List ℕ} → b ≡ id → LengthFault f p bs → FrontFault G id k f p (b ∷ bs)
  in_contents : {p : ℕ} {o : List ℕ} (c size rest : List ℕ) → o ≡ id ∷ size ++ (c ++ rest) → Len (length c) size → G.fault f k p (p + 1 + length size) c → FrontFault G id k f p o

-- The first fault of such elements, whose octets stand at the place p: the front is at fault; or one such element
-- stands in front, and the rest is at fault.
pub data EachFault {K I : Type 0} (G : Grammar K I) (id : ℕ) (k : K) (f : Fault) : ℕ → List ℕ → Type 0 where
  here : {p : ℕ} {o : List ℕ} → FrontFault G id k f p o → EachFault G id k f p o
  behind : {p : ℕ} {o : List ℕ} (a b : List ℕ) → IsElement G id k a → o ≡ a ++ b → EachFault G id k f (p + length a) b → EachFault G id k f p o
