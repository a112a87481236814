-- Reading members from left to right as a function on octets, the first of which stands at the place p, up to
-- the first fault. Laws in both directions tie it to the spellings and the faults.
use Rattle.std.specs.Prelude.{ℕ, zero, suc, ◌-◌, List, [], ◌∷◌, length, drop, slice_range, Result, Ok}
use Rattle.ber_core.specs.computed.Reading.{◌>>=◌, refused, header_at}
use Rattle.ber_core.specs.declared.element.Header.{Header}
use Rattle.ber_core.specs.declared.fault.Fault.{Fault}
use Rattle.ber_core.specs.declared.fault.Cause.TheVariants as causes
use Rattle.mms_data.specs.Data.{Data, simple, array, structure, items_of}
use Rattle.mms_data.specs.computed.KindReading.{kind_here}
use Rattle.mms_data.specs.computed.ContentsReading.{simple_at}
use Rattle.mms_data.specs.declared.kinds.SimpleKind.{SimpleKind}
use Rattle.mms_data.specs.declared.kinds.Kind.{Kind}
use Rattle.mms_data.specs.declared.kinds.Kind.TheVariants as kinds

-- how members are read behind a header
abbrev pub ReadsMembers : Type 0
ReadsMembers = ℕ → List ℕ → Result (List Data) Fault

-- the contents of the element behind this header, which begins at the front
abbrev pub contents_within : Header → List ℕ → List ℕ
contents_within h o = slice_range o (h.contents_from - h.at) (h.contents_to - h.at)

-- the simple value that contents spell
abbrev pub simple_data_at : SimpleKind → ℕ → ℕ → List ℕ → Result Data Fault
simple_data_at k p s c = simple_at k p s c >>= λ v. Ok (simple v)

-- the value that these contents of a kind spell
abbrev pub contents_at : ReadsMembers → Kind → Header → List ℕ → Result Data Fault
contents_at members kinds.Array h c = members h.contents_from c >>= λ ds. Ok (array (items_of ds))
contents_at members kinds.Structure h c = members h.contents_from c >>= λ ds. Ok (structure (items_of ds))
contents_at members (kinds.Simple k) h c = simple_data_at k h.at h.contents_from c

-- the kind of the member at the front
abbrev pub known_at : ℕ → List ℕ → Result Kind Fault
known_at p [] = refused p causes.Ends
known_at p (id ∷ more) = kind_here p id

-- the member at the front, and the place after it
unfoldable pub member_with : ReadsMembers → ℕ → List ℕ → Result (Data × ℕ) Fault
member_with members p o = do
  k ← known_at p o
  h ← header_at p o
  d ← contents_at members k h (contents_within h o)
  Ok (d, h.contents_to)

-- members one after the other; the number bounds the turns, and the count of the octets is always enough
unfoldable pub members_with : (ℕ → List ℕ → Result (Data × ℕ) Fault) → ℕ → ReadsMembers
members_with member n p [] = Ok []
members_with member zero p (id ∷ more) = refused p causes.Ends
members_with member (suc n) p (id ∷ more) = do
  x ← member p (id ∷ more)
  ds ← members_with member n x.1 (drop (x.1 - p) (id ∷ more))
  Ok (x.0 ∷ ds)

-- the member at the front, where depth is how many levels may stand from here on
unfoldable pub member_at : ℕ → ℕ → List ℕ → Result (Data × ℕ) Fault
member_at zero p o = refused p causes.TooDeep
member_at (suc depth) p o = member_with (λ q c. members_with (member_at depth) (length c) q c) p o

-- the members that the octets spell
unfoldable pub members_at : ℕ → ℕ → List ℕ → Result (List Data) Fault
members_at depth p o = members_with (member_at depth) (length o) p o
