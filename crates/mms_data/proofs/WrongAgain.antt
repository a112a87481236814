-- Where there is a fault reading stops with it.
use Rattle.std.proofs.Common.{◌≡◌, ℕ, zero, suc, ◌-◌, ◌+◌, ◌%◌, ◌≤◌, ◌<◌, List, ◌∷◌, ◌++◌, length, drop, Ok, Err, refl, ap, ap₂, ◌∙◌, arith, inl, inr}
use Rattle.std.proofs.lemmas.List.{length-append}
use Rattle.std.specs.Prelude.{◌⊎◌}
use Rattle.ber_core.specs.declared.fault.Fault.{Fault}
use Rattle.ber_core.specs.declared.fault.Cause.TheVariants as causes
use Rattle.ber_core.specs.Element.{IsIdentifier}
use Rattle.ber_core.specs.Faults.{LengthFault, fault_of}
use Rattle.ber_core.specs.Length.{Len}
use Rattle.ber_core.specs.computed.Reading.{◌>>=◌, header_at}
use Rattle.ber_core.proofs.Headers.{length_wrong_again}
use Rattle.mms_data.specs.Kinds.{identifier_of, simple_identifier, IsKnown}
use Rattle.mms_data.specs.Contents.{SimpleFault}
use Rattle.mms_data.specs.Spelling.{FaultIn, later, too_deep, high, unexpected, in_length, in_contents, within}
use Rattle.mms_data.specs.computed.Reading.{member_with, members_with, member_at, members_at}
use Rattle.mms_data.specs.declared.kinds.Kind.TheVariants.{Array, Structure, Simple as of_kind}
use Rattle.mms_data.specs.declared.kinds.SimpleKind.{SimpleKind}
use Rattle.mms_data.proofs.KindLaws.{low_tag, here_again, here_high, here_unknown}
use Rattle.mms_data.proofs.ContentsLaws.{simple_refused}
use Rattle.mms_data.proofs.Loop.{one_more, fails_here}
use Rattle.mms_data.proofs.Again.{data_again, left_over, member_is, members_at-is, spelled_some}

high_again : (k p b : ℕ) (bs : List ℕ) (f : Fault) → b % 32 ≡ 31 → f ≡ fault_of p causes.HighTag → member_at (suc k) p (b ∷ bs) ≡ Err f
unfolding member_at member_with
high_again k p b bs f h is = rw (here_high p b f h is) refl

unexpected_again : (k p b : ℕ) (bs : List ℕ) (f : Fault) → IsIdentifier b → (¬ IsKnown b) → f ≡ fault_of p causes.UnexpectedTag → member_at (suc k) p (b ∷ bs) ≡ Err f
unfolding member_at member_with
unexpected_again k p b bs f low never is = rw (here_unknown p b f low never is) refl

in_length_again : (k p b : ℕ) (bs : List ℕ) (f : Fault) → IsKnown b → LengthFault f p bs → member_at (suc k) p (b ∷ bs) ≡ Err f
unfolding member_at member_with header_at
in_length_again k p b bs f known h = rw (known.1, here_again p (identifier_of known.0) known.0 refl, low_tag known.0, length_wrong_again f p (identifier_of known.0) bs h) refl

in_contents_again : (k p : ℕ) (kind : SimpleKind) (o c size rest : List ℕ) (f : Fault) → o ≡ simple_identifier kind ∷ size ++ (c ++ rest) → Len (length c) size → SimpleFault f kind p (p + 1 + length size) c
    → member_at (suc k) p o ≡ Err f
in_contents_again k p kind o c size rest f parts len h =
    ap (member_at (suc k) p) parts ∙ member_is k p (of_kind kind) size c rest len ∙ rw (simple_refused kind p (p + 1 + length size) c f h) refl

within_again : (k p id : ℕ) (o c size rest : List ℕ) (f : Fault) → (id ≡ 161) ⊎ (id ≡ 162) → o ≡ id ∷ size ++ (c ++ rest) → Len (length c) size → members_at k (p + 1 + length size) c ≡ Err f
    → member_at (suc k) p o ≡ Err f
within_again k p id o c size rest f (inl i) parts len h =
    ap (member_at (suc k) p) (parts ∙ ap (λ x. x ∷ size ++ (c ++ rest)) i) ∙ member_is k p Array size c rest len ∙ rw h refl
within_again k p id o c size rest f (inr i) parts len h =
    ap (member_at (suc k) p) (parts ∙ ap (λ x. x ∷ size ++ (c ++ rest)) i) ∙ member_is k p Structure size c rest len ∙ rw h refl

no_level_again : (p b : ℕ) (bs : List ℕ) (f : Fault) → f ≡ fault_of p causes.TooDeep → member_at zero p (b ∷ bs) ≡ Err f
unfolding member_at
no_level_again p b bs f is = rw is refl

-- a fault here, where levels are left
here : (k n p : ℕ) (o : List ℕ) (f : Fault) → 0 < length o → length o ≤ n → 0 < k → member_at (suc (k - 1)) p o ≡ Err f → members_with (member_at k) n p o ≡ Err f
here k n p o f some enough more e =
    let n-is : n ≡ suc (n - 1) = omega arith in
    let k-is : k ≡ suc (k - 1) = omega arith in
    ap₂ (λ m l. members_with (member_at l) m p o) n-is k-is ∙ fails_here (member_at (suc (k - 1))) (n - 1) p o f some e

fault_again : (f : Fault) {L p : ℕ} {o : List ℕ} → FaultIn f L p o → (k n : ℕ) → L + k ≡ 17 → length o ≤ n → members_with (member_at k) n p o ≡ Err f
fault_again f {L} {p} {o} (later d first rest s parts h) k n depth enough =
    let size : length o ≡ length first + length rest = ap length parts ∙ length-append first rest in
    let some : 0 < length first = spelled_some d L first s in
    let n-is : n ≡ suc (n - 1) = omega arith in
    let one : member_at k p o ≡ Ok (d, p + length first) = ap (member_at k p) parts ∙ data_again d L k p first rest depth s in
    let left : drop ((p + length first) - p) o ≡ rest = left_over o first rest p (p + length first) parts refl in
    let others = fault_again f h k (n - 1) depth (omega arith) in
    ap (λ m. members_with (member_at k) m p o) n-is ∙ one_more (member_at k) (n - 1) p o d (p + length first) (omega arith) one
    ∙ ap (λ x. members_with (member_at k) (n - 1) (p + length first) x >>= λ es. Ok (d ∷ es)) left ∙ ap (λ r. r >>= λ es. Ok (d ∷ es)) others
fault_again f {L} {p} (too_deep {id = b} {more = bs} deep is) k n depth enough =
    let n-is : n ≡ suc (n - 1) = omega arith in
    let k-is : k ≡ 0 = omega arith in
    ap₂ (λ m l. members_with (member_at l) m p (b ∷ bs)) n-is k-is ∙ fails_here (member_at 0) (n - 1) p (b ∷ bs) f (omega arith) (no_level_again p b bs f is)
fault_again f {L} {p} (high {id = b} {more = bs} le tag is) k n depth enough = here k n p (b ∷ bs) f (omega arith) enough (omega arith) (high_again (k - 1) p b bs f tag is)
fault_again f {L} {p} (unexpected {id = b} {more = bs} le low never is) k n depth enough = here k n p (b ∷ bs) f (omega arith) enough (omega arith) (unexpected_again (k - 1) p b bs f low never is)
fault_again f {L} {p} (in_length {id = b} {more = bs} le known h) k n depth enough = here k n p (b ∷ bs) f (omega arith) enough (omega arith) (in_length_again (k - 1) p b bs f known h)
fault_again f {L} {p} {o} (in_contents kind c size rest le parts len h) k n depth enough =
    here k n p o f (omega (arith, ap length parts)) enough (omega arith) (in_contents_again (k - 1) p kind o c size rest f parts len h)
fault_again f {L} {p} {o} (within id c size rest le kind parts len h) k n depth enough =
    let inner = members_at-is (k - 1) (p + 1 + length size) c ∙ fault_again f h (k - 1) (length c) (omega arith) (omega arith) in
    here k n p o f (omega (arith, ap length parts)) enough (omega arith) (within_again (k - 1) p id o c size rest f kind parts len inner)

-- Where members have a fault reading stops with it.
pub all_wrong_again : (k L : ℕ) (f : Fault) → L + k ≡ 17 → (p : ℕ) (o : List ℕ) → FaultIn f L p o → members_at k p o ≡ Err f
all_wrong_again k L f depth p o h = members_at-is k p o ∙ fault_again f h k (length o) depth (omega arith)
