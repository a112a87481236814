-- Fields that are known to be read: what their values are.
use Rattle.std.proofs.Common.{◌≡◌, ℕ, eqb, Bool, true, false, cond, List, [], ◌∷◌, length, get_or, arith, rules, Some, None, Result, Ok, Err, refl}
use Rattle.std.proofs.lemmas.Bool.{eqb-true}
use Rattle.std.specs.Prelude.{IsOk}
use Rattle.byteorder.specs.Endian.{big_number}
use Rattle.ber_core.specs.Element.{contents_of}
use Rattle.ber_core.specs.Fields.{always, optional}
use Rattle.ber_core.specs.computed.ContentsReading.{counted_at}
use Rattle.ber_core.specs.computed.FieldReading.{field_as, required_at, there_at}
use Rattle.ber_core.specs.computed.Reading.{◌>>=◌}
use Rattle.ber_core.specs.declared.element.Header.{Header}
use Rattle.ber_core.specs.declared.fault.Fault.{Fault}
use Rattle.mms_data.specs.Utc.{utc_of}
use Rattle.mms_data.specs.declared.time.UtcTime.{UtcTime}
use Rattle.mms_data.specs.computed.UtcReading.{utc_at}
use Rattle.mms_data.specs.computed.ContentsReading.{is_few_octets}
use Rattle.pdu_core.specs.Contents.{Item, Kind, time, fixed, few, a_time, a_fixed, some_octets}
use Rattle.pdu_core.specs.computed.ContentsReading.{few_at, fixed_in, item_at}

-- where two steps give a value, the first does
pub first_step : {A B : Type 0} (r : Result A Fault) (f : A → Result B Fault) → IsOk (r >>= f) → IsOk r
first_step (Ok x) f k = refl
first_step (Err e) f k = absurd (cc)

-- and the second does
pub second_step : {A B : Type 0} (r : Result A Fault) (f : A → Result B Fault) (x : A) → r ≡ Ok x → IsOk (r >>= f) → IsOk (f x)
second_step r f x is k = rw is at k

-- ---- the value of contents that are known to be read

fixed_of_read : (t : Bool) (f : Fault) (size : ℕ) (c : List ℕ) → IsOk ((cond t (Ok c) (Err f) >>= λ d. Ok (big_number size d)) >>= λ n. Ok (a_fixed size n))
    → (t ≡ true) × (((cond t (Ok c) (Err f) >>= λ d. Ok (big_number size d)) >>= λ n. Ok (a_fixed size n)) ≡ Ok (a_fixed size (big_number size c)))
fixed_of_read true f size c k = (refl, refl)
fixed_of_read false f size c k = absurd (cc)

-- a number in one octet is that octet
pub one_number : (c : List ℕ) → length c ≡ 1 → big_number 1 c ≡ get_or c 0 0
one_number [] one = absurd (omega arith)
one_number (x ∷ []) one = search rules
one_number (x ∷ y ∷ more) one = absurd (omega arith)

pub fixed_known : (size : ℕ) (octets : List ℕ) (h : Header) → IsOk (item_at (fixed size) octets h)
    → (length (contents_of octets h) ≡ size) × (item_at (fixed size) octets h ≡ Ok (a_fixed size (big_number size (contents_of octets h))))
unfolding fixed_in counted_at
fixed_known size octets h k =
    let r = fixed_of_read (eqb (length (contents_of octets h)) size) _ size (contents_of octets h) k in
    (eqb-true (length (contents_of octets h)) size r.0, r.1)

time_of_read : (t : Bool) (f : Fault) (u : UtcTime) → IsOk (cond t (Ok u) (Err f) >>= λ v. Ok (a_time v)) → (t ≡ true) × ((cond t (Ok u) (Err f) >>= λ v. Ok (a_time v)) ≡ Ok (a_time u))
time_of_read true f u k = (refl, refl)
time_of_read false f u k = absurd (cc)

pub time_known : (octets : List ℕ) (h : Header) → IsOk (item_at time octets h)
    → (length (contents_of octets h) ≡ 8) × (item_at time octets h ≡ Ok (a_time (utc_of (contents_of octets h))))
unfolding utc_at
time_known octets h k =
    let r = time_of_read (eqb (length (contents_of octets h)) 8) _ (utc_of (contents_of octets h)) k in
    (eqb-true (length (contents_of octets h)) 8 r.0, r.1)

few_of_read : (t : Bool) (f : Fault) (c : List ℕ) → IsOk (cond t (Ok c) (Err f) >>= λ o. Ok (some_octets o)) → (cond t (Ok c) (Err f) >>= λ o. Ok (some_octets o)) ≡ Ok (some_octets c)
few_of_read true f c k = refl
few_of_read false f c k = absurd (cc)

pub few_known : (octets : List ℕ) (h : Header) → IsOk (item_at few octets h) → item_at few octets h ≡ Ok (some_octets (contents_of octets h))
unfolding few_at
few_known octets h k = few_of_read (is_few_octets (length (contents_of octets h))) _ (contents_of octets h) k

-- ---- a field that is always there

module _ (octets : List ℕ) (at end id : ℕ) (k : Kind) where
  pub required_known : IsOk (field_as item_at id k always octets at end) → IsOk (required_at id octets at end)
  required_known known = first_step (required_at id octets at end) _ known

  pub item_known : (h : Header) → required_at id octets at end ≡ Ok h → IsOk (field_as item_at id k always octets at end) → IsOk (item_at k octets h)
  item_known h is known = first_step (item_at k octets h) _ (second_step (required_at id octets at end) _ h is known)

  pub field_known : (h : Header) (x : Item) → required_at id octets at end ≡ Ok h → item_at k octets h ≡ Ok x → field_as item_at id k always octets at end ≡ Ok (Some x, h.contents_to)
  field_known h x is read = rw (is, read) refl

  -- ---- a field that may be absent

  pub there_known : IsOk (field_as item_at id k optional octets at end) → IsOk (there_at id octets at end)
  there_known known = first_step (there_at id octets at end) _ known

  pub item_known_if : (h : Header) → there_at id octets at end ≡ Ok (Some h) → IsOk (field_as item_at id k optional octets at end) → IsOk (item_at k octets h)
  item_known_if h is known = first_step (item_at k octets h) _ (second_step (there_at id octets at end) _ (Some h) is known)

  pub field_known_if : (h : Header) (x : Item) → there_at id octets at end ≡ Ok (Some h) → item_at k octets h ≡ Ok x → field_as item_at id k optional octets at end ≡ Ok (Some x, h.contents_to)
  field_known_if h x is read = rw (is, read) refl

  pub no_field : there_at id octets at end ≡ Ok None → field_as item_at id k optional octets at end ≡ Ok (None, at)
  no_field is = rw is refl
