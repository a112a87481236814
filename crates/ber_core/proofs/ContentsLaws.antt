-- Reading of each kind of contents: what is read is spelled so, what is spelled so is read; and the same of faults.
use Rattle.std.proofs.Common.{◌≡◌, ℕ, ℤ, ◌+◌, ◌≤◌, ◌<◌, Bool, true, false, eqb, List, [], ◌∷◌, ◌++◌, length, Ok, Err, refl, sym, ap, subst, ◌∙◌, arith, inl, inr}
use Rattle.std.proofs.lemmas.Bool.{eqb-true, eqb-false, eq-eqb, ne_eqb, false_from_ne_true}
use Rattle.std.proofs.lemmas.Int.{ints}
use Rattle.std.specs.Prelude.{pos, negsuc, not, ◌&&◌, ◌||◌, ◌==◌, ◌⊎◌, ◌≤ℤ◌, nat_lt}
use Rattle.std.specs.List.{AllByRecursion}
use lib.Signed.{le_z}
use Rattle.byteorder.specs.Endian.{twos_complement}
use Rattle.ber_core.specs.Length.{number}
use Rattle.ber_core.specs.Integer.{Int}
use Rattle.ber_core.specs.Contents.{SpellsBoolean, BooleanFault, SpellsInteger, IntegerFault, no_octet, over_nine, outside, IsVisible, SpellsVisible, VisibleFault, SpellsCounted, CountedFault, is_visible}
use Rattle.ber_core.specs.computed.ContentsReading.{all_visible_at, any_integer_at, boolean_at, counted_at, in_range, integer_at, natural, visible_at}
use Rattle.ber_core.specs.Faults.{fault_of}
use Rattle.ber_core.specs.declared.fault.Fault.{Fault}
use Rattle.ber_core.specs.declared.fault.Cause.TheVariants as causes
use Rattle.ber_core.proofs.Steps.{chosen, bind_ok, bind_err, ok_is, err_is}

-- ---- texts

is_visible_true : (x : ℕ) → is_visible x ≡ true → IsVisible x
is_visible_true x e = grind arith

is_visible_false : (x : ℕ) → is_visible x ≡ false → ¬ IsVisible x
is_visible_false x e = λ h. grind arith

visible_true : (x : ℕ) → IsVisible x → is_visible x ≡ true
visible_true x h = grind arith

visible_false : (x : ℕ) → ¬ IsVisible x → is_visible x ≡ false
visible_false x n = false_from_ne_true (is_visible x) (λ t. n (is_visible_true x t))

pub all_visible_found : (from : ℕ) (c : List ℕ) (u : Unit {0}) → all_visible_at from c ≡ Ok u → AllByRecursion IsVisible c
unfolding all_visible_at
all_visible_found from [] u e = tt
all_visible_found from (x ∷ xs) u e = elim (chosen (is_visible x) _ _ _ e) [
  | inl t ↦ (is_visible_true x t.0, all_visible_found (from + 1) xs u t.1)
  | inr t ↦ absurd (let wrong = t.1 in cc)
]

pub all_visible_again : (from : ℕ) (c : List ℕ) → AllByRecursion IsVisible c → all_visible_at from c ≡ Ok tt
unfolding all_visible_at
all_visible_again from [] h = refl
all_visible_again from (x ∷ xs) h = rw (visible_true x h.0) (all_visible_again (from + 1) xs h.1)

pub all_visible_wrong : (f : Fault) (from : ℕ) (c : List ℕ) → all_visible_at from c ≡ Err f → VisibleFault f from c
unfolding all_visible_at
all_visible_wrong f from [] e = absurd (cc)
all_visible_wrong f from (x ∷ xs) e = elim (chosen (is_visible x) _ _ _ e) [
  | inl t ↦
      let (a, b, y, parts, good, bad, is) = all_visible_wrong f (from + 1) xs t.1 in
      let place : from + 1 + length a ≡ from + length (x ∷ a) = omega arith in
      (x ∷ a, b, y, ap (λ (l : List ℕ). x ∷ l) parts, (is_visible_true x t.0, good), bad, is ∙ ap (λ (n : ℕ). fault_of n causes.NotVisible) place)
  | inr t ↦
      let none : List ℕ = [] in
      let place : from ≡ from + length none = omega arith in
      ([], xs, x, refl, tt, is_visible_false x t.0, err_is {A = Unit {0}} (fault_of from causes.NotVisible) f t.1 ∙ ap (λ (n : ℕ). fault_of n causes.NotVisible) place)
]

all_visible_wrong_at : (f : Fault) (from : ℕ) (a b : List ℕ) (x : ℕ) → AllByRecursion IsVisible a → ¬ IsVisible x → f ≡ fault_of (from + length a) causes.NotVisible → all_visible_at from (a ++ x ∷ b) ≡ Err f
unfolding all_visible_at
all_visible_wrong_at f from [] b x good bad is = let place : from + 0 ≡ from = omega arith in rw (visible_false x bad, is, place) refl
all_visible_wrong_at f from (y ∷ a) b x good bad is =
    let place : from + length (y ∷ a) ≡ from + 1 + length a = omega arith in
    rw (visible_true y good.0) (all_visible_wrong_at f (from + 1) a b x good.1 bad (is ∙ ap (λ (n : ℕ). fault_of n causes.NotVisible) place))

pub all_visible_wrong_again : (f : Fault) (from : ℕ) (c : List ℕ) → VisibleFault f from c → all_visible_at from c ≡ Err f
all_visible_wrong_again f from c (a, b, x, parts, good, bad, is) = ap (all_visible_at from) parts ∙ all_visible_wrong_at f from a b x good bad is

pub visible_found : (from : ℕ) (c text : List ℕ) → visible_at from c ≡ Ok text → SpellsVisible text c
visible_found from c text e =
    let u = bind_ok (all_visible_at from c) _ text e in
    let same : c ≡ text = ok_is c text u.2 in
    (same, subst (AllByRecursion IsVisible) same (all_visible_found from c u.0 u.1))

pub visible_again : (from : ℕ) (c text : List ℕ) → SpellsVisible text c → visible_at from c ≡ Ok text
visible_again from c text (same, good) = rw (all_visible_again from c (subst (AllByRecursion IsVisible) (sym same) good)) (ap (λ (l : List ℕ). Ok l) same)

pub visible_wrong : (f : Fault) (from : ℕ) (c : List ℕ) → visible_at from c ≡ Err f → VisibleFault f from c
visible_wrong f from c e = elim (bind_err (all_visible_at from c) _ f e) [
  | inl u ↦ all_visible_wrong f from c u
  | inr u ↦ absurd (let wrong = u.2 in cc)
]

pub visible_wrong_again : (f : Fault) (from : ℕ) (c : List ℕ) → VisibleFault f from c → visible_at from c ≡ Err f
visible_wrong_again f from c wrong = let e = all_visible_wrong_again f from c wrong in rw e refl

-- ---- integers

size_test : (c : List ℕ) → (1 ≤ length c) → (length c ≤ 9) → (length c == 0 || nat_lt 9 (length c)) ≡ false
size_test c low high = grind arith

size_tested : (c : List ℕ) → (length c == 0 || nat_lt 9 (length c)) ≡ false → (1 ≤ length c) × (length c ≤ 9)
size_tested c e = (grind arith, grind arith)

size_wrong : (c : List ℕ) → (length c == 0 || nat_lt 9 (length c)) ≡ true → (length c ≡ 0) ⊎ (9 < length c)
size_wrong [] e = inl refl
size_wrong (x ∷ xs) e = inr (grind arith)

size_wrong_again : (c : List ℕ) → (length c ≡ 0) ⊎ (9 < length c) → (length c == 0 || nat_lt 9 (length c)) ≡ true
size_wrong_again c (inl h) = rw h refl
size_wrong_again [] (inr h) = refl
size_wrong_again (x ∷ xs) (inr h) = grind arith

within_true : (low high n : ℤ) → (le_z low n && le_z n high) ≡ true → (low ≤ℤ n) × (n ≤ℤ high)
within_true low high n e = (grind (arith, ints), grind (arith, ints))

within_again : (low high n : ℤ) → low ≤ℤ n → n ≤ℤ high → (le_z low n && le_z n high) ≡ true
within_again low high n a b = grind (arith, ints)

range_found : (low high : ℤ) (from : ℕ) (z n : ℤ) → in_range low high from z ≡ Ok n → (low ≤ℤ n) × (n ≤ℤ high) × (z ≡ n)
range_found low high from z n e = elim (chosen (le_z low z && le_z z high) _ _ _ e) [
  | inl t ↦ let same = ok_is z n t.1 in let w = within_true low high z t.0 in rw (sym same) (w.0, w.1, refl)
  | inr t ↦ absurd (let wrong = t.1 in cc)
]

range_again : (low high : ℤ) (from : ℕ) (n : ℤ) → low ≤ℤ n → n ≤ℤ high → in_range low high from n ≡ Ok n
range_again low high from n a b = rw (within_again low high n a b) refl

range_wrong : (f : Fault) (low high : ℤ) (from : ℕ) (z : ℤ) → in_range low high from z ≡ Err f → (¬ ((low ≤ℤ z) × (z ≤ℤ high))) × (f ≡ fault_of from causes.IntegerRange)
range_wrong f low high from z e = elim (chosen (le_z low z && le_z z high) _ _ _ e) [
  | inl t ↦ absurd (let wrong = t.1 in cc)
  | inr t ↦ (λ h. let yes = within_again low high z h.0 h.1 in let wrong : false ≡ true = sym t.0 ∙ yes in cc, err_is {A = ℤ} (fault_of from causes.IntegerRange) f t.1)
]

range_wrong_again : (f : Fault) (low high : ℤ) (from : ℕ) (z : ℤ) → ¬ ((low ≤ℤ z) × (z ≤ℤ high)) → f ≡ fault_of from causes.IntegerRange → in_range low high from z ≡ Err f
range_wrong_again f low high from z out is = rw (false_from_ne_true (le_z low z && le_z z high) (λ t. out (within_true low high z t)), is) refl

module _ (at : ℕ) (c : List ℕ) where
  pub any_integer_found : (n : ℤ) → any_integer_at at c ≡ Ok n → Int n c
  unfolding any_integer_at
  any_integer_found n e = elim (chosen (length c == 0 || nat_lt 9 (length c)) _ _ _ e) [
    | inl t ↦ absurd (let wrong = t.1 in cc)
    | inr t ↦ let s = size_tested c t.0 in (s.0, s.1, ok_is (twos_complement (length c) (number c)) n t.1)
  ]

  pub any_integer_again : (n : ℤ) → Int n c → any_integer_at at c ≡ Ok n
  unfolding any_integer_at
  any_integer_again n (few, many, is) = rw (size_test c few many, is) refl

  pub any_integer_wrong : (f : Fault) → any_integer_at at c ≡ Err f → (f ≡ fault_of (at + 1) causes.IntegerLength) × ((length c ≡ 0) ⊎ (9 < length c))
  unfolding any_integer_at
  any_integer_wrong f e = elim (chosen (length c == 0 || nat_lt 9 (length c)) _ _ _ e) [
    | inl t ↦ (err_is {A = ℤ} (fault_of (at + 1) causes.IntegerLength) f t.1, size_wrong c t.0)
    | inr t ↦ absurd (let wrong = t.1 in cc)
  ]

  pub any_integer_wrong_again : (f : Fault) → f ≡ fault_of (at + 1) causes.IntegerLength → (length c ≡ 0) ⊎ (9 < length c) → any_integer_at at c ≡ Err f
  unfolding any_integer_at
  any_integer_wrong_again f is size = rw (size_wrong_again c size, is) refl

module _ (low high : ℤ) (at from : ℕ) (c : List ℕ) where
  pub integer_found : (n : ℤ) → integer_at low high at from c ≡ Ok n → SpellsInteger low high n c
  unfolding integer_at
  integer_found n e =
      let x = bind_ok (any_integer_at at c) (in_range low high from) n e in
      let r = range_found low high from x.0 n x.2 in
      (r.0, r.1, subst (λ (z : ℤ). Int z c) r.2 (any_integer_found at c x.0 x.1))

  pub integer_again : (n : ℤ) → SpellsInteger low high n c → integer_at low high at from c ≡ Ok n
  unfolding integer_at
  integer_again n (least, most, is) = rw (any_integer_again at c n is) (range_again low high from n least most)

  pub integer_wrong : (f : Fault) → integer_at low high at from c ≡ Err f → IntegerFault f low high at from c
  unfolding integer_at
  integer_wrong f e = elim (bind_err (any_integer_at at c) (in_range low high from) f e) [
    | inl h ↦
        let w = any_integer_wrong at c f h in
        elim w.1 [ inl none ↦ no_octet none w.0 | inr many ↦ over_nine many w.0 ]
    | inr x ↦ let r = range_wrong f low high from x.0 x.2 in outside x.0 (any_integer_found at c x.0 x.1) r.0 r.1
  ]

  pub integer_wrong_again : (f : Fault) → IntegerFault f low high at from c → integer_at low high at from c ≡ Err f
  unfolding integer_at
  integer_wrong_again f (no_octet none is) = rw (any_integer_wrong_again at c f is (inl none)) refl
  integer_wrong_again f (over_nine many is) = rw (any_integer_wrong_again at c f is (inr many)) refl
  integer_wrong_again f (outside z spelled out fault) = rw (any_integer_again at c z spelled) (range_wrong_again f low high from z out fault)

pub natural_is : (n : ℤ) → pos 0 ≤ℤ n → n ≡ pos (natural n)
natural_is (pos n) h = refl
natural_is (negsuc n) h = absurd (omega (arith, ints))

-- ---- booleans

pub boolean_found : (at : ℕ) (c : List ℕ) (b : Bool) → boolean_at at c ≡ Ok b → SpellsBoolean b c
unfolding boolean_at
boolean_found at [] b e = absurd (cc)
boolean_found at (n ∷ []) b e = (n, refl, sym (ok_is (not (n == 0)) b e))
boolean_found at (n ∷ m ∷ ns) b e = absurd (cc)

pub boolean_again : (at : ℕ) (c : List ℕ) (b : Bool) → SpellsBoolean b c → boolean_at at c ≡ Ok b
unfolding boolean_at
boolean_again at c b (n, one, is) = rw (one, is) refl

pub boolean_wrong : (f : Fault) (at : ℕ) (c : List ℕ) → boolean_at at c ≡ Err f → BooleanFault f at c
unfolding boolean_at
boolean_wrong f at [] e = (λ x. omega arith, err_is {A = Bool} (fault_of (at + 1) causes.BooleanLength) f e)
boolean_wrong f at (n ∷ []) e = absurd (cc)
boolean_wrong f at (n ∷ m ∷ ns) e = (λ x. omega arith, err_is {A = Bool} (fault_of (at + 1) causes.BooleanLength) f e)

pub boolean_wrong_again : (f : Fault) (at : ℕ) (c : List ℕ) → BooleanFault f at c → boolean_at at c ≡ Err f
unfolding boolean_at
boolean_wrong_again f at [] (n, is) = rw is refl
boolean_wrong_again f at (x ∷ []) (n, is) = absurd (n refl)
boolean_wrong_again f at (x ∷ y ∷ ys) (n, is) = rw is refl

-- ---- octets of a stated count

module _ (count at : ℕ) (c : List ℕ) where
  pub counted_found : (octets : List ℕ) → counted_at count at c ≡ Ok octets → SpellsCounted count octets c
  unfolding counted_at
  counted_found octets e = elim (chosen (eqb (length c) count) _ _ _ e) [
    | inl t ↦ let same = ok_is c octets t.1 in (same, ap length (sym same) ∙ eqb-true (length c) count t.0)
    | inr t ↦ absurd (let wrong = t.1 in cc)
  ]

  pub counted_again : (octets : List ℕ) → SpellsCounted count octets c → counted_at count at c ≡ Ok octets
  unfolding counted_at
  counted_again octets (same, size) = rw (eq-eqb (length c) count (ap length same ∙ size)) (ap (λ (l : List ℕ). Ok l) same)

  pub counted_wrong : (f : Fault) → counted_at count at c ≡ Err f → CountedFault f count at c
  unfolding counted_at
  counted_wrong f e = elim (chosen (eqb (length c) count) _ _ _ e) [
    | inl t ↦ absurd (let wrong = t.1 in cc)
    | inr t ↦ (eqb-false (length c) count t.0, err_is {A = List ℕ} (fault_of (at + 1) causes.FixedLength) f t.1)
  ]

  pub counted_wrong_again : (f : Fault) → CountedFault f count at c → counted_at count at c ≡ Err f
  unfolding counted_at
  counted_wrong_again f (n, is) = rw (ne_eqb (length c) count n, is) refl
