-- Parts of a region of octets: the places of a slice against the lists that stand there.
use Rattle.std.proofs.Common.{◌≡◌, ℕ, ◌-◌, ◌+◌, ◌≤◌, List, ◌∷◌, ◌++◌, length, take, drop, refl, sym, ap, ◌∙◌, append_assoc, arith}
use Rattle.std.proofs.lemmas.List.{take-take, drop-drop, drop-take, length-append, length-take, length-drop, take_at, drop_at}
use Rattle.std.proofs.Math.Seq.{take-add}
use Rattle.std.specs.Prelude.{slice_range}
use Rattle.ber_core.specs.Element.{contents_of}
use Rattle.ber_core.proofs.Headers.{header_for}

-- what follows m octets of a region
pub region-drop : (s : List ℕ) (a m e : ℕ) → a + m ≤ e → drop m (slice_range s a e) ≡ slice_range s (a + m) e
region-drop s a m e h =
    let k : e - a ≡ m + (e - (a + m)) = omega arith in
    rw (k, drop-take m (e - (a + m)) (drop a s), drop-drop m a s) refl

pub region-inner : (s : List ℕ) (a e from to : ℕ) → a ≤ from → from ≤ to → to ≤ e → slice_range (slice_range s a e) (from - a) (to - a) ≡ slice_range s from to
region-inner s a e from to h1 h2 h3 =
    let m : a + (from - a) ≡ from = omega arith in
    let k : (to - a) - (from - a) ≡ to - from = omega arith in
    let front : drop (from - a) (slice_range s a e) ≡ slice_range s from e = region-drop s a (from - a) e (omega arith) ∙ ap (λ x. slice_range s x e) m in
    let le : to - from ≤ e - from = omega arith in
    rw (k, front) (take-take (to - from) (e - from) (drop from s) le)

pub region-length : (s : List ℕ) (a e : ℕ) → e ≤ length s → length (slice_range s a e) ≡ e - a
region-length s a e h = omega (arith, length-take (e - a) (drop a s), length-drop a s)

-- a region cut in two
pub region-split : (s : List ℕ) (i j k : ℕ) → i ≤ j → j ≤ k → slice_range s i k ≡ slice_range s i j ++ slice_range s j k
region-split s i j k low high =
    let sizes : k - i ≡ (j - i) + (k - j) = omega arith in
    let back : i + (j - i) ≡ j = omega arith in
    let moved : drop (j - i) (drop i s) ≡ drop j s = drop-drop (j - i) i s ∙ ap (λ (n : ℕ). drop n s) back in
    ap (λ (n : ℕ). take n (drop i s)) sizes ∙ take-add (j - i) (k - j) (drop i s) ∙ ap (λ (o : List ℕ). slice_range s i j ++ take (k - j) o) moved

-- what stands behind the front of a region
pub behind_front : (octets : List ℕ) (p e : ℕ) (a b : List ℕ) → p ≤ e → e ≤ length octets → slice_range octets p e ≡ a ++ b → (slice_range octets (p + length a) e ≡ b) × (p + length a + length b ≡ e)
behind_front octets p e a b order within parts =
    let size : length a + length b ≡ e - p = sym (length-append a b) ∙ sym (ap length parts) ∙ region-length octets p e within in
    let low : p + length a ≤ e = omega arith in
    (sym (region-drop octets p (length a) e low) ∙ ap (drop (length a)) parts ∙ drop_at a b (length a) refl, omega arith)

-- the front of a region
pub front_is : (octets : List ℕ) (p e : ℕ) (a b : List ℕ) → p ≤ e → e ≤ length octets → slice_range octets p e ≡ a ++ b → slice_range octets p (p + length a) ≡ a
front_is octets p e a b order within parts =
    let ends = (behind_front octets p e a b order within parts).1 in
    let split = region-split octets p (p + length a) e (omega arith) (omega arith) in
    let size : length (slice_range octets p (p + length a)) ≡ length a = region-length octets p (p + length a) (omega arith) ∙ omega arith in
    sym (take_at (slice_range octets p (p + length a)) (slice_range octets (p + length a) e) (length a) size) ∙ ap (take (length a)) (sym split ∙ parts) ∙ take_at a b (length a) refl

-- an element, its contents and what follows it, where it stands at the front of a region
module _ (octets : List ℕ) (p e id : ℕ) (size c rest : List ℕ) (order : p ≤ e) (within : e ≤ length octets) (parts : slice_range octets p e ≡ id ∷ size ++ (c ++ rest)) where
  whole_front : slice_range octets p e ≡ (id ∷ size ++ c) ++ rest
  whole_front = parts ∙ ap (λ (x : List ℕ). id ∷ x) (sym (append_assoc size c rest))

  pub contents_are : contents_of octets (header_for p id (length size) (length c)) ≡ c
  contents_are =
      let behind = behind_front octets p e (id ∷ size) (c ++ rest) order within parts in
      let at : p + length (id ∷ size) ≡ p + 1 + length size = omega arith in
      let region : slice_range octets (p + 1 + length size) e ≡ c ++ rest = ap (λ (x : ℕ). slice_range octets x e) (sym at) ∙ behind.0 in
      front_is octets (p + 1 + length size) e c rest (omega (arith, behind.1)) within region

  pub element_is : slice_range octets p (p + 1 + length size + length c) ≡ id ∷ size ++ c
  element_is =
      let at : p + 1 + length size + length c ≡ p + length (id ∷ size ++ c) = omega (arith, length-append size c) in
      ap (λ (x : ℕ). slice_range octets p x) at ∙ front_is octets p e (id ∷ size ++ c) rest order within whole_front

  pub rest_is : (slice_range octets (p + 1 + length size + length c) e ≡ rest) × (p + 1 + length size + length c ≤ e)
  rest_is =
      let b = behind_front octets p e (id ∷ size ++ c) rest order within whole_front in
      let at : p + 1 + length size + length c ≡ p + length (id ∷ size ++ c) = omega (arith, length-append size c) in
      (ap (λ (x : ℕ). slice_range octets x e) at ∙ b.0, omega arith)
