-- Texts of which no octet is written after a backslash.
use Rattle.std.proofs.Common.{◌≡◌, ℕ, ◌+◌, ◌-◌, ◌≤◌, Bool, true, false, List, [], ◌∷◌, ◌++◌, length, take, drop, ap, ap₂, append_assoc, refl, sym, ◌∙◌, arith}
use Rattle.std.specs.Prelude.{if◌then◌else◌}
use Rattle.std.specs.List.{flat_map}
use Rattle.std.proofs.lemmas.List.{drop-drop, take-append-drop, take-take}
use Rattle.std.proofs.lemmas.List.Concat.{flat_map-append}
use Rattle.text_core.specs.Pieces.{escaped}

grows : (c : Bool) (x : ℕ) (front back : List ℕ) → length back ≤ length front → length (x ∷ back) ≤ length ((if c then 92 ∷ x ∷ [] else x ∷ []) ++ front)
grows true x front back h = omega (arith, h)
grows false x front back h = omega (arith, h)

no_shorter : (text : List ℕ) → length text ≤ length (flat_map escaped text)
no_shorter [] = omega arith
no_shorter (x ∷ text) = grows _ x (flat_map escaped text) text (no_shorter text)

as_it_is : (c : Bool) (x : ℕ) (front back : List ℕ) → length back ≤ length front → (if c then 92 ∷ x ∷ [] else x ∷ []) ++ front ≡ x ∷ back
    → ((if c then 92 ∷ x ∷ [] else x ∷ []) ≡ x ∷ []) × (front ≡ back)
as_it_is true x front back h e = absurd (omega (arith, h, ap length e))
as_it_is false x front back h e = (refl, cc)

-- what stands in front in a text that is written as it is
plain_front : (a b : List ℕ) → flat_map escaped (a ++ b) ≡ a ++ b → flat_map escaped a ≡ a
plain_front [] b e = refl
plain_front (x ∷ a) b e =
    let parts = as_it_is _ x (flat_map escaped (a ++ b)) (a ++ b) (no_shorter (a ++ b)) e in
    ap (λ (l : List ℕ). l ++ flat_map escaped a) parts.0 ∙ ap (λ (l : List ℕ). x ∷ l) (plain_front a b parts.1)

-- a text whose first octets are written as they are, and whose last ones are, and these are all of it
pub short_text : (text first last : List ℕ) (n from : ℕ) → first ≡ take n text → last ≡ drop from text → from ≤ n → flat_map escaped first ≡ first → flat_map escaped last ≡ last
    → take from first ++ last ≡ flat_map escaped text
short_text text first last n from p q h front back =
    let whole = take-append-drop from text in
    let parts = take-append-drop from first in
    let short : take from first ≡ take from text = ap (take from) p ∙ take-take from n text h in
    let plain = plain_front (take from first) (drop from first) (ap (flat_map escaped) parts ∙ front ∙ sym parts) in
    ap (λ (l : List ℕ). l ++ last) (sym plain ∙ ap (flat_map escaped) short) ∙ ap (λ (l : List ℕ). flat_map escaped (take from text) ++ l) (sym back ∙ ap (flat_map escaped) q)
    ∙ sym (flat_map-append escaped (take from text) (drop from text)) ∙ ap (flat_map escaped) whole

-- the same of first octets and of last ones, which go on where the first end
pub short_put : (text first last old new : List ℕ) (n from : ℕ) → first ≡ take n text → last ≡ drop from text → from ≤ n → flat_map escaped first ≡ first → flat_map escaped last ≡ last
    → new ≡ first ++ (drop (n - from) last ++ old) → new ≡ flat_map escaped text ++ old
short_put text first last old new n from p q h front back e =
    let reached : from + (n - from) ≡ n = omega (arith, h) in
    let on : drop (n - from) last ≡ drop n text = ap (drop (n - from)) q ∙ drop-drop (n - from) from text ∙ ap (λ k. drop k text) reached in
    let whole : first ++ drop (n - from) last ≡ text = ap₂ (λ (x y : List ℕ). x ++ y) p on ∙ take-append-drop n text in
    let halves : take from first ++ last ≡ text = ap₂ (λ (x y : List ℕ). x ++ y) (ap (take from) p ∙ take-take from n text h) q ∙ take-append-drop from text in
    let plain : text ≡ flat_map escaped text = sym halves ∙ short_text text first last n from p q h front back in
    e ∙ sym (append_assoc first (drop (n - from) last) old) ∙ ap (λ (l : List ℕ). l ++ old) (whole ∙ plain)
