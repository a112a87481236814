-- Lines at the end of an input.
use Rattle.std.proofs.Common.{◌≡◌, ℕ, zero, suc, List, [], ◌∷◌, ◌++◌, take, drop, Some, None, ap, ◌∙◌, refl}
use Rattle.std.specs.Prelude.{slice_get}
use Rattle.std.proofs.lemmas.Grind.{flat_map-append}
use Rattle.engine_core.specs.EngineText.{ItemText, ends_silently, joined_texts}

-- nothing may be written at the end
pub no_end : {X : Type 0} (items : List (ℕ × X)) → (lines : List ItemText) × ends_silently items lines
no_end items = ([], refl)

pub no_line : (lines : List ItemText) (at : ℕ) → lines ≡ [] → slice_get lines at ≡ None
no_line lines at is = ap (λ (l : List ItemText). slice_get l at) is

-- a line that is there, where there is none
pub some_line : {P : Type 0} (lines : List ItemText) (at : ℕ) (w : ItemText) → lines ≡ [] → slice_get lines at ≡ Some w → P
some_line lines at w none is = let missing = no_line lines at none in cc

-- all lines stand before a position at which there is none
pub all_before : (lines : List ItemText) (at : ℕ) → slice_get lines at ≡ None → take at lines ≡ lines
all_before [] zero h = refl
all_before [] (suc n) h = refl
all_before (v ∷ vs) zero h = cc
all_before (v ∷ vs) (suc n) h = ap (λ (l : List ItemText). v ∷ l) (all_before vs n h)

-- a line more
pub one_more : (lines : List ItemText) (at : ℕ) (w : ItemText) → slice_get lines at ≡ Some w → take (suc at) lines ≡ take at lines ++ w ∷ []
one_more [] at w h = cc
one_more (v ∷ vs) zero w h = let same : v ≡ w = cc in ap (λ (x : ItemText). x ∷ []) same
one_more (v ∷ vs) (suc n) w h = ap (λ (l : List ItemText). v ∷ l) (one_more vs n w h)

-- all of them, by a line
pub split_at : (lines : List ItemText) (at : ℕ) (w : ItemText) → slice_get lines at ≡ Some w → lines ≡ take at lines ++ w ∷ drop (suc at) lines
split_at [] at w h = cc
split_at (v ∷ vs) zero w h = let same : v ≡ w = cc in ap (λ (x : ItemText). x ∷ vs) same
split_at (v ∷ vs) (suc n) w h = ap (λ (l : List ItemText). v ∷ l) (split_at vs n w h)

-- and their text
pub joined_at : (lines : List ItemText) (at : ℕ) (w : ItemText) → slice_get lines at ≡ Some w → joined_texts lines ≡ joined_texts (take at lines) ++ (w.text ++ joined_texts (drop (suc at) lines))
joined_at lines at w h = ap joined_texts (split_at lines at w h) ∙ flat_map-append (λ (x : ItemText). x.text) (take at lines) (w ∷ drop (suc at) lines)
