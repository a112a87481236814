-- Values by their members.
use Rattle.std.proofs.Common.{◌≡◌, ℕ, List, [], ◌∷◌, map, ap, refl}
use Rattle.mms_data.specs.Data.{Data, items_of}
use Rattle.text_core.specs.ValueText.{value_text, item_texts}

pub item_texts_items_of : (ds : List Data) → item_texts (items_of ds) ≡ map value_text ds
item_texts_items_of [] = refl
item_texts_items_of (d ∷ ds) = ap (λ (l : List (List ℕ)). value_text d ∷ l) (item_texts_items_of ds)
