-- The texts of values in memory of their own.
use Rattle.std.proofs.Common.{◌≡◌, ◌+◌, ◌<◌, ℕ, List, [], ◌∷◌, ◌++◌, length, take, get_or, ap, sym, refl, ◌∙◌}
use Rattle.std.specs.List.{flat_map}
use Rattle.std.proofs.lemmas.List.{append-nil, map-append, take_more}
use Rattle.std.proofs.lemmas.List.Concat.{flat_map-append}
use Rattle.mms_data.specs.declared.value.Value.{Value}
use Rattle.mms_data.specs.Value.{data_of, datas}
use Rattle.text_core.specs.Pieces.{after_space}
use Rattle.text_core.specs.ValueText.{value_text}
use Rattle.text_core.proofs.PieceLemmas.{then_text}

-- the texts of so many values, and of one more
texts_more : {A : Type 0} (xs : List (Value A)) (i : ℕ) (v : Value A) → i < length xs → v ≡ get_or xs i v
    → flat_map (after_space value_text) (datas (take i xs)) ++ after_space value_text (data_of v) ≡ flat_map (after_space value_text) (datas (take (i + 1) xs))
texts_more xs i v l is =
    let one : take (i + 1) xs ≡ take i xs ++ v ∷ [] = take_more xs i v l ∙ ap (λ (x : Value _). take i xs ++ x ∷ []) (sym is) in
    sym (ap (λ (vs : List (Value _)). flat_map (after_space value_text) (datas vs)) one ∙ ap (flat_map (after_space value_text)) (map-append data_of (take i xs) (v ∷ []))
    ∙ flat_map-append (after_space value_text) (datas (take i xs)) (data_of v ∷ [])
    ∙ ap (λ (l : List ℕ). flat_map (after_space value_text) (datas (take i xs)) ++ l) (append-nil (after_space value_text (data_of v))))

-- a space and the text of one more value were appended
pub one_more : {A : Type 0} (o a b c : List ℕ) (xs : List (Value A)) (i : ℕ) (v : Value A) → i < length xs → v ≡ get_or xs i v
    → a ≡ o ++ flat_map (after_space value_text) (datas (take i xs)) → b ≡ a ++ 32 ∷ [] → c ≡ b ++ value_text (data_of v) → c ≡ o ++ flat_map (after_space value_text) (datas (take (i + 1) xs))
one_more o a b c xs i v l is before space text =
    then_text o (flat_map (after_space value_text) (datas (take i xs))) (after_space value_text (data_of v)) _ a c before
    (then_text a (32 ∷ []) (value_text (data_of v)) (32 ∷ value_text (data_of v)) b c space text refl) (texts_more xs i v l is)
