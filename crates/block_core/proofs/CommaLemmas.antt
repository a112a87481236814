-- Texts of many fields.
use Rattle.std.proofs.Common.{◌≡◌, ◌++◌, ◌+◌, ◌<◌, ◌≤◌, ℕ, List, ◌∷◌, length, map, ap, sym, ◌∙◌, arith, Bor}
use Rattle.std.proofs.lemmas.List.{length-append, length-map}
use Rattle.list_core.proofs.Cuts.{cut_some}
use Rattle.block_core.specs.Commas.{comma_fields}

-- the fields so far, and at least one behind them
pub more_fields : (fields : List (Bor (List ℕ))) (rest text : List ℕ) → 13 ≤ length fields → map (λ field. field.now) fields ++ comma_fields rest ≡ comma_fields text → 13 < length (comma_fields text)
more_fields fields rest text many cut =
    let r = cut_some 44 rest in
    let all : length (comma_fields text) ≡ length (map (λ (field : Bor (List ℕ)). field.now) fields) + length (comma_fields rest) = ap length (sym cut) ∙ length-append (map (λ (field : Bor (List ℕ)). field.now) fields) (comma_fields rest) in
    let same : length (map (λ (field : Bor (List ℕ)). field.now) fields) ≡ length fields = length-map fields (λ (field : Bor (List ℕ)). field.now) in
    let last : length (comma_fields rest) ≡ length (r.0 ∷ r.1) = ap length r.2 in
    omega (arith, many, all, same, last)
