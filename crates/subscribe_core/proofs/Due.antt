-- The blocks that are due, and the entries that say so.
use Rattle.std.proofs.Common.{◌≡◌, ℕ, ◌+◌, ◌≤◌, List, [], ◌∷◌, ◌++◌, length, map, sym, ap, ◌∙◌, arith, refl, inl, inr}
use Rattle.std.proofs.lemmas.Bool.{cases_Bool}
use Rattle.std.proofs.lemmas.List.{length-map, nil_from_length}
use Rattle.subscribe_core.specs.declared.entry.Entry.{Entry}
use Rattle.subscribe_core.specs.declared.entry.Entry.TheVariants as says
use Rattle.subscribe_core.specs.declared.registers.Register.{Register}
use Rattle.subscribe_core.specs.Looks.{expired_count}
use Rattle.subscribe_core.specs.computed.Steps.{is_dead, expired_entries}
use Rattle.subscribe_core.specs.computed.Deadlines.{helds, due_count, due_positions}

-- an entry for each
abbrev pub expired_at : (A : Type 0) → ℕ → Entry A
expired_at A p = says.Expired p

pub entries_are : (A : Type 0) (now b : ℕ) (rs : List Register) → map (expired_at A) (due_positions now b (helds rs)) ≡ expired_entries now b rs
entries_are A now b [] = refl
entries_are A now b (r ∷ rs) =
    let rest : map (expired_at A) (due_positions now (b + 1) (helds rs)) ≡ expired_entries now (b + 1) rs = entries_are A now (b + 1) rs in
    elim (cases_Bool (is_dead r.held now)) [
      | inl d ↦ rw d (ap (λ (es : List (Entry A)). says.Expired b ∷ es) rest)
      | inr d ↦ rw d rest
    ]

pub positions_none : (A : Type 0) (now : ℕ) (rs : List Register) → expired_entries {A = A} now 0 rs ≡ [] → due_positions now 0 (helds rs) ≡ []
positions_none A now rs none =
    let size : length (due_positions now 0 (helds rs)) ≡ 0 =
    sym (length-map (due_positions now 0 (helds rs)) (expired_at A)) ∙ ap length (entries_are A now 0 rs ∙ none) in
    nil_from_length (due_positions now 0 (helds rs)) size

-- how many expire
pub expired_counted : {A : Type 0} (now b : ℕ) (rs : List Register) (said : List (Entry A)) → due_count now (helds rs) ≤ expired_count (expired_entries now b rs ++ said)
expired_counted now b [] said = omega arith
expired_counted now b (r ∷ rs) said =
    let rest : due_count now (helds rs) ≤ expired_count (expired_entries now (b + 1) rs ++ said) = expired_counted now (b + 1) rs said in
    elim (cases_Bool (is_dead r.held now)) [
      | inl d ↦ rw d (omega arith)
      | inr d ↦ rw d rest
    ]
