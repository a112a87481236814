-- What is over is let go, one block after the other.
use Rattle.std.proofs.Common.{◌≡◌, ℕ, zero, suc, ◌+◌, ◌<◌, ◌≤◌, Bool, false, true, Option, Some, None, List, [], ◌∷◌, length, get_or, set, slice_get, sym, ap, ◌∙◌, arith, subst, refl, inl, inr}
use Rattle.std.proofs.lemmas.Bool.{cases_Bool, cases_lt, false≢true, cond-true, cond-false}
use Rattle.std.proofs.lemmas.List.{length-set, length-map, map-set, get_or_past}
use Rattle.std.proofs.lemmas.Option.{none-some, same_Some, slice_get-get_or}
use Rattle.block_core.specs.declared.block.Block.{Block}
use Rattle.subscribe_core.specs.declared.deadlines.Deadlines.{Deadlines}
use Rattle.subscribe_core.specs.declared.names.Name.{Name}
use Rattle.subscribe_core.specs.declared.registers.LiveState.{LiveState}
use Rattle.subscribe_core.specs.declared.registers.Register.{Register}
use Rattle.subscribe_core.specs.computed.Deadlines.{KeepsDeadlinesOf, due_count, helds}
use Rattle.subscribe_core.specs.computed.Flagged.{AreFlagged}
use Rattle.subscribe_core.specs.computed.Indexed.{IsIndexed, registers_after_clock, register_after_clock}
use Rattle.subscribe_core.specs.State.{idle}
use Rattle.subscribe_core.specs.computed.Steps.{is_dead, after_clock}

-- what is due isn't held after
pub due_clears : (o : Option LiveState) (now : ℕ) → is_dead o now ≡ true → after_clock o now ≡ None
due_clears None now e = refl
due_clears (Some h) now e = cond-true _ None (Some h) e

-- what isn't due stays
pub not_due_stays : (o : Option LiveState) (now : ℕ) → is_dead o now ≡ false → after_clock o now ≡ o
not_due_stays None now e = refl
not_due_stays (Some h) now e = cond-false _ None (Some h) e

-- a register that holds nothing
abbrev pub let_go : Register → Register
let_go r = record { held = None; takes_simulated = r.takes_simulated }

let_go_cleared : (r : Register) (now : ℕ) → is_dead r.held now ≡ true → let_go r ≡ register_after_clock now r
let_go_cleared r now e = ap (λ (o : Option LiveState). record { held = o; takes_simulated = r.takes_simulated }) (sym (due_clears r.held now e))

-- what is due is cleared, so to clear it first is the same
pub cleared_set : (rs : List Register) (at now : ℕ) (r : Register) → slice_get rs at ≡ Some r → is_dead r.held now ≡ true → registers_after_clock now (set rs at (let_go r)) ≡ registers_after_clock now rs
cleared_set [] at now r is e = absurd (none-some r is)
cleared_set (x ∷ xs) zero now r is e =
    ap (λ (y : Register). y ∷ registers_after_clock now xs) (let_go_cleared r now e ∙ ap (register_after_clock now) (sym (same_Some x r is)))
cleared_set (x ∷ xs) (suc at) now r is e = ap (λ (ys : List Register). register_after_clock now x ∷ ys) (cleared_set xs at now r is e)

-- and one block less is due
pub count_set : (held : List (Option LiveState)) (at now : ℕ) → is_dead (get_or held at None) now ≡ true → due_count now (set held at None) + 1 ≡ due_count now held
count_set [] at now e = absurd (false≢true e)
count_set (h ∷ hs) zero now e = sym (cond-true _ (due_count now hs + 1) (due_count now hs) e)
count_set (h ∷ hs) (suc at) now e =
    let rest : due_count now (set hs at None) + 1 ≡ due_count now hs = count_set hs at now e in
    elim (cases_Bool (is_dead h now)) [
      | inl d ↦
          let a : due_count now (h ∷ set hs at None) ≡ due_count now (set hs at None) + 1 = cond-true _ _ (due_count now (set hs at None)) d in
          let b : due_count now (h ∷ hs) ≡ due_count now hs + 1 = cond-true _ _ (due_count now hs) d in
          omega arith
      | inr d ↦
          let a : due_count now (h ∷ set hs at None) ≡ due_count now (set hs at None) = cond-false _ (due_count now (set hs at None) + 1) _ d in
          let b : due_count now (h ∷ hs) ≡ due_count now hs = cond-false _ (due_count now hs + 1) _ d in
          omega arith
    ]

-- what is held, once one register is written
pub helds_set : (rs : List Register) (at : ℕ) (r : Register) → helds (set rs at r) ≡ set (helds rs) at r.held
helds_set rs at r = map-set (λ (x : Register). x.held) rs at r

pub held_of : (rs : List Register) (at : ℕ) (r : Register) → slice_get rs at ≡ Some r → get_or (helds rs) at None ≡ r.held
held_of [] at r e = absurd (none-some r e)
held_of (x ∷ xs) zero r e = ap (λ (y : Register). y.held) (same_Some x r e)
held_of (x ∷ xs) (suc at) r e = held_of xs at r e

pub register_of : (rs : List Register) (at : ℕ) → at < length rs → (r : Register) × (slice_get rs at ≡ Some r)
register_of rs at lt = (get_or rs at idle, slice_get-get_or rs at idle lt)

-- where none is due, nothing is cleared
pub cleared_none : (rs : List Register) (now : ℕ) → ((at : ℕ) → is_dead (get_or (helds rs) at None) now ≡ false) → registers_after_clock now rs ≡ rs
cleared_none [] now none = refl
cleared_none (r ∷ rs) now none =
    let first : register_after_clock now r ≡ r = ap (λ (o : Option LiveState). record { held = o; takes_simulated = r.takes_simulated }) (not_due_stays r.held now (none 0)) in
    let rest : registers_after_clock now rs ≡ rs = cleared_none rs now (λ at. none (suc at)) in
    cc

-- what is so at each turn: of what was held at first the last ones are left to let go
pub record IsClearing {A : Type 0} (now : ℕ) (first_blocks : List (Block A)) (first : List Register) (looks : ℕ)
    (blocks : List (Block A)) (registers : List Register) (names : List (Name A)) (deadlines : Deadlines A) (positions : List ℕ) (count : ℕ)
    (first_mode mode : Bool) (first_moment moment : ℕ) : Type 0 where
  pub indexed : IsIndexed blocks registers names deadlines positions
  pub same : registers_after_clock now registers ≡ registers_after_clock now first
  pub counted : count + due_count now (helds registers) ≤ looks + due_count now (helds first)
  pub blocks_stay : blocks ≡ first_blocks
  pub mode_stays : mode ≡ first_mode
  pub moment_stays : moment ≡ first_moment

-- after a write of one register
pub indexed_write : {A : Type 0} → (blocks blocks' : List (Block A)) (registers registers' : List Register) (names : List (Name A)) (at : ℕ) (r : Register) (deadlines deadlines' : Deadlines A) (positions positions' : List ℕ)
    → blocks' ≡ blocks → registers' ≡ set registers at r
    → IsIndexed blocks registers names deadlines positions
    → KeepsDeadlinesOf deadlines' (set (helds registers) at r.held)
    → AreFlagged positions' (set registers at r)
    → IsIndexed blocks' registers' names deadlines' positions'
indexed_write {A} blocks blocks' registers registers' names at r deadlines deadlines' positions positions' b h i t f =
    subst (λ (bs : List (Block A)). IsIndexed bs registers' names deadlines' positions') (sym b)
    (subst (λ (rs : List Register). IsIndexed blocks rs names deadlines' positions') (sym h)
    (record {
      sizes = length-set registers at r ∙ i.sizes;
      apart = i.apart;
      sorted = i.sorted;
      named = i.named;
      timed = subst (λ (hs : List (Option LiveState)). KeepsDeadlinesOf deadlines' hs) (sym (helds_set registers at r)) t;
      flagged = f;
    }))

pub due_within : (rs : List Register) (at now : ℕ) → is_dead (get_or (helds rs) at None) now ≡ true → at < length rs
due_within rs at now e =
    elim (cases_lt at (length rs)) [
      | inl lt ↦ lt
      | inr past ↦
          let size : length (helds rs) ≡ length rs = length-map rs (λ (r : Register). r.held) in
          absurd (false≢true (sym (ap (λ (h : Option LiveState). is_dead h now) (get_or_past (helds rs) at None (omega arith))) ∙ e))
    ]
