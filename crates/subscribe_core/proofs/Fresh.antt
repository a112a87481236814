-- Blocks that are given twice, and a subscriber to which nothing has happened.
use Rattle.std.proofs.Common.{◌≡◌, ℕ, zero, suc, ◌<◌, Bool, false, if◌then◌else◌, Option, None, List, [], length, get_or, replicate, sym, ap, ◌∙◌, refl, inl, inr}
use Rattle.std.proofs.lemmas.Bool.{cases_order}
use Rattle.std.proofs.lemmas.Option.{slice_get_within}
use Rattle.std.proofs.lemmas.List.{length-map, length-replicate}
use Rattle.block_core.specs.declared.block.Block.{Block}
use Rattle.subscribe_core.specs.declared.deadlines.Deadlines.{Deadlines}
use Rattle.subscribe_core.specs.declared.names.Name.{Name}
use Rattle.subscribe_core.specs.declared.registers.LiveState.{LiveState}
use Rattle.subscribe_core.specs.declared.registers.Register.{Register}
use Rattle.subscribe_core.specs.computed.Deadlines.{KeepsDeadlinesOf, helds}
use Rattle.subscribe_core.specs.computed.Flagged.{flag_at}
use Rattle.subscribe_core.specs.computed.Indexed.{IsIndexed}
use Rattle.subscribe_core.specs.computed.Names.{AreSorted, AreNamesOf}
use Rattle.subscribe_core.specs.Apart.{AreApart, IsTwice}
use Rattle.subscribe_core.specs.State.{idle}

pub apart_from : {A : Type 0} → (blocks : List (Block A)) → ((k : ℕ) → k < length blocks → ¬ IsTwice blocks k) → AreApart blocks
apart_from blocks h i j a b p q e =
    elim (cases_order i j) [
      | inl same ↦ same
      | inr (inl lt) ↦ absurd (h j (slice_get_within blocks j b q) (i, a, b, lt, p, q, e))
      | inr (inr gt) ↦ absurd (h i (slice_get_within blocks i a p) (j, b, a, gt, q, p, (sym e.0, sym e.1)))
    ]

idle_holds : (n p : ℕ) → get_or (helds (replicate n idle)) p None ≡ None
idle_holds zero p = refl
idle_holds (suc n) zero = refl
idle_holds (suc n) (suc p) = idle_holds n p

idle_takes : (n p : ℕ) → flag_at (replicate n idle) p ≡ false
idle_takes zero p = refl
idle_takes (suc n) zero = refl
idle_takes (suc n) (suc p) = idle_takes n p

-- nothing is held, no deadline is kept, and no block takes simulated frames
pub fresh_indexed : {A : Type 0} → (blocks : List (Block A)) (registers : List Register) (names : List (Name A)) (deadlines : Deadlines A) (positions : List ℕ)
    → registers ≡ replicate (length blocks) idle
    → ((held : List (Option LiveState)) → length held ≡ length blocks → ((p : ℕ) → get_or held p None ≡ None) → KeepsDeadlinesOf deadlines held)
    → AreApart blocks → AreSorted names → AreNamesOf names blocks → positions ≡ []
    → IsIndexed blocks registers names deadlines positions
fresh_indexed blocks registers names deadlines positions is kept apart sorted named empty =
    let size : length registers ≡ length blocks = ap length is ∙ length-replicate (length blocks) idle in
    record {
      sizes = size;
      apart = apart;
      sorted = sorted;
      named = named;
      timed = kept (helds registers) (length-map registers (λ (r : Register). r.held) ∙ size) (λ p. rw is (idle_holds (length blocks) p));
      flagged = rw (is, empty) (λ p. ap (λ (b : Bool). if b then 1 else 0) (sym (idle_takes (length blocks) p)));
    }
