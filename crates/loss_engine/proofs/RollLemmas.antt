-- What is found among senders and streams by their keys.
use Rattle.std.proofs.Common.{◌≡◌, ℕ, zero, suc, ◌<◌, Bool, true, false, Option, Some, None, List, [], ◌∷◌, length, take, get_or, slice_get, ap, sym, ◌∙◌, refl, arith}
use Rattle.std.specs.Prelude.{if◌then◌else◌}
use Rattle.std.proofs.lemmas.Bool.{false_from_ne_true}
use Rattle.known_core.specs.declared.runs.Runs.{Runs}
use Rattle.known_core.specs.computed.Positions.{AreInOrder}
use Rattle.known_core.proofs.PositionLemmas.{keys_differ, one_of}
use Rattle.loss_engine.specs.declared.entry.Entry.{Entry}
use Rattle.loss_engine.specs.Sights.{Key, same_key}
use Rattle.loss_engine.specs.computed.Entries.{IsFirstAt, all_tracked, entry_key, progress_of, tracked_by}
use Rattle.loss_engine.specs.computed.KeyOrder.{key_cmp}
use Rattle.loss_engine.specs.computed.Roll.{HasKeyAt}
use Rattle.loss_engine.specs.computed.Tracking.{Progress, known_of}
use Rattle.loss_engine.proofs.KeyOrder.{key_total}
use Rattle.loss_engine.proofs.TrackedKeys.{same_is, same_itself}

passed : (b : Bool) (p : Progress) (o : Option Progress) → (if b then Some p else o) ≡ None → o ≡ None
passed true p o h = cc
passed false p o h = h

module _ {A : Type 0} where
  -- none has the key
  pub none_known : (es : List (Entry A)) (key : Key) → ((j : ℕ) (d : Entry A) → j < length es → entry_key (get_or es j d) ≡ key → ⊥) → known_of (all_tracked es) key ≡ None
  none_known [] key none = refl
  none_known (e ∷ es) key none =
      let no : same_key (entry_key e) key ≡ false = false_from_ne_true _ (λ yes. none 0 e (omega arith) (same_is _ _ yes)) in
      rw no (none_known es key (λ j d lt f. none (suc j) d (omega arith) f))

  -- one has it
  pub one_known : (es : List (Entry A)) (key : Key) (at : ℕ) → at < length es → ((d : Entry A) → entry_key (get_or es at d) ≡ key) → known_of (all_tracked es) key ≡ None → ⊥
  one_known [] key at lt has none = absurd (omega arith)
  one_known (e ∷ es) key zero lt has none =
      let yes : same_key (entry_key e) key ≡ true = ap (same_key (entry_key e)) (sym (has e)) ∙ same_itself (entry_key e) in
      let h : (if true then Some (progress_of e.progress) else known_of (all_tracked es) key) ≡ None = ap (λ (b : Bool). if b then Some (progress_of e.progress) else known_of (all_tracked es) key) (sym yes) ∙ none in cc
  one_known (e ∷ es) key (suc at) lt has none = one_known es key at (omega arith) has (passed (same_key (entry_key e) key) (progress_of e.progress) (known_of (all_tracked es) key) none)

  pub tracked_at : (es : List (Entry A)) (at : ℕ) (d : Entry A) → at < length es → slice_get (all_tracked es) at ≡ Some (tracked_by (get_or es at d))
  tracked_at [] at d lt = absurd (omega arith)
  tracked_at (e ∷ es) zero d lt = refl
  tracked_at (e ∷ es) (suc at) d lt = tracked_at es at d (omega arith)

  front_tracked : (es : List (Entry A)) (n : ℕ) → take n (all_tracked es) ≡ all_tracked (take n es)
  front_tracked es zero = refl
  front_tracked [] (suc n) = refl
  front_tracked (e ∷ es) (suc n) = ap (λ l. tracked_by e ∷ l) (front_tracked es n)

  front_at : (es : List (Entry A)) (n j : ℕ) (d : Entry A) → j < length (take n es) → (j < n) × (get_or (take n es) j d ≡ get_or es j d)
  front_at es zero j d lt = absurd (omega arith)
  front_at [] (suc n) j d lt = absurd (omega arith)
  front_at (e ∷ es) (suc n) zero d lt = (omega arith, refl)
  front_at (e ∷ es) (suc n) (suc j) d lt = let rest = front_at es n j d (omega arith) in let below : j < n = rest.0 in (omega arith, rest.1)

  -- the entry that has the key at a position is the first one with it, where positions stand in order
  pub first_at : (es : List (Entry A)) (positions : Runs ℕ A) → AreInOrder key_cmp entry_key es positions → (key : Key) (at : ℕ) → HasKeyAt es key at → IsFirstAt (all_tracked es) key at
  first_at es positions are key at there =
      let d = one_of es (some at (length es) there.within) in record {
        found = tracked_by (get_or es at d);
        there = tracked_at es at d there.within;
        is = ap (λ (k : Key). same_key k key) (there.has d) ∙ same_itself key;
        none_before = ap (λ l. known_of l key) (front_tracked es at) ∙ none_known (take at es) key (λ j f lt e.
            let front = front_at es at j f lt in
            keys_differ key_cmp key_total entry_key es positions are j at f front.0 there.within (sym (ap entry_key front.1) ∙ e ∙ sym (there.has f)));
      }
    where
      some : (at n : ℕ) → at < n → 0 < n
      some at n lt = omega arith
