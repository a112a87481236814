-- What is tracked, where one more sight is kept.
use Rattle.std.proofs.Common.{Some, None, ◌≡◌, ℕ, zero, suc, ◌<◌, true, false, List, [], ◌∷◌, ◌++◌, length, take, get_or, ap, ap₂, arith, refl, ◌∙◌, sym}
use Rattle.std.specs.Prelude.{option_map, slice_get, slice_set, if◌then◌else◌}
use Rattle.std.proofs.lemmas.List.{get_or_default, length-map, length-set, map-set}
use Rattle.std.proofs.lemmas.Option.{slice_get-map, slice_get_read}
use Rattle.known_core.specs.declared.runs.Runs.{Runs}
use Rattle.known_core.specs.computed.Positions.{AreInOrder}
use Rattle.known_core.proofs.OrderLemmas.{keys_stay}
use Rattle.known_core.proofs.PositionLemmas.{keys_kept}
use Rattle.loss_engine.specs.Sights.{Key, same_key}
use Rattle.loss_engine.specs.declared.entry.Entry.{Entry}
use Rattle.loss_engine.specs.declared.entry.Progress.{Progress as Held}
use Rattle.loss_engine.specs.computed.Entries.{IsFirstAt, all_tracked, entry_key, progress_of, tracked_by}
use Rattle.loss_engine.specs.computed.KeyOrder.{key_cmp}
use Rattle.loss_engine.specs.computed.Tracking.{Progress, Tracked, known_of, with_progress}
use Rattle.loss_engine.proofs.KeyOrder.{key_total}
use Rattle.loss_engine.proofs.TrackedKeys.{known_behind}

-- a key that none has
pub with_none : (xs : List Tracked) (key : Key) (first : Progress) (more : Progress → Progress) → known_of xs key ≡ None → with_progress xs key first more ≡ xs ++ record { key = key; progress = first } ∷ []
with_none [] key first more h = refl
with_none (x ∷ xs) key first more h = elim (same_key x.key key) as
    (λ b. (if b then Some x.progress else known_of xs key) ≡ None → (if b then record { key = x.key; progress = more x.progress } ∷ xs else x ∷ with_progress xs key first more) ≡ x ∷ (xs ++ record { key = key; progress = first } ∷ []))
    [ true ↦ λ e. cc | false ↦ λ e. ap (λ l. x ∷ l) (with_none xs key first more e) ] h

-- the first one with a key
none_step : (x : Tracked) (xs : List Tracked) (key : Key) → known_of (x ∷ xs) key ≡ None → (same_key x.key key ≡ false) × (known_of xs key ≡ None)
none_step x xs key h = elim (same_key x.key key) as (λ b. (if b then Some x.progress else known_of xs key) ≡ None → (b ≡ false) × (known_of xs key ≡ None)) [ true ↦ λ e. cc | false ↦ λ e. (refl, e) ] h

-- where it is not the first of all, it is the first of the others
behind_first : (x : Tracked) (xs : List Tracked) (key : Key) (at : ℕ) (f : IsFirstAt (x ∷ xs) key (suc at)) → (same_key x.key key ≡ false) × IsFirstAt xs key at
behind_first x xs key at f =
    let n = none_step x (take at xs) key f.none_before in
    (n.0, record { found = f.found; there = f.there; is = f.is; none_before = n.1 })

pub known_at : (xs : List Tracked) (key : Key) (at : ℕ) (f : IsFirstAt xs key at) → known_of xs key ≡ Some f.found.progress
unfolding behind_first
known_at [] key at f = let h = f.there in cc
known_at (x ∷ xs) key zero f = let same : x ≡ f.found = (let h = f.there in cc) in rw (same, f.is) refl
known_at (x ∷ xs) key (suc at) f = let r = behind_first x xs key at f in known_behind x xs key r.0 ∙ known_at xs key at r.1

pub with_at : (xs : List Tracked) (key : Key) (at : ℕ) (first : Progress) (more : Progress → Progress) (f : IsFirstAt xs key at) →
    with_progress xs key first more ≡ slice_set xs at (record { key = f.found.key; progress = more f.found.progress })
unfolding behind_first
with_at [] key at first more f = let h = f.there in cc
with_at (x ∷ xs) key zero first more f = let same : x ≡ f.found = (let h = f.there in cc) in rw (same, f.is) refl
with_at (x ∷ xs) key (suc at) first more f = let r = behind_first x xs key at f in rw r.0 (ap (λ l. x ∷ l) (with_at xs key at first more r.1))

-- an entry at a position as the one that is tracked there
module _ {A : Type 0} (es : List (Entry A)) (xs : List Tracked) (are : all_tracked es ≡ xs) (at : ℕ) (within : at < length xs) where
  pub entry_within : at < length es
  entry_within =
      let size : length (all_tracked es) ≡ length es = length-map es tracked_by in
      let same : length (all_tracked es) ≡ length xs = ap length are in
      omega arith

  module _ (e : Entry A) (is : e ≡ get_or es at e) where
    -- with another progress it has its key, so that positions stand in order
    pub still_in_order : (positions : Runs ℕ A) → AreInOrder key_cmp entry_key es positions → (p : Held) → AreInOrder key_cmp entry_key (slice_set es at (record e { progress = p })) positions
    still_in_order positions order p =
        let one = record e { progress = p } in
        keys_kept key_cmp key_total entry_key es positions order _ (length-set es at one) (λ i d lt. keys_stay entry_key es at one d entry_within (ap entry_key (is ∙ get_or_default es at e d entry_within)) i)

    module _ (key : Key) (f : IsFirstAt xs key at) where
      found_is : f.found ≡ tracked_by e
      found_is =
          let there : slice_get (all_tracked es) at ≡ Some (tracked_by e) = slice_get-map tracked_by es at ∙ ap (option_map tracked_by) (slice_get_read es (length es) at e refl entry_within is) in
          let same : slice_get (all_tracked es) at ≡ slice_get xs at = ap (λ (l : List Tracked). slice_get l at) are in
          let h = f.there in cc

      pub known_entry : known_of xs key ≡ Some (progress_of e.progress)
      known_entry = known_at xs key at f ∙ ap (λ (x : Tracked). Some x.progress) found_is

      pub kept_entry : (p : Held) (first : Progress) (more : Progress → Progress) → progress_of p ≡ more (progress_of e.progress) → all_tracked (slice_set es at (record e { progress = p })) ≡ with_progress xs key first more
      kept_entry p first more same =
          map-set tracked_by es at (record e { progress = p })
          ∙ ap₂ (λ (l : List Tracked) (x : Tracked). slice_set l at x) are (ap (λ (q : Progress). record { key = entry_key e; progress = q }) same ∙ ap (λ (x : Tracked). record { key = x.key; progress = more x.progress }) (sym found_is))
          ∙ sym (with_at xs key at first more f)
