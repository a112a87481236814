-- What follows where no entry of an event is a change.
use Rattle.std.proofs.Common.{◌≡◌, ℕ, ◌+◌, Bool, true, false, List, [], ◌∷◌, ◌++◌, refl, sym, ◌∙◌}
use Rattle.std.proofs.lemmas.List.Elements.{filter-append}
use Rattle.block_core.specs.declared.block.Block.{Block}
use Rattle.list_core.proofs.Emptiness.{back_nil, front_nil}
use Rattle.subscribe_core.specs.declared.entry.Entry.{Entry}
use Rattle.subscribe_core.specs.declared.entry.Entry.TheVariants as says
use Rattle.subscribe_core.specs.declared.registers.Register.{Register}
use Rattle.subscribe_core.specs.Changes.{changes, is_change}
use Rattle.subscribe_core.specs.EventsRead.{Content, FrameRead}
use Rattle.subscribe_core.specs.FrameEntry.{entry_of}
use Rattle.subscribe_core.specs.Matching.{facts_of_frame}
use Rattle.subscribe_core.specs.computed.Indexed.{good_entries, switches}
use Rattle.subscribe_core.specs.computed.Steps.{after_clock, after_switch, expired_entries, is_dead, switch_by, switched_entries, verdict_on}

pub changes_front : {A : Type 0} (a b : List (Entry A)) → changes (a ++ b) ≡ [] → changes a ≡ []
changes_front a b none = front_nil (changes a) (changes b) (sym (filter-append is_change a b) ∙ none)

pub changes_back : {A : Type 0} (a b : List (Entry A)) → changes (a ++ b) ≡ [] → changes b ≡ []
changes_back a b none = back_nil (changes a) (changes b) (sym (filter-append is_change a b) ∙ none)

-- each expiry is a change
pub none_expired : {A : Type 0} (now b : ℕ) (rs : List Register) → changes (expired_entries {A = A} now b rs) ≡ [] → expired_entries {A = A} now b rs ≡ []
none_expired now b [] none = refl
none_expired {A} now b (r ∷ rs) none = go (is_dead r.held now) refl (none_expired {A = A} now (b + 1) rs)
  where
    go : (d : Bool) → is_dead r.held now ≡ d → (changes (expired_entries {A = A} now (b + 1) rs) ≡ [] → expired_entries {A = A} now (b + 1) rs ≡ []) → expired_entries {A = A} now b (r ∷ rs) ≡ []
    go true d later = let bad : says.Expired b ∷ changes (expired_entries {A = A} now (b + 1) rs) ≡ [] = rw d at none in cc
    go false d later = rw d (later (rw d at none))

-- and so is each switch
pub none_switched : {A : Type 0} (mode : Bool) (k : Content) (b : ℕ) (xs : List (Block A)) (rs : List Register) → changes (switched_entries mode k b xs rs) ≡ [] → switched_entries mode k b xs rs ≡ []
none_switched mode k b [] rs none = refl
none_switched mode k b (x ∷ xs) [] none = refl
none_switched mode k b (x ∷ xs) (r ∷ rs) none = go (switch_by x mode r.takes_simulated k) refl (none_switched mode k (b + 1) xs rs)
  where
    go : (d : Bool) → switch_by x mode r.takes_simulated k ≡ d → (changes (switched_entries mode k (b + 1) xs rs) ≡ [] → switched_entries mode k (b + 1) xs rs ≡ []) → switched_entries mode k b (x ∷ xs) (r ∷ rs) ≡ []
    go true d later = let bad : says.Switched b ∷ changes (switched_entries mode k (b + 1) xs rs) ≡ [] = rw d at none in cc
    go false d later = rw d (later (rw d at none))

-- a good frame of which no entry is a change switches nothing
pub no_switch : {A : Type 0} (b now : ℕ) (r : Register) (f : FrameRead) → changes (good_entries {A = A} b now r f) ≡ [] → switches r f ≡ true → ⊥
no_switch {A} b now r f none on =
    let bad : changes (says.Switched b ∷ entry_of {A = A} b f (verdict_on (after_switch true (after_clock r.held now)) (facts_of_frame f)) ∷ []) ≡ [] = rw on at none in
    cc
