-- The actions of an event are those of the blocks that act on it.
use Rattle.std.proofs.Common.{◌≡◌, ◌⊎◌, ℕ, zero, suc, ◌+◌, ◌<◌, true, inl, inr, Option, Some, None, List, [], ◌∷◌, ◌++◌, length, slice_get, get_or, Contains, sym, refl, ap, ◌∙◌, subst, arith}
use Rattle.std.proofs.lemmas.Bool.{false≢true}
use Rattle.std.proofs.lemmas.List.Elements.{Contains-append_cases, Contains-append_right}
use Rattle.std.proofs.lemmas.Option.{same_Some}
use Rattle.mms_data.specs.Data.{Data}
use Rattle.mms_data.specs.declared.time.UtcTime.{UtcTime}
use Rattle.block_core.specs.declared.block.Block.{Block}
use Rattle.subscribe_core.specs.declared.entry.Entry.{Entry}
use Rattle.subscribe_core.specs.declared.entry.Entry.TheVariants as says
use Rattle.subscribe_core.specs.declared.entry.Reason.{Reason}
use Rattle.subscribe_core.specs.declared.registers.Facts.{Facts}
use Rattle.subscribe_core.specs.declared.registers.Verdict.{Verdict}
use Rattle.subscribe_core.specs.declared.registers.Verdict.TheVariants.{Act, Refreshed, Repeated, Older}
use Rattle.subscribe_core.specs.Entries.{AreOfContent, AreOfEach, AreReadEntriesAt, ExpiresAt, SwitchesAt}
use Rattle.subscribe_core.specs.FrameEntry.{IsBlockEntry, IsFrameEntry, entry_of, reason_at}
use Rattle.subscribe_core.specs.Epoch.{Acts, IsVerdict}
use Rattle.subscribe_core.specs.Laws.{ActsAreTold, IsActOn}
use Rattle.subscribe_core.specs.Matching.{facts_of_frame, is_of}
use Rattle.subscribe_core.specs.EventsRead.{Content, FrameRead, OfClock, OfFault, OfGoose, OfMode, OfSampled, EventRead}
use Rattle.subscribe_core.specs.Sight.{facts_at, facts_of, trace_of_block}
use Rattle.subscribe_core.specs.Simulation.{mode_at, takes_simulated}
use Rattle.subscribe_core.specs.Apart.{AreApart}
use Rattle.subscribe_core.proofs.Alike.{good_frame}
use Rattle.subscribe_core.proofs.Alone.{same_block, same_position, verdict_unique}

cons_cases : {X : Type 0} (y : X) (rest : List X) (x : X) → Contains (y ∷ rest) x → (y ≡ x) ⊎ Contains rest x
cons_cases y rest x w = go w.0 w.1 w.2
  where
    go : (k : ℕ) → k < length (y ∷ rest) → get_or (y ∷ rest) k x ≡ x → (y ≡ x) ⊎ Contains rest x
    go zero lt e = inl e
    go (suc k) lt e = inr (k, omega arith, e)

nil_cases : {X : Type 0} (x : X) → Contains [] x → ⊥
nil_cases x w = let lt : w.0 < 0 = w.1 in omega arith

only_cases : {X : Type 0} (y x : X) → Contains (y ∷ []) x → y ≡ x
only_cases y x w = elim (cons_cases y [] x w) [ inl e ↦ e | inr n ↦ absurd (nil_cases x n) ]

only_has : {X : Type 0} (x : X) → Contains (x ∷ []) x
only_has x = (0, omega arith, refl)

-- neither the expiries nor the switches hold an action

each_only : {A : Type 0} → (so : Block A → Type 0) (entry : ℕ → Entry A) (x : Entry A) → ((b : ℕ) → entry b ≡ x → ⊥) → (b : ℕ) (blocks : List (Block A)) (es : List (Entry A)) → AreOfEach so entry b blocks es → Contains es x → ⊥
each_only {A} so entry x apart b [] es a w = nil_cases x (subst (λ (l : List (Entry A)). Contains l x) a w)
each_only so entry x apart b (y ∷ ys) es (inr a) w = each_only so entry x apart (b + 1) ys es a.1 w
each_only {A} so entry x apart b (y ∷ ys) es (inl a) w =
    elim (cons_cases (entry b) a.1.0 x (subst (λ (l : List (Entry A)). Contains l x) a.1.1 w)) [
      | inl e ↦ apart b e
      | inr r ↦ each_only so entry x apart (b + 1) ys a.1.0 a.1.2 r
    ]

-- an action is that of its block

record IsActionOf {A : Type 0} (blocks : List (Block A)) (events : List EventRead) (i b : ℕ) (f : FrameRead) (entry : Entry A) : Type 0 where
  block : Block A
  at : slice_get blocks b ≡ Some block
  acts : Acts (trace_of_block block events) i
  told : entry ≡ entry_of b f Act

verdict_action : {A : Type 0} → (blocks : List (Block A)) (events : List EventRead) (i c : ℕ) (block : Block A) (f : FrameRead) (v : Verdict) (b st sq : ℕ) (t : UtcTime) (m : List Data) → slice_get blocks c ≡ Some block → IsVerdict (trace_of_block block events) i (facts_of_frame f) v → entry_of {A = A} c f v ≡ says.Act b st sq t m → IsActionOf blocks events i b f (says.Act b st sq t m)
verdict_action {A} blocks events i c block f Act b st sq t m here w e =
    let position : c ≡ b = cc in
    record {
      block = block;
      at = ap (slice_get blocks) (sym position) ∙ here;
      acts = w;
      told = sym e ∙ ap (λ (n : ℕ). entry_of {A = A} n f Act) position;
    }
verdict_action blocks events i c block f Refreshed b st sq t m here w e = absurd cc
verdict_action blocks events i c block f Repeated b st sq t m here w e = absurd cc
verdict_action blocks events i c block f Older b st sq t m here w e = absurd cc

block_action : {A : Type 0} → (blocks : List (Block A)) (events : List EventRead) (i c : ℕ) (block : Block A) (f : FrameRead) (r : Option Reason) (b st sq : ℕ) (t : UtcTime) (m : List Data) → slice_get blocks c ≡ Some block → IsBlockEntry events i c block f r (says.Act b st sq t m) → IsActionOf blocks events i b f (says.Act b st sq t m)
block_action blocks events i c block f (Some r) b st sq t m here a = absurd cc
block_action blocks events i c block f None b st sq t m here a = verdict_action blocks events i c block f a.0 b st sq t m here a.1 (sym a.2)

frame_action : {A : Type 0} → (blocks : List (Block A)) (events : List EventRead) (i : ℕ) (f : FrameRead) (b st sq : ℕ) (t : UtcTime) (m : List Data) → IsFrameEntry blocks events i f (says.Act b st sq t m) → IsActionOf blocks events i b f (says.Act b st sq t m)
frame_action blocks events i f b st sq t m (inl a) = absurd (let e = a.told in cc)
frame_action blocks events i f b st sq t m (inr a) = block_action blocks events i a.position a.block f (reason_at a.block events i f) b st sq t m a.here a.told

content_action : {A : Type 0} → (blocks : List (Block A)) (events : List EventRead) (i : ℕ) (k : Content) (es : List (Entry A)) (b st sq : ℕ) (t : UtcTime) (m : List Data) → AreOfContent blocks events i k es → Contains es (says.Act b st sq t m) → (f : FrameRead) × (k ≡ OfGoose f) × IsActionOf blocks events i b f (says.Act b st sq t m)
content_action {A} blocks events i (OfGoose f) es b st sq t m a w =
    let e : a.0 ≡ says.Act b st sq t m = only_cases a.0 (says.Act b st sq t m) (subst (λ (l : List (Entry A)). Contains l (says.Act b st sq t m)) a.2 w) in
    (f, refl, frame_action blocks events i f b st sq t m (subst (λ (x : Entry A). IsFrameEntry blocks events i f x) e a.1))
content_action {A} blocks events i OfSampled es b st sq t m a w =
    let e = only_cases says.Sampled (says.Act b st sq t m) (subst (λ (l : List (Entry A)). Contains l (says.Act b st sq t m)) a w) in absurd cc
content_action {A} blocks events i (OfFault x) es b st sq t m a w =
    let e = only_cases (says.Faulty x) (says.Act b st sq t m) (subst (λ (l : List (Entry A)). Contains l (says.Act b st sq t m)) a w) in absurd cc
content_action {A} blocks events i OfClock es b st sq t m a w = absurd (nil_cases (says.Act b st sq t m) (subst (λ (l : List (Entry A)). Contains l (says.Act b st sq t m)) a w))
content_action {A} blocks events i (OfMode on) es b st sq t m a w = absurd (nil_cases (says.Act b st sq t m) (subst (λ (l : List (Entry A)). Contains l (says.Act b st sq t m)) a w))

act_told : {A : Type 0} → (blocks : List (Block A)) (events : List EventRead) (i : ℕ) (es : List (Entry A)) (b st sq : ℕ) (t : UtcTime) (m : List Data) → AreReadEntriesAt blocks events i es → Contains es (says.Act b st sq t m) → IsActOn blocks events i b (says.Act b st sq t m)
act_told {A} blocks events i es b st sq t m a has =
    let said : Contains a.said (says.Act b st sq t m) =
    elim (Contains-append_cases a.expired (a.switched ++ a.said) (says.Act b st sq t m) (subst (λ (l : List (Entry A)). Contains l (says.Act b st sq t m)) a.whole has)) [
      | inl x ↦ absurd (each_only (ExpiresAt events i) says.Expired (says.Act b st sq t m) (λ n e. cc) 0 blocks a.expired a.are_expired x)
      | inr y ↦ elim (Contains-append_cases a.switched a.said (says.Act b st sq t m) y) [
        | inl x ↦ absurd (each_only (SwitchesAt events i) says.Switched (says.Act b st sq t m) (λ n e. cc) 0 blocks a.switched a.are_switched x)
        | inr x ↦ x
      ]
    ] in
    let k = content_action blocks events i a.event.content a.said b st sq t m a.are_said said in
    record {
      block = k.2.block;
      at = k.2.at;
      event = a.event;
      read = a.at;
      frame = k.0;
      goose = k.1;
      acts = k.2.acts;
      told = k.2.told;
    }

-- and what its block acts on is told

good_at : {A : Type 0} → (block : Block A) (events : List EventRead) (i : ℕ) (e : EventRead) (f : FrameRead) (g : Facts) → slice_get events i ≡ Some e → e.content ≡ OfGoose f → (trace_of_block block events).good i ≡ Some g → (is_of f block ≡ true) × (reason_at block events i f ≡ None)
good_at block events i e f g at kind good =
    good_frame block (mode_at events i) (takes_simulated block events i) f g
    (ap (facts_of block (mode_at events i) (takes_simulated block events i)) (sym kind) ∙
    (ap (facts_at block (mode_at events i) (takes_simulated block events i)) (sym at) ∙ good))

acted_block : {A : Type 0} → (events : List EventRead) (i c : ℕ) (block : Block A) (f : FrameRead) (r : Option Reason) (x : Entry A) → Acts (trace_of_block block events) i → r ≡ None → IsBlockEntry events i c block f r x → x ≡ entry_of c f Act
acted_block events i c block f (Some r) x acts none a = absurd cc
acted_block {A} events i c block f None x acts none a =
    a.2 ∙ ap (entry_of {A = A} c f) (verdict_unique (trace_of_block block events) i (facts_of_frame f) a.0 Act a.1 acts)

acted_frame : {A : Type 0} → (blocks : List (Block A)) (events : List EventRead) (i b : ℕ) (block : Block A) (f : FrameRead) (x : Entry A) → AreApart blocks → slice_get blocks b ≡ Some block → is_of f block ≡ true → reason_at block events i f ≡ None → Acts (trace_of_block block events) i → IsFrameEntry blocks events i f x → x ≡ entry_of b f Act
acted_frame blocks events i b block f x apart here yes_of clear acts (inl a) = absurd (false≢true (sym (a.foreign b block here) ∙ yes_of))
acted_frame {A} blocks events i b block f x apart here yes_of clear acts (inr a) =
    let position : a.position ≡ b = same_position blocks apart f a.position b a.block block a.here here a.own yes_of in
    let same : a.block ≡ block = same_block blocks a.position b a.block block a.here here position in
    acted_block events i b block f (reason_at block events i f) x acts clear
    (subst (λ (z : Block A). IsBlockEntry events i b z f (reason_at z events i f) x) same
    (subst (λ n. IsBlockEntry events i n a.block f (reason_at a.block events i f) x) position a.told))

acted_told : {A : Type 0} → (blocks : List (Block A)) (events : List EventRead) (i : ℕ) (es : List (Entry A)) (b : ℕ) (entry : Entry A) → AreApart blocks → AreReadEntriesAt blocks events i es → IsActOn blocks events i b entry → Contains es entry
acted_told {A} blocks events i es b entry apart a w =
    let event : a.event ≡ w.event = same_Some a.event w.event (sym a.at ∙ w.read) in
    let said : AreOfContent blocks events i (OfGoose w.frame) a.said =
    subst (λ (k : Content). AreOfContent blocks events i k a.said) (ap (λ (e : EventRead). e.content) event ∙ w.goose) a.are_said in
    let good = good_at w.block events i w.event w.frame w.acts.facts w.read w.goose w.acts.good in
    let is : said.0 ≡ entry = acted_frame blocks events i b w.block w.frame said.0 apart w.at good.0 good.1 w.acts said.1 ∙ sym w.told in
    let one : Contains a.said entry = subst (λ (l : List (Entry A)). Contains l entry) (sym (said.2 ∙ ap (λ (x : Entry A). x ∷ []) is)) (only_has entry) in
    subst (λ (l : List (Entry A)). Contains l entry) (sym a.whole)
    (Contains-append_right a.expired (a.switched ++ a.said) entry (Contains-append_right a.switched a.said entry one))

pub acts_are_told : {A : Type 0} → ActsAreTold A
acts_are_told blocks events i es b st sq t m apart a =
    ((λ has. act_told blocks events i es b st sq t m a has), (λ w. acted_told blocks events i es b (says.Act b st sq t m) apart a w))
