-- The good frames of one epoch are all simulated or all real.
use Rattle.std.proofs.Common.{◌≡◌, ℕ, zero, suc, ◌+◌, ◌-◌, ◌<◌, ◌≤◌, Bool, true, false, not, ◌&&◌, if◌then◌else◌, inl, inr, Option, Some, None, List, [], ◌∷◌, ◌++◌, slice_get, sym, refl, ap, ◌∙◌, subst, arith}
use Rattle.std.proofs.lemmas.Bool.{cases_lt, cases_Bool, false≢true, and_parts, and_from, or_parts, not-false}
use Rattle.std.proofs.lemmas.Option.{none-some}
use Rattle.block_core.specs.declared.block.Block.{Block}
use Rattle.subscribe_core.specs.EventsRead.{FrameRead, EventRead, Content, OfGoose}
use Rattle.subscribe_core.specs.declared.registers.Facts.{Facts}
use Rattle.subscribe_core.specs.declared.entry.Reason.{Reason}
use Rattle.subscribe_core.specs.declared.entry.Reason.TheVariants.{DatSet, GoId, ConfRev, Commissioning, Simulated, Entries, StateZero, LiveZero}
use Rattle.subscribe_core.specs.Epoch.{Trace, IsOver, Ends, Next, IsLastStart}
use Rattle.subscribe_core.specs.Matching.{first_of, holds, is_of, reason_of, is_clear, facts_unless_refused, facts_of_frame}
use Rattle.subscribe_core.specs.Simulation.{is_other_kind, holds_at, is_plain_simulated, mode_at, invites, sets_off, takes_simulated, is_switched, TakesSimulated}
use Rattle.subscribe_core.specs.Sight.{facts_of, facts_at, trace_of_block}
use Rattle.subscribe_core.specs.Laws.{IsIn, OneKind, SimulatedAreTaken}
use Rattle.subscribe_core.proofs.Epochs.{first_good, over_after}
use Rattle.subscribe_core.proofs.Flags.{taken_is, taken_from, taken_here, taken_back, taken_same}

-- where none of the reasons is told, none of them holds
pub no_reason : (p : Reason → Bool) (rs qs : List Reason) (r : Reason) → p r ≡ true → first_of p (rs ++ r ∷ qs) ≡ None → ⊥
no_reason p [] qs r yes_r e = none-some r (sym e ∙ ap (λ (b : Bool). if b then Some r else first_of p qs) yes_r)
no_reason p (x ∷ rs) qs r yes_r e =
    elim (cases_Bool (p x)) [
      | inl is ↦ none-some x (sym e ∙ ap (λ (b : Bool). if b then Some x else first_of p (rs ++ r ∷ qs)) is)
      | inr is ↦ no_reason p rs qs r yes_r (sym (ap (λ (b : Bool). if b then Some x else first_of p (rs ++ r ∷ qs)) is) ∙ e)
    ]

-- nothing ends inside an epoch
not_ended : (t : Trace) (s j : ℕ) (g : Facts) → IsLastStart t j s → t.good j ≡ Some g → (k : ℕ) → k ≤ j → ¬ Ends t s k
not_ended t s j g l e k le ends =
    let x = first_good (j - k) t k j g (omega arith) e in
    let after : s < k = over_after t s k ends.over in
    let from : k ≤ x.0 = x.2.from in
    let last : x.0 ≤ s = l.last x.0 (Next l.start ends x.2) x.1 in
    omega arith

not_over : (m : ℕ) (t : Trace) (s j : ℕ) (g : Facts) → IsLastStart t j s → t.good j ≡ Some g → (k : ℕ) → k < m → k ≤ j → ¬ IsOver t s k
not_over zero t s j g l e k lt le over = omega arith
not_over (suc m) t s j g l e k lt le over =
    not_ended t s j g l e k le (record { over = over; first = λ i less. not_over m t s j g l e i (omega arith) (omega arith) })

no_switch : (t : Trace) (s j : ℕ) (g : Facts) → IsLastStart t j s → t.good j ≡ Some g → (k : ℕ) → s < k → k ≤ j → t.switched k ≡ false
no_switch t s j g l e k lt le =
    elim (cases_Bool (t.switched k)) [
      | inr f ↦ f
      | inl y ↦ absurd (not_over (suc k) t s j g l e k (omega arith) le (inr (lt, y)))
    ]

-- so the block takes the same frames all along
steady : {A : Type 0} → (d : ℕ) (b : Block A) (events : List EventRead) (s j : ℕ) → ((k : ℕ) → s < k → k ≤ j → is_switched b events k ≡ false) → j ≡ suc s + d → takes_simulated b events j ≡ takes_simulated b events (suc s)
steady zero b events s j h e = let at : j ≡ suc s = omega arith in ap (takes_simulated b events) at
steady (suc d) b events s zero h e = absurd (omega arith)
steady (suc d) b events s (suc j) h e =
    let more : takes_simulated b events (j + 1) ≡ takes_simulated b events j =
    taken_same (invites b events) (sets_off events) j (h j (omega arith) (omega arith)) in
    let at : suc j ≡ j + 1 = omega arith in
    ap (takes_simulated b events) at ∙ (more ∙ steady d b events s j (λ k lt le. h k lt (omega arith)) (omega arith))

-- what a good frame tells

pub refused : {A : Type 0} → (x : Bool) (b : Block A) (f : FrameRead) → reason_of x b f ≡ None → x ≡ false
refused false b f e = refl
refused true b f e =
    absurd (no_reason (holds true b f) (DatSet ∷ GoId ∷ ConfRev ∷ Commissioning ∷ []) (Entries ∷ StateZero ∷ LiveZero ∷ []) Simulated refl e)

pub good_frame : {A : Type 0} → (b : Block A) (mode taken : Bool) (f : FrameRead) (g : Facts) → facts_of b mode taken (OfGoose f) ≡ Some g → (is_of f b ≡ true) × (reason_of (is_other_kind f mode taken) b f ≡ None)
good_frame b mode taken f g e = go (is_of f b) refl (reason_of (is_other_kind f mode taken) b f) refl e
  where
    go : (o : Bool) → is_of f b ≡ o → (r : Option Reason) → reason_of (is_other_kind f mode taken) b f ≡ r → (if o then facts_unless_refused r (facts_of_frame f) else None) ≡ Some g → (is_of f b ≡ true) × (reason_of (is_other_kind f mode taken) b f ≡ None)
    go true o None r e = (o, r)
    go true o (Some reason) r e = absurd (none-some g e)
    go false o r rs e = absurd (none-some g e)

against_is : (f : FrameRead) (mode taken v : Bool) → f.pdu.simulation ≡ v → is_other_kind f mode taken ≡ (if v then not mode else taken)
against_is f mode taken v e = ap (λ (x : Bool). if x then not mode else taken) e

-- a good frame at i is simulated or real as the block takes them afterwards
record Tells {A : Type 0} (b : Block A) (events : List EventRead) (i : ℕ) (f : FrameRead) : Type 0 where
  simulated : f.pdu.simulation ≡ true → invites b events i ≡ true
  real : f.pdu.simulation ≡ false → (takes_simulated b events i ≡ false) × (invites b events i ≡ false)

tells : {A : Type 0} → (b : Block A) (events : List EventRead) (i : ℕ) (g : Facts) (e : EventRead) (f : FrameRead) → (trace_of_block b events).good i ≡ Some g → slice_get events i ≡ Some e → e.content ≡ OfGoose f → Tells b events i f
tells b events i g e f good at kind =
    let mode : Bool = mode_at events i in
    let event : slice_get events i ≡ Some e = at in
    let facts : facts_of b (mode_at events i) (takes_simulated b events i) (OfGoose f) ≡ Some g =
    ap (facts_of b (mode_at events i) (takes_simulated b events i)) (sym kind) ∙
    (ap (facts_at b (mode_at events i) (takes_simulated b events i)) (sym at) ∙ good) in
    let x = good_frame b (mode_at events i) (takes_simulated b events i) f g facts in
    let no_reason : is_other_kind f (mode_at events i) (takes_simulated b events i) ≡ false =
    refused (is_other_kind f (mode_at events i) (takes_simulated b events i)) b f x.1 in
    let clear : reason_of false b f ≡ None = ap (λ (y : Bool). reason_of y b f) (sym no_reason) ∙ x.1 in
    let invite_is : invites b events i ≡ ((is_of f b && (is_clear (reason_of false b f) && f.pdu.simulation)) && mode_at events i) =
    ap (λ (o : Option EventRead). holds_at (is_plain_simulated b) o && mode_at events i) at ∙
    ap (λ (k : Content). is_plain_simulated b k && mode_at events i) kind in
    record {
      simulated = λ s.
          let on : mode_at events i ≡ true =
          not-false (mode_at events i) (sym (against_is f (mode_at events i) (takes_simulated b events i) true s) ∙ no_reason) in
          invite_is ∙ and_from (is_of f b && (is_clear (reason_of false b f) && f.pdu.simulation)) (mode_at events i)
          (and_from (is_of f b) (is_clear (reason_of false b f) && f.pdu.simulation) x.0
          (and_from (is_clear (reason_of false b f)) f.pdu.simulation (ap is_clear clear) s)) on;
      real = λ s. (
        sym (against_is f (mode_at events i) (takes_simulated b events i) false s) ∙ no_reason,
        elim (cases_Bool (invites b events i)) [
          | inr n ↦ n
          | inl y ↦
              let p = and_parts (is_of f b && (is_clear (reason_of false b f) && f.pdu.simulation)) (mode_at events i) (sym invite_is ∙ y) in
              let q = and_parts (is_of f b) (is_clear (reason_of false b f) && f.pdu.simulation) p.0 in
              let r = and_parts (is_clear (reason_of false b f)) f.pdu.simulation q.1 in
              absurd (false≢true (sym s ∙ r.1))
        ],
      );
    }

-- the kind of a good frame is the one that the block takes since its epoch's start
kind_at_start : {A : Type 0} → (b : Block A) (events : List EventRead) (s : ℕ) (f : FrameRead) → Tells b events s f → f.pdu.simulation ≡ takes_simulated b events (s + 1)
kind_at_start b events s f x =
    elim (cases_Bool f.pdu.simulation) [
      | inl y ↦
          y ∙ sym (taken_from (invites b events) (sets_off events) (s + 1) (taken_here (invites b events) (sets_off events) s (x.simulated y)))
      | inr n ↦
          elim (cases_Bool (takes_simulated b events (s + 1))) [
            | inr t ↦ n ∙ sym t
            | inl t ↦
                let r = x.real n in
                absurd (elim (taken_back (invites b events) (sets_off events) s (taken_is (invites b events) (sets_off events) (s + 1) t)) [
                  | inl w ↦ false≢true (sym r.0 ∙ taken_from (invites b events) (sets_off events) s w)
                  | inr here ↦ false≢true (sym r.1 ∙ here)
                ])
          ]
    ]

kind_later : {A : Type 0} → (b : Block A) (events : List EventRead) (i : ℕ) (f : FrameRead) → Tells b events i f → is_switched b events i ≡ false → f.pdu.simulation ≡ takes_simulated b events i
kind_later b events i f x same =
    let parts = or_parts (invites b events i && not (takes_simulated b events i)) (sets_off events i && takes_simulated b events i) same in
    elim (cases_Bool f.pdu.simulation) [
      | inl y ↦
          elim (cases_Bool (takes_simulated b events i)) [
            | inl t ↦ y ∙ sym t
            | inr n ↦
                absurd (false≢true (sym parts.0 ∙ and_from (invites b events i) (not (takes_simulated b events i)) (x.simulated y) (ap not n)))
          ]
      | inr n ↦ n ∙ sym (x.real n).0
    ]

kind_is : {A : Type 0} → (b : Block A) (events : List EventRead) (s i : ℕ) (g : Facts) (e : EventRead) (f : FrameRead) → IsIn (trace_of_block b events) s i g → slice_get events i ≡ Some e → e.content ≡ OfGoose f → f.pdu.simulation ≡ takes_simulated b events (s + 1)
kind_is b events s i g e f a at kind =
    let within : s ≤ i = a.epoch.within in
    let told : Tells b events i f = tells b events i g e f a.good at kind in
    elim (cases_lt s i) [
      | inr ge ↦
          let same : i ≡ s = omega arith in
          kind_at_start b events s f (subst (λ k. Tells b events k f) same told)
      | inl lt ↦
          let quiet : (k : ℕ) → s < k → k ≤ i → is_switched b events k ≡ false = no_switch (trace_of_block b events) s i g a.epoch a.good in
          let at : suc s ≡ s + 1 = omega arith in
          kind_later b events i f told (quiet i lt (omega arith)) ∙
          (steady (i - suc s) b events s i quiet (omega arith) ∙ ap (takes_simulated b events) at)
    ]

pub simulated_are_taken : {A : Type 0} → SimulatedAreTaken A
simulated_are_taken block events i = (
  (λ is.
      let w = taken_is (invites block events) (sets_off events) i is in
      record { since = w.0; earlier = w.1; invited = w.2; lasts = w.3 }),
  (λ (x : TakesSimulated block events i).
      taken_from (invites block events) (sets_off events) i (x.since, x.earlier, x.invited, x.lasts)),
)

pub one_kind : {A : Type 0} → OneKind A
one_kind block events s i j f g d e x y a b at_i kind_i at_j kind_j =
    kind_is block events s i f d x a at_i kind_i ∙ sym (kind_is block events s j g e y b at_j kind_j)
