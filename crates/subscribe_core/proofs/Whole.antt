-- One event at a subscriber: its entries and what it keeps are those of the whole list.
use Rattle.std.proofs.Common.{◌≡◌, ℕ, zero, suc, ◌+◌, ◌↔◌, max, Bool, true, false, inl, inr, Option, Some, None, List, [], ◌∷◌, ◌++◌, length, position, get_or, slice_get, if◌then◌else◌, cond, sym, refl, ap, ◌∙◌, subst, arith, take_all}
use Rattle.std.proofs.lemmas.Bool.{false≢true}
use Rattle.std.proofs.lemmas.Option.{none-some, same_Some, slice_get-get_or}
use Rattle.std.proofs.lemmas.List.{length_push}
use Rattle.std.proofs.lemmas.List.Quantifiers.{position-Some}
use Rattle.std.proofs.lemmas.Iterator.Adapters.{position_from-zero}
use Rattle.std.specs.List.{position_from}
use Rattle.block_core.specs.declared.block.Block.{Block}
use Rattle.subscribe_core.specs.EventsRead.{FrameRead, EventRead, Content, OfGoose, OfSampled, OfFault, OfClock, OfMode}
use Rattle.subscribe_core.specs.declared.registers.LiveState.{LiveState}
use Rattle.subscribe_core.specs.declared.registers.Register.{Register}
use Rattle.subscribe_core.specs.declared.entry.Reason.{Reason}
use Rattle.subscribe_core.specs.declared.entry.Entry.{Entry}
use Rattle.subscribe_core.specs.declared.entry.Entry.TheVariants as says
use Rattle.subscribe_core.specs.Epoch.{IsExpiry, BlockHolds}
use Rattle.subscribe_core.specs.computed.Steps.{is_dead, after_clock, after_switch, verdict_on, held_after_frame, switch_by, flag_by, expired_entries, switched_entries, turned, block_entry, block_held, held_by, register_by, registers_by, found_entry, frame_entry, said_of, step_entries, step_state}
use Rattle.subscribe_core.specs.Matching.{is_of, reason_of, facts_of_frame, facts_unless_refused}
use Rattle.subscribe_core.specs.Simulation.{is_other_kind, mode_by, mode_at, takes_simulated}
use Rattle.subscribe_core.specs.Sight.{facts_of, greatest_event_moment, trace_of_block}
use Rattle.subscribe_core.specs.State.{State, StandsAfterRead}
use Rattle.subscribe_core.specs.Entries.{AreOfContent, AreOfEach, AreReadEntriesAt, ExpiresAt, SwitchesAt}
use Rattle.subscribe_core.specs.FrameEntry.{IsFrameEntry, IsBlockEntry}
use Rattle.subscribe_core.proofs.OneBlock.{HoldsAt, clock_step, none_step, frame_step}
use Rattle.subscribe_core.proofs.Prefix.{holds_same}
use Rattle.subscribe_core.proofs.Traces.{get_pushed, front_same, switched_new, flag_new, mode_new, mode_kept, good_new, takes_front}

pub greatest-push : (events : List EventRead) (e : EventRead) → greatest_event_moment (events ++ e ∷ []) ≡ max (greatest_event_moment events) e.moment
greatest-push [] e = omega arith
greatest-push (x ∷ xs) e = omega (arith, greatest-push xs e)

trace_now : {A : Type 0} → (x : Block A) (events : List EventRead) (e : EventRead) → (trace_of_block x (events ++ e ∷ [])).now (length events) ≡ max (greatest_event_moment events) e.moment
trace_now x events e =
    ap greatest_event_moment (take_all (length events + 1) (events ++ e ∷ []) (omega (arith, length_push events e))) ∙ greatest-push events e

position_from_none : {X : Type 0} (p : X → Bool) (i : ℕ) (xs : List X) (j : ℕ) (x : X) → position_from p i xs ≡ None → slice_get xs j ≡ Some x → p x ≡ false
position_from_none p i [] j x e is = absurd (none-some x is)
position_from_none p i (w ∷ xs) j x e is = go (p w) refl j is e (λ k at none. position_from_none p (i + 1) xs k x none at)
  where
    go : (b : Bool) → p w ≡ b → (j : ℕ) → slice_get (w ∷ xs) j ≡ Some x → cond b (Some i) (position_from p (i + 1) xs) ≡ None → ((k : ℕ) → slice_get xs k ≡ Some x → position_from p (i + 1) xs ≡ None → p x ≡ false) → p x ≡ false
    go true b j is e rest = absurd (none-some i (sym e))
    go false b zero is e rest = ap p (sym (same_Some w x is)) ∙ b
    go false b (suc j) is e rest = rest j is e

pub position_none : {X : Type 0} (p : X → Bool) (xs : List X) → position p xs ≡ None → (j : ℕ) (x : X) → slice_get xs j ≡ Some x → p x ≡ false
position_none p xs e j x is = position_from_none p 0 xs j x (sym (position_from-zero p xs) ∙ e) is

-- what holds of one block at the event: its registers say what the list says
record Agrees {A : Type 0} (events : List EventRead) (e : EventRead) (now : ℕ) (mode : Bool) (x : Block A) (r : Register) : Type 0 where
  now_is : now ≡ (trace_of_block x (events ++ e ∷ [])).now (length events)
  switch_is : (trace_of_block x (events ++ e ∷ [])).switched (length events) ≡ switch_by x mode r.takes_simulated e.content
  good_is : (trace_of_block x (events ++ e ∷ [])).good (length events) ≡ facts_of x mode r.takes_simulated e.content
  reason_is : (f : FrameRead) → reason_of (is_other_kind f (mode_at (events ++ e ∷ []) (length events)) (takes_simulated x (events ++ e ∷ []) (length events))) x f ≡ reason_of (is_other_kind f mode r.takes_simulated) x f
  flag_is : flag_by x mode r.takes_simulated e.content ≡ takes_simulated x (events ++ e ∷ []) (length events + 1)
  expiry : (is_dead r.held now ≡ true) ↔ IsExpiry (trace_of_block x (events ++ e ∷ [])) (length events)
  held : HoldsAt (trace_of_block x (events ++ e ∷ [])) (length events) (turned now mode e.content x r)

agrees : {A : Type 0} → (events : List EventRead) (e : EventRead) (s : State A) → StandsAfterRead events s → (b : ℕ) (x : Block A) (r : Register) → slice_get s.blocks b ≡ Some x → slice_get s.registers b ≡ Some r → Agrees events e (max s.moment e.moment) s.mode x r
agrees events e s w b x r p q =
    let flag : r.takes_simulated ≡ takes_simulated x events (length events) = w.flags b x r p q in
    let now : max s.moment e.moment ≡ (trace_of_block x (events ++ e ∷ [])).now (length events) =
    ap (λ m. max m e.moment) w.moment ∙ sym (trace_now x events e) in
    let sw : (trace_of_block x (events ++ e ∷ [])).switched (length events) ≡ switch_by x s.mode r.takes_simulated e.content =
    switched_new x events e ∙ (ap (λ m. switch_by x m (takes_simulated x events (length events)) e.content) (sym w.mode) ∙ ap (λ y. switch_by x s.mode y e.content) (sym flag)) in
    let step = clock_step (trace_of_block x (events ++ e ∷ [])) (length events) r.held (holds_same (front_same x events (e ∷ [])) r.held (w.holds b x r p q)) in
    record {
      now_is = now;
      switch_is = sw;
      good_is = good_new x events e ∙ (ap (λ m. facts_of x m (takes_simulated x events (length events)) e.content) (sym w.mode) ∙ ap (λ y. facts_of x s.mode y e.content) (sym flag));
      reason_is = λ f.
          ap (λ m. reason_of (is_other_kind f m (takes_simulated x (events ++ e ∷ []) (length events))) x f) (mode_new events e ∙ sym w.mode) ∙
          ap (λ y. reason_of (is_other_kind f s.mode y) x f) (takes_front x events (e ∷ []) (length events) (omega arith) ∙ sym flag);
      flag_is = sym (flag_new x events e ∙ (ap (λ m. flag_by x m (takes_simulated x events (length events)) e.content) (sym w.mode) ∙ ap (λ y. flag_by x s.mode y e.content) (sym flag)));
      expiry = subst (λ m. (is_dead r.held m ≡ true) ↔ IsExpiry (trace_of_block x (events ++ e ∷ [])) (length events)) (sym now) step.0;
      held = subst (λ m. HoldsAt (trace_of_block x (events ++ e ∷ [])) (length events) (after_switch (switch_by x s.mode r.takes_simulated e.content) (after_clock r.held m))) (sym now)
          (subst (λ y. HoldsAt (trace_of_block x (events ++ e ∷ [])) (length events) (after_switch y (after_clock r.held ((trace_of_block x (events ++ e ∷ [])).now (length events))))) sw step.1);
    }

-- what the block holds after the event, and the verdict on its frame
of_facts : {A : Type 0} → (f : FrameRead) (x : Block A) (mode flag : Bool) (o : Bool) (r : Option Reason) → is_of f x ≡ o → reason_of (is_other_kind f mode flag) x f ≡ r → facts_of x mode flag (OfGoose f) ≡ (if o then facts_unless_refused r (facts_of_frame f) else None)
of_facts f x mode flag o r a b =
    ap (λ (y : Bool). if y then facts_unless_refused (reason_of (is_other_kind f mode flag) x f) (facts_of_frame f) else None) a ∙
    ap (λ (y : Option Reason). if o then facts_unless_refused y (facts_of_frame f) else None) b

block_ok : {A : Type 0} → (events : List EventRead) (e : EventRead) (now : ℕ) (mode : Bool) (x : Block A) (r : Register) (c : ℕ) (f : FrameRead) → Agrees events e now mode x r → e.content ≡ OfGoose f → is_of f x ≡ true → (held : Option LiveState) → HoldsAt (trace_of_block x (events ++ e ∷ [])) (length events) held → (reason : Option Reason) → reason_of (is_other_kind f mode r.takes_simulated) x f ≡ reason → IsBlockEntry (events ++ e ∷ []) (length events) c x f reason (block_entry c f reason held) × BlockHolds (trace_of_block x (events ++ e ∷ [])) (length events + 1) (block_held now f reason held)
block_ok events e now mode x r c f a is yes_of held at (Some reason) ri =
    (refl, none_step (trace_of_block x (events ++ e ∷ [])) (length events) held at (a.good_is ∙ (ap (facts_of x mode r.takes_simulated) is ∙ of_facts f x mode r.takes_simulated true (Some reason) yes_of ri)))
block_ok events e now mode x r c f a is yes_of held at None ri =
    let step = frame_step (trace_of_block x (events ++ e ∷ [])) (length events) held (facts_of_frame f) at (a.good_is ∙ (ap (facts_of x mode r.takes_simulated) is ∙ of_facts f x mode r.takes_simulated true None yes_of ri)) in (
      (verdict_on held (facts_of_frame f), step.0, refl),
      subst (λ m. BlockHolds (trace_of_block x (events ++ e ∷ [])) (length events + 1) (held_after_frame (verdict_on held (facts_of_frame f)) held m (facts_of_frame f))) (sym a.now_is) step.1,
    )

held_ok : {A : Type 0} → (events : List EventRead) (e : EventRead) (now : ℕ) (mode : Bool) (x : Block A) (r : Register) → Agrees events e now mode x r → (held : Option LiveState) → HoldsAt (trace_of_block x (events ++ e ∷ [])) (length events) held → (k : Content) → e.content ≡ k → BlockHolds (trace_of_block x (events ++ e ∷ [])) (length events + 1) (held_by now mode x r k held)
held_ok events e now mode x r a held at (OfGoose f) is = go (is_of f x) refl
  where
    go : (o : Bool) → is_of f x ≡ o → BlockHolds (trace_of_block x (events ++ e ∷ [])) (length events + 1) (if o then block_held now f (reason_of (is_other_kind f mode r.takes_simulated) x f) held else held)
    go true o = (block_ok events e now mode x r 0 f a is o held at (reason_of (is_other_kind f mode r.takes_simulated) x f) refl).1
    go false o =
        none_step (trace_of_block x (events ++ e ∷ [])) (length events) held at
        (a.good_is ∙ (ap (facts_of x mode r.takes_simulated) is ∙ of_facts f x mode r.takes_simulated false (reason_of (is_other_kind f mode r.takes_simulated) x f) o refl))
held_ok events e now mode x r a held at OfSampled is = none_step (trace_of_block x (events ++ e ∷ [])) (length events) held at (a.good_is ∙ ap (facts_of x mode r.takes_simulated) is)
held_ok events e now mode x r a held at (OfFault z) is = none_step (trace_of_block x (events ++ e ∷ [])) (length events) held at (a.good_is ∙ ap (facts_of x mode r.takes_simulated) is)
held_ok events e now mode x r a held at OfClock is = none_step (trace_of_block x (events ++ e ∷ [])) (length events) held at (a.good_is ∙ ap (facts_of x mode r.takes_simulated) is)
held_ok events e now mode x r a held at (OfMode on) is = none_step (trace_of_block x (events ++ e ∷ [])) (length events) held at (a.good_is ∙ ap (facts_of x mode r.takes_simulated) is)

-- lists of blocks and registers

abbrev AllAgree : {A : Type 0} → List EventRead → EventRead → ℕ → Bool → List (Block A) → List Register → Type 0
AllAgree {A} events e now mode xs rs =
    (b : ℕ) (x : Block A) (r : Register) → slice_get xs b ≡ Some x → slice_get rs b ≡ Some r → Agrees events e now mode x r

register_at : {A : Type 0} → (now : ℕ) (mode : Bool) (k : Content) (xs : List (Block A)) (rs : List Register) (b : ℕ) (x : Block A) (y : Register) → slice_get xs b ≡ Some x → slice_get (registers_by now mode k xs rs) b ≡ Some y → (r : Register) × (slice_get rs b ≡ Some r) × (register_by now mode k x r ≡ y)
register_at now mode k [] rs b x y p q = absurd (none-some x p)
register_at now mode k (z ∷ xs) [] b x y p q = absurd (none-some y q)
register_at {A} now mode k (z ∷ xs) (r ∷ rs) zero x y p q =
    (r, refl, ap (λ (w : Block A). register_by now mode k w r) (sym (same_Some z x p)) ∙ same_Some (register_by now mode k z r) y q)
register_at now mode k (z ∷ xs) (r ∷ rs) (suc b) x y p q = register_at now mode k xs rs b x y p q

each_one : {A : Type 0} → (so : Block A → Type 0) (entry : ℕ → Entry A) (b : ℕ) (x : Block A) (xs : List (Block A)) (es : List (Entry A)) (y : Bool) → (y ≡ true) ↔ so x → AreOfEach so entry (b + 1) xs es → AreOfEach so entry b (x ∷ xs) (if y then entry b ∷ es else es)
each_one so entry b x xs es true iff rest = inl (iff.0 refl, (es, refl, rest))
each_one so entry b x xs es false iff rest = inr ((λ w. false≢true (iff.1 w)), rest)

expired_ok : {A : Type 0} → (events : List EventRead) (e : EventRead) (now : ℕ) (mode : Bool) (b : ℕ) (xs : List (Block A)) (rs : List Register) → length rs ≡ length xs → AllAgree events e now mode xs rs → AreOfEach (ExpiresAt (events ++ e ∷ []) (length events)) says.Expired b xs (expired_entries now b rs)
expired_ok events e now mode b [] [] same all = refl
expired_ok events e now mode b [] (r ∷ rs) same all = absurd (omega arith)
expired_ok events e now mode b (x ∷ xs) [] same all = absurd (omega arith)
expired_ok events e now mode b (x ∷ xs) (r ∷ rs) same all =
    each_one (ExpiresAt (events ++ e ∷ []) (length events)) says.Expired b x xs (expired_entries now (b + 1) rs) (is_dead r.held now) (all 0 x r refl refl).expiry
    (expired_ok events e now mode (b + 1) xs rs (omega arith) (λ j. all (suc j)))

switched_ok : {A : Type 0} → (events : List EventRead) (e : EventRead) (now : ℕ) (mode : Bool) (b : ℕ) (xs : List (Block A)) (rs : List Register) → length rs ≡ length xs → AllAgree events e now mode xs rs → AreOfEach (SwitchesAt (events ++ e ∷ []) (length events)) says.Switched b xs (switched_entries mode e.content b xs rs)
switched_ok events e now mode b [] rs same all = refl
switched_ok events e now mode b (x ∷ xs) [] same all = absurd (omega arith)
switched_ok events e now mode b (x ∷ xs) (r ∷ rs) same all =
    let is = (all 0 x r refl refl).switch_is in
    each_one (SwitchesAt (events ++ e ∷ []) (length events)) says.Switched b x xs (switched_entries mode e.content (b + 1) xs rs) (switch_by x mode r.takes_simulated e.content)
    ((λ on. is ∙ on), (λ on. sym is ∙ on)) (switched_ok events e now mode (b + 1) xs rs (omega arith) (λ j. all (suc j)))

pub no_block : {A : Type 0} → Block A
no_block = record { app_id = 0; gocb_ref = []; dat_set = []; go_id = None; conf_rev = 0; entries = 0 }

no_register : Register
no_register = record { held = None; takes_simulated = false }

frame_ok : {A : Type 0} → (events : List EventRead) (e : EventRead) (now : ℕ) (mode : Bool) (xs : List (Block A)) (rs : List Register) → length rs ≡ length xs → AllAgree events e now mode xs rs → (f : FrameRead) → e.content ≡ OfGoose f → (o : Option ℕ) → position (is_of f) xs ≡ o → IsFrameEntry xs (events ++ e ∷ []) (length events) f (frame_entry now mode xs rs f o)
frame_ok events e now mode xs rs same all f is None o =
    inl (record { foreign = λ b x p. position_none (is_of f) xs o b x p; told = refl })
frame_ok {A} events e now mode xs rs same all f is (Some c) o =
    let found = position-Some (is_of f) xs c no_block o in
    at_block c (get_or xs c no_block) (get_or rs c no_register) (slice_get-get_or xs c no_block found.0) (slice_get-get_or rs c no_register (omega (arith, found.0))) found.1
  where
    at_block : (c : ℕ) (x : Block A) (r : Register) → slice_get xs c ≡ Some x → slice_get rs c ≡ Some r → is_of f x ≡ true → IsFrameEntry xs (events ++ e ∷ []) (length events) f (found_entry now mode f c (slice_get xs c) (slice_get rs c))
    at_block c x r p q yes_of =
        let a = all c x r p q in
        let held : HoldsAt (trace_of_block x (events ++ e ∷ [])) (length events) (turned now mode (OfGoose f) x r) =
        subst (λ (k : Content). HoldsAt (trace_of_block x (events ++ e ∷ [])) (length events) (turned now mode k x r)) is a.held in
        let entry = (block_ok events e now mode x r c f a is yes_of (turned now mode (OfGoose f) x r) held (reason_of (is_other_kind f mode r.takes_simulated) x f) refl).0 in
        let whole : IsFrameEntry xs (events ++ e ∷ []) (length events) f (found_entry now mode f c (Some x) (Some r)) =
        inr (record { position = c; block = x; here = p; own = yes_of; told = subst (λ (y : Option Reason). IsBlockEntry (events ++ e ∷ []) (length events) c x f y (found_entry now mode f c (Some x) (Some r))) (sym (a.reason_is f)) entry }) in
        subst (λ (y : Option Register). IsFrameEntry xs (events ++ e ∷ []) (length events) f (found_entry now mode f c (slice_get xs c) y)) (sym q)
        (subst (λ (y : Option (Block A)). IsFrameEntry xs (events ++ e ∷ []) (length events) f (found_entry now mode f c y (Some r))) (sym p) whole)

said_ok : {A : Type 0} → (events : List EventRead) (e : EventRead) (now : ℕ) (mode : Bool) (xs : List (Block A)) (rs : List Register) → length rs ≡ length xs → AllAgree events e now mode xs rs → (k : Content) → e.content ≡ k → AreOfContent xs (events ++ e ∷ []) (length events) k (said_of now mode xs rs k)
said_ok events e now mode xs rs same all (OfGoose f) is =
    (frame_entry now mode xs rs f (position (is_of f) xs), frame_ok events e now mode xs rs same all f is (position (is_of f) xs) refl, refl)
said_ok events e now mode xs rs same all OfSampled is = refl
said_ok events e now mode xs rs same all (OfFault z) is = refl
said_ok events e now mode xs rs same all OfClock is = refl
said_ok events e now mode xs rs same all (OfMode on) is = refl

registers_length : {A : Type 0} (now : ℕ) (mode : Bool) (k : Content) (xs : List (Block A)) (rs : List Register) → length rs ≡ length xs → length (registers_by now mode k xs rs) ≡ length xs
registers_length now mode k [] [] same = refl
registers_length now mode k [] (r ∷ rs) same = refl
registers_length now mode k (x ∷ xs) [] same = same
registers_length now mode k (x ∷ xs) (r ∷ rs) same = ap suc (registers_length now mode k xs rs (omega arith))

-- the theorem for one event
pub step_ok : {A : Type 0} → (events : List EventRead) (e : EventRead) (s : State A) → StandsAfterRead events s → AreReadEntriesAt s.blocks (events ++ e ∷ []) (length events) (step_entries s e) × StandsAfterRead (events ++ e ∷ []) (step_state s e)
step_ok {A} events e s w =
    let same = w.sizes in
    let all : AllAgree events e (max s.moment e.moment) s.mode s.blocks s.registers = agrees events e s w in (
      record {
        event = e;
        at = get_pushed events e;
        expired = expired_entries (max s.moment e.moment) 0 s.registers;
        switched = switched_entries s.mode e.content 0 s.blocks s.registers;
        said = said_of (max s.moment e.moment) s.mode s.blocks s.registers e.content;
        are_expired = expired_ok events e (max s.moment e.moment) s.mode 0 s.blocks s.registers same all;
        are_switched = switched_ok events e (max s.moment e.moment) s.mode 0 s.blocks s.registers same all;
        are_said = said_ok events e (max s.moment e.moment) s.mode s.blocks s.registers same all e.content refl;
        whole = refl;
      },
      record {
        sizes = registers_length (max s.moment e.moment) s.mode e.content s.blocks s.registers same;
        moment = ap (λ m. max m e.moment) w.moment ∙ sym (greatest-push events e);
        mode = ap (mode_by e.content) w.mode ∙ sym (mode_kept events e);
        holds = λ b x y p q.
            let r = register_at (max s.moment e.moment) s.mode e.content s.blocks s.registers b x y p q in
            let a = all b x r.0 p r.1 in
            subst (λ n. BlockHolds (trace_of_block x (events ++ e ∷ [])) n y.held) (sym (length_push events e))
            (subst (λ (z : Register). BlockHolds (trace_of_block x (events ++ e ∷ [])) (length events + 1) z.held) r.2
            (held_ok events e (max s.moment e.moment) s.mode x r.0 a (turned (max s.moment e.moment) s.mode e.content x r.0) a.held e.content refl));
        flags = λ b x y p q.
            let r = register_at (max s.moment e.moment) s.mode e.content s.blocks s.registers b x y p q in
            let a = all b x r.0 p r.1 in
            ap (λ (z : Register). z.takes_simulated) (sym r.2) ∙ (a.flag_is ∙ ap (takes_simulated x (events ++ e ∷ [])) (sym (length_push events e)));
      },
    )
