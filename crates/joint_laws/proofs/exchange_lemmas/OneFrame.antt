-- One good frame that isn't simulated, at a subscriber of one block.
use Rattle.std.proofs.Common.{◌≡◌, ℕ, zero, suc, ◌<◌, ◌≤◌, ◌==◌, ◌&&◌, ◌||◌, max, Bool, true, false, not, nat_lt, if◌then◌else◌, Option, Some, None, List, [], ◌∷◌, ◌++◌, position, slice_get, sym, refl, ap, ◌∙◌, arith, ◌+◌, ◌-◌, ◌*◌, ◌⊎◌, min, length, inl, inr, map, ap₂, subst}
use Rattle.std.proofs.lemmas.Bool.{eq-eqb, le-ltb, lt-ltb, lt-leb, ne_eqb}
use Rattle.std.proofs.lemmas.Option.{none-some}
use Rattle.block_core.specs.declared.block.Block.{Block}
use Rattle.subscribe_core.specs.declared.entry.Entry.{Entry}
use Rattle.subscribe_core.specs.declared.entry.Entry.TheVariants as says
use Rattle.subscribe_core.specs.declared.entry.Reason.{Reason}
use Rattle.subscribe_core.specs.declared.registers.Facts.{Facts}
use Rattle.subscribe_core.specs.declared.registers.LiveState.{LiveState}
use Rattle.subscribe_core.specs.declared.registers.Register.{Register}
use Rattle.subscribe_core.specs.declared.registers.Verdict.{Verdict}
use Rattle.subscribe_core.specs.declared.registers.Verdict.TheVariants.{Act, Refreshed, Repeated, Older}
use Rattle.subscribe_core.specs.FrameEntry.{entry_of}
use Rattle.subscribe_core.specs.Matching.{facts_of_frame, first_of, is_of, reason_of, has_other_id, holds, reasons}
use Rattle.subscribe_core.specs.EventsRead.{FrameRead, OfGoose, EventRead, Content}
use Rattle.subscribe_core.specs.Simulation.{is_other_kind}
use Rattle.subscribe_core.specs.Apart.{AreApart}
use Rattle.subscribe_core.specs.State.{State, fresh_state}
use Rattle.subscribe_core.specs.computed.Steps.{after_clock, after_switch, expired_entries, is_dead, registers_by, run_events, said_of, step_entries, step_state, switched_entries, held_after_frame, verdict_on}
use Rattle.subscribe_core.proofs.Clearing.{not_due_stays}
use Rattle.subscribe_core.proofs.Frames.{answer_good, registers_good}
use Rattle.std.specs.Str.{bytes_eq}
use Rattle.std.proofs.lemmas.Slice.Eq.{bytes_eq-Decides}
use Rattle.publish_core.specs.declared.publisher.Last.{Last}
use Rattle.publish_core.specs.Frames.{Change, Setup, frame}
use Rattle.publish_core.specs.Numbers.{number_behind, sequence_number, state_number}
use Rattle.publish_core.specs.Run.{Request, Call, Changed, Polled, call, changes_of, AreAnswers, IsAnswer, changes, trace_of_calls}
use Rattle.publish_core.specs.State.{PublisherState, change_of}
use Rattle.publish_core.specs.computed.Step.{first_last, is_due as is_poll_due, last_frame, next_last, run_calls as run_publisher, fresh_publisher as new_publisher}
use Rattle.publish_core.specs.Table.{AreSteps, step_at, step_of}
use Rattle.subscribe_core.specs.declared.registers.Verdict.TheVariants as verdicts
use Rattle.subscribe_core.proofs.BlockNames.{key_is_of}
use Rattle.joint_laws.specs.PublishedList.{InTime, InTimeFrom, IsOwnBlock, Sent, one_entry_each, sent_from, with_frame, published_events}
use Rattle.joint_laws.proofs.exchange_lemmas.Changes.{count, count_all, change_accepted, frame_is_spelled}
use Rattle.joint_laws.proofs.exchange_lemmas.Received.{plain, readings_of, plain_frame, plain_spelled, received, pdu_with}
use Rattle.frame_core.specs.Frame.{SpellsFrame}
use Rattle.frame_core.specs.computed.FrameReading.{frame_at}
use Rattle.frame_core.specs.Written.{written_frame}
use Rattle.frame_core.specs.declared.frame.Apdu.TheVariants as apdus
use Rattle.frame_core.specs.declared.frame.Frame.{Frame}
use Rattle.list_core.specs.declared.event.Event.{Event}
use Rattle.frame_core.proofs.ReadingLaws.{frame_again}
use Rattle.pdu_core.specs.declared.goose.GoosePdu.{GoosePdu}
use Rattle.publish_core.proofs.GivesOne.{carried}
use Rattle.publish_core.proofs.Runs.{answers_are_one, runs_are_whole as publisher_runs}
use Rattle.subscribe_core.specs.computed.Content.{content_by, reading_of}
use Rattle.subscribe_core.specs.Entries.{AreEntries}
use Rattle.subscribe_core.proofs.Runs.{runs_are_whole}
use Rattle.joint_laws.specs.ExchangeLaws.{WholeRunsReplay}
use Rattle.joint_laws.specs.Stems.{AreAccepted, HasSizes}

-- a subscriber of one block with the mode off, and a frame at a moment

abbrev pub alone : {B : Type 0} → Block B → Option LiveState → ℕ → State B
alone block h moment = record { blocks = block ∷ []; registers = record { held = h; takes_simulated = false } ∷ []; mode = false; moment = moment }

abbrev pub comes : ℕ → FrameRead → EventRead
comes now x = record { moment = now; content = OfGoose x }

pub one_apart : {B : Type 0} (block : Block B) → AreApart (block ∷ [])
one_apart {B} block i j a b x y e = first i a x ∙ sym (first j b y)
  where
    first : (i : ℕ) (a : Block B) → slice_get (block ∷ []) i ≡ Some a → i ≡ 0
    first zero a x = refl
    first (suc i) a x = absurd (none-some a x)

-- where none of the reasons holds, none is told

abbrev pub NoneHolds : (Reason → Bool) → List Reason → Type 0
NoneHolds p [] = Unit {0}
NoneHolds p (r ∷ rs) = (p r ≡ false) × NoneHolds p rs

pub none_told : (p : Reason → Bool) (rs : List Reason) → NoneHolds p rs → first_of p rs ≡ None
none_told p [] w = refl
none_told p (r ∷ rs) w = ap (λ (b : Bool). if b then Some r else first_of p rs) w.0 ∙ none_told p rs w.1

module _ {B : Type 0} (block : Block B) (x : FrameRead) where
  -- the frame is a good one of the block, and not simulated
  pub record IsPlain : Type 0 where
    pub own : is_of x block ≡ true
    pub clear : reason_of false block x ≡ None
    pub real : x.pdu.simulation ≡ false

  clear_here : IsPlain → reason_of (is_other_kind x false false) block x ≡ None
  clear_here good = ap (λ (s : Bool). reason_of (if s then not false else false) block x) good.real ∙ good.clear

  here : IsPlain → position (is_of x) (block ∷ []) ≡ Some 0
  here good = rw good.own refl

  -- its entry
  one_entry : (h : Option LiveState) (moment now : ℕ) → IsPlain → is_dead h now ≡ false → moment ≤ now → step_entries (alone block h moment) (comes now x) ≡ entry_of 0 x (verdict_on h (facts_of_frame x)) ∷ []
  one_entry h moment now good alive le =
      let r : Register = record { held = h; takes_simulated = false } in
      let m : max moment now ≡ now = omega arith in
      let rest : List (Entry B) = switched_entries false (OfGoose x) 0 (block ∷ []) (r ∷ []) ++ said_of now false (block ∷ []) (r ∷ []) (OfGoose x) in
      ap (λ (n : ℕ). expired_entries n 0 (r ∷ []) ++ (switched_entries false (OfGoose x) 0 (block ∷ []) (r ∷ []) ++ said_of n false (block ∷ []) (r ∷ []) (OfGoose x))) m ∙
      (ap (λ (b : Bool). (if b then says.Expired 0 ∷ [] else []) ++ rest) alive ∙
      (sym (answer_good now false (block ∷ []) (r ∷ []) x 0 block r (one_apart block) (here good) refl refl (clear_here good)) ∙
      (ap (λ (s : Bool). (if s && not false then says.Switched 0 ∷ [] else []) ++ entry_of 0 x (verdict_on (after_switch (s && not false) (after_clock h now)) (facts_of_frame x)) ∷ []) good.real ∙
      ap (λ (o : Option LiveState). entry_of 0 x (verdict_on o (facts_of_frame x)) ∷ []) (not_due_stays h now alive))))

  -- and what is kept then
  one_state : (h : Option LiveState) (moment now : ℕ) → IsPlain → is_dead h now ≡ false → moment ≤ now → step_state (alone block h moment) (comes now x) ≡ alone block (held_after_frame (verdict_on h (facts_of_frame x)) h now (facts_of_frame x)) now
  one_state h moment now good alive le =
      let r : Register = record { held = h; takes_simulated = false } in
      let m : max moment now ≡ now = omega arith in
      let kept : registers_by now false (OfGoose x) (block ∷ []) (r ∷ []) ≡ record { held = held_after_frame (verdict_on h (facts_of_frame x)) h now (facts_of_frame x); takes_simulated = false } ∷ [] =
      sym (registers_good now false (block ∷ []) (r ∷ []) x 0 block r refl (one_apart block) (here good) refl refl (clear_here good)) ∙
      (ap (λ (s : Bool). record { held = held_after_frame (verdict_on (after_switch (s && not false) (after_clock h now)) (facts_of_frame x)) (after_switch (s && not false) (after_clock h now)) now (facts_of_frame x); takes_simulated = false || s } ∷ []) good.real ∙
      ap (λ (o : Option LiveState). record { held = held_after_frame (verdict_on o (facts_of_frame x)) o now (facts_of_frame x); takes_simulated = false } ∷ []) (not_due_stays h now alive)) in
      ap (λ (n : ℕ). record { blocks = block ∷ []; registers = registers_by n false (OfGoose x) (block ∷ []) (r ∷ []); mode = false; moment = n }) m ∙
      ap (λ (rs : List Register). record { blocks = block ∷ []; registers = rs; mode = false; moment = now }) kept

  pub one_run : (h : Option LiveState) (moment now : ℕ) (v : Verdict) → IsPlain → is_dead h now ≡ false → moment ≤ now → verdict_on h (facts_of_frame x) ≡ v → (es : List EventRead) (rest : List (List (Entry B))) → run_events (alone block (held_after_frame v h now (facts_of_frame x)) now) es ≡ rest → run_events (alone block h moment) (comes now x ∷ es) ≡ (entry_of 0 x v ∷ []) ∷ rest
  one_run h moment now v good alive le judged es rest next =
      ap (λ (w : List (Entry B)). w ∷ run_events (step_state (alone block h moment) (comes now x)) es) (one_entry h moment now good alive le ∙ ap (λ (w : Verdict). entry_of 0 x w ∷ []) judged) ∙
      (ap (λ (z : State B). (entry_of 0 x v ∷ []) ∷ run_events z es) (one_state h moment now good alive le ∙ ap (λ (w : Verdict). alone block (held_after_frame w h now (facts_of_frame x)) now) judged) ∙
      ap (λ (w : List (List (Entry B))). (entry_of 0 x v ∷ []) ∷ w) next)

-- verdicts

pub verdict_above : (h : LiveState) (f : Facts) → h.state < f.state → verdict_on (Some h) f ≡ Act
verdict_above h f lt =
    ap (λ (b : Bool). if b then Act else if h.state == f.state && nat_lt h.sequence f.sequence then Refreshed else if h.state == f.state && h.sequence == f.sequence then Repeated else Older)
    (lt-ltb h.state f.state lt)

pub verdict_next : (h : LiveState) (f : Facts) → h.state ≡ f.state → h.sequence < f.sequence → verdict_on (Some h) f ≡ Refreshed
verdict_next h f same lt =
    ap (λ (b : Bool). if b then Act else if h.state == f.state && nat_lt h.sequence f.sequence then Refreshed else if h.state == f.state && h.sequence == f.sequence then Repeated else Older)
    (le-ltb h.state f.state (omega arith)) ∙
    (ap (λ (b : Bool). if b && nat_lt h.sequence f.sequence then Refreshed else if h.state == f.state && h.sequence == f.sequence then Repeated else Older)
    (eq-eqb h.state f.state same) ∙
    ap (λ (b : Bool). if b then Refreshed else if h.state == f.state && h.sequence == f.sequence then Repeated else Older)
    (lt-ltb h.sequence f.sequence lt))

-- ---- a publisher's whole list at its own block: publisher and subscriber run side by side

-- each change has so many values
abbrev pub HasEntries : ℕ → Request → Type 0
HasEntries n (Changed handed_in) = length handed_in.values ≡ n
HasEntries n Polled = Unit {0}

abbrev pub HaveEntries : ℕ → List Call → Type 0
HaveEntries n [] = Unit {0}
HaveEntries n (c ∷ cs) = HasEntries n c.request × HaveEntries n cs

-- tests of a block that is the publisher's own

same_text : (a b : List ℕ) → a ≡ b → not (bytes_eq a b) ≡ false
same_text a b e = ap not ((bytes_eq-Decides a b).1 e)

same_number : (a b : ℕ) → a ≡ b → not (a == b) ≡ false
same_number a b e = ap not (eq-eqb a b e)

not_zero : (n : ℕ) → 0 < n → (n == 0) ≡ false
not_zero n lt = ne_eqb n 0 (λ e. omega arith)

no_other_id : (awaited id : Option (List ℕ)) → (awaited ≡ None) ⊎ (awaited ≡ id) → has_other_id awaited id ≡ false
no_other_id awaited id (inl none) = ap (λ (o : Option (List ℕ)). has_other_id o id) none
no_other_id awaited id (inr same) = ap (λ (o : Option (List ℕ)). has_other_id o id) same ∙ (elim id as (λ (o : Option (List ℕ)). has_other_id o o ≡ false) [ None ↦ refl | Some t ↦ same_text t t refl ])

after_plain : (n : ℕ) → n < 4294967295 → number_behind n ≡ n + 1
after_plain n lt = ap (λ (b : Bool). if b then 1 else n + 1) (ne_eqb n 4294967295 (λ e. omega arith))

module _ {A B : Type 0} (p : Setup A) (block : Block B) (own : IsOwnBlock p block) (steps : AreSteps p.table) where
  abbrev standing : ℕ → ℕ → Option (Last A) → PublisherState A
  standing next m last = record { control = p.control; table = p.table; next = next; moment = m; last = last }

  abbrev live_at : Last A → ℕ
  live_at l = (step_at p.table l.step).live_ms

  abbrev held_of : Last A → LiveState
  held_of l = record { state = l.state; sequence = l.sequence; deadline = l.given_at + 1000 * live_at l }

  -- the frame that was given last, as it is read
  abbrev read_of : Last A → FrameRead
  read_of l = record { app_id = p.control.app_id; pdu = plain (pdu_with p.control (change_of l) l.state l.sequence (live_at l)) }

  abbrev sent_by : ℕ → ℕ → Option (Last A) → List Call → List (Sent A)
  sent_by next m last cs = sent_from m cs (run_publisher (standing next m last) cs)

  live_some : (i : ℕ) → i < length p.table → 0 < (step_at p.table i).live_ms
  live_some i lt =
      let good = steps.good i lt in
      omega arith

  is_plain : (l : Last A) → 0 < l.state → l.step < length p.table → length l.values ≡ p.control.entries → IsPlain block (read_of l)
  is_plain l some below entries = record {
    own = key_is_of (read_of l) block own.app_id own.gocb_ref;
    clear = none_told (holds false block (read_of l)) reasons (
      same_text block.dat_set p.control.dat_set own.dat_set,
      (
        no_other_id block.go_id p.control.go_id own.go_id,
        (
          same_number block.conf_rev p.control.conf_rev own.conf_rev,
          (own.nds_com, (refl, (same_number block.entries (length l.values) (own.entries ∙ sym entries), (not_zero l.state some, (not_zero (live_at l) (live_some l.step below), tt))))),
        ),
      ),
    );
    real = own.simulation;
  }

  -- what is kept, with the changes and the frames that are still to come
  record Keeps (changes frames next m : ℕ) (l : Last A) : Type 0 where
    next_is : next ≡ number_behind l.state
    states : l.state + changes ≤ 4294967295
    sequences : l.sequence + frames ≤ 4294967295
    some : 0 < l.state
    given : l.given_at ≤ m
    step : l.step < length p.table
    entries : length l.values ≡ p.control.entries

  abbrev Replays : List Call → Type 0
  Replays cs =
      (next m : ℕ) (l : Last A) → Keeps (count cs) (length (sent_by next m (Some l) cs)) next m l → HaveEntries p.control.entries cs →
      InTimeFrom (l.given_at + 1000 * live_at l) (sent_by next m (Some l) cs) →
      run_events (alone block (Some (held_of l)) l.given_at) (readings_of (sent_by next m (Some l) cs)) ≡ one_entry_each (sent_by next m (Some l) cs)

  replay_change : (cs : List Call) → Replays cs → (handed_in : Change) (now next m : ℕ) (l : Last A) → Keeps (1 + count cs) (length (sent_by next m (Some l) (call now (Changed handed_in) ∷ cs))) next m l → length handed_in.values ≡ p.control.entries → HaveEntries p.control.entries cs → InTimeFrom (l.given_at + 1000 * live_at l) (sent_by next m (Some l) (call now (Changed handed_in) ∷ cs)) → run_events (alone block (Some (held_of l)) l.given_at) (readings_of (sent_by next m (Some l) (call now (Changed handed_in) ∷ cs))) ≡ one_entry_each (sent_by next m (Some l) (call now (Changed handed_in) ∷ cs))
  replay_change cs rest handed_in now next m l k entries more time =
      let states : l.state + (1 + count cs) ≤ 4294967295 = k.states in
      let up : next ≡ l.state + 1 = k.next_is ∙ after_plain l.state (omega arith) in
      let given : l.given_at ≤ m = k.given in
      let first : 0 < length p.table = steps.some in
      let last : Last A = first_last next handed_in (max m now) in
      let sequences : l.sequence + suc (length (sent_by (number_behind next) (max m now) (Some last) cs)) ≤ 4294967295 = k.sequences in
      let above : l.state < next = omega arith in
      let some : 0 < next = omega arith in
      one_run block (read_of last) (Some (held_of l)) l.given_at (max m now) verdicts.Act (is_plain last some first entries)
      (lt-leb _ _ time.0) (omega arith) (verdict_above (held_of l) (facts_of_frame (read_of last)) above) _ _
      (rest (number_behind next) (max m now) last
      (record { next_is = refl; states = omega arith; sequences = omega arith; some = some; given = omega arith; step = first; entries = entries })
      more time.1)

  replay_due : (cs : List Call) → Replays cs → (now next m : ℕ) (l : Last A) (due : Bool) → Keeps (count cs) (length (with_frame (max m now) Polled (if due then Some (last_frame p.control p.table (next_last p.table l (max m now))) else None) (sent_by next (max m now) (if due then Some (next_last p.table l (max m now)) else Some l) cs))) next m l → HaveEntries p.control.entries cs → InTimeFrom (l.given_at + 1000 * live_at l) (with_frame (max m now) Polled (if due then Some (last_frame p.control p.table (next_last p.table l (max m now))) else None) (sent_by next (max m now) (if due then Some (next_last p.table l (max m now)) else Some l) cs)) → run_events (alone block (Some (held_of l)) l.given_at) (readings_of (with_frame (max m now) Polled (if due then Some (last_frame p.control p.table (next_last p.table l (max m now))) else None) (sent_by next (max m now) (if due then Some (next_last p.table l (max m now)) else Some l) cs))) ≡ one_entry_each (with_frame (max m now) Polled (if due then Some (last_frame p.control p.table (next_last p.table l (max m now))) else None) (sent_by next (max m now) (if due then Some (next_last p.table l (max m now)) else Some l) cs))
  replay_due cs rest now next m l true k more time =
      let states : l.state + count cs ≤ 4294967295 = k.states in
      let last : Last A = next_last p.table l (max m now) in
      let sequences : l.sequence + suc (length (sent_by next (max m now) (Some last) cs)) ≤ 4294967295 = k.sequences in
      let up : number_behind l.sequence ≡ l.sequence + 1 = after_plain l.sequence (omega arith) in
      let given : l.given_at ≤ m = k.given in
      let below : min (l.step + 1) (length p.table - 1) < length p.table = omega arith in
      let above : l.sequence < number_behind l.sequence = omega arith in
      one_run block (read_of last) (Some (held_of l)) l.given_at (max m now) verdicts.Refreshed (is_plain last k.some below k.entries)
      (lt-leb _ _ time.0) (omega arith) (verdict_next (held_of l) (facts_of_frame (read_of last)) refl above) _ _
      (rest next (max m now) last
      (record { next_is = k.next_is; states = states; sequences = omega arith; some = k.some; given = omega arith; step = below; entries = k.entries })
      more time.1)
  replay_due cs rest now next m l false k more time =
      let given : l.given_at ≤ m = k.given in
      rest next (max m now) l
      (record { next_is = k.next_is; states = k.states; sequences = k.sequences; some = k.some; given = omega arith; step = k.step; entries = k.entries })
      more time

  replay_call : (cs : List Call) → Replays cs → (request : Request) (now next m : ℕ) (l : Last A) → Keeps (changes_of (Some request) + count cs) (length (sent_by next m (Some l) (call now request ∷ cs))) next m l → HasEntries p.control.entries request → HaveEntries p.control.entries cs → InTimeFrom (l.given_at + 1000 * live_at l) (sent_by next m (Some l) (call now request ∷ cs)) → run_events (alone block (Some (held_of l)) l.given_at) (readings_of (sent_by next m (Some l) (call now request ∷ cs))) ≡ one_entry_each (sent_by next m (Some l) (call now request ∷ cs))
  replay_call cs rest (Changed handed_in) now next m l k entries more time = replay_change cs rest handed_in now next m l k entries more time
  replay_call cs rest Polled now next m l k entries more time =
      let states : l.state + (0 + count cs) ≤ 4294967295 = k.states in
      replay_due cs rest now next m l (is_poll_due p.table l (max m now))
      (record { next_is = k.next_is; states = omega arith; sequences = k.sequences; some = k.some; given = k.given; step = k.step; entries = k.entries })
      more time

  replay_from : (cs : List Call) → Replays cs
  replay_from [] next m l k more time = refl
  replay_from (c ∷ cs) next m l k more time = replay_call cs (replay_from cs) c.request c.moment next m l k more.0 more.1 time

  -- before any change nothing is given

  abbrev Begins : List Call → Type 0
  Begins cs =
      (next m u : ℕ) → 0 < next → next + count cs ≤ 4294967296 → length (sent_by next m None cs) ≤ 4294967295 → u ≤ m → HaveEntries p.control.entries cs →
      InTime (sent_by next m None cs) → run_events (alone block None u) (readings_of (sent_by next m None cs)) ≡ one_entry_each (sent_by next m None cs)

  begin_call : (cs : List Call) → Begins cs → (request : Request) (now next m u : ℕ) → 0 < next → next + (changes_of (Some request) + count cs) ≤ 4294967296 → length (sent_by next m None (call now request ∷ cs)) ≤ 4294967295 → u ≤ m → HasEntries p.control.entries request → HaveEntries p.control.entries cs → InTime (sent_by next m None (call now request ∷ cs)) → run_events (alone block None u) (readings_of (sent_by next m None (call now request ∷ cs))) ≡ one_entry_each (sent_by next m None (call now request ∷ cs))
  begin_call cs rest Polled now next m u some states short given entries more time =
      let all : next + (0 + count cs) ≤ 4294967296 = states in
      rest next (max m now) u some (omega arith) short (omega arith) more time
  begin_call cs rest (Changed handed_in) now next m u some states short given entries more time =
      let all : next + (1 + count cs) ≤ 4294967296 = states in
      let first : 0 < length p.table = steps.some in
      let last : Last A = first_last next handed_in (max m now) in
      let frames : suc (length (sent_by (number_behind next) (max m now) (Some last) cs)) ≤ 4294967295 = short in
      one_run block (read_of last) None u (max m now) verdicts.Act (is_plain last some first entries)
      refl (omega arith) refl _ _
      (replay_from cs (number_behind next) (max m now) last
      (record { next_is = refl; states = omega arith; sequences = omega arith; some = some; given = omega arith; step = first; entries = entries })
      more time)

  pub begin_from : (cs : List Call) → Begins cs
  begin_from [] next m u some states short given more time = refl
  begin_from (c ∷ cs) next m u some states short given more time = begin_call cs (begin_from cs) c.request c.moment next m u some states short given more.0 more.1 time

-- ---- a publisher's whole list, as events of a list, has one entry for each frame

-- a frame of GOOSE that its written form spells
record IsSpelled {A : Type 0} (f : Frame A) : Type 0 where
  pdu : GoosePdu A
  goose : f.apdu ≡ apdus.Goose pdu
  spelled : SpellsFrame f (written_frame f)

abbrev AreSpelled : {A : Type 0} → List (Sent A) → Type 0
AreSpelled [] = Unit {0}
AreSpelled (s ∷ rest) = IsSpelled s.frame × AreSpelled rest

-- such frames are read from their written forms

sent_read : {A : Type 0} (f : Frame A) → IsSpelled f → content_by (frame_at (written_frame f)) ≡ received f.app_id f.apdu
sent_read {A} f s =
    ap content_by (frame_again (written_frame f) (plain_frame f s.pdu) (plain_spelled f s.pdu (written_frame f) s.goose s.spelled)) ∙
    sym (ap (received f.app_id) s.goose)

list_read : {A : Type 0} (B : Type 0) (sent : List (Sent A)) → AreSpelled sent → map reading_of (published_events {B = B} sent) ≡ readings_of sent
list_read B [] w = refl
list_read B (s ∷ rest) w =
    ap₂ (λ (c : Content) (rs : List EventRead). record { moment = s.moment; content = c } ∷ rs) (sent_read s.frame w.0) (list_read B rest w.1)

-- the frames of a run are such

frame_spelled : {A : Type 0} (p : Setup A) (calls : List Call) (i : ℕ) (f : Frame A) → HasSizes p → AreAccepted p calls → IsAnswer p (trace_of_calls calls) i (Some f) → IsSpelled f
frame_spelled {A} p calls i f held accepted w =
    let c : ℕ = w.c in
    let k : ℕ = w.k in
    let change : Change = w.change in
    let at = carried w.gives in
    let is : f ≡ frame p.control p.table (state_number p.first c) change k = w.is_frame in
    subst (λ (g : Frame A). IsSpelled g) (sym is) (record {
      pdu = pdu_with p.control change (state_number p.first c) (sequence_number k) (step_at p.table (step_of p.table k)).live_ms;
      goose = refl;
      spelled = frame_is_spelled p c k change held (change_accepted p calls at.0 c change accepted at.2);
    })

with_spelled : {A : Type 0} (m : ℕ) (request : Request) (a : Option (Frame A)) (rest : List (Sent A)) → ((f : Frame A) → a ≡ Some f → IsSpelled f) → AreSpelled rest → AreSpelled (with_frame m request a rest)
with_spelled m request None rest one w = w
with_spelled m request (Some f) rest one w = (one f refl, w)

sent_spelled : {A : Type 0} (m : ℕ) (calls : List Call) (answers : List (Option (Frame A))) → ((i : ℕ) (f : Frame A) → slice_get answers i ≡ Some (Some f) → IsSpelled f) → AreSpelled (sent_from m calls answers)
sent_spelled {A} m (c ∷ cs) (a ∷ answers) each =
    with_spelled (max m c.moment) c.request a (sent_from (max m c.moment) cs answers) (λ f e. each 0 f (ap (λ (o : Option (Frame A)). Some o) e))
    (sent_spelled (max m c.moment) cs answers (λ i f e. each (suc i) f e))
sent_spelled _ _ _ _ = tt

-- each accepted change has the control's count of values

request_entries : (n : ℕ) (request : Request) → ((x : Change) → request ≡ Changed x → length x.values ≡ n) → HasEntries n request
request_entries n (Changed x) each = each x refl
request_entries n Polled each = tt

have_entries : (n : ℕ) (calls : List Call) → ((i : ℕ) (x : Change) → (trace_of_calls calls).request i ≡ Some (Changed x) → length x.values ≡ n) → HaveEntries n calls
have_entries n [] each = tt
have_entries n (c ∷ cs) each = (request_entries n c.request (λ x e. each 0 x (ap (λ (a : Request). Some a) e)), have_entries n cs (λ i x e. each (suc i) x e))

pub whole_runs_replay : {A B : Type 0} → WholeRunsReplay A B
whole_runs_replay {A} {B} p block calls answers w few =
    let by_steps : List (Option (Frame A)) = run_publisher (new_publisher p) calls in
    let are_answers : AreAnswers p calls by_steps = publisher_runs p calls w.some w.most in
    let one : answers ≡ by_steps = answers_are_one p calls answers by_steps w.are_answers are_answers in
    let events : List (Event B) = published_events (sent_from 0 calls by_steps) in
    let read : map reading_of events ≡ readings_of (sent_from 0 calls by_steps) =
    list_read B (sent_from 0 calls by_steps) (sent_spelled 0 calls by_steps (λ i f at. frame_spelled p calls i f w.held w.accepted (are_answers.each i (Some f) at))) in
    let all : p.first + count calls ≤ 4294967296 = let bound : p.first + changes (trace_of_calls calls) (length calls) ≤ 4294967295 + 1 = w.no_wrap in omega (arith, bound, count_all calls) in
    let runs : run_events (fresh_state (block ∷ [])) (readings_of (sent_from 0 calls by_steps)) ≡ one_entry_each (sent_from 0 calls by_steps) =
    begin_from p block w.own w.steps calls p.first 0 0 w.some all (subst (λ (a : List (Option (Frame A))). length (sent_from 0 calls a) ≤ 4294967295) one few) (omega arith)
    (have_entries p.control.entries calls (λ i x at. (w.accepted i x at).entries))
    (subst (λ (a : List (Option (Frame A))). InTime (sent_from 0 calls a)) one w.in_time) in
    subst (λ (a : List (Option (Frame A))). AreEntries (block ∷ []) (published_events {B = B} (sent_from 0 calls a)) (one_entry_each (sent_from 0 calls a))) (sym one)
    (subst (AreEntries (block ∷ []) events) (ap (run_events (fresh_state (block ∷ []))) read ∙ runs) (runs_are_whole (block ∷ []) events))
