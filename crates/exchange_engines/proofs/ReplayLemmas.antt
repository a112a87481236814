-- A subscriber that is handed the events of a list one by one, and the text that follows.
use Rattle.std.proofs.Common.{◌≡◌, ◌<◌, ◌≤◌, ◌+◌, ℕ, zero, suc, Bool, List, [], ◌∷◌, ◌++◌, length, true, false, ap, subst, sym, ◌∙◌, refl, append_assoc, arith}
use Rattle.std.specs.Prelude.{replicate}
use Rattle.std.proofs.lemmas.List.{append-nil}
use Rattle.list_core.specs.declared.event.Event.{Event}
use Rattle.list_core.specs.declared.event.EventKind.TheVariants as kinds
use Rattle.block_core.specs.declared.block.Block.{Block}
use Rattle.subscribe_core.specs.declared.entry.Entry.{Entry}
use Rattle.subscribe_core.specs.Changes.{changes}
use Rattle.subscribe_core.specs.computed.Content.{reading_of}
use Rattle.subscribe_core.specs.Entries.{AreEntriesAt}
use Rattle.subscribe_core.specs.State.{State, StandsAfter, fresh_state, idle}
use Rattle.subscribe_core.specs.computed.Steps.{expired_entries, step_entries, step_state}
use Rattle.subscribe_core.proofs.Switching.{switched_on}
use Rattle.subscribe_core.proofs.Readings.{is_read}
use Rattle.subscribe_core.proofs.Runs.{entries_step, fresh_stands, stands_step}
use Rattle.engine_core.specs.computed.EventStep.{EventTaken}
use Rattle.object_core.specs.declared.counted.Form.{Form}
use Rattle.exchange_engines.specs.declared.engines.replay.ReplayManner.{ReplayManner}
use Rattle.exchange_engines.specs.ReplayText.{AreSaidBehind, AreTold, events_of, opening, told_of}
use Rattle.exchange_engines.specs.computed.ReplayAgrees.{none_said, said_allowed}
use Rattle.exchange_engines.specs.computed.ReplayStep.{IsSaid, ReplayStands, kept_after, replay_allows, replay_says, replay_tells, state_after_list}

state_push : {A : Type 0} (s : State A) (es : List (Event A)) (e : Event A) → state_after_list s (es ++ e ∷ []) ≡ step_state (state_after_list s es) (reading_of e)
state_push s [] e = refl
state_push s (x ∷ es) e = state_push (step_state s (reading_of x)) es e

pub events_push : {A : Type 0} (before : List (ℕ × Event A)) (e : ℕ × Event A) → events_of (before ++ e ∷ []) ≡ events_of before ++ e.1 ∷ []
events_push [] e = refl
events_push (x ∷ before) e = ap (λ (es : List (Event _)). x.1 ∷ es) (events_push before e)

-- what is kept after one event more
kept_push : {A : Type 0} (simulates : Bool) (blocks : List (Block A)) (before : List (ℕ × Event A)) (e : ℕ × Event A) → kept_after simulates blocks (before ++ e ∷ []) ≡ step_state (kept_after simulates blocks before) (reading_of e.1)
kept_push simulates blocks before e =
    let open_state = state_after_list (fresh_state blocks) (opening simulates) in
    ap (state_after_list open_state) (events_push before e) ∙ state_push open_state (events_of before) e.1

-- a subscriber took an event, and a text of what is told of its entries was appended
pub replays : {A : Type 0} (manner : ReplayManner) (form : Form) (s t : State A) (room more : ℕ) (before : List (ℕ × Event A)) (n : ℕ) (event : Event A) (entries : List (Entry A)) (text old new : List ℕ) →
    ReplayStands manner s room before → entries ≡ told_of manner.changes_alone (step_entries s (reading_of event)) → t ≡ step_state s (reading_of event) → room ≤ more → IsSaid form n event.moment s.blocks entries text → new ≡ old ++ text →
    EventTaken (replay_allows manner s.blocks form) (λ (items : List (ℕ × Event A)). ReplayStands manner t more items) before (n, event) false old new
replays manner form s t room more before n event entries text old new stands said then_ grows is wrote = record {
  text = text;
  is_allowed = said_allowed s.blocks (replay_tells manner s.blocks) before (n, event) form text
      (subst (λ (es : List (Entry _)). IsSaid form n event.moment s.blocks es text) (said ∙ ap (λ (k : State _). told_of manner.changes_alone (step_entries k (reading_of event))) stands.state) is);
  appended = wrote;
  stands_after = record {
    state = then_ ∙ ap (λ (k : State _). step_state k (reading_of event)) stands.state ∙ sym (kept_push manner.simulates s.blocks before (n, event))
        ∙ ap (λ (bs : List (Block _)). kept_after manner.simulates bs (before ++ (n, event) ∷ [])) (sym (ap (λ (k : State _). k.blocks) then_));
    has_room = λ alone. let some = stands.has_room alone in omega (arith, some, grows);
  };
}

-- a subscriber of these blocks keeps this after these events
record KeepsAfter {A : Type 0} (blocks : List (Block A)) (events : List (Event A)) (s : State A) : Type 0 where
  of_blocks : s.blocks ≡ blocks
  stands : StandsAfter events s

keeps_next : {A : Type 0} (blocks : List (Block A)) (before : List (Event A)) (e : Event A) (s : State A) → KeepsAfter blocks before s → KeepsAfter blocks (before ++ e ∷ []) (step_state s (reading_of e))
keeps_next blocks before e s k = record { of_blocks = k.of_blocks; stands = stands_step before e (reading_of e) s (is_read e) k.stands }

keeps_all : {A : Type 0} (blocks : List (Block A)) (es before : List (Event A)) (s : State A) → KeepsAfter blocks before s → KeepsAfter blocks (before ++ es) (state_after_list s es)
keeps_all blocks [] before s k = subst (λ (l : List (Event _)). KeepsAfter blocks l s) (sym (append-nil before)) k
keeps_all blocks (e ∷ es) before s k =
    subst (λ (l : List (Event _)). KeepsAfter blocks l (state_after_list s (e ∷ es))) (append_assoc before (e ∷ []) es) (keeps_all blocks es (before ++ e ∷ []) (step_state s (reading_of e)) (keeps_next blocks before e s k))

kept_keeps : {A : Type 0} (simulates : Bool) (blocks : List (Block A)) (items : List (ℕ × Event A)) → KeepsAfter blocks (opening simulates ++ events_of items) (kept_after simulates blocks items)
kept_keeps simulates blocks items =
    let open_state = state_after_list (fresh_state blocks) (opening simulates) in
    keeps_all blocks (events_of items) (opening simulates) open_state (keeps_all blocks (opening simulates) [] (fresh_state blocks) (record { of_blocks = refl; stands = fresh_stands blocks }))

-- the blocks stay
pub keeps_blocks : {A : Type 0} (simulates : Bool) (blocks : List (Block A)) (items : List (ℕ × Event A)) → (kept_after simulates blocks items).blocks ≡ blocks
keeps_blocks simulates blocks items = let k = kept_keeps simulates blocks items in k.of_blocks

-- a subscriber that has what a manner opens with stands before all events
pub opened : {A : Type 0} (manner : ReplayManner) (blocks : List (Block A)) (s : State A) (room : ℕ) → s ≡ kept_after manner.simulates blocks [] → (manner.changes_alone ≡ true → 0 < room) →
    (s.blocks ≡ blocks) × ReplayStands manner s room []
opened manner blocks s room is has =
    let of_blocks : s.blocks ≡ blocks = ap (λ (k : State _). k.blocks) is ∙ keeps_blocks manner.simulates blocks [] in
    (of_blocks, record { state = is ∙ ap (λ (bs : List (Block _)). kept_after manner.simulates bs []) (sym of_blocks); has_room = has })

-- the entries that are computed are those of all events
pub replay_said : {A : Type 0} (simulates : Bool) (blocks : List (Block A)) → AreSaidBehind (opening simulates) blocks (replay_says simulates blocks)
replay_said simulates blocks = λ before e.
    let k = kept_keeps simulates blocks before in
    let s = kept_after simulates blocks before in
    let events = opening simulates ++ events_of before in
    subst (λ (bs : List (Block _)). AreEntriesAt bs (events ++ e.1 ∷ []) (length events) (step_entries s (reading_of e.1))) k.of_blocks
    (entries_step events e.1 (reading_of e.1) s (is_read e.1) k.stands)

-- and those that are told are those that a manner tells
pub replay_told : {A : Type 0} (manner : ReplayManner) (blocks : List (Block A)) → AreTold manner blocks (replay_tells manner blocks)
replay_told manner blocks = record { said = replay_says manner.simulates blocks; are_said = replay_said manner.simulates blocks; told = λ before e. refl }

-- where nothing is written of an event, none of its entries is told
pub no_entries : {A : Type 0} (manner : ReplayManner) (form : Form) (s : State A) (room : ℕ) (before : List (ℕ × Event A)) (n : ℕ) (e : Event A) (written : List ℕ × Bool) → ReplayStands manner s room before →
    replay_allows manner s.blocks form before (n, e) written → written.0 ≡ [] → told_of manner.changes_alone (step_entries s (reading_of e)) ≡ []
no_entries manner form s room before n e written stands is none =
    ap (λ (x : State _). told_of manner.changes_alone (step_entries x (reading_of e))) stands.state ∙ none_said s.blocks (replay_tells manner s.blocks) before (n, e) form written is none

-- where none is told, the subscriber wants no memory: there is none, or it is no change, and there is room for it
pub wants_none : {A : Type 0} (P : Type 0) (alone : Bool) (entries : List (Entry A)) (room : ℕ) → (entries ≡ [] → P) → (changes entries ≡ [] → 0 < room → P) → (alone ≡ true → 0 < room) → told_of alone entries ≡ [] → P
wants_none P true entries room without few has none = few none (has refl)
wants_none P false entries room without few has none = without none

-- ---- before any event

none_over : (A : Type 0) (count now b : ℕ) → expired_entries {A = A} now b (replicate count idle) ≡ []
none_over A zero now b = refl
none_over A (suc count) now b = none_over A count now (b + 1)

-- the mode that is set on first has no entry
pub opens_quietly : {A : Type 0} (blocks : List (Block A)) → step_entries (fresh_state blocks) (reading_of {A = A} (record { moment = 0; kind = kinds.Mode true })) ≡ []
opens_quietly {A} blocks =
    let over = none_over A (length blocks) 0 0 in
    let switched = switched_on {A = A} false blocks (replicate (length blocks) idle) in
    rw (over, switched) refl
