-- One event of a list, and a run of steps: the entries of the whole list.
use Rattle.std.proofs.Common.{◌≡◌, ℕ, zero, suc, ◌+◌, inl, List, [], ◌∷◌, ◌++◌, length, map, Some, slice_get, replicate, sym, refl, ap, ◌∙◌, subst, arith, append_assoc}
use Rattle.std.proofs.lemmas.Option.{none-some, same_Some}
use Rattle.std.proofs.lemmas.List.{length-replicate, length_push}
use Rattle.list_core.specs.declared.event.Event.{Event}
use Rattle.block_core.specs.declared.block.Block.{Block}
use Rattle.subscribe_core.specs.declared.entry.Entry.{Entry}
use Rattle.subscribe_core.specs.declared.registers.Register.{Register}
use Rattle.subscribe_core.specs.Epoch.{BlockHolds}
use Rattle.subscribe_core.specs.EventsRead.{EventRead, IsRead, AreRead}
use Rattle.subscribe_core.specs.computed.Content.{reading_of}
use Rattle.subscribe_core.specs.Entries.{AreReadEntriesAt, AreEntriesAt, AreEntries}
use Rattle.subscribe_core.specs.Laws.{BlocksAreAlone, EntriesAreOne, EntriesStay, EntriesExist}
use Rattle.subscribe_core.specs.Sight.{trace_of_block}
use Rattle.subscribe_core.specs.State.{State, StandsAfterRead, StandsAfter, fresh_state, idle}
use Rattle.subscribe_core.specs.computed.Steps.{step_entries, step_state, run_events}
use Rattle.subscribe_core.proofs.Alone.{read_entries_are_one, read_blocks_are_alone}
use Rattle.subscribe_core.proofs.Readings.{all_read, reads_one, read_append, read_length}
use Rattle.subscribe_core.proofs.Stay.{read_entries_stay}
use Rattle.subscribe_core.proofs.Whole.{step_ok}

-- a new subscriber stands after no event

get_idle : (n b : ℕ) (r : Register) → slice_get (replicate n idle) b ≡ Some r → r ≡ idle
get_idle zero b r e = absurd (none-some r e)
get_idle (suc n) zero r e = sym (same_Some idle r e)
get_idle (suc n) (suc b) r e = get_idle n b r e

pub fresh_stands_read : {A : Type 0} (blocks : List (Block A)) → StandsAfterRead [] (fresh_state blocks)
fresh_stands_read blocks =
    record {
      sizes = length-replicate (length blocks) idle;
      moment = refl;
      mode = refl;
      holds = λ b block r p q.
          subst (λ (x : Register). BlockHolds (trace_of_block block []) 0 x.held) (sym (get_idle (length blocks) b r q)) (inl (λ s lt w. absurd (omega arith)));
      flags = λ b block r p q. ap (λ (x : Register). x.takes_simulated) (get_idle (length blocks) b r q);
    }

pub fresh_stands : {A : Type 0} (blocks : List (Block A)) → StandsAfter [] (fresh_state blocks)
fresh_stands blocks = ([], tt, fresh_stands_read blocks)

-- one event more

read_push : {A : Type 0} (events : List (Event A)) (e : Event A) (rs : List EventRead) (r : EventRead) → AreRead events rs → IsRead e r → AreRead (events ++ e ∷ []) (rs ++ r ∷ [])
read_push events e rs r a b = read_append events (e ∷ []) rs (r ∷ []) a (b, tt)

pub entries_step : {A : Type 0} (events : List (Event A)) (e : Event A) (r : EventRead) (s : State A) → IsRead e r → StandsAfter events s → AreEntriesAt s.blocks (events ++ e ∷ []) (length events) (step_entries s r)
entries_step events e r s read w =
    let x = step_ok w.0 r s w.2 in (
      w.0 ++ r ∷ [],
      read_push events e w.0 r w.1 read,
      subst (λ n. AreReadEntriesAt s.blocks (w.0 ++ r ∷ []) n (step_entries s r)) (read_length events w.0 w.1) x.0,
    )

pub stands_step : {A : Type 0} (events : List (Event A)) (e : Event A) (r : EventRead) (s : State A) → IsRead e r → StandsAfter events s → StandsAfter (events ++ e ∷ []) (step_state s r)
stands_step events e r s read w =
    (w.0 ++ r ∷ [], read_push events e w.0 r w.1 read, (step_ok w.0 r s w.2).1)

-- a run of steps

run_length : {A : Type 0} (es : List EventRead) (s : State A) → length (run_events s es) ≡ length es
run_length [] s = refl
run_length (e ∷ es) s = ap suc (run_length es (step_state s e))

-- from a subscriber that stands after the events before
run_from : {A : Type 0} (es before : List EventRead) (s : State A) → StandsAfterRead before s → (i : ℕ) (x : List (Entry A)) → slice_get (run_events s es) i ≡ Some x → AreReadEntriesAt s.blocks (before ++ es) (length before + i) x
run_from [] before s w i x e = absurd (none-some x e)
run_from {A} (e ∷ es) before s w zero x is =
    let step = step_ok before e s w in
    let here : AreReadEntriesAt s.blocks ((before ++ e ∷ []) ++ es) (length before) (step_entries s e) =
    read_entries_stay s.blocks (before ++ e ∷ []) es (length before) (step_entries s e) step.0 in
    let there : AreReadEntriesAt s.blocks (before ++ e ∷ es) (length before) (step_entries s e) =
    subst (λ (l : List EventRead). AreReadEntriesAt s.blocks l (length before) (step_entries s e)) (append_assoc before (e ∷ []) es) here in
    subst (λ n. AreReadEntriesAt s.blocks (before ++ e ∷ es) n x) (omega arith)
    (subst (λ (y : List (Entry A)). AreReadEntriesAt s.blocks (before ++ e ∷ es) (length before) y) (same_Some (step_entries s e) x is) there)
run_from (e ∷ es) before s w (suc i) x is =
    let step = step_ok before e s w in
    let rest = run_from es (before ++ e ∷ []) (step_state s e) step.1 i x is in
    subst (λ n. AreReadEntriesAt s.blocks (before ++ e ∷ es) n x) (omega (arith, length_push before e))
    (subst (λ (l : List EventRead). AreReadEntriesAt s.blocks l (length (before ++ e ∷ []) + i) x) (append_assoc before (e ∷ []) es) rest)

pub runs_are_whole : {A : Type 0} (blocks : List (Block A)) (events : List (Event A)) → AreEntries blocks events (run_events (fresh_state blocks) (map reading_of events))
runs_are_whole blocks events =
    record {
      sizes = run_length (map reading_of events) (fresh_state blocks) ∙ read_length events (map reading_of events) (all_read events);
      each = λ i x is. (
        map reading_of events,
        all_read events,
        subst (λ n. AreReadEntriesAt blocks (map reading_of events) n x) (omega arith)
            (run_from (map reading_of events) [] (fresh_state blocks) (fresh_stands_read blocks) i x is),
      );
    }

-- the laws of entries

one_reading : {A : Type 0} (events : List (Event A)) (rs qs : List EventRead) → AreRead events rs → AreRead events qs → rs ≡ qs
one_reading events rs qs a b = reads_one events rs a ∙ sym (reads_one events qs b)

pub entries_are_one : {A : Type 0} → EntriesAreOne A
entries_are_one blocks events i es fs apart a b =
    read_entries_are_one blocks a.0 i es fs apart a.2
    (subst (λ (rs : List EventRead). AreReadEntriesAt blocks rs i fs) (one_reading events b.0 a.0 b.1 a.1) b.2)

pub blocks_are_alone : {A : Type 0} → BlocksAreAlone A
blocks_are_alone blocks events b block i es alone apart here a c =
    read_blocks_are_alone blocks a.0 b block i es alone apart here a.2
    (subst (λ (rs : List EventRead). AreReadEntriesAt (block ∷ []) rs i alone) (one_reading events c.0 a.0 c.1 a.1) c.2)

pub entries_stay : {A : Type 0} → EntriesStay A
entries_stay blocks events later i es a = (
  a.0 ++ map reading_of later,
  read_append events later a.0 (map reading_of later) a.1 (all_read later),
  read_entries_stay blocks a.0 (map reading_of later) i es a.2,
)

pub entries_exist : {A : Type 0} → EntriesExist A
entries_exist blocks events = runs_are_whole blocks events
