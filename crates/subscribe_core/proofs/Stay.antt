-- The entries of an event don't depend on later events.
use Rattle.std.proofs.Common.{◌≡◌, subst, ℕ, ◌+◌, ◌<◌, inl, inr, Option, Some, None, List, [], ◌∷◌, ◌++◌, length, sym, ap, ◌∙◌, arith}
use Rattle.std.proofs.lemmas.Option.{slice_get_within}
use Rattle.block_core.specs.declared.block.Block.{Block}
use Rattle.subscribe_core.specs.EventsRead.{FrameRead, EventRead, Content, OfGoose, OfSampled, OfFault, OfClock, OfMode}
use Rattle.subscribe_core.specs.declared.entry.Reason.{Reason}
use Rattle.subscribe_core.specs.declared.entry.Entry.{Entry}
use Rattle.subscribe_core.specs.Matching.{reason_of, facts_of_frame}
use Rattle.subscribe_core.specs.Simulation.{mode_at, takes_simulated, is_other_kind}
use Rattle.subscribe_core.specs.declared.entry.Entry.TheVariants as says
use Rattle.subscribe_core.specs.Entries.{AreOfContent, AreOfEach, ExpiresAt, SwitchesAt, AreReadEntriesAt}
use Rattle.subscribe_core.specs.FrameEntry.{IsFrameEntry, IsBlockEntry, reason_at}
use Rattle.subscribe_core.proofs.Prefix.{same_sym, expiry_same, verdict_same}
use Rattle.subscribe_core.proofs.Traces.{get_front, front_same, mode_front, takes_front, switched_front}

each_stay : {A : Type 0} → (so also : Block A → Type 0) (entry : ℕ → Entry A) → ((x : Block A) → so x → also x) → ((x : Block A) → also x → so x) → (b : ℕ) (blocks : List (Block A)) (es : List (Entry A)) → AreOfEach so entry b blocks es → AreOfEach also entry b blocks es
each_stay so also entry to from b [] es a = a
each_stay so also entry to from b (x ∷ xs) es (inl a) = inl (to x a.0, (a.1.0, a.1.1, each_stay so also entry to from (b + 1) xs a.1.0 a.1.2))
each_stay so also entry to from b (x ∷ xs) es (inr a) = inr ((λ w. a.0 (from x w)), each_stay so also entry to from (b + 1) xs es a.1)

block_stay : {A : Type 0} → (events later : List EventRead) (i b : ℕ) (block : Block A) (f : FrameRead) (r : Option Reason) (x : Entry A) → i < length events → IsBlockEntry events i b block f r x → IsBlockEntry (events ++ later) i b block f r x
block_stay events later i b block f (Some r) x lt a = a
block_stay events later i b block f None x lt a =
    (a.0, verdict_same (front_same block events later) i (facts_of_frame f) a.0 lt a.1, a.2)

reason_front : {A : Type 0} → (x : Block A) (events later : List EventRead) (i : ℕ) (f : FrameRead) → i < length events → reason_at x (events ++ later) i f ≡ reason_at x events i f
reason_front x events later i f lt =
    ap (λ m. reason_of (is_other_kind f m (takes_simulated x (events ++ later) i)) x f) (mode_front events later i (omega arith)) ∙
    ap (λ s. reason_of (is_other_kind f (mode_at events i) s) x f) (takes_front x events later i (omega arith))

frame_stay : {A : Type 0} → (blocks : List (Block A)) (events later : List EventRead) (i : ℕ) (f : FrameRead) (x : Entry A) → i < length events → IsFrameEntry blocks events i f x → IsFrameEntry blocks (events ++ later) i f x
frame_stay blocks events later i f x lt (inl a) = inl a
frame_stay blocks events later i f x lt (inr a) =
    inr (record { position = a.position; block = a.block; here = a.here; own = a.own; told = subst (λ (r : Option Reason). IsBlockEntry (events ++ later) i a.position a.block f r x) (sym (reason_front a.block events later i f lt)) (block_stay events later i a.position a.block f (reason_at a.block events i f) x lt a.told) })

content_stay : {A : Type 0} → (blocks : List (Block A)) (events later : List EventRead) (i : ℕ) (k : Content) (es : List (Entry A)) → i < length events → AreOfContent blocks events i k es → AreOfContent blocks (events ++ later) i k es
content_stay blocks events later i (OfGoose f) es lt a = (a.0, frame_stay blocks events later i f a.0 lt a.1, a.2)
content_stay blocks events later i OfSampled es lt a = a
content_stay blocks events later i (OfFault fault) es lt a = a
content_stay blocks events later i OfClock es lt a = a
content_stay blocks events later i (OfMode on) es lt a = a

pub read_entries_stay : {A : Type 0} → (blocks : List (Block A)) (events later : List EventRead) (i : ℕ) (es : List (Entry A)) → AreReadEntriesAt blocks events i es → AreReadEntriesAt blocks (events ++ later) i es
read_entries_stay {A} blocks events later i es a =
    let lt : i < length events = slice_get_within events i a.event a.at in
    record {
      event = a.event;
      at = get_front events later i lt ∙ a.at;
      expired = a.expired;
      switched = a.switched;
      said = a.said;
      are_expired = each_stay (ExpiresAt events i) (ExpiresAt (events ++ later) i) says.Expired
          (λ x. expiry_same (front_same x events later) i lt) (λ x. expiry_same (same_sym (front_same x events later)) i lt)
          0 blocks a.expired a.are_expired;
      are_switched = each_stay (SwitchesAt events i) (SwitchesAt (events ++ later) i) says.Switched
          (λ x on. switched_front x events later i lt ∙ on) (λ x on. sym (switched_front x events later i lt) ∙ on)
          0 blocks a.switched a.are_switched;
      are_said = content_stay blocks events later i a.event.content a.said lt a.are_said;
      whole = a.whole;
    }
