-- What a poll hands out.
use Rattle.std.proofs.Common.{◌≡◌, ℕ, ◌++◌, ◌∷◌, [], Bool, true, false, Option, Some, None, List, max, length, refl, sym, ap, ◌∙◌, subst}
use Rattle.std.specs.Prelude.{IsTrue}
use Rattle.std.specs.Option.{is_some}
use Rattle.std.proofs.lemmas.Option.{none-some}
use Rattle.frame_core.specs.declared.frame.Frame.{Frame}
use Rattle.frame_core.specs.Written.{written_frame}
use Rattle.publish_core.specs.declared.control.Control.{Control}
use Rattle.publish_core.specs.declared.publisher.Last.{Last}
use Rattle.publish_core.specs.declared.table.Step.{Step}
use Rattle.publish_core.specs.Frames.{Setup}
use Rattle.publish_core.specs.Held.{octets_held, octets_of}
use Rattle.publish_core.specs.Run.{Call, Polled, call, trace_of_calls, IsAnswer, PublishesNone, PublishesOctets}
use Rattle.publish_core.specs.State.{PublisherState}
use Rattle.publish_core.specs.computed.Step.{is_due, last_frame, next_last, poll_frame, poll_state, polled, polled_frame}

value_or : {X : Type 0} → X → Option X → X
value_or d None = d
value_or d (Some x) = x

some_same : {X : Type 0} (x y : X) → Some x ≡ Some y → x ≡ y
unfolding value_or
some_same x y e = ap (value_or x) e

-- what is held after a poll are the octets of the frame that it gives
held_behind : {A : Type 0} (control : Control A) (table : List Step) (o : Option (Last A)) (m : ℕ) (f : Frame A) → polled_frame control table o m ≡ Some f → octets_of control table (polled table o m) ≡ written_frame f
held_behind control table None m f e = absurd (none-some f e)
held_behind {A} control table (Some l) m f e = in_case (is_due table l m) refl
  where
    in_case : (b : Bool) → is_due table l m ≡ b → octets_of control table (polled table (Some l) m) ≡ written_frame f
    in_case true due =
        let gives : Some (last_frame control table (next_last table l m)) ≡ Some f = rw due at e in
        rw due (ap written_frame (some_same (last_frame control table (next_last table l m)) f gives))
    in_case false early = absurd (none-some f (rw early at e))

some_of : {X : Type 0} (o : Option X) (b : Bool) → b ≡ is_some o → IsTrue b → (x : X) × (o ≡ Some x)
some_of (Some x) b e t = (x, refl)
some_of None true e t = cc
some_of None false e t = cc

none_of : {X : Type 0} (o : Option X) (b : Bool) → b ≡ is_some o → b ≡ false → o ≡ None
none_of None b e f = refl
none_of (Some x) b e f = let h = sym e ∙ f in cc

pub poll_gives : {A : Type 0} (p : Setup A) (calls : List Call) (s after : PublisherState A) (now : ℕ) (b : Bool) → IsAnswer p (trace_of_calls (calls ++ call now Polled ∷ [])) (length calls) (poll_frame s now) →
    b ≡ is_some (poll_frame s now) → after ≡ poll_state s now → IsTrue b → PublishesOctets p (calls ++ call now Polled ∷ []) (length calls) (octets_held after)
poll_gives {A} p calls s after now b answer given state gives =
    let f = some_of (poll_frame s now) b given gives in
    record {
      published = f.0;
      publishes = subst (λ (a : Option (Frame A)). IsAnswer p (trace_of_calls (calls ++ call now Polled ∷ [])) (length calls) a) f.1 answer;
      is_written = ap octets_held state ∙ held_behind s.control s.table s.last (max s.moment now) f.0 f.1;
    }

pub poll_none : {A : Type 0} (p : Setup A) (calls : List Call) (s : PublisherState A) (now : ℕ) (b : Bool) → IsAnswer p (trace_of_calls (calls ++ call now Polled ∷ [])) (length calls) (poll_frame s now) →
    b ≡ is_some (poll_frame s now) → b ≡ false → PublishesNone p (calls ++ call now Polled ∷ []) (length calls)
poll_none {A} p calls s now b answer given none =
    subst (λ (a : Option (Frame A)). IsAnswer p (trace_of_calls (calls ++ call now Polled ∷ [])) (length calls) a) (none_of (poll_frame s now) b given none) answer
