-- What is held is a frame of a state that was accepted, and so is what is held next.
use Rattle.std.proofs.Common.{◌≡◌, ℕ, suc, ◌+◌, ◌-◌, min, List, length, sym, ap, ◌∙◌, subst}
use Rattle.publish_core.specs.declared.table.Step.{Step}
use Rattle.publish_core.specs.declared.control.Control.{Control}
use Rattle.publish_core.specs.declared.publisher.Last.{Last}
use Rattle.frame_core.specs.Written.{IsTooLong}
use Rattle.publish_core.specs.Numbers.{number_behind, sequence_number}
use Rattle.publish_core.specs.Table.{step_at}
use Rattle.publish_core.specs.Frames.{frame_with}
use Rattle.publish_core.specs.State.{change_of}
use Rattle.publish_core.specs.computed.Step.{IsFrameOf}
use Rattle.publish_core.proofs.NumberLaws.{sequence_number_next}
use Rattle.publish_core.proofs.Steps.{step_next}

pub next_held : {A : Type 0} (control : Control A) (table : List Step) (l : Last A) (q i now : ℕ) → q ≡ number_behind l.sequence → i ≡ min (l.step + 1) (length table - 1) → IsFrameOf control table l → IsFrameOf control table (record l { sequence = q; step = i; given_at = now })
next_held control table l q i now e f s =
    record {
      k = suc s.k;
      sequence = e ∙ ap number_behind s.sequence ∙ sym (sequence_number_next s.k);
      step = f ∙ ap (λ (y : ℕ). min (y + 1) (length table - 1)) s.step ∙ step_next table s.k;
      accepted = s.accepted;
    }

-- what is held can be written
pub held_fits : {A : Type 0} (control : Control A) (table : List Step) (l : Last A) (live : Step) → live ≡ step_at table l.step → IsFrameOf control table l → ¬ IsTooLong (frame_with control (change_of l) l.state l.sequence live.live_ms)
held_fits control table l live e s long =
    let at_step = subst (λ (x : Step). IsTooLong (frame_with control (change_of l) l.state l.sequence x.live_ms)) e long in
    let at_number = subst (λ (q : ℕ). IsTooLong (frame_with control (change_of l) l.state q (step_at table l.step).live_ms)) s.sequence at_step in
    s.accepted.fit s.k (subst (λ (i : ℕ). IsTooLong (frame_with control (change_of l) l.state (sequence_number s.k) (step_at table i).live_ms)) s.step at_number)
