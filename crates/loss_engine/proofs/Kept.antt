-- What is kept of one sender or stream, and what is told of it.
use Rattle.std.proofs.Common.{Option, Some, None, ◌≡◌, ℕ, false, ap, refl}
use Rattle.std.specs.Prelude.{IfSome, IsSome}
use Rattle.std.proofs.lemmas.Bool.{false≢true}
use Rattle.object_core.specs.declared.counted.Form.{Form}
use Rattle.loss_core.specs.declared.sender_tally.SenderTally.{SenderTally}
use Rattle.loss_core.specs.declared.sender_tally.SenderTotals.{SenderTotals}
use Rattle.loss_core.specs.declared.stream.Came.{Came}
use Rattle.loss_core.specs.declared.stream.Sample.{Sample}
use Rattle.loss_core.specs.Sender.{over_at}
use Rattle.loss_engine.specs.LossLine.{sender_total_line}
use Rattle.loss_engine.specs.LossObject.{sender_total_object}
use Rattle.loss_engine.specs.LossText.{line_of, with_end}
use Rattle.loss_engine.specs.Sights.{Key}
use Rattle.loss_engine.specs.computed.Tracking.{CountsAs, Progress, TellsSample, counted, first_came, frames, samples, total_by}

-- the total of a sender
pub total_frames : (form : Form) (end : ℕ) (k key : Key) (since : Option ℕ) (t : SenderTally) (totals : SenderTotals) → k ≡ key → since ≡ over_at t.sender.deadline end → totals ≡ with_end since t.totals →
    line_of form false (sender_total_line k totals) (sender_total_object k totals) ≡ total_by form end key (frames t)
total_frames form end k key since t totals p q r = rw (p, r, q) refl

-- an answer by its parts
abbrev answer_of : Option Came → Option ℕ → Option Came × Option ℕ
answer_of came before = (came, before)

-- a first sample has no smpSynch before
pub counts_new : (period : Option ℕ) (s : Sample) (first : Option Came) → first ≡ first_came period s → CountsAs period None s (first, None)
counts_new period s first c = ap (λ (came : Option Came). answer_of came None) c

-- what is answered of a sample by what is kept of its stream is so whatever periods are given
pub counts_known : (period : Option ℕ) (known : Option Progress) (s : Sample) (answer : Option Came × Option ℕ) → IsSome known → IfSome known (λ k. TellsSample k s answer) → CountsAs period known s answer
counts_known period None s answer some h = absurd (false≢true some)
counts_known period (Some (frames t)) s answer some h = h
counts_known period (Some (samples u z)) s answer some h = h
counts_known period (Some (counted n z)) s answer some h = h
