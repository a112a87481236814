-- What frames come to, and one frame more.
use Rattle.std.proofs.Common.{◌≡◌, ℕ, ◌+◌, ◌-◌, max, Some, None, List, [], ◌∷◌, ◌++◌, length, if◌then◌else◌, sym, refl, ap, ap₂, ◌∙◌, subst, arith}
use Rattle.std.proofs.lemmas.List.{length_push}
use Rattle.loss_core.specs.declared.sender.Arrival.{Arrival}
use Rattle.loss_core.specs.declared.sender.Told.{Told}
use Rattle.loss_core.specs.declared.sender_tally.SenderTotals.{SenderTotals}
use Rattle.loss_core.specs.declared.sender_tally.SenderTally.{SenderTally}
use Rattle.loss_core.specs.Sender.{AreTold, IsToldLast, restarts, sets, told_after, was_silent}
use Rattle.loss_core.specs.SenderTotals.{AreSenderTotals, TallyStandsAfter, count_of, frames_missing_at, is_late, is_repeated, kept, last_set, longest_between, one_if, states_missing_at, sum_of}
use Rattle.loss_core.specs.computed.SenderSteps.{deadline_by, newest_by}
use Rattle.loss_core.specs.computed.SenderTotalSteps.{AddsFrame, first_tally, tally_after}
use Rattle.loss_core.proofs.Known.{first_known, first_told, known_push, told_last, told_push}

-- sums over one frame more

sum_push : (number : Arrival → Told → ℕ) (frames : List Arrival) (told : List Told) (a : Arrival) (t : Told) → length told ≡ length frames → sum_of number (frames ++ a ∷ []) (told ++ t ∷ []) ≡ sum_of number frames told + number a t
sum_push number [] [] a t same = omega arith
sum_push number [] (u ∷ told) a t same = absurd (omega arith)
sum_push number (b ∷ frames) [] a t same = absurd (omega arith)
sum_push number (b ∷ frames) (u ∷ told) a t same =
    let rest : sum_of number (frames ++ a ∷ []) (told ++ t ∷ []) ≡ sum_of number frames told + number a t = sum_push number frames told a t (omega arith) in
    omega arith

-- a sum that stays at the greatest
pub kept_more : (total before more sum : ℕ) → total ≡ kept before → sum ≡ before + more → kept (total + more) ≡ kept sum
kept_more total before more sum is e = omega arith

last_push : (start : ℕ) (frames : List Arrival) (told : List Told) (a : Arrival) (t : Told) → length told ≡ length frames → last_set start (frames ++ a ∷ []) (told ++ t ∷ []) ≡ (if sets t then a.moment else last_set start frames told)
last_push start [] [] a t same = refl
last_push start [] (u ∷ told) a t same = absurd (omega arith)
last_push start (b ∷ frames) [] a t same = absurd (omega arith)
last_push start (b ∷ frames) (u ∷ told) a t same = last_push (if sets u then b.moment else start) frames told a t (omega arith)

longest_push : (start : ℕ) (frames : List Arrival) (told : List Told) (a : Arrival) (t : Told) → length told ≡ length frames
    → longest_between start (frames ++ a ∷ []) (told ++ t ∷ []) ≡ max (longest_between start frames told) (if sets t then a.moment - last_set start frames told else 0)
longest_push start [] [] a t same = omega arith
longest_push start [] (u ∷ told) a t same = absurd (omega arith)
longest_push start (b ∷ frames) [] a t same = absurd (omega arith)
longest_push start (b ∷ frames) (u ∷ told) a t same =
    let next : ℕ = if sets u then b.moment else start in
    let rest : longest_between (if sets u then b.moment else start) (frames ++ a ∷ []) (told ++ t ∷ []) ≡ max (longest_between (if sets u then b.moment else start) frames told) (if sets t then a.moment - last_set (if sets u then b.moment else start) frames told else 0) =
    longest_push (if sets u then b.moment else start) frames told a t (omega arith) in
    omega arith

totals_push : (start set_at : ℕ) (frames : List Arrival) (told : List Told) (old new : SenderTotals) (a : Arrival) (t : Told) → length told ≡ length frames → set_at ≡ last_set start frames told → AddsFrame a t set_at old new
    → AreSenderTotals start frames told old → AreSenderTotals start (frames ++ a ∷ []) (told ++ t ∷ []) new
totals_push start set_at frames told old new a t same at adds is =
    record {
      frames_are = adds.frames ∙ kept_more old.frames (length frames) 1 (length (frames ++ a ∷ [])) is.frames_are (length_push frames a);
      states_missing = adds.states_missing ∙ kept_more old.states_missing (sum_of states_missing_at frames told) (states_missing_at a t) (sum_of states_missing_at (frames ++ a ∷ []) (told ++ t ∷ [])) is.states_missing (sum_push states_missing_at frames told a t same);
      frames_missing = adds.frames_missing ∙ kept_more old.frames_missing (sum_of frames_missing_at frames told) (frames_missing_at a t) (sum_of frames_missing_at (frames ++ a ∷ []) (told ++ t ∷ [])) is.frames_missing (sum_push frames_missing_at frames told a t same);
      late = adds.late ∙ kept_more old.late (count_of is_late frames told) (one_if (is_late t)) (count_of is_late (frames ++ a ∷ []) (told ++ t ∷ [])) is.late (sum_push (λ b u. one_if (is_late u)) frames told a t same);
      repeated = adds.repeated ∙ kept_more old.repeated (count_of is_repeated frames told) (one_if (is_repeated t)) (count_of is_repeated (frames ++ a ∷ []) (told ++ t ∷ [])) is.repeated (sum_push (λ b u. one_if (is_repeated u)) frames told a t same);
      restarted = adds.restarted ∙ kept_more old.restarted (count_of restarts frames told) (one_if (restarts t)) (count_of restarts (frames ++ a ∷ []) (told ++ t ∷ [])) is.restarted (sum_push (λ b u. one_if (restarts u)) frames told a t same);
      silent = adds.silent ∙ kept_more old.silent (count_of was_silent frames told) (one_if (was_silent t)) (count_of was_silent (frames ++ a ∷ []) (told ++ t ∷ [])) is.silent (sum_push (λ b u. one_if (was_silent u)) frames told a t same);
      longest = adds.longest ∙ (ap₂ (λ (l s : ℕ). max l (if sets t then a.moment - s else 0)) is.longest at ∙ sym (longest_push start frames told a t same));
    }

-- a tally that takes frames

pub tally_told : (frames : List Arrival) (s : SenderTally) (a : Arrival) (t : Told) → t ≡ told_after (Some s.sender) a → TallyStandsAfter frames s → IsToldLast frames a t
tally_told [] s a t is stands = absurd stands
tally_told (first ∷ rest) s a t is stands = told_last (first ∷ rest) s.sender a t is (stands.0, stands.1, stands.2.0)

pub tally_on : (frames : List Arrival) (s u : SenderTally) (a : Arrival) (t : Told) → t ≡ told_after (Some s.sender) a → u.sender.newest ≡ newest_by s.sender.newest a t → u.sender.deadline ≡ deadline_by s.sender.deadline a t
    → AddsFrame a t s.set_at s.totals u.totals → u.set_at ≡ (if sets t then a.moment else s.set_at) → TallyStandsAfter frames s → TallyStandsAfter (frames ++ a ∷ []) u
tally_on [] s u a t is newest deadline adds set stands = absurd stands
tally_on (first ∷ rest) s u a t is newest deadline adds set stands =
    let told = stands.0 in
    let same : length told ≡ length (first ∷ rest) = stands.1.sizes in (
      told ++ t ∷ [],
      subst (λ x. AreTold (first ∷ (rest ++ a ∷ [])) (told ++ x ∷ [])) (sym is) (told_push (first ∷ rest) told (Some s.sender) a stands.1 stands.2.0),
      (
        known_push (first ∷ rest) told s.sender u.sender a t same is newest deadline stands.2.0,
        (
          totals_push first.moment s.set_at (first ∷ rest) told s.totals u.totals a t same stands.2.1.1 adds stands.2.1.0,
          set ∙ (ap (λ n. if sets t then a.moment else n) stands.2.1.1 ∙ sym (last_push first.moment (first ∷ rest) told a t same)),
        ),
      ),
    )

-- a tally after one more frame, and that of a first one

pub tally_next : (frames : List Arrival) (s : SenderTally) (a : Arrival) → TallyStandsAfter frames s → TallyStandsAfter (frames ++ a ∷ []) (tally_after s a)
tally_next frames s a stands =
    tally_on frames s (tally_after s a) a (told_after (Some s.sender) a) refl refl refl (record { frames = refl; states_missing = refl; frames_missing = refl; late = refl; repeated = refl; restarted = refl; silent = refl; longest = refl }) refl stands

pub tally_first : (a : Arrival) → TallyStandsAfter (a ∷ []) (first_tally a)
tally_first a = (
  told_after None a ∷ [],
  first_told a,
  (
    first_known a,
    (record { frames_are = refl; states_missing = refl; frames_missing = refl; late = refl; repeated = refl; restarted = refl; silent = refl; longest = omega arith }, refl),
  ),
)
