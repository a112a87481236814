-- What samples come to, and one sample more.
use Rattle.std.proofs.Common.{◌≡◌, ℕ, ◌+◌, ◌<◌, ◌≤◌, max, None, List, [], ◌∷◌, ◌++◌, length, refl, ◌∙◌, arith}
use Rattle.std.proofs.lemmas.List.{length_push}
use Rattle.std.proofs.lemmas.Option.{none-some}
use Rattle.loss_core.specs.declared.stream.Sample.{Sample}
use Rattle.loss_core.specs.declared.stream.Came.{Came}
use Rattle.loss_core.specs.declared.stream_tally.StreamTotals.{StreamTotals}
use Rattle.loss_core.specs.SenderTotals.{kept, one_if}
use Rattle.loss_core.specs.Stream.{IsSampleToldLast}
use Rattle.loss_core.specs.StreamTotals.{AreStreamTotals, count_told, is_behind_outage, is_late_sample, is_out_of_range, is_repeated_sample, missing_before, most_missing, sum_told}
use Rattle.loss_core.specs.computed.StreamSteps.{came_after, kept_after}
use Rattle.loss_core.specs.computed.StreamTotalSteps.{AddsSample, StreamTallyStandsAfter, StreamTallyState, fresh_tally, stream_tally_after}
use Rattle.loss_core.proofs.Samples.{stands_on, told_last}
use Rattle.loss_core.proofs.Totals.{kept_more}

sum_push : (number : Came → ℕ) (told : List Came) (c : Came) → sum_told number (told ++ c ∷ []) ≡ sum_told number told + number c
sum_push number [] c = omega arith
sum_push number (d ∷ told) c = let rest : sum_told number (told ++ c ∷ []) ≡ sum_told number told + number c = sum_push number told c in omega arith

most_push : (told : List Came) (c : Came) → most_missing (told ++ c ∷ []) ≡ max (most_missing told) (missing_before c)
most_push [] c = omega arith
most_push (d ∷ told) c = let rest : most_missing (told ++ c ∷ []) ≡ max (most_missing told) (missing_before c) = most_push told c in omega arith

totals_push : (told : List Came) (old new : StreamTotals) (c : Came) → AddsSample c old new → AreStreamTotals told old → AreStreamTotals (told ++ c ∷ []) new
totals_push told old new c adds is =
    let longest : old.longest ≡ kept (most_missing told) = is.longest in
    let most : most_missing (told ++ c ∷ []) ≡ max (most_missing told) (missing_before c) = most_push told c in
    let grows : new.longest ≡ kept (max old.longest (missing_before c)) = adds.longest in
    record {
      samples = adds.samples ∙ kept_more old.samples (length told) 1 (length (told ++ c ∷ [])) is.samples (length_push told c);
      missing = adds.missing ∙ kept_more old.missing (sum_told missing_before told) (missing_before c) (sum_told missing_before (told ++ c ∷ [])) is.missing (sum_push missing_before told c);
      late = adds.late ∙ kept_more old.late (count_told is_late_sample told) (one_if (is_late_sample c)) (count_told is_late_sample (told ++ c ∷ [])) is.late (sum_push (λ d. one_if (is_late_sample d)) told c);
      repeated = adds.repeated ∙ kept_more old.repeated (count_told is_repeated_sample told) (one_if (is_repeated_sample c)) (count_told is_repeated_sample (told ++ c ∷ [])) is.repeated (sum_push (λ d. one_if (is_repeated_sample d)) told c);
      out_of_range = adds.out_of_range ∙ kept_more old.out_of_range (count_told is_out_of_range told) (one_if (is_out_of_range c)) (count_told is_out_of_range (told ++ c ∷ [])) is.out_of_range (sum_push (λ d. one_if (is_out_of_range d)) told c);
      outages = adds.outages ∙ kept_more old.outages (count_told is_behind_outage told) (one_if (is_behind_outage c)) (count_told is_behind_outage (told ++ c ∷ [])) is.outages (sum_push (λ d. one_if (is_behind_outage d)) told c);
      longest = omega arith;
    }

-- a tally that takes samples

pub tally_told : (samples : List Sample) (u : StreamTallyState) (s : Sample) (c : Came) → 0 < u.stream.period → u.stream.period ≤ 65536 → c ≡ came_after u.stream.period u.stream.newest s → StreamTallyStandsAfter samples u → IsSampleToldLast u.stream.period samples s c
tally_told samples u s c some most by stands = told_last samples u.stream s c some most by (stands.0, stands.1, stands.2.0)

pub tally_on : (samples : List Sample) (u v : StreamTallyState) (s : Sample) (c : Came) → 0 < u.stream.period → u.stream.period ≤ 65536 → c ≡ came_after u.stream.period u.stream.newest s → v.stream.period ≡ u.stream.period → v.stream.newest ≡ kept_after u.stream.newest s c
    → AddsSample c u.totals v.totals → StreamTallyStandsAfter samples u → StreamTallyStandsAfter (samples ++ s ∷ []) v
unfolding stands_on
tally_on samples u v s c some most by period newest adds stands =
    let on = stands_on samples u.stream v.stream s c some most by period newest (stands.0, stands.1, stands.2.0) in
    (stands.0 ++ c ∷ [], on.1, (on.2, totals_push stands.0 u.totals v.totals c adds stands.2.1))

-- a tally after one more sample, and that of none

pub tally_next : (samples : List Sample) (u : StreamTallyState) (s : Sample) → 0 < u.stream.period → u.stream.period ≤ 65536 → StreamTallyStandsAfter samples u → StreamTallyStandsAfter (samples ++ s ∷ []) (stream_tally_after u s)
tally_next samples u s some most stands =
    tally_on samples u (stream_tally_after u s) s (came_after u.stream.period u.stream.newest s) some most refl refl refl
    (record { samples = refl; missing = refl; late = refl; repeated = refl; out_of_range = refl; outages = refl; longest = refl }) stands

pub tally_fresh : (period : ℕ) → StreamTallyStandsAfter [] (fresh_tally period)
tally_fresh period = (
  [],
  record { sizes = refl; each = λ i s c p q. absurd (none-some s p) },
  ((None, (λ k c lt e. absurd (none-some c e)), tt), record { samples = refl; missing = refl; late = refl; repeated = refl; out_of_range = refl; outages = refl; longest = refl }),
)
