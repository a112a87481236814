-- What is kept of each key after sights is what its frames or samples come to, and what the next sight tells by it is what it tells after them.
use Rattle.std.proofs.Common.{Option, Some, None, ◌≡◌, ℕ, zero, suc, ◌+◌, ◌<◌, ◌≤◌, true, false, List, [], ◌∷◌, ◌++◌, length, map, take, append-nil, append_assoc, inl, inr, ap, refl, ◌∙◌, sym, subst, arith}
use Rattle.std.specs.Prelude.{Result, Ok, Err, slice_get}
use Rattle.std.proofs.lemmas.Bool.{cases_Bool}
use Rattle.std.proofs.lemmas.List.{length_push}
use Rattle.std.proofs.lemmas.Option.{none-some, same_Some}
use Rattle.ber_core.specs.declared.fault.Fault.{Fault}
use Rattle.pdu_core.specs.declared.sampled.asdu.Asdu.{Asdu}
use Rattle.frame_core.specs.declared.frame.Apdu.{Apdu}
use Rattle.frame_core.specs.declared.frame.Apdu.TheVariants as apdus
use Rattle.frame_core.specs.declared.frame.Frame.{Frame}
use Rattle.frame_core.specs.computed.FrameReading.{frame_at}
use Rattle.list_core.specs.declared.event.EventKind.{EventKind}
use Rattle.list_core.specs.declared.event.EventKind.TheVariants as kinds
use Rattle.loss_core.specs.declared.sender.Arrival.{Arrival}
use Rattle.loss_core.specs.declared.stream.Came.{Came}
use Rattle.loss_core.specs.declared.stream.Sample.{Sample}
use Rattle.loss_core.specs.Sender.{IsToldLast, told_after}
use Rattle.loss_core.specs.SenderTotals.{TallyStandsAfter, kept}
use Rattle.loss_core.specs.Stream.{IsSampleToldLast}
use Rattle.loss_core.specs.computed.SenderTotalSteps.{first_tally}
use Rattle.loss_core.specs.computed.StreamSteps.{came_after}
use Rattle.loss_core.specs.computed.StreamTotalSteps.{StreamTallyStandsAfter, fresh_tally, stream_tally_after}
use Rattle.loss_core.proofs.Known.{told_first}
use Rattle.loss_core.proofs.Totals as senders
use Rattle.loss_core.proofs.SampleTotals as streams
use Rattle.loss_core.specs.declared.finding.Finding.{Finding}
use Rattle.loss_core.specs.Findings.{came_told, synch_told}
use Rattle.loss_engine.specs.Findings.{TellsShown, TellsSight, last_of}
use Rattle.loss_engine.specs.Sights.{Key, Shown, Sight, frame, sample, sender, stream, arrival_in, frames_of, keys_in, period_for, same_key, sample_in, samples_of, sight_of_asdu, sights_of, sights_read, sights_with, synch_in, synchs_of, with_key}
use Rattle.loss_core.specs.Periods.{ArePeriods, IsPeriodOf, Period}
use Rattle.loss_core.proofs.PeriodLemmas.{period_in_range}
use Rattle.loss_engine.specs.computed.Tracking.{Progress, Tracked, counted, findings_all, findings_by, first_progress, frames, known_of, more_progress, samples, track, track_all}
use Rattle.loss_engine.proofs.TrackedKeys.{Distinct, after_more, distinct_more, keys_more, keys_push, known_other, known_same, of_key_other, of_key_same, same_is, same_itself}

-- ---- a sender shows frames alone, and a stream samples alone

abbrev pub IsKind : Key → Shown → Type 0
IsKind (sender a r s) (frame p lifetime) = Unit {0}
IsKind (sender a r s) (sample count synch) = ⊥
IsKind (stream a o i) (frame p lifetime) = ⊥
IsKind (stream a o i) (sample count synch) = Unit {0}

abbrev pub AreKinds : List Sight → Type 0
AreKinds [] = Unit {0}
AreKinds (s ∷ seen) = IsKind s.key s.shown × AreKinds seen

kinds_asdus : {A : Type 0} (moment app_id : ℕ) (source : List ℕ) (asdus : List (Asdu A)) → AreKinds (map (sight_of_asdu moment app_id source) asdus)
kinds_asdus moment app_id source [] = tt
kinds_asdus moment app_id source (a ∷ asdus) = (tt, kinds_asdus moment app_id source asdus)

kinds_with : {A : Type 0} (moment app_id : ℕ) (source : List ℕ) (a : Apdu A) → AreKinds (sights_with moment app_id source a)
kinds_with moment app_id source (apdus.Goose p) = (tt, tt)
kinds_with moment app_id source (apdus.Sampled p) = kinds_asdus moment app_id source p.asdus

kinds_read : {A : Type 0} (moment : ℕ) (r : Result (Frame A) Fault) → AreKinds (sights_read moment r)
kinds_read moment (Ok f) = kinds_with moment f.app_id f.source f.apdu
kinds_read moment (Err f) = tt

pub kinds_of : {A : Type 0} (moment : ℕ) (e : EventKind A) → AreKinds (sights_of moment e)
kinds_of moment (kinds.Frame octets) = kinds_read {A = Unit {0}} moment (frame_at octets)
kinds_of moment kinds.Clock = tt
kinds_of moment (kinds.Mode on) = tt

-- ---- what is kept is what frames or samples come to

abbrev pub HoldsFrames : List Arrival → Option Progress → Type 0
HoldsFrames fs None = fs ≡ []
HoldsFrames fs (Some (frames t)) = TallyStandsAfter fs t
HoldsFrames fs (Some (samples u z)) = ⊥
HoldsFrames fs (Some (counted n z)) = ⊥

abbrev pub HoldsSamples : Option ℕ → List Sample → List ℕ → Option Progress → Type 0
HoldsSamples period ss zs None = (ss ≡ []) × (zs ≡ [])
HoldsSamples period ss zs (Some (frames t)) = ⊥
HoldsSamples None ss zs (Some (samples u z)) = ⊥
HoldsSamples (Some period) ss zs (Some (samples u z)) = (u.stream.period ≡ period) × StreamTallyStandsAfter ss u × (last_of zs ≡ Some z)
HoldsSamples None ss zs (Some (counted n z)) = (n ≡ kept (length ss)) × (last_of zs ≡ Some z)
HoldsSamples (Some period) ss zs (Some (counted n z)) = ⊥

abbrev pub Holds : Option ℕ → Key → List Arrival → List Sample → List ℕ → Option Progress → Type 0
Holds period (sender a r s) fs ss zs known = HoldsFrames fs known
Holds period (stream a o i) fs ss zs known = HoldsSamples period ss zs known

holds_eq : (period : Option ℕ) (key : Key) (fs more_fs : List Arrival) (ss more_ss : List Sample) (zs more_zs : List ℕ) (known more : Option Progress) → fs ≡ more_fs → ss ≡ more_ss → zs ≡ more_zs → known ≡ more →
    Holds period key fs ss zs known → Holds period key more_fs more_ss more_zs more
holds_eq period key fs more_fs ss more_ss zs more_zs known more p q r s h =
    subst (λ x. Holds period key more_fs more_ss more_zs x) s (subst (λ x. Holds period key more_fs more_ss x known) r (subst (λ x. Holds period key more_fs x zs known) q (subst (λ x. Holds period key x ss zs known) p h)))

last_push : (zs : List ℕ) (z : ℕ) → last_of (zs ++ z ∷ []) ≡ Some z
last_push [] z = refl
last_push (x ∷ []) z = refl
last_push (x ∷ y ∷ ys) z = last_push (y ∷ ys) z

counted_push : (n : ℕ) (ss : List Sample) (s : Sample) → n ≡ kept (length ss) → kept (n + 1) ≡ kept (length (ss ++ s ∷ []))
counted_push n ss s h = let more : length (ss ++ s ∷ []) ≡ length ss + 1 = length_push ss s in omega arith

holds_frame : (fs : List Arrival) (known : Option Progress) (period : Option ℕ) (a : Arrival) → HoldsFrames fs known → HoldsFrames (fs ++ a ∷ []) (Some (after_more known (first_progress period a.moment (frame a.pair a.lifetime)) (more_progress a.moment (frame a.pair a.lifetime))))
holds_frame fs None period a h = subst (λ l. TallyStandsAfter (l ++ a ∷ []) (first_tally a)) (sym h) (senders.tally_first a)
holds_frame fs (Some (frames t)) period a h = senders.tally_next fs t a h
holds_frame fs (Some (samples u z)) period a h = absurd h
holds_frame fs (Some (counted n z)) period a h = absurd h

holds_sample : (period : Option ℕ) (ss : List Sample) (zs : List ℕ) (known : Option Progress) (moment count synch : ℕ) → IsPeriodOf period → HoldsSamples period ss zs known →
    HoldsSamples period (ss ++ record { count = count; moment = moment } ∷ []) (zs ++ synch ∷ []) (Some (after_more known (first_progress period moment (sample count synch)) (more_progress moment (sample count synch))))
holds_sample None ss zs None moment count synch is h = (subst (λ (l : List Sample). 1 ≡ kept (length (l ++ record { count = count; moment = moment } ∷ []))) (sym h.0) refl, last_push zs synch)
holds_sample (Some period) ss zs None moment count synch is h =
    let s : Sample = record { count = count; moment = moment } in
    let in_range = is period refl in (
      refl,
      subst (λ l. StreamTallyStandsAfter (l ++ s ∷ []) (stream_tally_after (fresh_tally period) s)) (sym h.0)
          (streams.tally_next [] (fresh_tally period) s in_range.0 in_range.1 (streams.tally_fresh period)),
      last_push zs synch,
    )
holds_sample period ss zs (Some (frames t)) moment count synch is h = absurd h
holds_sample None ss zs (Some (samples u z)) moment count synch is h = absurd h
holds_sample (Some period) ss zs (Some (samples u z)) moment count synch is h =
    let in_range = is period refl in (
      h.0,
      streams.tally_next ss u (record { count = count; moment = moment }) (subst (λ n. 0 < n) (sym h.0) in_range.0) (subst (λ n. n ≤ 65536) (sym h.0) in_range.1) h.1,
      last_push zs synch,
    )
holds_sample None ss zs (Some (counted n z)) moment count synch is h = (counted_push n ss (record { count = count; moment = moment }) h.0, last_push zs synch)
holds_sample (Some period) ss zs (Some (counted n z)) moment count synch is h = absurd h

holds_on : (period : Option ℕ) (key : Key) (fs : List Arrival) (ss : List Sample) (zs : List ℕ) (known : Option Progress) (moment : ℕ) (shown : Shown) → IsPeriodOf period → IsKind key shown → Holds period key fs ss zs known →
    Holds period key (fs ++ arrival_in moment shown) (ss ++ sample_in moment shown) (zs ++ synch_in shown) (Some (after_more known (first_progress period moment shown) (more_progress moment shown)))
holds_on period (sender a r s) fs ss zs known moment (frame p lifetime) is kind h = holds_frame fs known period (record { pair = p; moment = moment; lifetime = lifetime }) h
holds_on period (sender a r s) fs ss zs known moment (sample count synch) is kind h = absurd kind
holds_on period (stream a o i) fs ss zs known moment (frame p lifetime) is kind h = absurd kind
holds_on period (stream a o i) fs ss zs known moment (sample count synch) is kind h = holds_sample period ss zs known moment count synch is h

-- ---- what is told by what is kept

tells_frame : (period : Option ℕ) (earlier : List Sight) (key : Key) (known : Option Progress) (moment : ℕ) (a : Arrival) → HoldsFrames (frames_of key earlier) known → TellsShown period earlier key a.moment (frame a.pair a.lifetime) (findings_by period known a.moment (frame a.pair a.lifetime))
tells_frame period earlier key None moment a h = (told_after None a, subst (λ l. IsToldLast l a (told_after None a)) (sym h) (told_first a), refl)
tells_frame period earlier key (Some (frames t)) moment a h = (told_after (Some t.sender) a, senders.tally_told (frames_of key earlier) t a (told_after (Some t.sender) a) refl h, refl)
tells_frame period earlier key (Some (samples u z)) moment a h = absurd h
tells_frame period earlier key (Some (counted n z)) moment a h = absurd h

tells_sample : (period : Option ℕ) (earlier : List Sight) (key : Key) (known : Option Progress) (moment count synch : ℕ) → IsPeriodOf period → HoldsSamples period (samples_of key earlier) (synchs_of key earlier) known →
    TellsShown period earlier key moment (sample count synch) (findings_by period known moment (sample count synch))
tells_sample None earlier key None moment count synch is h = ap (λ l. synch_told (last_of l) synch) (sym h.1)
tells_sample None earlier key (Some (frames t)) moment count synch is h = absurd h
tells_sample None earlier key (Some (samples u z)) moment count synch is h = absurd h
tells_sample None earlier key (Some (counted n z)) moment count synch is h = ap (λ o. synch_told o synch) (sym h.1)
tells_sample (Some period) earlier key None moment count synch is h =
    let in_range = is period refl in
    let s : Sample = record { count = count; moment = moment } in (
      came_after period None s,
      subst (λ l. IsSampleToldLast period l s (came_after period None s)) (sym h.0)
          (streams.tally_told [] (fresh_tally period) s (came_after period None s) in_range.0 in_range.1 refl (streams.tally_fresh period)),
      ap (λ l. came_told period count (came_after period None s) ++ synch_told (last_of l) synch) (sym h.1),
    )
tells_sample (Some period) earlier key (Some (frames t)) moment count synch is h = absurd h
tells_sample (Some period) earlier key (Some (samples u z)) moment count synch is h =
    let in_range = is period refl in
    let s : Sample = record { count = count; moment = moment } in
    let c : Came = came_after u.stream.period u.stream.newest s in (
      c,
      subst (λ n. IsSampleToldLast n (samples_of key earlier) s c) h.0
          (streams.tally_told (samples_of key earlier) u s c
          (subst (λ n. 0 < n) (sym h.0) in_range.0) (subst (λ n. n ≤ 65536) (sym h.0) in_range.1) refl h.1),
      ap (λ o. came_told period count c ++ synch_told o synch) (sym h.2),
    )
tells_sample (Some period) earlier key (Some (counted n z)) moment count synch is h = absurd h

tells_by : (period : Option ℕ) (earlier : List Sight) (key : Key) (known : Option Progress) (moment : ℕ) (shown : Shown) → IsPeriodOf period → IsKind key shown → Holds period key (frames_of key earlier) (samples_of key earlier) (synchs_of key earlier) known →
    TellsShown period earlier key moment shown (findings_by period known moment shown)
tells_by period earlier (sender a r s) known moment (frame p lifetime) is kind h = tells_frame period earlier (sender a r s) known moment (record { pair = p; moment = moment; lifetime = lifetime }) h
tells_by period earlier (sender a r s) known moment (sample count synch) is kind h = absurd kind
tells_by period earlier (stream a o i) known moment (frame p lifetime) is kind h = absurd kind
tells_by period earlier (stream a o i) known moment (sample count synch) is kind h = tells_sample period earlier (stream a o i) known moment count synch is h

-- ---- all keys

-- what is tracked stands after sights: its keys are theirs, each once, and of each is kept what its sights come to
pub record Stands (periods : List Period) (seen : List Sight) (xs : List Tracked) : Type 0 where
  pub keys : map (λ (x : Tracked). x.key) xs ≡ keys_in seen
  pub distinct : Distinct xs
  pub each : (key : Key) → Holds (period_for periods key) key (frames_of key seen) (samples_of key seen) (synchs_of key seen) (known_of xs key)

none_holds : (period : Option ℕ) (key : Key) → Holds period key [] [] [] None
none_holds period (sender a r s) = refl
none_holds period (stream a o i) = (refl, refl)

pub stands_none : (periods : List Period) → Stands periods [] []
stands_none periods = record { keys = refl; distinct = tt; each = λ key. none_holds (period_for periods key) key }

-- the period of each key is in range
pub in_range : (periods : List Period) (key : Key) → ArePeriods periods → IsPeriodOf (period_for periods key)
in_range periods (sender a r s) are = λ n e. absurd (none-some n e)
in_range periods (stream a o i) are = period_in_range periods i are

module _ (periods : List Period) (are : ArePeriods periods) where
  holds_same : (seen : List Sight) (xs : List Tracked) (s : Sight) → IsKind s.key s.shown → Stands periods seen xs →
      Holds (period_for periods s.key) s.key (frames_of s.key (seen ++ s ∷ [])) (samples_of s.key (seen ++ s ∷ [])) (synchs_of s.key (seen ++ s ∷ [])) (known_of (track periods xs s) s.key)
  holds_same seen xs s kind st =
      let same : same_key s.key s.key ≡ true = same_itself s.key in
      holds_eq (period_for periods s.key) s.key _ _ _ _ _ _ _ _
      (sym (of_key_same (λ (x : Sight). arrival_in x.moment x.shown) s.key seen s same))
      (sym (of_key_same (λ (x : Sight). sample_in x.moment x.shown) s.key seen s same))
      (sym (of_key_same (λ (x : Sight). synch_in x.shown) s.key seen s same))
      (sym (known_same xs s.key (first_progress (period_for periods s.key) s.moment s.shown) (more_progress s.moment s.shown)))
      (holds_on (period_for periods s.key) s.key (frames_of s.key seen) (samples_of s.key seen) (synchs_of s.key seen) (known_of xs s.key) s.moment s.shown (in_range periods s.key are) kind (st.each s.key))

  holds_other : (seen : List Sight) (xs : List Tracked) (s : Sight) (key : Key) → same_key s.key key ≡ false → Stands periods seen xs →
      Holds (period_for periods key) key (frames_of key (seen ++ s ∷ [])) (samples_of key (seen ++ s ∷ [])) (synchs_of key (seen ++ s ∷ [])) (known_of (track periods xs s) key)
  holds_other seen xs s key other st =
      holds_eq (period_for periods key) key _ _ _ _ _ _ _ _
      (sym (of_key_other (λ (x : Sight). arrival_in x.moment x.shown) key seen s other))
      (sym (of_key_other (λ (x : Sight). sample_in x.moment x.shown) key seen s other))
      (sym (of_key_other (λ (x : Sight). synch_in x.shown) key seen s other))
      (sym (known_other xs s.key key (first_progress (period_for periods s.key) s.moment s.shown) (more_progress s.moment s.shown) other))
      (st.each key)

  pub stands_on : (seen : List Sight) (xs : List Tracked) (s : Sight) → IsKind s.key s.shown → Stands periods seen xs → Stands periods (seen ++ s ∷ []) (track periods xs s)
  stands_on seen xs s kind st = record {
    keys = keys_more xs s.key (first_progress (period_for periods s.key) s.moment s.shown) (more_progress s.moment s.shown) ∙ (ap (λ ks. with_key ks s.key) st.keys ∙ sym (keys_push seen s));
    distinct = distinct_more xs s.key (first_progress (period_for periods s.key) s.moment s.shown) (more_progress s.moment s.shown) st.distinct;
    each = λ key. elim (cases_Bool (same_key s.key key)) [
      | inl same ↦
          subst (λ k. Holds (period_for periods k) k (frames_of k (seen ++ s ∷ [])) (samples_of k (seen ++ s ∷ [])) (synchs_of k (seen ++ s ∷ [])) (known_of (track periods xs s) k)) (same_is s.key key same)
          (holds_same seen xs s kind st)
      | inr other ↦ holds_other seen xs s key other st
    ];
  }

  pub stands_all : (seen before : List Sight) (xs : List Tracked) → AreKinds seen → Stands periods before xs → Stands periods (before ++ seen) (track_all periods xs seen)
  stands_all [] before xs all st = subst (λ l. Stands periods l xs) (sym (append-nil before)) st
  stands_all (s ∷ seen) before xs all st =
      subst (λ l. Stands periods l (track_all periods (track periods xs s) seen)) (append_assoc before (s ∷ []) seen)
      (stands_all seen (before ++ s ∷ []) (track periods xs s) all.1 (stands_on before xs s all.0 st))

  pub findings_tell : (seen before : List Sight) (xs : List Tracked) → AreKinds seen → Stands periods before xs → (i : ℕ) (s : Sight) (fs : List Finding) → slice_get seen i ≡ Some s → slice_get (findings_all periods xs seen) i ≡ Some fs →
      TellsSight periods (before ++ take i seen) s fs
  findings_tell [] before xs all st i s fs p q = absurd (none-some s p)
  findings_tell (t ∷ seen) before xs all st zero s fs p q =
      subst (λ l. TellsSight periods l s fs) (sym (append-nil before))
      (subst (λ x. TellsSight periods before s x) (same_Some _ fs q)
      (subst (λ (x : Sight). TellsSight periods before x (findings_by (period_for periods t.key) (known_of xs t.key) t.moment t.shown)) (same_Some t s p)
      (tells_by (period_for periods t.key) before t.key (known_of xs t.key) t.moment t.shown (in_range periods t.key are) all.0 (st.each t.key))))
  findings_tell (t ∷ seen) before xs all st (suc i) s fs p q =
      subst (λ l. TellsSight periods l s fs) (append_assoc before (t ∷ []) (take i seen))
      (findings_tell seen (before ++ t ∷ []) (track periods xs t) all.1 (stands_on before xs t all.0 st) i s fs p q)

  pub findings_sizes : (seen : List Sight) (xs : List Tracked) → length (findings_all periods xs seen) ≡ length seen
  findings_sizes [] xs = refl
  findings_sizes (s ∷ seen) xs = ap suc (findings_sizes seen (track periods xs s))
