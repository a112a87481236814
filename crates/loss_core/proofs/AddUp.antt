-- What samples tell is one, and over samples that keep time it adds up.
use Rattle.std.proofs.Common.{◌≡◌, ℕ, ◌+◌, ◌-◌, ◌*◌, ◌/◌, ◌%◌, ◌<◌, ◌≤◌, ◌==◌, ◌||◌, nat_lt, Bool, true, false, Option, Some, None, List, [], ◌∷◌, ◌++◌, append_assoc, drop, filter, length, map, slice_get, take, if◌then◌else◌, sym, refl, ap, ap₂, ◌∙◌, subst, arith, inl, inr}
use Rattle.std.proofs.lemmas.Bool.{cases_Bool, cases_lt, cases_order, eq-eqb, false≢true, le-ltb, lt-ltb, ne_eqb}
use Rattle.std.proofs.lemmas.List.{length-append, length_push}
use Rattle.std.proofs.lemmas.Option.{same_Some}
use Rattle.std.proofs.Math.Nat.{div-add-mod, mod-add-mod, mod-lt, mul-add-mod_self_left}
use Rattle.loss_core.specs.declared.advance.Advance.{Advance}
use Rattle.loss_core.specs.declared.advance.Advance.TheVariants.{Ahead, Back}
use Rattle.loss_core.specs.declared.stream.Sample.{Sample}
use Rattle.loss_core.specs.declared.stream.Came.{Came}
use Rattle.loss_core.specs.declared.stream.Came.TheVariants as came
use Rattle.loss_core.specs.Advance.{IsNearest, advance_of, distance, way_round}
use Rattle.loss_core.specs.Stream.{AreSamplesTold, IsKnownOf, IsNewestSample, IsRun, Known, Tells, begins, by_advance, go_on, goes_on, moves}
use Rattle.loss_core.specs.StreamLaws.{KeepTime, SamplesAddUp, Taken, greatest_index, later, sample_of}
use Rattle.loss_core.proofs.Nearest.{nearest_once, nearest_within}
use Rattle.loss_core.proofs.Places.{get_middle}
use Rattle.loss_core.proofs.Samples.{ahead_on, known_back, run_after, run_begun, run_same, sample_kept, sample_taken}

-- what is known before a position is one

sample_once : (samples : List Sample) (told : List Came) (i c m d n : ℕ) → IsNewestSample samples told i c m → IsNewestSample samples told i d n → (c ≡ d) × (m ≡ n)
sample_once samples told i c m d n u v =
    elim (cases_order u.at v.at) [
      | inl same ↦
          let one : u.sample ≡ v.sample = same_Some u.sample v.sample (sym u.is ∙ (ap (slice_get samples) same ∙ v.is)) in
          (sym u.has.0 ∙ (ap (λ s. s.count) one ∙ v.has.0), sym u.has.1 ∙ (ap (λ s. s.moment) one ∙ v.has.1))
      | inr (inl lt) ↦ absurd (false≢true (sym (u.none_later v.at v.answer lt v.before v.said) ∙ v.moved))
      | inr (inr gt) ↦ absurd (false≢true (sym (v.none_later u.at u.answer gt u.before u.said) ∙ u.moved))
    ]

run_once : (told : List Came) (i r s : ℕ) → IsRun told i r → IsRun told i s → r ≡ s
run_once told i r s u v =
    elim (cases_order u.at v.at) [
      | inl same ↦ sym u.has ∙ (ap (λ n. length (filter moves (drop n (take i told)))) same ∙ v.has)
      | inr (inl lt) ↦ absurd (false≢true (sym (u.none_later v.at v.answer lt v.before v.said) ∙ v.begun))
      | inr (inr gt) ↦ absurd (false≢true (sym (v.none_later u.at u.answer gt u.before u.said) ∙ u.begun))
    ]

pub known_once : (samples : List Sample) (told : List Came) (i : ℕ) (a b : Option Known) → IsKnownOf samples told i a → IsKnownOf samples told i b → a ≡ b
known_once samples told i None None u v = refl
known_once samples told i None (Some k) u v = absurd (false≢true (sym (u v.0.at v.0.answer v.0.before v.0.said) ∙ v.0.moved))
known_once samples told i (Some k) None u v = absurd (false≢true (sym (v u.0.at u.0.answer u.0.before u.0.said) ∙ u.0.moved))
known_once samples told i (Some k) (Some l) u v =
    let x = sample_once samples told i k.count k.moment l.count l.moment u.0 v.0 in
    let y = run_once told i k.run l.run u.1 v.1 in
    let z = sym u.2 ∙ v.2 in
    λ j. Some (record { count = x.0 j; moment = x.1 j; run = y j; ahead = z j })

-- one sample that keeps time

-- what it adds, and whether it moves
record Steps (greatest t : Taken) (c : Came) : Type 0 where
  adds : greatest.index + goes_on c ≡ (later greatest t).index
  moved : moves c ≡ nat_lt greatest.index t.index

ahead : (greatest t : Taken) (run front n : ℕ) → greatest.index + n ≡ t.index → 0 < n → Steps greatest t (by_advance run front (Ahead n))
ahead greatest t run front n sum some =
    let up : nat_lt greatest.index t.index ≡ true = lt-ltb greatest.index t.index (omega arith) in
    let last : (later greatest t).index ≡ t.index = ap (λ (b : Bool). (if b then t else greatest).index) up in
    elim (cases_order n 1) [
      | inl one ↦
          let it : by_advance run front (Ahead n) ≡ came.Next = ap (λ (b : Bool). if b then came.Next else came.Missing (n - 1)) (eq-eqb n 1 one) in
          subst (Steps greatest t) (sym it) (record { adds = omega arith; moved = sym up })
      | inr (inl lt) ↦ absurd (omega arith)
      | inr (inr gt) ↦
          let it : by_advance run front (Ahead n) ≡ came.Missing (n - 1) = ap (λ (b : Bool). if b then came.Next else came.Missing (n - 1)) (ne_eqb n 1 (λ e. omega arith)) in
          subst (Steps greatest t) (sym it) (record { adds = omega arith; moved = sym up })
    ]

back : (greatest t : Taken) (run front n : ℕ) → t.index ≤ greatest.index → Steps greatest t (by_advance run front (Back n))
back greatest t run front n le =
    let low : nat_lt greatest.index t.index ≡ false = le-ltb greatest.index t.index le in
    let last : (later greatest t).index ≡ greatest.index = ap (λ (b : Bool). (if b then t else greatest).index) low in
    elim (cases_Bool (n == 0 || nat_lt n run)) [
      | inl copy ↦ subst (Steps greatest t) (sym (ap (λ (b : Bool). if b then came.Repeated else if nat_lt front n then came.BeforeFirst else came.Late) copy)) (record { adds = omega arith; moved = sym low })
      | inr none ↦ elim (cases_Bool (nat_lt front n)) [
        | inl before ↦
            subst (Steps greatest t) (sym (ap₂ (λ (a b : Bool). if a then came.Repeated else if b then came.BeforeFirst else came.Late) none before)) (record { adds = omega arith; moved = sym low })
        | inr late ↦
            subst (Steps greatest t) (sym (ap₂ (λ (a b : Bool). if a then came.Repeated else if b then came.BeforeFirst else came.Late) none late)) (record { adds = omega arith; moved = sym low })
      ]
    ]

-- the number that the difference of two indexes is, counted from a second back
difference : (period : ℕ) (g t : ℕ) → 0 < period → g ≤ t + period → ((t + period) - g) % period ≡ way_round period (g % period) (t % period)
difference period g t some le =
    let rest : g % period < period = mod-lt g some in
    let whole : period * (g / period) + g % period ≡ g = div-add-mod g period in
    let sum : period * (g / period) + ((t + period) - g) ≡ t + (period - g % period) = omega arith in
    sym (mul-add-mod_self_left period (g / period) ((t + period) - g)) ∙ (ap (λ n. n % period) sum ∙ sym (mod-add-mod t period (period - g % period)))

one_step : (period : ℕ) (greatest t : Taken) (run front : ℕ) (c : Came) → 0 < period
    → 2 * distance (1000000 * t.index) (1000000 * greatest.index + (t.moment - greatest.moment) * period) < 1000000 * period
    → Tells period (Some (record { count = greatest.index % period; moment = greatest.moment; run = run; ahead = front })) (sample_of period t) c → Steps greatest t c
one_step period greatest t run front c some near tells =
    let elapsed : ℕ = t.moment - greatest.moment in
    let number : ℕ = (t.index + period) - greatest.index in
    let close : greatest.index ≤ t.index + period = omega arith in
    let rest : ((t.index + period) - greatest.index) % period ≡ way_round period (greatest.index % period) (t.index % period) = difference period greatest.index t.index some close in
    let it : IsNearest period (t.moment - greatest.moment) (way_round period (greatest.index % period) (t.index % period)) ((t.index + period) - greatest.index) =
    nearest_within period (t.moment - greatest.moment) (way_round period (greatest.index % period) (t.index % period)) ((t.index + period) - greatest.index) rest (omega arith) in
    elim tells [
      | inl out ↦ absurd (false≢true (sym out.0 ∙ lt-ltb (t.index % period) period (mod-lt t.index some)))
      | inr x ↦
          let a = x.1 in
          let n = a.1.0 in
          let same : n ≡ (t.index + period) - greatest.index = nearest_once period (t.moment - greatest.moment) (way_round period (greatest.index % period) (t.index % period)) n ((t.index + period) - greatest.index) a.1.1 it in
          let means : c ≡ by_advance run front (advance_of period ((t.index + period) - greatest.index)) = a.2 ∙ ap (by_advance run front) (a.1.2 ∙ ap (advance_of period) same) in
          subst (Steps greatest t) (sym means)
          (elim (cases_lt greatest.index t.index) [
            | inl lt ↦
                subst (λ (a : Advance). Steps greatest t (by_advance run front a)) (sym (ap (λ (b : Bool). if b then Ahead (((t.index + period) - greatest.index) - period) else Back (period - ((t.index + period) - greatest.index))) (lt-ltb period ((t.index + period) - greatest.index) (omega arith))))
                (ahead greatest t run front (((t.index + period) - greatest.index) - period) (omega arith) (omega arith))
            | inr ge ↦
                subst (λ (a : Advance). Steps greatest t (by_advance run front a)) (sym (ap (λ (b : Bool). if b then Ahead (((t.index + period) - greatest.index) - period) else Back (period - ((t.index + period) - greatest.index))) (le-ltb period ((t.index + period) - greatest.index) (omega arith))))
                (back greatest t run front (period - ((t.index + period) - greatest.index)) ge)
          ])
    ]

-- samples one after another

KnownNow : (period : ℕ) → List Sample → List Came → Taken → Type 0
KnownNow period samples told greatest = (run : ℕ) × (front : ℕ) × IsKnownOf samples told (length samples) (Some (record { count = greatest.index % period; moment = greatest.moment; run = run; ahead = front }))

known_now : (period : ℕ) (samples : List Sample) (told : List Came) (greatest t : Taken) (c : Came) → length told ≡ length samples → Steps greatest t c → KnownNow period samples told greatest
    → KnownNow period (samples ++ sample_of period t ∷ []) (told ++ c ∷ []) (later greatest t)
unfolding KnownNow
known_now period samples told greatest t c same s known =
    let r : IsRun told (length told) known.0 = subst (λ n. IsRun told n known.0) (sym same) known.2.1 in
    let front = ahead_on told samples (sample_of period t) c known.1 same (ap (λ n. go_on (take n told)) same ∙ known.2.2) in
    let m = run_after told c known.0 r in
    let on = run_same told samples (sample_of period t) c m.0 same m.1 in
    elim (cases_lt greatest.index t.index) [
      | inl lt ↦
          let up : nat_lt greatest.index t.index ≡ true = lt-ltb greatest.index t.index lt in
          subst (λ (g : Taken). (run : ℕ) × (front : ℕ) × IsKnownOf (samples ++ sample_of period t ∷ []) (told ++ c ∷ []) (length (samples ++ sample_of period t ∷ [])) (Some (record { count = g.index % period; moment = g.moment; run = run; ahead = front })))
          (sym (ap (λ (b : Bool). if b then t else greatest) up))
          (m.0, known.1 + goes_on c, (sample_taken samples told (sample_of period t) c same (s.moved ∙ up), on, front))
      | inr ge ↦
          let low : nat_lt greatest.index t.index ≡ false = le-ltb greatest.index t.index ge in
          subst (λ (g : Taken). (run : ℕ) × (front : ℕ) × IsKnownOf (samples ++ sample_of period t ∷ []) (told ++ c ∷ []) (length (samples ++ sample_of period t ∷ [])) (Some (record { count = g.index % period; moment = g.moment; run = run; ahead = front })))
          (sym (ap (λ (b : Bool). if b then t else greatest) low))
          (m.0, known.1 + goes_on c, (sample_kept samples told (sample_of period t) c (greatest.index % period) greatest.moment same (s.moved ∙ low) known.2.0, on, front))
    ]

-- what the next of several samples tells, by what is known of those before
next_tells : (period : ℕ) (samples : List Sample) (s : Sample) (more : List Sample) (told : List Came) (c : Came) (others : List Came) (known : Option Known) → length told ≡ length samples
    → AreSamplesTold period (samples ++ s ∷ more) (told ++ c ∷ others) → IsKnownOf samples told (length samples) known → Tells period known s c
next_tells period samples s more told c others known same all is =
    let x = all.each (length samples) s c (get_middle samples s more) (subst (λ n. slice_get (told ++ c ∷ others) n ≡ Some c) same (get_middle told c others)) in
    subst (λ (k : Option Known). Tells period k s c) (known_once samples told (length samples) x.0 known (known_back samples (s ∷ more) told (c ∷ others) (length samples) x.0 (omega arith) (omega arith) x.1) is) x.2

step_there : (period : ℕ) (t : Taken) (ts : List Taken) (samples : List Sample) (told : List Came) (c : Came) (rest : List Came) (greatest : Taken) → 0 < period → length told ≡ length samples → KnownNow period samples told greatest
    → 2 * distance (1000000 * t.index) (1000000 * greatest.index + (t.moment - greatest.moment) * period) < 1000000 * period
    → AreSamplesTold period (samples ++ sample_of period t ∷ map (sample_of period) ts) (told ++ c ∷ rest) → Steps greatest t c
unfolding KnownNow
step_there period t ts samples told c rest greatest some same known near all =
    one_step period greatest t known.0 known.1 c some near
    (next_tells period samples (sample_of period t) (map (sample_of period) ts) told c rest (Some (record { count = greatest.index % period; moment = greatest.moment; run = known.0; ahead = known.1 })) same all known.2)

sum_from : (period : ℕ) (ts : List Taken) (samples : List Sample) (told rest : List Came) (greatest : Taken) → 0 < period → length told ≡ length samples → KnownNow period samples told greatest → KeepTime period greatest ts
    → AreSamplesTold period (samples ++ map (sample_of period) ts) (told ++ rest) → greatest.index + go_on rest ≡ greatest_index greatest ts
sum_from period [] samples told [] greatest some same known keep all = omega arith
sum_from period [] samples told (c ∷ rest) greatest some same known keep all =
    let sizes : length (told ++ c ∷ rest) ≡ length (samples ++ []) = all.sizes in
    absurd (omega (arith, length-append told (c ∷ rest), length-append samples []))
sum_from period (t ∷ ts) samples told [] greatest some same known keep all =
    let sizes : length (told ++ []) ≡ length (samples ++ sample_of period t ∷ map (sample_of period) ts) = all.sizes in
    absurd (omega (arith, length-append told [], length-append samples (sample_of period t ∷ map (sample_of period) ts)))
sum_from period (t ∷ ts) samples told (c ∷ rest) greatest some same known keep all =
    let s : Steps greatest t c = step_there period t ts samples told c rest greatest some same known keep.0 all in
    let adds : greatest.index + goes_on c ≡ (later greatest t).index = s.adds in
    let sizes : length (told ++ c ∷ []) ≡ length (samples ++ sample_of period t ∷ []) = length_push told c ∙ (ap (λ n. n + 1) same ∙ sym (length_push samples (sample_of period t))) in
    let on : (later greatest t).index + go_on rest ≡ greatest_index (later greatest t) ts =
    sum_from period ts (samples ++ sample_of period t ∷ []) (told ++ c ∷ []) rest (later greatest t) some sizes (known_now period samples told greatest t c same s known) keep.1
    (subst (λ (l : List Sample). AreSamplesTold period l ((told ++ c ∷ []) ++ rest)) (sym (append_assoc samples (sample_of period t ∷ []) (map (sample_of period) ts)))
    (subst (λ (l : List Came). AreSamplesTold period (samples ++ sample_of period t ∷ map (sample_of period) ts) l) (sym (append_assoc told (c ∷ []) rest)) all)) in
    omega arith

none_before : IsKnownOf [] [] 0 None
none_before = λ k c lt e. absurd (omega arith)

first_tells : (period : ℕ) (s : Sample) (more : List Sample) (c : Came) (told : List Came) (known : Option Known) → IsKnownOf (s ∷ more) (c ∷ told) 0 known → Tells period known s c → Tells period None s c
first_tells period s more c told known is tells =
    subst (λ (k : Option Known). Tells period k s c) (known_once [] [] 0 known None (known_back [] (s ∷ more) [] (c ∷ told) 0 known (omega arith) (omega arith) is) none_before) tells

first_known : (period : ℕ) (first : Taken) (c : Came) → c ≡ came.First → KnownNow period (sample_of period first ∷ []) (c ∷ []) first
unfolding KnownNow
first_known period first c is =
    (1, 0, (sample_taken [] [] (sample_of period first) c refl (ap moves is), run_begun [] c (ap begins is) (ap moves is), ap (λ (d : Came). go_on (d ∷ [])) is))

pub samples_add_up : SamplesAddUp
samples_add_up period first rest [] some keep all = absurd (omega (arith, all.sizes))
samples_add_up period first rest (c ∷ told) some keep all =
    let x = all.each 0 (sample_of period first) c refl refl in
    let tells : Tells period None (sample_of period first) c = first_tells period (sample_of period first) (map (sample_of period) rest) c told x.0 x.1 x.2 in
    let is : c ≡ came.First = tells ∙ ap (λ (b : Bool). if b then came.First else came.OutOfRange) (lt-ltb (first.index % period) period (mod-lt first.index some)) in
    let none : goes_on c ≡ 0 = ap goes_on is in
    let sum : first.index + go_on told ≡ greatest_index first rest =
    sum_from period rest (sample_of period first ∷ []) (c ∷ []) told first some refl (first_known period first c is) keep all in
    omega arith
