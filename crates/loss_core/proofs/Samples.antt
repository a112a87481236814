-- What is known of samples before a position, and one sample more.
use Rattle.std.proofs.Common.{◌≡◌, ℕ, suc, ◌+◌, ◌-◌, ◌<◌, ◌≤◌, ◌==◌, ◌||◌, min, nat_lt, Bool, true, false, Option, Some, None, List, [], ◌∷◌, ◌++◌, add-zero, drop, filter, length, slice_get, take, if◌then◌else◌, sym, refl, ap, ap₂, ◌∙◌, subst, arith, inl, inr}
use Rattle.std.proofs.lemmas.Bool.{cases_Bool, cases_lt, false≢true, le-ltb, lt-ltb}
use Rattle.std.proofs.lemmas.List.{drop-append-le, length-append, length_push, take-append-le}
use Rattle.std.proofs.lemmas.List.Elements.{filter-append}
use Rattle.std.proofs.Math.Seq.{drop-append_seam, take-length}
use Rattle.std.proofs.lemmas.Option.{same_Some}
use Rattle.loss_core.specs.declared.advance.Advance.{Advance}
use Rattle.loss_core.specs.declared.advance.Advance.TheVariants.{Ahead, Back}
use Rattle.loss_core.specs.declared.stream.Sample.{Sample}
use Rattle.loss_core.specs.declared.stream.Newest.{Newest}
use Rattle.loss_core.specs.declared.stream.Came.{Came}
use Rattle.loss_core.specs.declared.stream.Came.TheVariants as came
use Rattle.loss_core.specs.Advance.{advance_of, way_round}
use Rattle.loss_core.specs.Stream.{AreSamplesTold, IsKnownOf, IsNewestSample, IsRun, IsSampleToldLast, Known, Tells, begins, by_advance, go_on, goes_on, moves}
use Rattle.loss_core.specs.computed.AdvanceSteps.{advance_by, nearest_to}
use Rattle.loss_core.specs.computed.StreamSteps.{Keeps, StreamStandsAfter, StreamState, came_after, kept_after}
use Rattle.loss_core.proofs.Nearest.{advance_is}
use Rattle.loss_core.proofs.Places.{get_back, get_front, get_pushed, place}

-- what is known before a position depends on what stands before it alone

run_front : (told others : List Came) (i r : ℕ) → i ≤ length told → IsRun told i r → IsRun (told ++ others) i r
run_front told others i r le w =
    let before : w.at < i = w.before in
    record {
      at = w.at;
      answer = w.answer;
      before = w.before;
      said = get_front told others w.at (omega arith) ∙ w.said;
      begun = w.begun;
      none_later = λ k c x y e. w.none_later k c x y (get_back told others k c (omega arith) e);
      has = ap (λ (l : List Came). length (filter moves (drop w.at l))) (take-append-le i told others le) ∙ w.has;
    }

pub known_front : (samples more : List Sample) (told others : List Came) (i : ℕ) (known : Option Known) → i ≤ length samples → i ≤ length told → IsKnownOf samples told i known → IsKnownOf (samples ++ more) (told ++ others) i known
known_front samples more told others i None a b w = λ k c lt e. w k c lt (get_back told others k c (omega arith) e)
known_front samples more told others i (Some s) a b w =
    let n = w.0 in
    let before : n.at < i = n.before in (
      record {
        at = n.at;
        sample = n.sample;
        answer = n.answer;
        before = n.before;
        is = get_front samples more n.at (omega arith) ∙ n.is;
        said = get_front told others n.at (omega arith) ∙ n.said;
        moved = n.moved;
        has = n.has;
        none_later = λ k c x y e. n.none_later k c x y (get_back told others k c (omega arith) e);
      },
      run_front told others i s.run b w.1,
      ap go_on (take-append-le i told others b) ∙ w.2,
    )

pub told_push : (period : ℕ) (samples : List Sample) (told : List Came) (known : Option Known) (s : Sample) (c : Came) → AreSamplesTold period samples told → IsKnownOf samples told (length samples) known → Tells period known s c
    → AreSamplesTold period (samples ++ s ∷ []) (told ++ c ∷ [])
told_push period samples told known s c all is tells =
    let sizes : length told ≡ length samples = all.sizes in
    record {
      sizes = length_push told c ∙ (ap (λ n. n + 1) all.sizes ∙ sym (length_push samples s));
      each = λ i f t p q.
          elim (place samples s i f p) [
            | inl w ↦
                let lt : i < length samples = w.0 in
                let x = all.each i f t w.1 (get_back told (c ∷ []) i t (omega arith) q) in
                (x.0, known_front samples (s ∷ []) told (c ∷ []) i x.0 (omega arith) (omega arith) x.1, x.2)
            | inr w ↦
                let at : i ≡ length samples = w.0 in
                let here : i ≡ length told = omega arith in
                let said : c ≡ t = same_Some c t (sym (get_pushed told c) ∙ (ap (slice_get (told ++ c ∷ [])) (sym here) ∙ q)) in (
                  known,
                  known_front samples (s ∷ []) told (c ∷ []) i known (omega arith) (omega arith) (subst (λ n. IsKnownOf samples told n known) (sym at) is),
                  subst (λ (x : Sample). Tells period known x t) w.1 (subst (λ (x : Came). Tells period known s x) said tells),
                )
          ];
    }

-- the newest sample

pub sample_taken : (samples : List Sample) (told : List Came) (s : Sample) (c : Came) → length told ≡ length samples → moves c ≡ true → IsNewestSample (samples ++ s ∷ []) (told ++ c ∷ []) (length (samples ++ s ∷ [])) s.count s.moment
sample_taken samples told s c same m =
    let more : length (samples ++ s ∷ []) ≡ length samples + 1 = length_push samples s in
    record {
      at = length samples;
      sample = s;
      answer = c;
      before = omega arith;
      is = get_pushed samples s;
      said = subst (λ n. slice_get (told ++ c ∷ []) n ≡ Some c) same (get_pushed told c);
      moved = m;
      has = (refl, refl);
      none_later = λ k t x y e. absurd (omega arith);
    }

pub sample_kept : (samples : List Sample) (told : List Came) (s : Sample) (c : Came) (count moment : ℕ) → length told ≡ length samples → moves c ≡ false → IsNewestSample samples told (length samples) count moment
    → IsNewestSample (samples ++ s ∷ []) (told ++ c ∷ []) (length (samples ++ s ∷ [])) count moment
sample_kept samples told s c count moment same m w =
    let more : length (samples ++ s ∷ []) ≡ length samples + 1 = length_push samples s in
    let early : w.at < length samples = w.before in
    record {
      at = w.at;
      sample = w.sample;
      answer = w.answer;
      before = omega arith;
      is = get_front samples (s ∷ []) w.at (omega arith) ∙ w.is;
      said = get_front told (c ∷ []) w.at (omega arith) ∙ w.said;
      moved = w.moved;
      has = w.has;
      none_later = λ k t x y e. elim (place told c k t e) [
        | inl z ↦ let below : k < length told = z.0 in w.none_later k t x (omega arith) z.1
        | inr z ↦ ap moves (sym z.1) ∙ m
      ];
    }

-- the unbroken run

whole : (told : List Came) (c : Came) → take (length (told ++ c ∷ [])) (told ++ c ∷ []) ≡ told ++ c ∷ []
whole told c = take-length (told ++ c ∷ [])

pub run_begun : (told : List Came) (c : Came) → begins c ≡ true → moves c ≡ true → IsRun (told ++ c ∷ []) (length (told ++ c ∷ [])) 1
run_begun told c b m =
    let more : length (told ++ c ∷ []) ≡ length told + 1 = length_push told c in
    record {
      at = length told;
      answer = c;
      before = omega arith;
      said = get_pushed told c;
      begun = b;
      none_later = λ k t x y e. absurd (omega arith);
      has =
          ap (λ (l : List Came). length (filter moves (drop (length told) l))) (whole told c) ∙
          (ap (λ (l : List Came). length (filter moves l)) (drop-append_seam told (c ∷ [])) ∙ ap (λ (x : Bool). length (if x then c ∷ [] else [])) m);
    }

pub run_on : (told : List Came) (c : Came) (r : ℕ) → begins c ≡ false → IsRun told (length told) r → IsRun (told ++ c ∷ []) (length (told ++ c ∷ [])) (r + length (filter moves (c ∷ [])))
run_on told c r b w =
    let more : length (told ++ c ∷ []) ≡ length told + 1 = length_push told c in
    let early : w.at < length told = w.before in
    record {
      at = w.at;
      answer = w.answer;
      before = omega arith;
      said = get_front told (c ∷ []) w.at (omega arith) ∙ w.said;
      begun = w.begun;
      none_later = λ k t x y e. elim (place told c k t e) [
        | inl z ↦ let below : k < length told = z.0 in w.none_later k t x (omega arith) z.1
        | inr z ↦ ap begins (sym z.1) ∙ b
      ];
      has =
          ap (λ (l : List Came). length (filter moves (drop w.at l))) (whole told c) ∙
          (ap (λ (l : List Came). length (filter moves l)) (drop-append-le w.at told (c ∷ []) (omega arith)) ∙
          (ap length (filter-append moves (drop w.at told) (c ∷ [])) ∙
          (length-append (filter moves (drop w.at told)) (filter moves (c ∷ [])) ∙
          ap (λ n. n + length (filter moves (c ∷ []))) (ap (λ (l : List Came). length (filter moves (drop w.at l))) (sym (take-length told)) ∙ w.has))));
    }

pub run_same : (told : List Came) (samples : List Sample) (s : Sample) (c : Came) (r : ℕ) → length told ≡ length samples → IsRun (told ++ c ∷ []) (length (told ++ c ∷ [])) r → IsRun (told ++ c ∷ []) (length (samples ++ s ∷ [])) r
run_same told samples s c r same w = subst (λ n. IsRun (told ++ c ∷ []) n r) (length_push told c ∙ (ap (λ n. n + 1) same ∙ sym (length_push samples s))) w

-- how far the newest sample is ahead of the first one

on_push : (told : List Came) (c : Came) → go_on (told ++ c ∷ []) ≡ go_on told + goes_on c
on_push [] c = omega arith
on_push (d ∷ told) c = let rest : go_on (told ++ c ∷ []) ≡ go_on told + goes_on c = on_push told c in omega arith

pub ahead_on : (told : List Came) (samples : List Sample) (s : Sample) (c : Came) (ahead : ℕ) → length told ≡ length samples → go_on (take (length told) told) ≡ ahead → go_on (take (length (samples ++ s ∷ [])) (told ++ c ∷ [])) ≡ ahead + goes_on c
ahead_on told samples s c ahead same is =
    ap (λ n. go_on (take n (told ++ c ∷ []))) (length_push samples s ∙ (ap (λ n. n + 1) (sym same) ∙ sym (length_push told c)))
    ∙ (ap go_on (whole told c) ∙ (on_push told c ∙ ap (λ n. n + goes_on c) (ap go_on (sym (take-length told)) ∙ is)))

-- where none moves, none goes on
stays_one : (c : Came) → moves c ≡ false → goes_on c ≡ 0
stays_one came.First m = cc
stays_one came.Next m = cc
stays_one (came.Missing n) m = cc
stays_one came.Repeated m = refl
stays_one came.Late m = refl
stays_one came.BeforeFirst m = refl
stays_one came.OutOfRange m = refl

pub none_on : (told : List Came) → ((k : ℕ) (c : Came) → k < length told → slice_get told k ≡ Some c → moves c ≡ false) → go_on told ≡ 0
none_on [] none = refl
none_on (c ∷ told) none =
    let first : goes_on c ≡ 0 = stays_one c (none 0 c (omega arith) refl) in
    let rest : go_on told ≡ 0 = none_on told (λ k d lt e. none (suc k) d (omega arith) e) in
    omega arith

-- what a sample tells by what is kept is what it tells by what is known

by_back : (run other ahead more b : ℕ) → nat_lt b run ≡ nat_lt b other → nat_lt ahead b ≡ nat_lt more b → by_advance run ahead (Back b) ≡ by_advance other more (Back b)
by_back run other ahead more b copies before = ap₂ (λ (x y : Bool). if b == 0 || x then came.Repeated else if y then came.BeforeFirst else came.Late) copies before

same_lt : (a b c d : ℕ) → (a < b → c < d) → (c < d → a < b) → nat_lt a b ≡ nat_lt c d
same_lt a b c d there back = elim (cases_lt a b) [
  | inl lt ↦ lt-ltb a b lt ∙ sym (lt-ltb c d (there lt))
  | inr ge ↦ elim (cases_lt c d) [ inl lt ↦ absurd (let up : a < b = back lt in omega arith) | inr other ↦ le-ltb a b ge ∙ sym (le-ltb c d other) ]
]

capped : (run ahead b : ℕ) → run ≤ ahead + 1 → b ≤ 65536 →
    by_advance (min run 4294967295) ((min ((ahead + 1) - run) 4294967295 + min run 4294967295) - 1) (Back b) ≡ by_advance run ahead (Back b)
capped run ahead b upto le =
    by_back (min run 4294967295) run ((min ((ahead + 1) - run) 4294967295 + min run 4294967295) - 1) ahead b
    (same_lt b (min run 4294967295) b run (λ lt. omega arith) (λ lt. omega arith))
    (same_lt ((min ((ahead + 1) - run) 4294967295 + min run 4294967295) - 1) b ahead b (λ lt. omega arith) (λ lt. omega arith))

capped_of : (period x run ahead : ℕ) → run ≤ ahead + 1 → period ≤ 65536 →
    by_advance (min run 4294967295) ((min ((ahead + 1) - run) 4294967295 + min run 4294967295) - 1) (advance_of period x) ≡ by_advance run ahead (advance_of period x)
capped_of period x run ahead upto le =
    let kept : ℕ = (min ((ahead + 1) - run) 4294967295 + min run 4294967295) - 1 in
    elim (cases_lt period x) [
      | inl lt ↦
          let it : advance_of period x ≡ Ahead (x - period) = ap (λ (b : Bool). if b then Ahead (x - period) else Back (period - x)) (lt-ltb period x lt) in
          ap (by_advance (min run 4294967295) kept) it ∙ sym (ap (by_advance run ahead) it)
      | inr ge ↦
          let it : advance_of period x ≡ Back (period - x) = ap (λ (b : Bool). if b then Ahead (x - period) else Back (period - x)) (le-ltb period x ge) in
          ap (by_advance (min run 4294967295) kept) it ∙ (capped run ahead (period - x) upto (omega arith) ∙ sym (ap (by_advance run ahead) it))
    ]

pub tells_by : (period : ℕ) (known : Option Known) (kept : Option Newest) (s : Sample) → 0 < period → period ≤ 65536 → Keeps known kept → Tells period known s (came_after period kept s)
tells_by period None None s some most keeps = refl
tells_by period None (Some n) s some most keeps = absurd keeps
tells_by period (Some k) None s some most keeps = absurd keeps
tells_by period (Some k) (Some n) s some most keeps =
    elim (cases_Bool (nat_lt s.count period)) [
      | inl lt ↦
          inr (
            lt,
            (
              advance_by period (s.moment - k.moment) k.count s.count,
              advance_is period (s.moment - k.moment) k.count s.count some,
              ap (λ (b : Bool). if b then by_advance n.run ((n.begun + n.run) - 1) (advance_by period (s.moment - n.moment) n.count s.count) else came.OutOfRange) lt ∙
                  (ap₂ (λ (c m : ℕ). by_advance n.run ((n.begun + n.run) - 1) (advance_by period (s.moment - m) c s.count)) keeps.0 keeps.1 ∙
                  (ap₂ (λ (b r : ℕ). by_advance r ((b + r) - 1) (advance_by period (s.moment - k.moment) k.count s.count)) keeps.3 keeps.2 ∙
                  capped_of period (nearest_to period (s.moment - k.moment) (way_round period k.count s.count)) k.run k.ahead keeps.4 most)),
            ),
          )
      | inr other ↦ inl (other, ap (λ (b : Bool). if b then by_advance n.run ((n.begun + n.run) - 1) (advance_by period (s.moment - n.moment) n.count s.count) else came.OutOfRange) other)
    ]

-- what is kept after a sample is what is known after it

never_next : (period : ℕ) (s : Sample) → came.Next ≡ came_after period None s → ⊥
never_next period s e =
    elim (cases_Bool (nat_lt s.count period)) [
      | inl lt ↦ false≢true (ap begins (e ∙ ap (λ (b : Bool). if b then came.First else came.OutOfRange) lt))
      | inr other ↦ false≢true (sym (ap moves (e ∙ ap (λ (b : Bool). if b then came.First else came.OutOfRange) other)))
    ]

never_missing : (period : ℕ) (s : Sample) (n : ℕ) → came.Missing n ≡ came_after period None s → ⊥
never_missing period s n e =
    elim (cases_Bool (nat_lt s.count period)) [
      | inl lt ↦ let other : came.Missing n ≡ came.First = e ∙ ap (λ (b : Bool). if b then came.First else came.OutOfRange) lt in cc
      | inr out ↦ let other : came.Missing n ≡ came.OutOfRange = e ∙ ap (λ (b : Bool). if b then came.First else came.OutOfRange) out in cc
    ]

no_first : (run ahead : ℕ) (a : Advance) → came.First ≡ by_advance run ahead a → ⊥
no_first run ahead (Ahead n) e = elim (n == 1) as (λ b. came.First ≡ (if b then came.Next else came.Missing (n - 1)) → ⊥) [ true ↦ λ h. cc | false ↦ λ h. cc ] e
no_first run ahead (Back n) e =
    elim (n == 0 || nat_lt n run) as (λ b. came.First ≡ (if b then came.Repeated else if nat_lt ahead n then came.BeforeFirst else came.Late) → ⊥) [
      | true ↦ λ h. cc
      | false ↦ λ h. elim (nat_lt ahead n) as (λ b. came.First ≡ (if b then came.BeforeFirst else came.Late) → ⊥) [ true ↦ λ g. cc | false ↦ λ g. cc ] h
    ] e

never_first : (period : ℕ) (n : Newest) (s : Sample) → came.First ≡ came_after period (Some n) s → ⊥
never_first period n s e =
    elim (nat_lt s.count period) as (λ b. came.First ≡ (if b then by_advance n.run ((n.begun + n.run) - 1) (advance_by period (s.moment - n.moment) n.count s.count) else came.OutOfRange) → ⊥) [
      | true ↦ λ h. no_first n.run ((n.begun + n.run) - 1) (advance_by period (s.moment - n.moment) n.count s.count) h
      | false ↦ λ h. cc
    ] e

pub KnowsAfter : List Sample → List Came → Sample → Came → Option Newest → Type 0
KnowsAfter samples told s c kept = (known : Option Known) × IsKnownOf (samples ++ s ∷ []) (told ++ c ∷ []) (length (samples ++ s ∷ [])) known × Keeps known kept

begun : (samples : List Sample) (told : List Came) (s : Sample) (c : Came) (ahead at : ℕ) → length told ≡ length samples → begins c ≡ true → moves c ≡ true → go_on (take (length told) told) + goes_on c ≡ ahead → at ≡ min ahead 4294967295
    → KnowsAfter samples told s c (Some (record { count = s.count; moment = s.moment; run = 1; begun = at }))
unfolding KnowsAfter
begun samples told s c ahead at same b m on is = (
  Some (record { count = s.count; moment = s.moment; run = 1; ahead = ahead }),
  (sample_taken samples told s c same m, run_same told samples s c 1 same (run_begun told c b m), ahead_on told samples s c (go_on (take (length told) told)) same refl ∙ on),
  (refl, refl, refl, omega arith, omega arith),
)

stayed : (samples : List Sample) (told : List Came) (s : Sample) (c : Came) (known : Option Known) (kept : Option Newest) → length told ≡ length samples → begins c ≡ false → moves c ≡ false → IsKnownOf samples told (length samples) known → Keeps known kept → KnowsAfter samples told s c kept
unfolding KnowsAfter
stayed samples told s c None kept same b m is keeps = (
  None,
  λ k t lt e. elim (place told c k t e) [
    | inl z ↦ let below : k < length told = z.0 in is k t (omega arith) z.1
    | inr z ↦ ap moves (sym z.1) ∙ m
  ],
  keeps,
)
stayed samples told s c (Some k) kept same b m is keeps =
    let none : length (filter moves (c ∷ [])) ≡ 0 = ap (λ (x : Bool). length (if x then c ∷ [] else [])) m in
    let r : IsRun told (length told) k.run = subst (λ n. IsRun told n k.run) (sym same) is.1 in (
      Some k,
      (
        sample_kept samples told s c k.count k.moment same m is.0,
        run_same told samples s c k.run same (subst (IsRun (told ++ c ∷ []) (length (told ++ c ∷ []))) (ap (λ n. k.run + n) none ∙ add-zero k.run) (run_on told c k.run b r)),
        ahead_on told samples s c k.ahead same (ap (λ n. go_on (take n told)) same ∙ is.2) ∙ (ap (λ n. k.ahead + n) (stays_one c m) ∙ add-zero k.ahead),
      ),
      keeps,
    )

pub keeps_on : (period : ℕ) (samples : List Sample) (told : List Came) (known : Option Known) (kept : Option Newest) (s : Sample) (c : Came) → length told ≡ length samples → c ≡ came_after period kept s → IsKnownOf samples told (length samples) known → Keeps known kept
    → KnowsAfter samples told s c (kept_after kept s c)
unfolding KnowsAfter
keeps_on period samples told None None s came.First same by is keeps =
    let none : go_on (take (length told) told) ≡ 0 = ap go_on (take-length told) ∙ none_on told (λ k c lt e. is k c (omega arith) e) in
    begun samples told s came.First 0 0 same refl refl (omega arith) refl
keeps_on period samples told None (Some n) s came.First same by is keeps = absurd keeps
keeps_on period samples told (Some k) None s came.First same by is keeps = absurd keeps
keeps_on period samples told (Some k) (Some n) s came.First same by is keeps = absurd (never_first period n s by)
keeps_on period samples told None None s came.Next same by is keeps = absurd (never_next period s by)
keeps_on period samples told None (Some n) s came.Next same by is keeps = absurd keeps
keeps_on period samples told (Some k) None s came.Next same by is keeps = absurd keeps
keeps_on period samples told (Some k) (Some n) s came.Next same by is keeps =
    let r : IsRun told (length told) k.run = subst (λ n. IsRun told n k.run) (sym same) is.1 in
    let run : n.run ≡ min k.run 4294967295 = keeps.2 in
    let at : n.begun ≡ min ((k.ahead + 1) - k.run) 4294967295 = keeps.3 in
    let upto : k.run ≤ k.ahead + 1 = keeps.4 in (
      Some (record { count = s.count; moment = s.moment; run = k.run + 1; ahead = k.ahead + 1 }),
      (
        sample_taken samples told s came.Next same refl,
        run_same told samples s came.Next (k.run + 1) same (run_on told came.Next k.run refl r),
        ahead_on told samples s came.Next k.ahead same (ap (λ n. go_on (take n told)) same ∙ is.2),
      ),
      (refl, refl, omega arith, omega arith, omega arith),
    )
keeps_on period samples told None None s (came.Missing n) same by is keeps = absurd (never_missing period s n by)
keeps_on period samples told None (Some m) s (came.Missing n) same by is keeps = absurd keeps
keeps_on period samples told (Some k) None s (came.Missing n) same by is keeps = absurd keeps
keeps_on period samples told (Some k) (Some m) s (came.Missing n) same by is keeps =
    let run : m.run ≡ min k.run 4294967295 = keeps.2 in
    let at : m.begun ≡ min ((k.ahead + 1) - k.run) 4294967295 = keeps.3 in
    let upto : k.run ≤ k.ahead + 1 = keeps.4 in
    begun samples told s (came.Missing n) (k.ahead + (n + 1)) (min ((m.begun + m.run) + n) 4294967295) same refl refl (ap (λ i. i + (n + 1)) (ap (λ i. go_on (take i told)) same ∙ is.2)) (omega arith)
keeps_on period samples told known kept s came.Repeated same by is keeps = stayed samples told s came.Repeated known kept same refl refl is keeps
keeps_on period samples told known kept s came.Late same by is keeps = stayed samples told s came.Late known kept same refl refl is keeps
keeps_on period samples told known kept s came.BeforeFirst same by is keeps = stayed samples told s came.BeforeFirst known kept same refl refl is keeps
keeps_on period samples told known kept s came.OutOfRange same by is keeps = stayed samples told s came.OutOfRange known kept same refl refl is keeps

-- a stream that takes samples

pub told_last : (samples : List Sample) (u : StreamState) (s : Sample) (c : Came) → 0 < u.period → u.period ≤ 65536 → c ≡ came_after u.period u.newest s → StreamStandsAfter samples u → IsSampleToldLast u.period samples s c
told_last samples u s c some most by stands =
    let known = stands.2 in
    (stands.0, told_push u.period samples stands.0 known.0 s c stands.1 known.1 (subst (Tells u.period known.0 s) (sym by) (tells_by u.period known.0 u.newest s some most known.2)))

unfoldable pub stands_on : (samples : List Sample) (u v : StreamState) (s : Sample) (c : Came) → 0 < u.period → u.period ≤ 65536 → c ≡ came_after u.period u.newest s → v.period ≡ u.period → v.newest ≡ kept_after u.newest s c → StreamStandsAfter samples u → StreamStandsAfter (samples ++ s ∷ []) v
unfolding told_last KnowsAfter
stands_on samples u v s c some most by period newest stands =
    let known = stands.2 in
    let k = keeps_on u.period samples stands.0 known.0 u.newest s c stands.1.sizes by known.1 known.2 in (
      stands.0 ++ c ∷ [],
      subst (λ p. AreSamplesTold p (samples ++ s ∷ []) (stands.0 ++ c ∷ [])) (sym period) (told_last samples u s c some most by stands).1,
      (k.0, k.1, subst (Keeps k.0) (sym newest) k.2),
    )

-- and what stands behind a position tells nothing of what is known before it

run_back : (told others : List Came) (i r : ℕ) → i ≤ length told → IsRun (told ++ others) i r → IsRun told i r
run_back told others i r le w =
    let before : w.at < i = w.before in
    record {
      at = w.at;
      answer = w.answer;
      before = w.before;
      said = get_back told others w.at w.answer (omega arith) w.said;
      begun = w.begun;
      none_later = λ k c x y e. w.none_later k c x y (get_front told others k (omega arith) ∙ e);
      has = ap (λ (l : List Came). length (filter moves (drop w.at l))) (sym (take-append-le i told others le)) ∙ w.has;
    }

pub known_back : (samples more : List Sample) (told others : List Came) (i : ℕ) (known : Option Known) → i ≤ length samples → i ≤ length told → IsKnownOf (samples ++ more) (told ++ others) i known → IsKnownOf samples told i known
known_back samples more told others i None a b w = λ k c lt e. w k c lt (get_front told others k (omega arith) ∙ e)
known_back samples more told others i (Some s) a b w =
    let n = w.0 in
    let before : n.at < i = n.before in (
      record {
        at = n.at;
        sample = n.sample;
        answer = n.answer;
        before = n.before;
        is = get_back samples more n.at n.sample (omega arith) n.is;
        said = get_back told others n.at n.answer (omega arith) n.said;
        moved = n.moved;
        has = n.has;
        none_later = λ k c x y e. n.none_later k c x y (get_front told others k (omega arith) ∙ e);
      },
      run_back told others i s.run b w.1,
      sym (ap go_on (take-append-le i told others b)) ∙ w.2,
    )

-- there is a run after each sample behind one that began one
pub run_after : (told : List Came) (c : Came) (r : ℕ) → IsRun told (length told) r → (more : ℕ) × IsRun (told ++ c ∷ []) (length (told ++ c ∷ [])) more
run_after told came.First r w = (1, run_begun told came.First refl refl)
run_after told came.Next r w = (r + 1, run_on told came.Next r refl w)
run_after told (came.Missing n) r w = (1, run_begun told (came.Missing n) refl refl)
run_after told came.Repeated r w = (r + 0, run_on told came.Repeated r refl w)
run_after told came.Late r w = (r + 0, run_on told came.Late r refl w)
run_after told came.BeforeFirst r w = (r + 0, run_on told came.BeforeFirst r refl w)
run_after told came.OutOfRange r w = (r + 0, run_on told came.OutOfRange r refl w)
