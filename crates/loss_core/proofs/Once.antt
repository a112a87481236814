-- What frames and samples tell is one, and so is what they come to.
use Rattle.std.proofs.Common.{◌≡◌, ℕ, ◌+◌, ◌-◌, ◌<◌, ◌≤◌, false, Option, Some, None, List, [], ◌∷◌, ◌++◌, append_assoc, length, slice_get, sym, refl, ap, ap₂, ◌∙◌, subst, arith, inl, inr}
use Rattle.std.proofs.lemmas.Bool.{cases_order, false≢true}
use Rattle.std.proofs.lemmas.List.{length-append, length_push}
use Rattle.std.proofs.lemmas.Option.{same_Some}
use Rattle.loss_core.specs.declared.sender.Arrival.{Arrival}
use Rattle.loss_core.specs.declared.sender.Pair.{Pair}
use Rattle.loss_core.specs.declared.sender.Sender.{Sender}
use Rattle.loss_core.specs.declared.sender.Told.{Told}
use Rattle.loss_core.specs.declared.sender_tally.SenderTally.{SenderTally}
use Rattle.loss_core.specs.declared.sender_tally.SenderTotals.{SenderTotals}
use Rattle.loss_core.specs.declared.stream.Came.{Came}
use Rattle.loss_core.specs.declared.stream.Sample.{Sample}
use Rattle.loss_core.specs.declared.stream_tally.StreamTotals.{StreamTotals}
use Rattle.loss_core.specs.Advance.{advance_of, way_round}
use Rattle.loss_core.specs.Sender.{AreTold, IsDeadline, IsKnown, IsNewest, IsToldLast, deadline_of, is_above, told_after}
use Rattle.loss_core.specs.SenderTotals.{AreSenderTotals, TallyStandsAfter}
use Rattle.loss_core.specs.Stream.{AreSamplesTold, IsSampleToldLast, Known, Tells, by_advance}
use Rattle.loss_core.specs.StreamTotals.{AreStreamTotals}
use Rattle.loss_core.proofs.AddUp as streams
use Rattle.loss_core.proofs.Nearest.{nearest_once}
use Rattle.loss_core.proofs.Order.{one_where_neither}
use Rattle.loss_core.proofs.Places.{get_back, get_front, get_middle, get_pushed}
use Rattle.loss_core.proofs.Samples as places

-- the last items of one list are one
pushed_same : {X : Type 0} (xs ys : List X) (x y : X) → xs ++ x ∷ [] ≡ ys ++ y ∷ [] → x ≡ y
pushed_same xs ys x y e =
    let sizes : length xs + 1 ≡ length ys + 1 = sym (length_push xs x) ∙ (ap length e ∙ length_push ys y) in
    let same : length xs ≡ length ys = omega arith in
    same_Some x y (sym (get_pushed xs x) ∙ (ap₂ (λ l n. slice_get l n) e same ∙ get_pushed ys y))

-- ---- frames

known_back : (frames more : List Arrival) (told others : List Told) (i : ℕ) (known : Option Sender) → i ≤ length frames → i ≤ length told → IsKnown (frames ++ more) (told ++ others) i known → IsKnown frames told i known
known_back frames more told others i None a b w = w
known_back frames more told others i (Some s) a b w =
    let n = w.0 in
    let d = w.1 in
    let early : n.at < i = n.before in
    let before : d.at < i = d.before in (
      record {
        at = n.at;
        frame = n.frame;
        before = n.before;
        is = get_back frames more n.at n.frame (omega arith) n.is;
        has = n.has;
        since = λ k t x y e. n.since k t x y (get_front told others k (omega arith) ∙ e);
        greatest = λ k f lt e none. n.greatest k f lt (get_front frames more k (omega arith) ∙ e) (λ j t x y q. none j t x y (get_back told others j t (omega arith) q));
      },
      record {
        at = d.at;
        frame = d.frame;
        answer = d.answer;
        before = d.before;
        is = get_back frames more d.at d.frame (omega arith) d.is;
        said = get_back told others d.at d.answer (omega arith) d.said;
        set = d.set;
        has = d.has;
        none_later = λ k t x y e. d.none_later k t x y (get_front told others k (omega arith) ∙ e);
      },
    )

newest_once : (frames : List Arrival) (told : List Told) (i : ℕ) (p q : Pair) → IsNewest frames told i p → IsNewest frames told i q → p ≡ q
newest_once frames told i p q u v =
    one_where_neither p q
    (subst (λ x. is_above x q ≡ false) u.has (v.greatest u.at u.frame u.before u.is u.since))
    (subst (λ x. is_above x p ≡ false) v.has (u.greatest v.at v.frame v.before v.is v.since))

deadline_once : (frames : List Arrival) (told : List Told) (i c d : ℕ) → IsDeadline frames told i c → IsDeadline frames told i d → c ≡ d
deadline_once frames told i c d u v =
    elim (cases_order u.at v.at) [
      | inl same ↦
          let one : u.frame ≡ v.frame = same_Some u.frame v.frame (sym u.is ∙ (ap (slice_get frames) same ∙ v.is)) in
          sym u.has ∙ (ap deadline_of one ∙ v.has)
      | inr (inl lt) ↦ absurd (false≢true (sym (u.none_later v.at v.answer lt v.before v.said) ∙ v.set))
      | inr (inr gt) ↦ absurd (false≢true (sym (v.none_later u.at u.answer gt u.before u.said) ∙ u.set))
    ]

pub known_once : (frames : List Arrival) (told : List Told) (i : ℕ) (a b : Option Sender) → IsKnown frames told i a → IsKnown frames told i b → a ≡ b
known_once frames told i None None u v = refl
known_once frames told i None (Some s) u v = let none : i ≡ 0 = u in let early : v.0.at < i = v.0.before in absurd (omega arith)
known_once frames told i (Some s) None u v = let none : i ≡ 0 = v in let early : u.0.at < i = u.0.before in absurd (omega arith)
known_once frames told i (Some s) (Some r) u v =
    let x = newest_once frames told i s.newest r.newest u.0 v.0 in
    let y = deadline_once frames told i s.deadline r.deadline u.1 v.1 in
    λ j. Some (record { newest = x j; deadline = y j })

next_once : (frames : List Arrival) (a : Arrival) (more : List Arrival) (told : List Told) (t u : Told) (ts us : List Told) → length told ≡ length frames → AreTold (frames ++ a ∷ more) (told ++ t ∷ ts) → AreTold (frames ++ a ∷ more) (told ++ u ∷ us) → t ≡ u
next_once frames a more told t u ts us same p q =
    let x = p.each (length frames) a t (get_middle frames a more) (subst (λ n. slice_get (told ++ t ∷ ts) n ≡ Some t) same (get_middle told t ts)) in
    let y = q.each (length frames) a u (get_middle frames a more) (subst (λ n. slice_get (told ++ u ∷ us) n ≡ Some u) same (get_middle told u us)) in
    let one : x.0 ≡ y.0 =
    known_once frames told (length frames) x.0 y.0
    (known_back frames (a ∷ more) told (t ∷ ts) (length frames) x.0 (omega arith) (omega arith) x.1)
    (known_back frames (a ∷ more) told (u ∷ us) (length frames) y.0 (omega arith) (omega arith) y.1) in
    x.2 ∙ (ap (λ k. told_after k a) one ∙ sym y.2)

told_from : (rest frames : List Arrival) (told ts us : List Told) → length told ≡ length frames → AreTold (frames ++ rest) (told ++ ts) → AreTold (frames ++ rest) (told ++ us) → ts ≡ us
told_from [] frames told [] [] same p q = refl
told_from [] frames told (t ∷ ts) us same p q =
    let sizes : length (told ++ t ∷ ts) ≡ length (frames ++ []) = p.sizes in
    absurd (omega (arith, length-append told (t ∷ ts), length-append frames []))
told_from [] frames told [] (u ∷ us) same p q =
    let sizes : length (told ++ u ∷ us) ≡ length (frames ++ []) = q.sizes in
    absurd (omega (arith, length-append told (u ∷ us), length-append frames []))
told_from (a ∷ rest) frames told [] us same p q =
    let sizes : length (told ++ []) ≡ length (frames ++ a ∷ rest) = p.sizes in
    absurd (omega (arith, length-append told [], length-append frames (a ∷ rest)))
told_from (a ∷ rest) frames told (t ∷ ts) [] same p q =
    let sizes : length (told ++ []) ≡ length (frames ++ a ∷ rest) = q.sizes in
    absurd (omega (arith, length-append told [], length-append frames (a ∷ rest)))
told_from (a ∷ rest) frames told (t ∷ ts) (u ∷ us) same p q =
    let e : t ≡ u = next_once frames a rest told t u ts us same p q in
    let sizes : length (told ++ t ∷ []) ≡ length (frames ++ a ∷ []) = length_push told t ∙ (ap (λ n. n + 1) same ∙ sym (length_push frames a)) in
    let moved = λ (l : List Told) (w : AreTold (frames ++ a ∷ rest) (told ++ t ∷ l)).
    subst (λ fs. AreTold fs ((told ++ t ∷ []) ++ l)) (sym (append_assoc frames (a ∷ []) rest)) (subst (λ x. AreTold (frames ++ a ∷ rest) x) (sym (append_assoc told (t ∷ []) l)) w) in
    ap₂ (λ x l. x ∷ l) e
    (told_from rest (frames ++ a ∷ []) (told ++ t ∷ []) ts us sizes (moved ts p) (moved us (subst (λ x. AreTold (frames ++ a ∷ rest) (told ++ x ∷ us)) (sym e) q)))

pub told_once : (frames : List Arrival) (ts us : List Told) → AreTold frames ts → AreTold frames us → ts ≡ us
told_once frames ts us p q = told_from frames [] [] ts us refl p q

-- what a frame tells after others is one
pub told_last_once : (frames : List Arrival) (a : Arrival) (t u : Told) → IsToldLast frames a t → IsToldLast frames a u → t ≡ u
told_last_once frames a t u p q = pushed_same p.0 q.0 t u (told_once (frames ++ a ∷ []) (p.0 ++ t ∷ []) (q.0 ++ u ∷ []) p.1 q.1)

totals_once : (start : ℕ) (frames : List Arrival) (told : List Told) (a b : SenderTotals) → AreSenderTotals start frames told a → AreSenderTotals start frames told b → a ≡ b
totals_once start frames told a b u v =
    let frames_are = u.frames_are ∙ sym v.frames_are in
    let states_missing = u.states_missing ∙ sym v.states_missing in
    let frames_missing = u.frames_missing ∙ sym v.frames_missing in
    let late = u.late ∙ sym v.late in
    let repeated = u.repeated ∙ sym v.repeated in
    let restarted = u.restarted ∙ sym v.restarted in
    let silent = u.silent ∙ sym v.silent in
    let longest = u.longest ∙ sym v.longest in
    λ j. record {
      frames = frames_are j;
      states_missing = states_missing j;
      frames_missing = frames_missing j;
      late = late j;
      repeated = repeated j;
      restarted = restarted j;
      silent = silent j;
      longest = longest j;
    }

-- the sender and the totals after frames are one
pub tally_once : (frames : List Arrival) (s u : SenderTally) → TallyStandsAfter frames s → TallyStandsAfter frames u → (s.sender ≡ u.sender) × (s.totals ≡ u.totals)
tally_once [] s u p q = absurd p
tally_once (first ∷ rest) s u p q =
    let e : q.0 ≡ p.0 = told_once (first ∷ rest) q.0 p.0 q.1 p.1 in (
      same_Some s.sender u.sender
          (known_once (first ∷ rest) p.0 (length (first ∷ rest)) (Some s.sender) (Some u.sender) p.2.0 (subst (λ l. IsKnown (first ∷ rest) l (length (first ∷ rest)) (Some u.sender)) e q.2.0)),
      totals_once first.moment (first ∷ rest) p.0 s.totals u.totals p.2.1.0 (subst (λ l. AreSenderTotals first.moment (first ∷ rest) l u.totals) e q.2.1.0),
    )

-- ---- samples

tells_once : (period : ℕ) (known : Option Known) (s : Sample) (c d : Came) → Tells period known s c → Tells period known s d → c ≡ d
tells_once period None s c d u v = u ∙ sym v
tells_once period (Some k) s c d u v = elim u [
  | inl x ↦ elim v [ inl y ↦ x.1 ∙ sym y.1 | inr y ↦ absurd (false≢true (sym x.0 ∙ y.0)) ]
  | inr x ↦ elim v [
    | inl y ↦ absurd (false≢true (sym y.0 ∙ x.0))
    | inr y ↦
        let one : x.1.1.0 ≡ y.1.1.0 = nearest_once period (s.moment - k.moment) (way_round period k.count s.count) x.1.1.0 y.1.1.0 x.1.1.1 y.1.1.1 in
        x.1.2 ∙ (ap (by_advance k.run k.ahead) (x.1.1.2 ∙ (ap (advance_of period) one ∙ sym y.1.1.2)) ∙ sym y.1.2)
  ]
]

came_once : (period : ℕ) (samples : List Sample) (s : Sample) (more : List Sample) (told : List Came) (c d : Came) (cs ds : List Came) → length told ≡ length samples → AreSamplesTold period (samples ++ s ∷ more) (told ++ c ∷ cs) →
    AreSamplesTold period (samples ++ s ∷ more) (told ++ d ∷ ds) → c ≡ d
came_once period samples s more told c d cs ds same p q =
    let x = p.each (length samples) s c (get_middle samples s more) (subst (λ n. slice_get (told ++ c ∷ cs) n ≡ Some c) same (get_middle told c cs)) in
    let y = q.each (length samples) s d (get_middle samples s more) (subst (λ n. slice_get (told ++ d ∷ ds) n ≡ Some d) same (get_middle told d ds)) in
    let one : x.0 ≡ y.0 =
    streams.known_once samples told (length samples) x.0 y.0
    (places.known_back samples (s ∷ more) told (c ∷ cs) (length samples) x.0 (omega arith) (omega arith) x.1)
    (places.known_back samples (s ∷ more) told (d ∷ ds) (length samples) y.0 (omega arith) (omega arith) y.1) in
    tells_once period y.0 s c d (subst (λ k. Tells period k s c) one x.2) y.2

came_from : (period : ℕ) (rest before : List Sample) (told cs ds : List Came) → length told ≡ length before → AreSamplesTold period (before ++ rest) (told ++ cs) → AreSamplesTold period (before ++ rest) (told ++ ds) → cs ≡ ds
came_from period [] before told [] [] same p q = refl
came_from period [] before told (c ∷ cs) ds same p q =
    let sizes : length (told ++ c ∷ cs) ≡ length (before ++ []) = p.sizes in
    absurd (omega (arith, length-append told (c ∷ cs), length-append before []))
came_from period [] before told [] (d ∷ ds) same p q =
    let sizes : length (told ++ d ∷ ds) ≡ length (before ++ []) = q.sizes in
    absurd (omega (arith, length-append told (d ∷ ds), length-append before []))
came_from period (s ∷ rest) before told [] ds same p q =
    let sizes : length (told ++ []) ≡ length (before ++ s ∷ rest) = p.sizes in
    absurd (omega (arith, length-append told [], length-append before (s ∷ rest)))
came_from period (s ∷ rest) before told (c ∷ cs) [] same p q =
    let sizes : length (told ++ []) ≡ length (before ++ s ∷ rest) = q.sizes in
    absurd (omega (arith, length-append told [], length-append before (s ∷ rest)))
came_from period (s ∷ rest) before told (c ∷ cs) (d ∷ ds) same p q =
    let e : c ≡ d = came_once period before s rest told c d cs ds same p q in
    let sizes : length (told ++ c ∷ []) ≡ length (before ++ s ∷ []) = length_push told c ∙ (ap (λ n. n + 1) same ∙ sym (length_push before s)) in
    let moved = λ (l : List Came) (w : AreSamplesTold period (before ++ s ∷ rest) (told ++ c ∷ l)).
    subst (λ x. AreSamplesTold period x ((told ++ c ∷ []) ++ l)) (sym (append_assoc before (s ∷ []) rest)) (subst (λ x. AreSamplesTold period (before ++ s ∷ rest) x) (sym (append_assoc told (c ∷ []) l)) w) in
    ap₂ (λ x l. x ∷ l) e
    (came_from period rest (before ++ s ∷ []) (told ++ c ∷ []) cs ds sizes (moved cs p) (moved ds (subst (λ x. AreSamplesTold period (before ++ s ∷ rest) (told ++ x ∷ ds)) (sym e) q)))

pub samples_told_once : (period : ℕ) (samples : List Sample) (cs ds : List Came) → AreSamplesTold period samples cs → AreSamplesTold period samples ds → cs ≡ ds
samples_told_once period samples cs ds p q = came_from period samples [] [] cs ds refl p q

-- what a sample tells after others is one
pub sample_last_once : (period : ℕ) (samples : List Sample) (s : Sample) (c d : Came) → IsSampleToldLast period samples s c → IsSampleToldLast period samples s d → c ≡ d
sample_last_once period samples s c d p q = pushed_same p.0 q.0 c d (samples_told_once period (samples ++ s ∷ []) (p.0 ++ c ∷ []) (q.0 ++ d ∷ []) p.1 q.1)

-- what samples come to that tell this is one
pub stream_totals_once : (told : List Came) (a b : StreamTotals) → AreStreamTotals told a → AreStreamTotals told b → a ≡ b
stream_totals_once told a b u v =
    let samples_are = u.samples ∙ sym v.samples in
    let missing = u.missing ∙ sym v.missing in
    let late = u.late ∙ sym v.late in
    let repeated = u.repeated ∙ sym v.repeated in
    let out_of_range = u.out_of_range ∙ sym v.out_of_range in
    let outages = u.outages ∙ sym v.outages in
    let longest = u.longest ∙ sym v.longest in
    λ j. record { samples = samples_are j; missing = missing j; late = late j; repeated = repeated j; out_of_range = out_of_range j; outages = outages j; longest = longest j }
