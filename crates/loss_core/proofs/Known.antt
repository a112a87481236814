-- What is known before a position, and one frame more.
use Rattle.std.proofs.Common.{◌≡◌, ◌⊎◌, ℕ, ◌+◌, ◌<◌, ◌≤◌, ◌||◌, Bool, true, false, Option, Some, None, List, [], ◌∷◌, ◌++◌, length, slice_get, if◌then◌else◌, sym, refl, ap, ap₂, ◌∙◌, subst, arith, inl, inr}
use Rattle.std.proofs.lemmas.Bool.{cases_Bool, false≢true}
use Rattle.std.proofs.lemmas.List.{length_push}
use Rattle.std.proofs.lemmas.Option.{none-some, same_Some}
use Rattle.loss_core.specs.declared.sender.Pair.{Pair}
use Rattle.loss_core.specs.declared.sender.Arrival.{Arrival}
use Rattle.loss_core.specs.declared.sender.Standing.{Standing}
use Rattle.loss_core.specs.declared.sender.Standing.TheVariants as standing
use Rattle.loss_core.specs.declared.sender.Told.{Told}
use Rattle.loss_core.specs.declared.sender.Sender.{Sender}
use Rattle.loss_core.specs.Sender.{AreTold, IsDeadline, IsKnown, IsNewest, IsToldLast, NoneRestarts, StandsAfter, deadline_of, is_above, is_newer, restarts, sets, standing_by, told_after}
use Rattle.loss_core.specs.computed.SenderSteps.{deadline_by, newest_by}
use Rattle.loss_core.proofs.Order.{not_above_itself, not_above_more}
use Rattle.loss_core.proofs.Places.{get_back, get_front, get_pushed, place}

-- what is known before a position depends on what stands before it alone

known_front : (frames more : List Arrival) (told others : List Told) (i : ℕ) (known : Option Sender) → i ≤ length frames → i ≤ length told → IsKnown frames told i known → IsKnown (frames ++ more) (told ++ others) i known
known_front frames more told others i None a b is = is
known_front frames more told others i (Some s) a b is =
    let n = is.0 in
    let d = is.1 in
    let early : n.at < i = n.before in
    let before : d.at < i = d.before in (
      record {
        at = n.at;
        frame = n.frame;
        before = n.before;
        is = get_front frames more n.at (omega arith) ∙ n.is;
        has = n.has;
        since = λ k t x y e. n.since k t x y (get_back told others k t (omega arith) e);
        greatest = λ k f lt e none. n.greatest k f lt (get_back frames more k f (omega arith) e) (λ j t x y q. none j t x y (get_front told others j (omega arith) ∙ q));
      },
      record {
        at = d.at;
        frame = d.frame;
        answer = d.answer;
        before = d.before;
        is = get_front frames more d.at (omega arith) ∙ d.is;
        said = get_front told others d.at (omega arith) ∙ d.said;
        set = d.set;
        has = d.has;
        none_later = λ k t x y e. d.none_later k t x y (get_back told others k t (omega arith) e);
      },
    )

pub told_push : (frames : List Arrival) (told : List Told) (known : Option Sender) (a : Arrival) → AreTold frames told → IsKnown frames told (length frames) known → AreTold (frames ++ a ∷ []) (told ++ told_after known a ∷ [])
told_push frames told known a all is =
    let sizes : length told ≡ length frames = all.sizes in
    record {
      sizes = length_push told (told_after known a) ∙ (ap (λ n. n + 1) all.sizes ∙ sym (length_push frames a));
      each = λ i f t p q.
          elim (place frames a i f p) [
            | inl w ↦
                let lt : i < length frames = w.0 in
                let x = all.each i f t w.1 (get_back told (told_after known a ∷ []) i t (omega arith) q) in
                (x.0, known_front frames (a ∷ []) told (told_after known a ∷ []) i x.0 (omega arith) (omega arith) x.1, x.2)
            | inr w ↦
                let at : i ≡ length frames = w.0 in
                let here : i ≡ length told = omega arith in
                let said : told_after known a ≡ t =
                same_Some (told_after known a) t (sym (get_pushed told (told_after known a)) ∙ (ap (slice_get (told ++ told_after known a ∷ [])) (sym here) ∙ q)) in (
                  known,
                  known_front frames (a ∷ []) told (told_after known a ∷ []) i known (omega arith) (omega arith) (subst (λ n. IsKnown frames told n known) (sym at) is),
                  sym said ∙ ap (told_after known) w.1,
                )
          ];
    }

-- the newest pair

newest_taken : (frames : List Arrival) (told : List Told) (a : Arrival) (t : Told) → length told ≡ length frames
    → ((k : ℕ) (f : Arrival) → k < length frames → slice_get frames k ≡ Some f → NoneRestarts (told ++ t ∷ []) k (length (frames ++ a ∷ [])) → is_above f.pair a.pair ≡ false)
    → IsNewest (frames ++ a ∷ []) (told ++ t ∷ []) (length (frames ++ a ∷ [])) a.pair
newest_taken frames told a t same none =
    let more : length (frames ++ a ∷ []) ≡ length frames + 1 = length_push frames a in
    record {
      at = length frames;
      frame = a;
      before = omega arith;
      is = get_pushed frames a;
      has = refl;
      since = λ k r x y e. absurd (omega arith);
      greatest = λ k f lt e rest. elim (place frames a k f e) [
        | inl x ↦ none k f x.0 x.1 rest
        | inr x ↦ subst (λ g. is_above g.pair a.pair ≡ false) x.1 (not_above_itself a.pair)
      ];
    }

newest_kept : (frames : List Arrival) (told : List Told) (a : Arrival) (t : Told) (p : Pair) → length told ≡ length frames → restarts t ≡ false → is_above a.pair p ≡ false
    → IsNewest frames told (length frames) p → IsNewest (frames ++ a ∷ []) (told ++ t ∷ []) (length (frames ++ a ∷ [])) p
newest_kept frames told a t p same quiet low w =
    let more : length (frames ++ a ∷ []) ≡ length frames + 1 = length_push frames a in
    let early : w.at < length frames = w.before in
    record {
      at = w.at;
      frame = w.frame;
      before = omega arith;
      is = get_front frames (a ∷ []) w.at (omega arith) ∙ w.is;
      has = w.has;
      since = λ k r x y e. elim (place told t k r e) [
        | inl z ↦ let below : k < length told = z.0 in w.since k r x (omega arith) z.1
        | inr z ↦ ap restarts (sym z.1) ∙ quiet
      ];
      greatest = λ k f lt e rest. elim (place frames a k f e) [
        | inl x ↦
            let below : k < length frames = x.0 in
            w.greatest k f below x.1 (λ j r y z q. rest j r y (omega arith) (get_front told (t ∷ []) j (omega arith) ∙ q))
        | inr x ↦ subst (λ g. is_above g.pair p ≡ false) x.1 low
      ];
    }

-- how a pair stands to the newest one, by cases
stands_by : (p c : Pair) → ((is_above c p ≡ true) × (standing_by p c ≡ standing.Newer p)) ⊎ (((is_above c p ≡ false) × (standing_by p c ≡ standing.Below)) ⊎ ((is_above c p ≡ false) × (standing_by p c ≡ standing.Same)))
stands_by p c =
    elim (cases_Bool (is_above c p)) [
      | inl above ↦ inl (above, ap (λ (x : Bool). if x then standing.Newer p else if is_above p c then standing.Below else standing.Same) above)
      | inr low ↦ elim (cases_Bool (is_above p c)) [
        | inl lower ↦ inr (inl (low, ap₂ (λ (x y : Bool). if x then standing.Newer p else if y then standing.Below else standing.Same) low lower))
        | inr other ↦ inr (inr (low, ap₂ (λ (x y : Bool). if x then standing.Newer p else if y then standing.Below else standing.Same) low other))
      ]
    ]

pub newer_is_above : (p c : Pair) → is_newer (standing_by p c) ≡ true → is_above c p ≡ true
newer_is_above p c e =
    elim (stands_by p c) [
      | inl x ↦ x.0
      | inr (inl x) ↦ absurd (false≢true (sym (ap is_newer x.1) ∙ e))
      | inr (inr x) ↦ absurd (false≢true (sym (ap is_newer x.1) ∙ e))
    ]

pub other_is_not : (p c : Pair) → is_newer (standing_by p c) ≡ false → is_above c p ≡ false
other_is_not p c e =
    elim (stands_by p c) [
      | inl x ↦ absurd (false≢true (sym e ∙ ap is_newer x.1))
      | inr (inl x) ↦ x.0
      | inr (inr x) ↦ x.0
    ]

abbrev newest_in : Pair → Standing → Pair
newest_in p standing.First = p
newest_in p (standing.Newer q) = q
newest_in p standing.Same = p
newest_in p standing.Below = p

-- the newest pair that an answer tells is the one that is known
pub newer_from : (p c q : Pair) → standing_by p c ≡ standing.Newer q → (p ≡ q) × (is_above c p ≡ true)
newer_from p c q e =
    let above : is_above c p ≡ true = newer_is_above p c (ap is_newer e) in
    (sym (ap (λ (x : Bool). newest_in p (if x then standing.Newer p else if is_above p c then standing.Below else standing.Same)) above) ∙ ap (newest_in p) e, above)

newest_push : (frames : List Arrival) (told : List Told) (a : Arrival) (t : Told) (p : Pair) → length told ≡ length frames → t.standing ≡ standing_by p a.pair
    → IsNewest frames told (length frames) p → IsNewest (frames ++ a ∷ []) (told ++ t ∷ []) (length (frames ++ a ∷ [])) (newest_by p a t)
newest_push frames told a t p same by w =
    let more : length (frames ++ a ∷ []) ≡ length frames + 1 = length_push frames a in
    elim (cases_Bool (is_newer t.standing)) [
      | inl newer ↦
          let above : is_above a.pair p ≡ true = newer_is_above p a.pair (sym (ap is_newer by) ∙ newer) in
          subst (λ q. IsNewest (frames ++ a ∷ []) (told ++ t ∷ []) (length (frames ++ a ∷ [])) q) (sym (ap (λ (x : Bool). if x || restarts t then a.pair else p) newer))
          (newest_taken frames told a t same (λ k f lt e rest.
          not_above_more f.pair p a.pair (w.greatest k f lt e (λ j r y z q. rest j r y (omega arith) (get_front told (t ∷ []) j (omega arith) ∙ q))) above))
      | inr other ↦ elim (cases_Bool (restarts t)) [
        | inl anew ↦
            subst (λ q. IsNewest (frames ++ a ∷ []) (told ++ t ∷ []) (length (frames ++ a ∷ [])) q) (sym (ap₂ (λ (x y : Bool). if x || y then a.pair else p) other anew))
            (newest_taken frames told a t same (λ k f lt e rest.
            absurd (false≢true (sym (rest (length told) t (omega arith) (omega arith) (get_pushed told t)) ∙ anew))))
        | inr quiet ↦
            subst (λ q. IsNewest (frames ++ a ∷ []) (told ++ t ∷ []) (length (frames ++ a ∷ [])) q) (sym (ap₂ (λ (x y : Bool). if x || y then a.pair else p) other quiet))
            (newest_kept frames told a t p same quiet (other_is_not p a.pair (sym (ap is_newer by) ∙ other)) w)
      ]
    ]

-- the deadline

deadline_taken : (frames : List Arrival) (told : List Told) (a : Arrival) (t : Told) → length told ≡ length frames → sets t ≡ true → IsDeadline (frames ++ a ∷ []) (told ++ t ∷ []) (length (frames ++ a ∷ [])) (deadline_of a)
deadline_taken frames told a t same is =
    let more : length (frames ++ a ∷ []) ≡ length frames + 1 = length_push frames a in
    record {
      at = length frames;
      frame = a;
      answer = t;
      before = omega arith;
      is = get_pushed frames a;
      said = subst (λ n. slice_get (told ++ t ∷ []) n ≡ Some t) same (get_pushed told t);
      set = is;
      has = refl;
      none_later = λ k r x y e. absurd (omega arith);
    }

deadline_kept : (frames : List Arrival) (told : List Told) (a : Arrival) (t : Told) (d : ℕ) → length told ≡ length frames → sets t ≡ false
    → IsDeadline frames told (length frames) d → IsDeadline (frames ++ a ∷ []) (told ++ t ∷ []) (length (frames ++ a ∷ [])) d
deadline_kept frames told a t d same none w =
    let more : length (frames ++ a ∷ []) ≡ length frames + 1 = length_push frames a in
    let early : w.at < length frames = w.before in
    record {
      at = w.at;
      frame = w.frame;
      answer = w.answer;
      before = omega arith;
      is = get_front frames (a ∷ []) w.at (omega arith) ∙ w.is;
      said = get_front told (t ∷ []) w.at (omega arith) ∙ w.said;
      set = w.set;
      has = w.has;
      none_later = λ k r x y e. elim (place told t k r e) [
        | inl z ↦ let below : k < length told = z.0 in w.none_later k r x (omega arith) z.1
        | inr z ↦ ap sets (sym z.1) ∙ none
      ];
    }

deadline_push : (frames : List Arrival) (told : List Told) (a : Arrival) (t : Told) (d : ℕ) → length told ≡ length frames
    → IsDeadline frames told (length frames) d → IsDeadline (frames ++ a ∷ []) (told ++ t ∷ []) (length (frames ++ a ∷ [])) (deadline_by d a t)
deadline_push frames told a t d same w =
    elim (cases_Bool (sets t)) [
      | inl is ↦ subst (λ q. IsDeadline (frames ++ a ∷ []) (told ++ t ∷ []) (length (frames ++ a ∷ [])) q) (sym (ap (λ (x : Bool). if x then deadline_of a else d) is)) (deadline_taken frames told a t same is)
      | inr none ↦ subst (λ q. IsDeadline (frames ++ a ∷ []) (told ++ t ∷ []) (length (frames ++ a ∷ [])) q) (sym (ap (λ (x : Bool). if x then deadline_of a else d) none)) (deadline_kept frames told a t d same none w)
    ]

-- a sender that takes frames

pub told_last : (frames : List Arrival) (s : Sender) (a : Arrival) (t : Told) → t ≡ told_after (Some s) a → StandsAfter frames s → IsToldLast frames a t
told_last frames s a t is stands =
    (stands.0, subst (λ x. AreTold (frames ++ a ∷ []) (stands.0 ++ x ∷ [])) (sym is) (told_push frames stands.0 (Some s) a stands.1 stands.2))

pub known_push : (frames : List Arrival) (told : List Told) (s u : Sender) (a : Arrival) (t : Told) → length told ≡ length frames → t ≡ told_after (Some s) a → u.newest ≡ newest_by s.newest a t → u.deadline ≡ deadline_by s.deadline a t
    → IsKnown frames told (length frames) (Some s) → IsKnown (frames ++ a ∷ []) (told ++ t ∷ []) (length (frames ++ a ∷ [])) (Some u)
known_push frames told s u a t same is newest deadline known = (
  subst (λ q. IsNewest (frames ++ a ∷ []) (told ++ t ∷ []) (length (frames ++ a ∷ [])) q) (sym newest) (newest_push frames told a t s.newest same (ap (λ x. x.standing) is) known.0),
  subst (λ q. IsDeadline (frames ++ a ∷ []) (told ++ t ∷ []) (length (frames ++ a ∷ [])) q) (sym deadline) (deadline_push frames told a t s.deadline same known.1),
)

pub stands_on : (frames : List Arrival) (s u : Sender) (a : Arrival) (t : Told) → t ≡ told_after (Some s) a → u.newest ≡ newest_by s.newest a t → u.deadline ≡ deadline_by s.deadline a t → StandsAfter frames s → StandsAfter (frames ++ a ∷ []) u
unfolding told_last
stands_on frames s u a t is newest deadline stands =
    (stands.0 ++ t ∷ [], (told_last frames s a t is stands).1, known_push frames stands.0 s u a t stands.1.sizes is newest deadline stands.2)

none_told : AreTold [] []
none_told = record { sizes = refl; each = λ i a t p q. absurd (none-some a p) }

pub stands_first : (a : Arrival) (s : Sender) → s.newest ≡ a.pair → s.deadline ≡ deadline_of a → StandsAfter (a ∷ []) s
stands_first a s newest deadline =
    let t : Told = told_after None a in (
      t ∷ [],
      told_push [] [] None a none_told refl,
      (
        subst (λ q. IsNewest (a ∷ []) (t ∷ []) 1 q) (sym newest) (newest_taken [] [] a t refl (λ k f lt e rest. absurd (omega arith))),
        subst (λ q. IsDeadline (a ∷ []) (t ∷ []) 1 q) (sym deadline) (deadline_taken [] [] a t refl refl),
      ),
    )

-- a first frame, by itself

pub first_told : (a : Arrival) → AreTold (a ∷ []) (told_after None a ∷ [])
first_told a = told_push [] [] None a none_told refl

pub first_known : (a : Arrival) → IsKnown (a ∷ []) (told_after None a ∷ []) 1 (Some (record { newest = a.pair; deadline = deadline_of a }))
first_known a = (newest_taken [] [] a (told_after None a) refl (λ k f lt e rest. absurd (omega arith)), deadline_taken [] [] a (told_after None a) refl refl)

pub told_first : (a : Arrival) → IsToldLast [] a (told_after None a)
told_first a = ([], first_told a)
