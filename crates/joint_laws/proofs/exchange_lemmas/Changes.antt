-- The changes of a run: each has its number, and without a wrap the numbers tell them apart.
use Rattle.std.proofs.Common.{◌≡◌, ℕ, zero, suc, ◌+◌, ◌<◌, ◌≤◌, inl, inr, Some, List, [], ◌∷◌, length, slice_get, option_map, sym, refl, ap, ◌∙◌, subst, arith, le_refl, ◌^◌, Bool, true, false, take}
use Rattle.std.proofs.lemmas.Bool.{cases_lt, cases_order}
use Rattle.std.proofs.lemmas.Option.{none-some}
use Rattle.publish_core.specs.Frames.{Change, Setup, frame, simulation_word}
use Rattle.publish_core.specs.Numbers.{state_number}
use Rattle.publish_core.specs.Run.{Request, Call, Changed, IsChange, NoWrap, CallTrace, changes_of, changes, trace_of_calls}
use Rattle.publish_core.proofs.GivesOne.{same_change, carried}
use Rattle.publish_core.proofs.NumberLaws.{state_number_plain, sequence_number_most}
use Rattle.joint_laws.specs.ExchangeLaws.{PublishedIsOne, EpochsOfWhatIsPublishedStem, WhatIsPublishedIsOfTheRun}
use Rattle.frame_core.specs.Frame.{SpellsFrame}
use Rattle.frame_core.specs.Written.{ApduIsSpellable, IsHeld, written_frame}
use Rattle.frame_core.specs.declared.frame.Frame.{Frame}
use Rattle.frame_core.proofs.PutLaws.{frame_spelled}
use Rattle.publish_core.specs.Refusal.{IsAccepted}
use Rattle.publish_core.specs.Table.{step_of}
use Rattle.joint_laws.specs.Stems.{AreAccepted, HasSizes}

-- the count of changes only grows, and a change adds one
changes_grow : (t : CallTrace) (i n : ℕ) → i ≤ n → changes t i ≤ changes t n
changes_grow t i zero le = let same : i ≡ 0 = omega arith in subst (λ (x : ℕ). changes t x ≤ changes t 0) (sym same) (le_refl 0)
changes_grow t i (suc n) le = elim (cases_lt i (suc n)) [
  | inl lt ↦ let below : changes t i ≤ changes t n = changes_grow t i n (omega arith) in omega arith
  | inr ge ↦ let same : i ≡ suc n = omega arith in subst (λ (x : ℕ). changes t x ≤ changes t (suc n)) (sym same) (le_refl (changes t (suc n)))
]

counted : (t : CallTrace) (i c : ℕ) (change : Change) → IsChange t i c change → changes t (suc i) ≡ suc c
counted t i c change x =
    let one : changes_of (t.request i) ≡ 1 = ap changes_of x.request in
    omega arith

-- one call is change c
one_call : (t : CallTrace) (i j c : ℕ) (a b : Change) → IsChange t i c a → IsChange t j c b → i < j → ⊥
one_call t i j c a b x y lt =
    let up : changes t (suc i) ≤ changes t j = changes_grow t (suc i) j lt in
    let past : changes t (suc i) ≡ suc c = counted t i c a x in
    omega arith

one_change : (t : CallTrace) (i j c : ℕ) (a b : Change) → IsChange t i c a → IsChange t j c b → a ≡ b
one_change t i j c a b x y = elim (cases_order i j) [
  | inl same ↦ same_change a b (sym x.request ∙ (ap t.request same ∙ y.request))
  | inr (inl lt) ↦ absurd (one_call t i j c a b x y lt)
  | inr (inr gt) ↦ absurd (one_call t j i c b a y x gt)
]

pub published_is_one : {A : Type 0} → PublishedIsOne A
published_is_one p calls number x y u v =
    let same : u.c ≡ v.c = omega arith in
    one_change (trace_of_calls calls) u.call v.call v.c x y (subst (λ (c : ℕ). IsChange (trace_of_calls calls) u.call c x) same u.is_change) v.is_change

-- a change is one of the calls, so its number is below their count of changes
pub request_below : (calls : List Call) (i : ℕ) (a : Request) → option_map (λ (c : Call). c.request) (slice_get calls i) ≡ Some a → i < length calls
request_below [] i a e = absurd (none-some a e)
request_below (c ∷ cs) zero a e = omega arith
request_below (c ∷ cs) (suc i) a e = omega (arith, request_below cs i a e)

change_below : (calls : List Call) (i c : ℕ) (change : Change) → IsChange (trace_of_calls calls) i c change → c < changes (trace_of_calls calls) (length calls)
change_below calls i c change x =
    let within : i < length calls = request_below calls i (Changed change) x.request in
    let up : changes (trace_of_calls calls) (suc i) ≤ changes (trace_of_calls calls) (length calls) = changes_grow (trace_of_calls calls) (suc i) (length calls) within in
    let past : changes (trace_of_calls calls) (suc i) ≡ suc c = counted (trace_of_calls calls) i c change x in
    omega arith

-- without a wrap state c has the number first + c
pub number_of_change : {A : Type 0} (p : Setup A) (calls : List Call) (i c : ℕ) (change : Change) → 1 ≤ p.first → NoWrap p calls → IsChange (trace_of_calls calls) i c change → state_number p.first c ≡ p.first + c
number_of_change p calls i c change some no_wrap x =
    let below : c < changes (trace_of_calls calls) (length calls) = change_below calls i c change x in
    let most : p.first + changes (trace_of_calls calls) (length calls) ≤ 4294967295 + 1 = no_wrap in
    state_number_plain p.first c some (omega arith)

-- the changes among calls behind a first one
pub changes_cons : (c : Call) (cs : List Call) (n : ℕ) → changes (trace_of_calls (c ∷ cs)) (suc n) ≡ changes_of (Some c.request) + changes (trace_of_calls cs) n
changes_cons c cs zero = omega arith
changes_cons c cs (suc n) = omega (arith, changes_cons c cs n)

abbrev pub count : List Call → ℕ
count [] = 0
count (c ∷ cs) = changes_of (Some c.request) + count cs

pub count_all : (cs : List Call) → changes (trace_of_calls cs) (length cs) ≡ count cs
count_all [] = refl
count_all (c ∷ cs) = changes_cons c cs (length cs) ∙ ap (λ (n : ℕ). changes_of (Some c.request) + n) (count_all cs)

-- ---- what a publisher gives is spelled: the written form of each frame of an accepted change can be written

-- the changes before call j
taken_count : (calls : List Call) (j : ℕ) → j ≤ length calls → changes (trace_of_calls (take j calls)) (length (take j calls)) ≡ changes (trace_of_calls calls) j
taken_count calls zero le = refl
taken_count [] (suc j) le = absurd (omega arith)
taken_count (c ∷ cs) (suc j) le =
    changes_cons c (take j cs) (length (take j cs)) ∙
    (ap (λ (n : ℕ). changes_of (Some c.request) + n) (taken_count cs j (omega arith)) ∙ sym (changes_cons c cs j))

-- change c is accepted for the status number of state c
pub change_accepted : {A : Type 0} (p : Setup A) (calls : List Call) (j c : ℕ) (change : Change) → AreAccepted p calls → IsChange (trace_of_calls calls) j c change → IsAccepted p.control p.table (state_number p.first c) change
change_accepted p calls j c change accepted x =
    let below : j < length calls = request_below calls j (Changed change) x.request in
    subst (λ (n : ℕ). IsAccepted p.control p.table (state_number p.first n) change) (taken_count calls j (omega arith) ∙ x.before) (accepted j change x.request)

word_small : (simulation : Bool) → simulation_word simulation < 65536
word_small true = omega arith
word_small false = omega arith

frame_held : {A : Type 0} (p : Setup A) (state k : ℕ) (change : Change) → HasSizes p → IsHeld (frame p.control p.table state change k)
frame_held p state k change held = record { to = held.to; from = held.from; tag = held.tag; app_id = held.app_id; reserved1 = word_small p.control.simulation; reserved2 = omega arith }

frame_spellable : {A : Type 0} (p : Setup A) (c k : ℕ) (change : Change) → HasSizes p → IsAccepted p.control p.table (state_number p.first c) change → ApduIsSpellable (frame p.control p.table (state_number p.first c) change k).apdu
frame_spellable p c k change held accepted = record {
  gocb_ref = accepted.spelled.gocb_ref;
  live = held.lives (step_of p.table k);
  dat_set = accepted.spelled.dat_set;
  go_id = accepted.spelled.go_id;
  t = accepted.spelled.t;
  st_num = omega arith;
  sq_num = omega (arith, sequence_number_most k);
  conf_rev = held.conf_rev;
  entries = subst (λ (n : ℕ). n < 2 ^ 32) (sym accepted.entries) held.entries;
  members = accepted.spelled.values;
}

-- each frame of an accepted change is spelled by its written form
pub frame_is_spelled : {A : Type 0} (p : Setup A) (c k : ℕ) (change : Change) → HasSizes p → IsAccepted p.control p.table (state_number p.first c) change → SpellsFrame (frame p.control p.table (state_number p.first c) change k) (written_frame (frame p.control p.table (state_number p.first c) change k))
frame_is_spelled p c k change held accepted =
    frame_spelled (frame p.control p.table (state_number p.first c) change k) (frame_held p (state_number p.first c) k change held)
    (frame_spellable p c k change held accepted) (accepted.fit k)

pub what_is_published_is_of_the_run : {A : Type 0} → WhatIsPublishedIsOfTheRun A
what_is_published_is_of_the_run {A} p calls i octets held accepted w =
    let c : ℕ = w.publishes.c in
    let k : ℕ = w.publishes.k in
    let change : Change = w.publishes.change in
    let at = carried w.publishes.gives in
    let given : Frame A = frame p.control p.table (state_number p.first c) change k in
    let is : w.published ≡ given = w.publishes.is_frame in
    record {
      call = i;
      published = w.published;
      publishes = w.publishes;
      received = given;
      spelled = subst (SpellsFrame given) (sym (w.is_written ∙ ap (λ (f : Frame A). written_frame f) is)) (frame_is_spelled p c k change held (change_accepted p calls at.0 c change accepted at.2));
      same = sym (ap (λ (f : Frame A). f.apdu) is);
    }

pub epochs_stem : {A B : Type 0} → EpochsOfWhatIsPublishedStem A B
epochs_stem block events readings s p calls some no_wrap held accepted published = record {
  some = some;
  no_wrap = no_wrap;
  each = λ i f e octets good at kind.
      let w = published i f e octets good at kind in
      what_is_published_is_of_the_run p calls w.0 octets held accepted w.1;
}
