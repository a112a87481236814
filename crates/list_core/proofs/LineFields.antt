-- What the fields of a line say, shape by shape.
use Rattle.std.proofs.Common.{Option, Some, None, Result, Err, true, false, if◌then◌else◌, ◌&&◌, ◌≡◌, ◌+◌, ◌*◌, ◌<◌, ◌≤◌, ℕ, List, [], ◌∷◌, length, get_or, take, drop, ap, sym, subst, ◌∙◌, refl, arith, Bor, is_some}
use Rattle.std.specs.List.{list_all}
use Rattle.std.specs.Char.{is_ascii_digit}
use Rattle.std.specs.Str.Parse.{digits_value}
use Rattle.std.proofs.lemmas.Bool.Decides.{nat_tests}
use Rattle.std.proofs.lemmas.List.{length-take}
use Rattle.std.proofs.lemmas.List.Folds.{list_all_at}
use Rattle.list_core.specs.declared.event.Event.{Event}
use Rattle.list_core.specs.declared.read_error.ReadError.{ReadError}
use Rattle.list_core.specs.declared.list_fault.ListCause.{ListCause}
use Rattle.list_core.specs.declared.list_fault.ListCause.TheVariants.{LineForm, Moment, Hex}
use Rattle.list_core.specs.declared.event_lines.MomentUnit.{MomentUnit}
use Rattle.list_core.specs.Cuts.{HasNo}
use Rattle.list_core.specs.computed.PrivateOctets.{IsFirstPlace}
use Rattle.list_core.specs.EventLine.{fields, event_of_fields, fields_keep, frame_event, frame_octets_by, is_moment, microseconds_in, moment_of, most_digits}
use Rattle.list_core.specs.computed.LineAnswer.{Answers, IsFront, fields_after}
use Rattle.list_core.proofs.Cuts.{cut_some, cut-first, cut-rest}
use Rattle.list_core.proofs.LineShapes.{hex_digits_word, octets_to, some_is}
use Rattle.list_core.proofs.Pairs.{and_true}
use Rattle.list_core.proofs.WrittenLines.{frame_fields, word-HasNo}

-- a clock with more fields than a moment
pub clock_more : {A : Type 0} (v : MomentUnit) (xs m : List ℕ) (more : Option (Bor (List ℕ))) → fields xs ≡ m ∷ fields_after more → is_some more ≡ true →
    event_of_fields {A = A} v ((67 ∷ []) ∷ fields xs) ≡ Err LineForm
clock_more v xs m None e h = cc
clock_more v xs m (Some rest) e h = let r = cut_some 32 rest.now in rw (e, r.2) (more_fields v m r.0 r.1)
  where
    more_fields : {A : Type 0} (v : MomentUnit) (m q : List ℕ) (qs : List (List ℕ)) → event_of_fields {A = A} v ((67 ∷ []) ∷ m ∷ q ∷ qs) ≡ Err LineForm
    more_fields v [] q qs = refl
    more_fields v (m ∷ ms) [] qs = refl
    more_fields v (m ∷ ms) (q ∷ r) [] = refl
    more_fields v (m ∷ ms) (q ∷ r) (x ∷ qs) = refl

-- a letter, two fields and more
more_fields : {A : Type 0} (v : MomentUnit) (c : ℕ) (m h q : List ℕ) (qs : List (List ℕ)) → event_of_fields {A = A} v ((c ∷ []) ∷ m ∷ h ∷ q ∷ qs) ≡ Err LineForm
more_fields v c [] h q qs = refl
more_fields v c (m ∷ ms) [] q qs = refl
more_fields v c (m ∷ ms) (h ∷ hs) q qs = refl

-- a mode with more fields than it has
pub mode_more : {A : Type 0} (v : MomentUnit) (xs m rest h : List ℕ) (more : Option (Bor (List ℕ))) → fields xs ≡ m ∷ fields rest → fields rest ≡ h ∷ fields_after more → is_some more ≡ true →
    event_of_fields {A = A} v ((77 ∷ []) ∷ fields xs) ≡ Err LineForm
mode_more v xs m rest h None e f i = cc
mode_more v xs m rest h (Some next) e f i = let r = cut_some 32 next.now in rw (e, f, r.2) (more_fields v 77 m h r.0 r.1)

-- a frame with more fields than it has
pub frame_spaced : {A : Type 0} (v : MomentUnit) (m rest : List ℕ) (n : ℕ) → IsFirstPlace 32 rest (Some n) → event_of_fields {A = A} v ((70 ∷ []) ∷ m ∷ fields rest) ≡ Err LineForm
frame_spaced v m rest n h = let r = cut_some 32 (drop (n + 1) rest) in rw (cut-first 32 rest n h, r.2) (more_fields v 70 m (take n rest) r.0 r.1)

-- a frame whose two fields are these
one_field : {A : Type 0} (v : MomentUnit) (m rest : List ℕ) → 0 < length m → 0 < length rest → HasNo 32 rest
    → event_of_fields {A = A} v ((70 ∷ []) ∷ m ∷ fields rest) ≡ frame_event (moment_of v m) (frame_octets_by rest)
one_field {A = A} v m rest a b none = ap (λ ps. event_of_fields {A = A} v ((70 ∷ []) ∷ m ∷ ps)) (cut-rest 32 rest none) ∙ frame_fields v m rest a b

-- a frame whose moment is none
pub frame_unmoved : {A : Type 0} (v : MomentUnit) (m rest : List ℕ) → 0 < length m → 0 < length rest → HasNo 32 rest → moment_of v m ≡ None
    → event_of_fields {A = A} v ((70 ∷ []) ∷ m ∷ fields rest) ≡ Err Moment
frame_unmoved {A = A} v m rest a b none e = one_field v m rest a b none ∙ ap (λ o. frame_event {A = A} o (frame_octets_by rest)) e

-- a frame whose digits write no octets
pub frame_unread : {A : Type 0} (v : MomentUnit) (m rest : List ℕ) (moment : ℕ) → 0 < length m → 0 < length rest → HasNo 32 rest → moment_of v m ≡ Some moment → frame_octets_by rest ≡ None
    → event_of_fields {A = A} v ((70 ∷ []) ∷ m ∷ fields rest) ≡ Err Hex
frame_unread {A = A} v m rest moment a b none e f = one_field v m rest a b none ∙ ap (λ o. frame_event {A = A} o (frame_octets_by rest)) e ∙ ap (frame_event {A = A} (Some moment)) f

keeps_frame : (v : MomentUnit) (m h : List ℕ) → 0 < length m → 0 < length h → fields_keep v ((70 ∷ []) ∷ m ∷ h ∷ []) ≡ (is_moment v m && is_some (frame_octets_by h))
keeps_frame v [] h a b = absurd (omega arith)
keeps_frame v (m ∷ ms) [] a b = absurd (omega arith)
keeps_frame v (m ∷ ms) (h ∷ hs) a b = refl

moment_some : (v : MomentUnit) (m : List ℕ) → is_some (moment_of v m) ≡ is_moment v m
moment_some v m = elim (is_moment v m) as (λ b. is_some (if b then Some (digits_value 10 m * microseconds_in v) else None) ≡ b) [
  | true ↦ refl
  | false ↦ refl
]

-- digits that write octets are one field
pub frame_answer : {A : Type 0} (r : Result (Option (Event A)) (ReadError ListCause)) (v : MomentUnit) (xs m h : List ℕ) → fields xs ≡ m ∷ fields h → 0 < length m → is_some (frame_octets_by h) ≡ true
    → Answers r (frame_event (moment_of v m) (frame_octets_by h)) (is_some (moment_of v m)) → Answers r (event_of_fields v ((70 ∷ []) ∷ fields xs)) (fields_keep v ((70 ∷ []) ∷ fields xs))
frame_answer {A = A} r v xs m h cut some good answer =
    let octets = some_is (frame_octets_by h) good in
    let written = octets_to h octets.0 octets.1 in
    let there : 0 < length h = written.0 in
    let none : HasNo 32 h = word-HasNo 32 h (omega arith) (hex_digits_word h octets.0 written.2) in
    let said : event_of_fields {A = A} v ((70 ∷ []) ∷ fields xs) ≡ frame_event (moment_of v m) (frame_octets_by h) =
    ap (λ ps. event_of_fields {A = A} v ((70 ∷ []) ∷ ps)) cut ∙ one_field v m h some there none in
    let keeps : fields_keep v ((70 ∷ []) ∷ fields xs) ≡ is_some (moment_of v m) =
    ap (λ ps. fields_keep v ((70 ∷ []) ∷ ps)) (cut ∙ ap (λ ps. m ∷ ps) (cut-rest 32 h none)) ∙ keeps_frame v m h some there ∙ ap (λ b. is_moment v m && b) good ∙ and_true (is_moment v m) ∙ sym (moment_some v m) in
    subst (λ k. Answers r (event_of_fields {A = A} v ((70 ∷ []) ∷ fields xs)) k) (sym keeps) (subst (λ s. Answers r s (is_some (moment_of v m))) (sym said) answer)

-- a moment's digits and a space
pub number_front : (v : MomentUnit) (xs h : List ℕ) (n number : ℕ) → 0 < n → n ≤ most_digits v → n < length xs → get_or xs n 0 ≡ 32
    → h ≡ drop (n + 1) xs → list_all is_ascii_digit (take n xs) ≡ true → number ≡ digits_value 10 (take n xs) → IsFront v xs (Some (number * microseconds_in v)) h
number_front v xs h n number some few there space rest digits value =
    let size : length (take n xs) ≡ n = length-take n xs ∙ omega arith in
    let is : is_moment v (take n xs) ≡ true = grind (arith, nat_tests, size, digits) in
    let moment : moment_of v (take n xs) ≡ Some (number * microseconds_in v) = rw is (ap (λ k. Some (k * microseconds_in v)) (sym value)) in
    let none : HasNo 32 (take n xs) = λ k l e. let other : is_ascii_digit (get_or (take n xs) k 0) ≡ false = rw e refl in let some = list_all_at is_ascii_digit (take n xs) k 0 l other in cc in
    (take n xs, omega (arith, size), cut-first 32 xs n (there, space, none) ∙ ap (λ ys. take n xs ∷ fields ys) (sym rest), sym moment)
