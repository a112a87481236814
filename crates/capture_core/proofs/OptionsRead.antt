-- The options of an interface, read one by one.
use Rattle.std.proofs.Common.{◌≡◌, ℕ, ◌+◌, ◌-◌, ◌<◌, ◌≤◌, zero, suc, true, false, ltb, eqb, List, ◌++◌, length, take, drop, Option, Some, None, ap, sym, ◌∙◌, refl, arith, append_assoc}
use Rattle.std.specs.Prelude.{◌==◌, nat_lt, if◌then◌else◌}
use Rattle.std.proofs.lemmas.List.{length-append, length-drop, drop_at, take-append-le}
use Rattle.std.proofs.Math.Seq.{drop-append-add}
use Rattle.std.proofs.lemmas.Bool.Decides.{nat_tests}
use Rattle.capture_core.specs.Numbers.{number_at}
use Rattle.capture_core.specs.Interfaces.{and_then, interface_in, option_size, options_in, padded, plain_interface, with_first, with_option, with_options}
use Rattle.capture_core.specs.declared.form.OctetOrder.{OctetOrder}
use Rattle.capture_core.specs.declared.interface.Interface.{Interface}
use Rattle.capture_core.proofs.NumberPlaces.{number_front}

-- the same follows, if the same is said then
and_then_same : (x : Option Interface) (f g : Interface → Option Interface) → ((i : Interface) → f i ≡ g i) → and_then x f ≡ and_then x g
and_then_same None f g h = refl
and_then_same (Some i) f g h = h i

-- what is said where the first option, if there is one, is followed by others that say this
unfoldable pub first_then : OctetOrder → List ℕ → Interface → Option Interface → Option Interface
first_then order o i r =
    if nat_lt (length o) 4 then Some i else
    (if number_at order 2 o 0 == 0 then Some i else
    (if nat_lt (length o) (option_size order o) then None else r))

pub options_step : (order : OctetOrder) (k : ℕ) (o : List ℕ) (i : Interface) →
    with_options order (suc k) o i ≡ first_then order o i (and_then (with_first order o i) (λ j. with_options order k (drop (option_size order o) o) j))
unfolding with_options first_then
options_step order k o i = refl

options_short : (order : OctetOrder) (k : ℕ) (o : List ℕ) (i : Interface) → length o < 4 → with_options order k o i ≡ Some i
unfolding with_options
options_short order zero o i h = refl
options_short order (suc k) o i h =
    let short : ltb (length o) 4 ≡ true = grind (arith, nat_tests) in
    rw short refl

-- as many steps as there are octets are enough
enough : (order : OctetOrder) (j k : ℕ) (o : List ℕ) (i : Interface) → length o ≤ j → length o ≤ k → with_options order j o i ≡ with_options order k o i
enough order zero k o i a b = options_short order zero o i (omega arith) ∙ sym (options_short order k o i (omega arith))
enough order (suc j) zero o i a b = options_short order (suc j) o i (omega arith) ∙ sym (options_short order zero o i (omega arith))
enough order (suc j) (suc k) o i a b =
    let left : length (drop (option_size order o) o) ≡ length o - option_size order o = length-drop (option_size order o) o in
    options_step order j o i
    ∙ ap (first_then order o i) (and_then_same (with_first order o i) _ _ (λ m. enough order j k (drop (option_size order o) o) m (omega (arith, left)) (omega (arith, left))))
    ∙ sym (options_step order k o i)

pub few_options : (order : OctetOrder) (o : List ℕ) (i : Interface) → length o < 4 → Some i ≡ options_in order o i
few_options order o i h = sym (options_short order (length o) o i h)

-- what is said of an interface where the first option has this code, size and what follows
after_code : OctetOrder → ℕ → ℕ → List ℕ → Interface → Option Interface
after_code order code size rest i =
    if code == 0 then Some i else
    (if nat_lt (4 + length rest) (4 + padded size) then None else
    and_then (with_option order code (take size rest) i) (λ j. options_in order (drop (padded size) rest) j))

-- options of which the first has this head
options_first : (order : OctetOrder) (head rest : List ℕ) (i : Interface) → length head ≡ 4 → options_in order (head ++ rest) i ≡ after_code order (number_at order 2 head 0) (number_at order 2 head 2) rest i
unfolding first_then after_code
options_first order head rest i h =
    let o = head ++ rest in
    let code = number_at order 2 head 0 in
    let size = number_at order 2 head 2 in
    let all : length o ≡ 4 + length rest = simp length-append (omega (arith, h)) in
    let more : length o ≡ suc (3 + length rest) = omega (arith, all) in
    let long : ltb (4 + length rest) 4 ≡ false = grind (arith, nat_tests) in
    let front_code : number_at order 2 o 0 ≡ code = number_front order 2 head rest 0 (omega (arith, h)) in
    let front_size : number_at order 2 o 2 ≡ size = number_front order 2 head rest 2 (omega (arith, h)) in
    let behind : drop 4 o ≡ rest = drop_at head rest 4 h in
    let next : drop (4 + padded size) o ≡ drop (padded size) rest = ap (λ (k : ℕ). drop (k + padded size) o) (sym h) ∙ drop-append-add head rest (padded size) in
    let left : length (drop (padded size) rest) ≡ length rest - padded size = length-drop (padded size) rest in
    ap (λ (k : ℕ). with_options order k o i) more ∙ options_step order (3 + length rest) o i
    ∙ rw (all, long, front_code, front_size, behind, next)
    (ap (λ (r : Option Interface). if code == 0 then Some i else (if nat_lt (4 + length rest) (4 + padded size) then None else r))
    (and_then_same (with_option order code (take size rest) i) _ _ (λ m. enough order (3 + length rest) (length (drop (padded size) rest)) (drop (padded size) rest) m (omega (arith, left)) (omega arith))))

module _ (order : OctetOrder) (head rest : List ℕ) (i : Interface) (code size : ℕ) (h : length head ≡ 4) (c : code ≡ number_at order 2 head 0) (s : size ≡ number_at order 2 head 2) where
  by_code : options_in order (head ++ rest) i ≡ after_code order code size rest i
  by_code = rw (c, s) (options_first order head rest i h)

  -- code 0 ends them
  pub ended_options : code ≡ 0 → Some i ≡ options_in order (head ++ rest) i
  unfolding after_code
  ended_options e =
      let last : eqb code 0 ≡ true = grind (arith, nat_tests) in
      sym (by_code ∙ rw last refl)

  -- an option reaches past the end
  pub past_options : (code ≡ 0 → ⊥) → 4 + length rest < 4 + padded size → None ≡ options_in order (head ++ rest) i
  unfolding after_code
  past_options n f =
      let more : eqb code 0 ≡ false = grind (arith, nat_tests) in
      let past : ltb (4 + length rest) (4 + padded size) ≡ true = grind (arith, nat_tests) in
      sym (by_code ∙ rw (more, past) refl)

  -- an option whose value is not of its length, or one that says this
  pub next_option : (code ≡ 0 → ⊥) → padded size ≤ length rest → options_in order (head ++ rest) i ≡ and_then (with_option order code (take size rest) i) (λ j. options_in order (drop (padded size) rest) j)
  unfolding after_code
  next_option n f =
      let more : eqb code 0 ≡ false = grind (arith, nat_tests) in
      let past : ltb (4 + length rest) (4 + padded size) ≡ false = grind (arith, nat_tests) in
      by_code ∙ rw (more, past) refl

-- the first option was read, and others follow
pub option_taken : (order : OctetOrder) (head value rest : List ℕ) (i j : Interface) (code size : ℕ) → length head ≡ 4 → code ≡ number_at order 2 head 0 → size ≡ number_at order 2 head 2 → (code ≡ 0 → ⊥) → length value ≡ padded size →
    Some j ≡ with_option order code (take size value) i → options_in order ((head ++ value) ++ rest) i ≡ options_in order rest j
option_taken order head value rest i j code size h c s n v w =
    let front : take size (value ++ rest) ≡ take size value = take-append-le size value rest (omega (arith, v)) in
    let behind : drop (padded size) (value ++ rest) ≡ rest = drop_at value rest (padded size) v in
    ap (λ l. options_in order l i) (append_assoc head value rest)
    ∙ next_option order head (value ++ rest) i code size h c s n (simp length-append (omega (arith, v)))
    ∙ rw (front, ← w, behind) refl

-- the first option has a value that is not of its code's length
pub option_refused : (order : OctetOrder) (head value rest : List ℕ) (i : Interface) (code size : ℕ) → length head ≡ 4 → code ≡ number_at order 2 head 0 → size ≡ number_at order 2 head 2 → (code ≡ 0 → ⊥) → length value ≡ padded size →
    None ≡ with_option order code (take size value) i → None ≡ options_in order ((head ++ value) ++ rest) i
option_refused order head value rest i code size h c s n v w =
    let front : take size (value ++ rest) ≡ take size value = take-append-le size value rest (omega (arith, v)) in
    sym (ap (λ l. options_in order l i) (append_assoc head value rest)
    ∙ next_option order head (value ++ rest) i code size h c s n (simp length-append (omega (arith, v)))
    ∙ rw (front, ← w) refl)

-- the body of a description block, of which the first eight octets are these
pub interface_read : (order : OctetOrder) (head options : List ℕ) → length head ≡ 8 → options_in order options (plain_interface (number_at order 2 head 0) (number_at order 4 head 4)) ≡ interface_in order (head ++ options)
interface_read order head options h =
    let long : ltb (length (head ++ options)) 8 ≡ false = simp length-append (grind (arith, nat_tests)) in
    let link : number_at order 2 (head ++ options) 0 ≡ number_at order 2 head 0 = number_front order 2 head options 0 (omega (arith, h)) in
    let snapshot : number_at order 4 (head ++ options) 4 ≡ number_at order 4 head 4 = number_front order 4 head options 4 (omega (arith, h)) in
    let behind : drop 8 (head ++ options) ≡ options = drop_at head options 8 h in
    rw (long, link, snapshot, behind) refl
