-- Bodies that describe no interface, and what is read of them.
use Rattle.std.proofs.Common.{◌≡◌, ◌⊎◌, ℕ, ◌+◌, ◌-◌, ◌<◌, ◌≤◌, zero, suc, Bool, true, false, ltb, eqb, inl, inr, List, [], ◌∷◌, ◌++◌, length, take, drop, get_or, Option, Some, None, ap, sym, ◌∙◌, refl, arith, append_assoc}
use Rattle.std.specs.Prelude.{◌≢◌, if◌then◌else◌}
use Rattle.std.proofs.lemmas.Bool.{cases_lt, eqb-false, eqb-true, le-ltb, lt-ltb, ltb-false, ltb-true}
use Rattle.std.proofs.lemmas.Bool.Decides.{nat_tests}
use Rattle.std.proofs.lemmas.List.{length-drop, length-take-le, take-append-drop, take_at}
use Rattle.capture_core.specs.Numbers.{number_at}
use Rattle.capture_core.specs.Interfaces.{and_then, interface_in, option_size, options_in, padded, plain_interface, with_first, with_option, with_options}
use Rattle.capture_core.specs.FirstFault.{DescribesNone, EndInBadOption, IsBadOption}
use Rattle.capture_core.specs.declared.form.OctetOrder.{OctetOrder}
use Rattle.capture_core.specs.declared.interface.Interface.{Interface}
use Rattle.capture_core.proofs.OptionsRead.{first_then, option_refused, option_taken, past_options}
use Rattle.capture_core.proofs.BlocksSpelled.{number_taken}
use Rattle.capture_core.proofs.InterfacesSpelled.{after_option, first_option, option_said, option_says, padded_least}

-- ---- an option whose value is not of its length

-- an if_tsresol or an if_tsoffset of another length
abbrev HasOtherLength : ℕ → ℕ → Type 0
HasOtherLength code size = ((code ≡ 9) × (size ≢ 1)) ⊎ ((code ≡ 14) × (size ≢ 8))

none_if : (b : Bool) (x : Interface) → (if b then Some x else None) ≡ None → b ≡ false
none_if true x e = cc
none_if false x e = refl

module _ (order : OctetOrder) (code : ℕ) (value : List ℕ) (i : Interface) where
  other_by : (x y : Bool) → eqb code 9 ≡ x → eqb code 14 ≡ y → with_option order code value i ≡ None → HasOtherLength code (length value)
  other_by true y e f h =
      let r : Interface = record { link_type = i.link_type; snapshot_length = i.snapshot_length; resolution = get_or value 0 0; offset = i.offset } in
      inl (eqb-true code 9 e, eqb-false (length value) 1 (none_if (eqb (length value) 1) r (rw e at h)))
  other_by false true e f h =
      let r : Interface = record { link_type = i.link_type; snapshot_length = i.snapshot_length; resolution = i.resolution; offset = number_at order 8 value 0 } in
      inr (eqb-true code 14 f, eqb-false (length value) 8 (none_if (eqb (length value) 8) r (rw (e, f) at h)))
  other_by false false e f h = let wrong = rw (e, f) at h in cc

  -- what says nothing is one
  other_length : with_option order code value i ≡ None → HasOtherLength code (length value)
  other_length h = other_by (eqb code 9) (eqb code 14) refl refl h

  -- it says nothing
  says_none : HasOtherLength code (length value) → None ≡ with_option order code value i
  says_none (inl (c, n)) =
      let nine : eqb code 9 ≡ true = grind (arith, nat_tests, c) in
      let one : eqb (length value) 1 ≡ false = grind (arith, nat_tests, n) in
      rw (nine, one) refl
  says_none (inr (c, n)) =
      let nine : eqb code 9 ≡ false = grind (arith, nat_tests, c) in
      let fourteen : eqb code 14 ≡ true = grind (arith, nat_tests, c) in
      let eight : eqb (length value) 8 ≡ false = grind (arith, nat_tests, n) in
      rw (nine, fourteen, eight) refl

-- ---- options one behind another

none_cases : (a b c : Bool) (j : Interface) (r : Option Interface) → (if a then Some j else (if b then Some j else (if c then None else r))) ≡ None → (a ≡ false) × (b ≡ false) × ((c ≡ true) ⊎ ((c ≡ false) × (r ≡ None)))
none_cases true b c j r e = cc
none_cases false true c j r e = cc
none_cases false false true j r e = (refl, refl, inl refl)
none_cases false false false j r e = (refl, refl, inr (refl, e))

then_none : (x : Option Interface) (f : Interface → Option Interface) → and_then x f ≡ None → (x ≡ None) ⊎ ((m : Interface) × (x ≡ Some m) × (f m ≡ None))
then_none None f e = inl refl
then_none (Some m) f e = inr (m, refl, e)

-- options that say nothing end in a bad one
options_none : (order : OctetOrder) (k : ℕ) (o : List ℕ) (j : Interface) → length o ≤ k → with_options order k o j ≡ None → (ps : List (ℕ × List ℕ)) × EndInBadOption order ps o
unfolding with_options first_then
options_none order zero o j h e = cc
options_none order (suc k) o j h e =
    let code = number_at order 2 o 0 in
    let n = number_at order 2 o 2 in
    let size = option_size order o in
    let value = take n (drop 4 o) in
    let t = none_cases (ltb (length o) 4) (eqb code 0) (ltb (length o) size) j (and_then (with_first order o j) (λ m. with_options order k (drop size o) m)) e in
    let begun : 4 ≤ length o = ltb-false (length o) 4 t.0 in
    let more : code ≡ 0 → ⊥ = eqb-false code 0 t.1 in
    elim t.2 [
      | inl past ↦ ([], record { begun = begun; no_end = more; bad = inl (ltb-true (length o) size past) })
      | inr u ↦
          let fits : size ≤ length o = ltb-false (length o) size u.0 in
          let left : length (drop 4 o) ≡ length o - 4 = length-drop 4 o in
          let least = padded_least n in
          let all : length value ≡ n = length-take-le n (drop 4 o) (omega (arith, least, left, fits)) in
          elim (then_none (with_first order o j) (λ m. with_options order k (drop size o) m) u.1) [
            | inl f ↦ ([], record { begun = begun; no_end = more; bad = inr (other_of code n (length value) all (other_length order code value j f)) })
            | inr f ↦
                let said = option_said order code value j f.0 f.1 in
                let behind : length (drop size o) ≡ length o - size = length-drop size o in
                let others = options_none order k (drop size o) f.0 (omega (arith, behind, h)) f.2 in
                ((code, value) ∷ others.0, (take size o, drop size o, sym (take-append-drop size o), more, first_option order o begun fits, said.0, others.1))
          ]
    ]
  where
    other_of : (code n m : ℕ) → m ≡ n → HasOtherLength code m → HasOtherLength code n
    other_of code n m e (inl (c, f)) = inl (c, λ g. f (e ∙ g))
    other_of code n m e (inr (c, f)) = inr (c, λ g. f (e ∙ g))

-- a bad option says nothing
bad_first : (order : OctetOrder) (o : List ℕ) (i : Interface) → IsBadOption order o → None ≡ options_in order o i
bad_first order o i b =
    let head = take 4 o in
    let rest = drop 4 o in
    let n = number_at order 2 head 2 in
    let head_size : length head ≡ 4 = length-take-le 4 o b.begun in
    let code : number_at order 2 head 0 ≡ number_at order 2 o 0 = number_taken order 2 0 4 o (omega arith) b.begun in
    let size : n ≡ number_at order 2 o 2 = number_taken order 2 2 4 o (omega arith) b.begun in
    let left : length rest ≡ length o - 4 = length-drop 4 o in
    let more : number_at order 2 head 0 ≡ 0 → ⊥ = λ e. b.no_end (sym code ∙ e) in
    elim (cases_lt (length rest) (padded n)) [
      | inl past ↦ past_options order head rest i (number_at order 2 head 0) n head_size refl refl more (omega (arith, past)) ∙ ap (λ t. options_in order t i) (take-append-drop 4 o)
      | inr fits ↦
          let value = take (padded n) rest in
          let others = drop (padded n) rest in
          let all : length value ≡ padded n = length-take-le (padded n) rest fits in
          let least = padded_least n in
          let taken : length (take n value) ≡ n = length-take-le n value (omega (arith, all, least)) in
          let whole : 4 + padded (number_at order 2 o 2) ≤ length o = rw (← size) (let four = b.begun in omega (arith, left, fits, four)) in
          let none = says_none order (number_at order 2 head 0) (take n value) i (other_here b.bad whole code (taken ∙ size)) in
          let text : o ≡ (head ++ value) ++ others =
          sym (append_assoc head value others ∙ ap (λ t. head ++ t) (take-append-drop (padded n) rest) ∙ take-append-drop 4 o) in
          option_refused order head value others i (number_at order 2 head 0) n head_size refl refl more all none ∙ ap (λ t. options_in order t i) (sym text)
    ]
  where
    other_here : {size code m n c : ℕ} → (size < 4 + padded n) ⊎ (((code ≡ 9) × (n ≢ 1)) ⊎ ((code ≡ 14) × (n ≢ 8))) → 4 + padded n ≤ size → c ≡ code → m ≡ n → HasOtherLength c m
    other_here (inl h) w e f = absurd (omega (arith, h, w))
    other_here (inr (inl (p, q))) w e f = inl (e ∙ p, λ g. q (sym f ∙ g))
    other_here (inr (inr (p, q))) w e f = inr (e ∙ p, λ g. q (sym f ∙ g))

options_bad : (order : OctetOrder) (ps : List (ℕ × List ℕ)) (o : List ℕ) (i : Interface) → EndInBadOption order ps o → None ≡ options_in order o i
options_bad order [] o i b = bad_first order o i b
options_bad order (p ∷ ps) o i (front, rest, e, n, is, l, others) =
    let value = p.1 in
    let text : o ≡ (is.head ++ (value ++ is.padding)) ++ rest = e ∙ ap (λ t. t ++ rest) (is.parts ∙ append_assoc is.head value is.padding) in
    let said : Some (after_option order p.0 value i) ≡ with_option order p.0 (take (length value) (value ++ is.padding)) i =
    option_says order p.0 value i l ∙ ap (λ t. with_option order p.0 t i) (sym (take_at value is.padding (length value) refl)) in
    options_bad order ps rest (after_option order p.0 value i) others
    ∙ sym (ap (λ t. options_in order t i) text
    ∙ option_taken order is.head (value ++ is.padding) rest i (after_option order p.0 value i) p.0 (length value) is.head_size (sym is.has_code) (sym is.has_length) n is.is_padded said)

-- ---- bodies

-- a body that is read as no interface describes none
pub describes_none : (order : OctetOrder) (body : List ℕ) → interface_in order body ≡ None → DescribesNone order body
describes_none order body e = by_size (ltb (length body) 8) refl e
  where
    by_size : (b : Bool) → ltb (length body) 8 ≡ b → (if b then None else options_in order (drop 8 body) (plain_interface (number_at order 2 body 0) (number_at order 4 body 4))) ≡ None → DescribesNone order body
    by_size true f h = inl (ltb-true (length body) 8 f)
    by_size false f h = inr (ltb-false (length body) 8 f, options_none order (length (drop 8 body)) (drop 8 body) (plain_interface (number_at order 2 body 0) (number_at order 4 body 4)) (omega arith) h)

-- a body that describes no interface is read as none
pub none_described : (order : OctetOrder) (body : List ℕ) → DescribesNone order body → interface_in order body ≡ None
none_described order body (inl h) = rw (lt-ltb (length body) 8 h) refl
none_described order body (inr (h, (ps, bad))) =
    rw (le-ltb (length body) 8 h) (sym (options_bad order ps (drop 8 body) (plain_interface (number_at order 2 body 0) (number_at order 4 body 4)) bad))
