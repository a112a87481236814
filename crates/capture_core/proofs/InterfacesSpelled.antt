-- Octets that describe an interface, and what is read of them.
use Rattle.std.proofs.Common.{◌≡◌, ◌⊎◌, ℕ, ◌-◌, ◌≤◌, zero, suc, Bool, true, false, ltb, eqb, inl, inr, List, [], ◌∷◌, ◌++◌, length, take, drop, get_or, Option, Some, None, ap, sym, ◌∙◌, refl, arith, append_assoc}
use Rattle.std.specs.Prelude.{◌==◌, if◌then◌else◌}
use Rattle.std.specs.List.{All}
use Rattle.std.proofs.lemmas.List.{length-drop, length-take-le, take-append-drop, take-take, take_at}
use Rattle.std.proofs.Math.Seq.{take-add}
use Rattle.std.proofs.lemmas.List.Elements.{All-cons, All-head, All-nil, All-tail}
use Rattle.std.proofs.lemmas.Bool.Decides.{eqb_tells, nat_tests}
use Rattle.capture_core.specs.Numbers.{number_at}
use Rattle.capture_core.specs.Interfaces.{and_then, interface_in, option_size, options_in, padded, plain_interface, with_first, with_option, with_options}
use Rattle.capture_core.specs.SpelledBlocks.{AreOptions, HasItsLength, IsInterface, IsOption, last_value, offset_told, resolution_told}
use Rattle.capture_core.specs.declared.form.OctetOrder.{OctetOrder}
use Rattle.capture_core.specs.declared.interface.Interface.{Interface}
use Rattle.capture_core.proofs.OptionsRead.{ended_options, few_options, first_then, interface_read, option_taken}
use Rattle.capture_core.proofs.BlocksSpelled.{number_taken}

-- ---- what an option says

-- an interface of this resolution, and one of this offset
abbrev resolved : ℕ → Interface → Interface
resolved r i = record { link_type = i.link_type; snapshot_length = i.snapshot_length; resolution = r; offset = i.offset }

abbrev shifted : ℕ → Interface → Interface
shifted n i = record { link_type = i.link_type; snapshot_length = i.snapshot_length; resolution = i.resolution; offset = n }

-- the interface after an option whose value has its length
abbrev pub after_option : OctetOrder → ℕ → List ℕ → Interface → Interface
after_option order code value i = if code == 9 then resolved (get_or value 0 0) i else (if code == 14 then shifted (number_at order 8 value 0) i else i)

abbrev pub after_options : OctetOrder → List (ℕ × List ℕ) → Interface → Interface
after_options order [] i = i
after_options order (o ∷ os) i = after_options order os (after_option order o.0 o.1 i)

module _ (order : OctetOrder) (code : ℕ) (value : List ℕ) (i : Interface) where
  says_by : (x y : Bool) → eqb code 9 ≡ x → eqb code 14 ≡ y → HasItsLength (code, value) → Some (after_option order code value i) ≡ with_option order code value i
  says_by true y e f h =
      let nine : code ≡ 9 = grind (arith, nat_tests, e) in
      let size = h.0 nine in
      let one : eqb (length value) 1 ≡ true = grind (arith, nat_tests, size) in
      rw (e, one) refl
  says_by false true e f h =
      let fourteen : code ≡ 14 = grind (arith, nat_tests, f) in
      let size = h.1 fourteen in
      let eight : eqb (length value) 8 ≡ true = grind (arith, nat_tests, size) in
      rw (e, f, eight) refl
  says_by false false e f h = rw (e, f) refl

  -- an option whose value has its length
  pub option_says : HasItsLength (code, value) → Some (after_option order code value i) ≡ with_option order code value i
  option_says h = says_by (eqb code 9) (eqb code 14) refl refl h

  some_if : (b : Bool) (x m : Interface) → (if b then Some x else None) ≡ Some m → (b ≡ true) × (m ≡ x)
  some_if true x m e = (refl, cc)
  some_if false x m e = cc

  said_by : (m : Interface) (x y : Bool) → eqb code 9 ≡ x → eqb code 14 ≡ y → with_option order code value i ≡ Some m → HasItsLength (code, value) × (m ≡ after_option order code value i)
  said_by m true y e f h =
      let t = some_if (eqb (length value) 1) (resolved (get_or value 0 0) i) m (rw e at h) in
      let same = t.0 in
      let one : length value ≡ 1 = grind (arith, nat_tests, same) in
      let nine : code ≡ 9 = grind (arith, nat_tests, e) in
      ((λ c. one, λ c. absurd (omega (arith, nine, c))), rw e t.1)
  said_by m false true e f h =
      let t = some_if (eqb (length value) 8) (shifted (number_at order 8 value 0) i) m (rw (e, f) at h) in
      let same = t.0 in
      let eight : length value ≡ 8 = grind (arith, nat_tests, same) in
      let fourteen : code ≡ 14 = grind (arith, nat_tests, f) in
      ((λ c. absurd (omega (arith, fourteen, c)), λ c. eight), rw (e, f) t.1)
  said_by m false false e f h =
      let same = rw (e, f) at h in
      let is : m ≡ i = cc in
      ((λ c. absurd (let k = eqb_tells code 9 in grind (arith, nat_tests, e, c)), λ c. absurd (grind (arith, nat_tests, f, c))), rw (e, f) is)

  -- an option that says something has its length
  pub option_said : (m : Interface) → with_option order code value i ≡ Some m → HasItsLength (code, value) × (m ≡ after_option order code value i)
  option_said m h = said_by m (eqb code 9) (eqb code 14) refl refl h

-- ---- what options say together

link_of : (x y : Bool) (r n : ℕ) (i : Interface) → (if x then resolved r i else (if y then shifted n i else i)).link_type ≡ i.link_type
link_of true y r n i = refl
link_of false true r n i = refl
link_of false false r n i = refl

snapshot_of : (x y : Bool) (r n : ℕ) (i : Interface) → (if x then resolved r i else (if y then shifted n i else i)).snapshot_length ≡ i.snapshot_length
snapshot_of true y r n i = refl
snapshot_of false true r n i = refl
snapshot_of false false r n i = refl

resolution_of : (x y : Bool) (value : List ℕ) (before : Option (List ℕ)) (n : ℕ) (i : Interface) → i.resolution ≡ resolution_told before →
    (if x then resolved (get_or value 0 0) i else (if y then shifted n i else i)).resolution ≡ resolution_told (if x then Some value else before)
resolution_of true y value before n i h = refl
resolution_of false true value before n i h = h
resolution_of false false value before n i h = h

offset_of : (order : OctetOrder) (x y : Bool) (value : List ℕ) (before : Option (List ℕ)) (r : ℕ) (i : Interface) → (x ≡ true → y ≡ true → ⊥) → i.offset ≡ offset_told order before →
    (if x then resolved r i else (if y then shifted (number_at order 8 value 0) i else i)).offset ≡ offset_told order (if y then Some value else before)
offset_of order true true value before r i n h = absurd (n refl refl)
offset_of order true false value before r i n h = h
offset_of order false true value before r i n h = refl
offset_of order false false value before r i n h = h

one_code : (code : ℕ) → eqb code 9 ≡ true → eqb code 14 ≡ true → ⊥
one_code code a b =
    let nine : code ≡ 9 = grind (arith, nat_tests, a) in
    let fourteen : code ≡ 14 = grind (arith, nat_tests, b) in
    omega (arith, nine, fourteen)

module _ (order : OctetOrder) where
  links : (os : List (ℕ × List ℕ)) (i : Interface) → (after_options order os i).link_type ≡ i.link_type
  links [] i = refl
  links (o ∷ os) i = links os (after_option order o.0 o.1 i) ∙ link_of (eqb o.0 9) (eqb o.0 14) (get_or o.1 0 0) (number_at order 8 o.1 0) i

  snapshots : (os : List (ℕ × List ℕ)) (i : Interface) → (after_options order os i).snapshot_length ≡ i.snapshot_length
  snapshots [] i = refl
  snapshots (o ∷ os) i = snapshots os (after_option order o.0 o.1 i) ∙ snapshot_of (eqb o.0 9) (eqb o.0 14) (get_or o.1 0 0) (number_at order 8 o.1 0) i

  resolutions : (os : List (ℕ × List ℕ)) (i : Interface) (before : Option (List ℕ)) → i.resolution ≡ resolution_told before → (after_options order os i).resolution ≡ resolution_told (last_value 9 before os)
  resolutions [] i before h = h
  resolutions (o ∷ os) i before h =
      resolutions os (after_option order o.0 o.1 i) (if eqb o.0 9 then Some o.1 else before) (resolution_of (eqb o.0 9) (eqb o.0 14) o.1 before (number_at order 8 o.1 0) i h)

  offsets : (os : List (ℕ × List ℕ)) (i : Interface) (before : Option (List ℕ)) → i.offset ≡ offset_told order before → (after_options order os i).offset ≡ offset_told order (last_value 14 before os)
  offsets [] i before h = h
  offsets (o ∷ os) i before h =
      offsets os (after_option order o.0 o.1 i) (if eqb o.0 14 then Some o.1 else before) (offset_of order (eqb o.0 9) (eqb o.0 14) o.1 before (get_or o.1 0 0) i (one_code o.0) h)

-- ---- options one behind another

pub padded_least : (n : ℕ) → n ≤ padded n
padded_least n = omega arith

options_spelled : (order : OctetOrder) (os : List (ℕ × List ℕ)) (o : List ℕ) (i : Interface) → AreOptions order os o → All HasItsLength os → options_in order o i ≡ Some (after_options order os i)
options_spelled order [] o i (inl few) l = sym (few_options order o i few)
options_spelled order [] o i (inr h) l =
    let size : length (take 4 o) ≡ 4 = length-take-le 4 o h.0 in
    let code : number_at order 2 (take 4 o) 0 ≡ 0 = number_taken order 2 0 4 o (omega arith) h.0 ∙ h.1 in
    ap (λ t. options_in order t i) (sym (take-append-drop 4 o)) ∙ sym (ended_options order (take 4 o) (drop 4 o) i (number_at order 2 (take 4 o) 0) (number_at order 2 (take 4 o) 2) size refl refl code)
options_spelled order (p ∷ os) o i (front, rest, e, n, is, are) l =
    let value = p.1 in
    let text : o ≡ (is.head ++ (value ++ is.padding)) ++ rest = e ∙ ap (λ t. t ++ rest) (is.parts ∙ append_assoc is.head value is.padding) in
    let said : Some (after_option order p.0 value i) ≡ with_option order p.0 (take (length value) (value ++ is.padding)) i =
    option_says order p.0 value i (All-head HasItsLength p os l) ∙ ap (λ t. with_option order p.0 t i) (sym (take_at value is.padding (length value) refl)) in
    ap (λ t. options_in order t i) text
    ∙ option_taken order is.head (value ++ is.padding) rest i (after_option order p.0 value i) p.0 (length value) is.head_size (sym is.has_code) (sym is.has_length) n is.is_padded said
    ∙ options_spelled order os rest (after_option order p.0 value i) are (All-tail HasItsLength p os l)

first_cases : (a b c : Bool) (j i : Interface) (r : Option Interface) → (if a then Some j else (if b then Some j else (if c then None else r))) ≡ Some i →
    ((a ≡ true) × (i ≡ j)) ⊎ (((a ≡ false) × (b ≡ true) × (i ≡ j)) ⊎ ((a ≡ false) × (b ≡ false) × (c ≡ false) × (r ≡ Some i)))
first_cases true b c j i r e = inl (refl, cc)
first_cases false true c j i r e = inr (inl (refl, refl, cc))
first_cases false false true j i r e = cc
first_cases false false false j i r e = inr (inr (refl, refl, refl, e))

then_some : (x : Option Interface) (f : Interface → Option Interface) (i : Interface) → and_then x f ≡ Some i → (m : Interface) × (x ≡ Some m) × (f m ≡ Some i)
then_some None f i e = cc
then_some (Some m) f i e = (m, refl, e)

-- options that were read
abbrev Options : OctetOrder → List ℕ → Interface → Interface → Type 0
Options order o j i = (os : List (ℕ × List ℕ)) × AreOptions order os o × All HasItsLength os × (i ≡ after_options order os j)

-- the first option, of this code and size
pub first_option : (order : OctetOrder) (o : List ℕ) → 4 ≤ length o → option_size order o ≤ length o → IsOption order (number_at order 2 o 0) (take (number_at order 2 o 2) (drop 4 o)) (take (option_size order o) o)
first_option order o h l =
    let n = number_at order 2 o 2 in
    let head = take 4 o in
    let behind = take (padded n) (drop 4 o) in
    let value = take n (drop 4 o) in
    let padding = drop n behind in
    let left : length (drop 4 o) ≡ length o - 4 = length-drop 4 o in
    let least = padded_least n in
    let same : take n behind ≡ value = take-take n (padded n) (drop 4 o) least in
    let split : behind ≡ value ++ padding = sym (take-append-drop n behind) ∙ ap (λ t. t ++ padding) same in
    let size : length value ≡ n = length-take-le n (drop 4 o) (omega (arith, least, left, l)) in
    let all : length behind ≡ padded n = length-take-le (padded n) (drop 4 o) (omega (arith, left, l)) in
    record {
      head = head;
      padding = padding;
      parts = take-add 4 (padded n) o ∙ ap (λ t. head ++ t) split ∙ sym (append_assoc head value padding);
      head_size = length-take-le 4 o h;
      has_code = number_taken order 2 0 4 o (omega arith) h;
      has_length = number_taken order 2 2 4 o (omega arith) h ∙ sym size;
      is_padded = ap length (sym split) ∙ all ∙ ap padded (sym size);
    }

options_read : (order : OctetOrder) (k : ℕ) (o : List ℕ) (j i : Interface) → length o ≤ k → with_options order k o j ≡ Some i → Options order o j i
unfolding with_options first_then
options_read order zero o j i h e = ([], inl (omega (arith, h)), All-nil HasItsLength, cc)
options_read order (suc k) o j i h e =
    let code = number_at order 2 o 0 in
    let size = option_size order o in
    let value = take (number_at order 2 o 2) (drop 4 o) in
    elim (first_cases (ltb (length o) 4) (eqb code 0) (ltb (length o) size) j i (and_then (with_first order o j) (λ m. with_options order k (drop size o) m)) e) [
      | inl t ↦ let few = t.0 in ([], inl (grind (arith, nat_tests, few)), All-nil HasItsLength, t.1)
      | inr t ↦ elim t [
        | inl t ↦ let long = t.0 in let last = t.1 in ([], inr (grind (arith, nat_tests, long), grind (arith, nat_tests, last)), All-nil HasItsLength, t.2)
        | inr t ↦
            let long = t.0 in
            let more = t.1 in
            let whole = t.2 in
            let four : 4 ≤ length o = grind (arith, nat_tests, long) in
            let fits : size ≤ length o = grind (arith, nat_tests, whole) in
            let other : code ≡ 0 → ⊥ = λ c. grind (arith, nat_tests, more, c) in
            let next = then_some (with_first order o j) (λ m. with_options order k (drop size o) m) i t.3 in
            let said = option_said order code value j next.0 next.1 in
            let left : length (drop size o) ≡ length o - size = length-drop size o in
            let others = options_read order k (drop size o) next.0 i (omega (arith, left, h)) next.2 in (
              (code, value) ∷ others.0,
              (take size o, drop size o, sym (take-append-drop size o), other, first_option order o four fits, others.1),
              All-cons HasItsLength (code, value) others.0 said.0 others.2,
              others.3 ∙ ap (after_options order others.0) said.1,
            )
      ]
    ]

-- ---- descriptions

same_interface : (a b : Interface) → a.link_type ≡ b.link_type → a.snapshot_length ≡ b.snapshot_length → a.resolution ≡ b.resolution → a.offset ≡ b.offset → a ≡ b
same_interface a b p q r s =
    ap (λ (k : ℕ). record { link_type = k; snapshot_length = a.snapshot_length; resolution = a.resolution; offset = a.offset }) p
    ∙ ap (λ (k : ℕ). record { link_type = b.link_type; snapshot_length = k; resolution = a.resolution; offset = a.offset }) q
    ∙ ap (λ (k : ℕ). record { link_type = b.link_type; snapshot_length = b.snapshot_length; resolution = k; offset = a.offset }) r
    ∙ ap (λ (k : ℕ). record { link_type = b.link_type; snapshot_length = b.snapshot_length; resolution = b.resolution; offset = k }) s

-- octets that describe an interface are read as it
pub spelled_interface : (order : OctetOrder) (i : Interface) (body : List ℕ) → IsInterface order i body → interface_in order body ≡ Some i
spelled_interface order i body h =
    let plain = plain_interface (number_at order 2 h.head 0) (number_at order 4 h.head 4) in
    ap (interface_in order) h.parts ∙ sym (interface_read order h.head h.rest h.head_size)
    ∙ options_spelled order h.options h.rest plain h.are_options h.lengths
    ∙ ap Some (same_interface (after_options order h.options plain) i (links order h.options plain ∙ h.link_type) (snapshots order h.options plain ∙ h.snapshot_length)
    (resolutions order h.options plain None refl ∙ h.resolution) (offsets order h.options plain None refl ∙ h.offset))

some_or : (b : Bool) (r : Option Interface) (i : Interface) → (if b then None else r) ≡ Some i → (b ≡ false) × (r ≡ Some i)
some_or true r i e = cc
some_or false r i e = (refl, e)

-- what is read as the description of an interface is one
pub read_interface : (order : OctetOrder) (i : Interface) (body : List ℕ) → interface_in order body ≡ Some i → IsInterface order i body
read_interface order i body e =
    let plain = plain_interface (number_at order 2 body 0) (number_at order 4 body 4) in
    let t = some_or (ltb (length body) 8) (options_in order (drop 8 body) plain) i e in
    let long = t.0 in
    let eight : 8 ≤ length body = grind (arith, nat_tests, long) in
    let o = options_read order (length (drop 8 body)) (drop 8 body) plain i (omega arith) t.1 in
    record {
      head = take 8 body;
      rest = drop 8 body;
      parts = sym (take-append-drop 8 body);
      head_size = length-take-le 8 body eight;
      link_type = number_taken order 2 0 8 body (omega arith) eight ∙ sym (ap (λ (k : Interface). k.link_type) o.3 ∙ links order o.0 plain);
      snapshot_length = number_taken order 4 4 8 body (omega arith) eight ∙ sym (ap (λ (k : Interface). k.snapshot_length) o.3 ∙ snapshots order o.0 plain);
      options = o.0;
      are_options = o.1;
      lengths = o.2;
      resolution = sym (ap (λ (k : Interface). k.resolution) o.3 ∙ resolutions order o.0 plain None refl);
      offset = sym (ap (λ (k : Interface). k.offset) o.3 ∙ offsets order o.0 plain None refl);
    }
