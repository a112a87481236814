-- How two values are told apart: each is a tree of numbers of its own.
use Rattle.std.specs.Prelude.{◌≡◌, ℕ, zero, suc, pos, negsuc, true, false, List, [], ◌∷◌, refl}
use Rattle.std.specs.Coded.{Coded}
use Rattle.std.proofs.Common.{ap, ap₂, sym, ◌∙◌}
use base.Stored.{Gv, gnil, gnum, gcons, num}
use Rattle.mms_data.specs.Data.{Simple, boolean, bits, integer, unsigned, floating, octets, visible, binary_time, mms_text, utc, Data, simple, array, structure, Items, no_items, item}

-- a list of numbers as a tree, and back
abbrev numbers : List ℕ → Gv
numbers [] = gnil
numbers (n ∷ ns) = gcons (gnum n) (numbers ns)

abbrev numbers_back : Gv → List ℕ
numbers_back gnil = []
numbers_back (gnum n) = []
numbers_back (gcons g h) = num g ∷ numbers_back h

numbers_back-numbers : (ns : List ℕ) → numbers_back (numbers ns) ≡ ns
numbers_back-numbers [] = refl
numbers_back-numbers (n ∷ ns) = ap (λ (xs : List ℕ). n ∷ xs) (numbers_back-numbers ns)

-- a simple value as a number of its kind and a list, and back
abbrev kind_number : Simple → ℕ
kind_number (boolean b) = 0
kind_number (integer (pos n)) = 1
kind_number (integer (negsuc n)) = 2
kind_number (octets ns) = 3
kind_number (bits n ns) = 4
kind_number (unsigned n) = 5
kind_number (floating ns) = 6
kind_number (visible ns) = 7
kind_number (binary_time ns) = 8
kind_number (mms_text ns) = 9
kind_number (utc t) = 10

abbrev simple_numbers : Simple → List ℕ
simple_numbers (boolean true) = 0 ∷ []
simple_numbers (boolean false) = []
simple_numbers (integer (pos n)) = n ∷ []
simple_numbers (integer (negsuc n)) = n ∷ []
simple_numbers (octets ns) = ns
simple_numbers (bits n ns) = n ∷ ns
simple_numbers (unsigned n) = n ∷ []
simple_numbers (floating ns) = ns
simple_numbers (visible ns) = ns
simple_numbers (binary_time ns) = ns
simple_numbers (mms_text ns) = ns
simple_numbers (utc t) = t.seconds ∷ t.fraction ∷ t.quality ∷ []

abbrev simple_back : ℕ → List ℕ → Simple
simple_back zero (n ∷ []) = boolean true
simple_back (suc zero) (n ∷ []) = integer (pos n)
simple_back (suc (suc zero)) (n ∷ []) = integer (negsuc n)
simple_back (suc (suc (suc zero))) ns = octets ns
simple_back (suc (suc (suc (suc zero)))) (n ∷ ns) = bits n ns
simple_back (suc (suc (suc (suc (suc zero))))) (n ∷ []) = unsigned n
simple_back (suc (suc (suc (suc (suc (suc zero)))))) ns = floating ns
simple_back (suc (suc (suc (suc (suc (suc (suc zero))))))) ns = visible ns
simple_back (suc (suc (suc (suc (suc (suc (suc (suc zero)))))))) ns = binary_time ns
simple_back (suc (suc (suc (suc (suc (suc (suc (suc (suc zero))))))))) ns = mms_text ns
simple_back (suc (suc (suc (suc (suc (suc (suc (suc (suc (suc zero)))))))))) (a ∷ b ∷ c ∷ []) = utc (record { seconds = a; fraction = b; quality = c })
simple_back _ _ = boolean false

simple_back-simple : (s : Simple) → simple_back (kind_number s) (simple_numbers s) ≡ s
simple_back-simple (boolean true) = refl
simple_back-simple (boolean false) = refl
simple_back-simple (integer (pos n)) = refl
simple_back-simple (integer (negsuc n)) = refl
simple_back-simple (octets ns) = refl
simple_back-simple (bits n ns) = refl
simple_back-simple (unsigned n) = refl
simple_back-simple (floating ns) = refl
simple_back-simple (visible ns) = refl
simple_back-simple (binary_time ns) = refl
simple_back-simple (mms_text ns) = refl
simple_back-simple (utc t) = refl

-- a value as a tree, and back
abbrev mutual
  pub code_data : Data → Gv
  code_data (simple s) = gcons (gnum (kind_number s)) (numbers (simple_numbers s))
  code_data (array ds) = gcons gnil (code_items ds)
  code_data (structure ds) = gcons (gcons gnil gnil) (code_items ds)

  pub code_items : Items → Gv
  code_items no_items = gnil
  code_items (item d ds) = gcons (code_data d) (code_items ds)

abbrev mutual
  pub data_back : Gv → Data
  data_back gnil = simple (boolean false)
  data_back (gnum n) = simple (boolean false)
  data_back (gcons gnil g) = array (items_back g)
  data_back (gcons (gnum n) g) = simple (simple_back n (numbers_back g))
  data_back (gcons (gcons a b) g) = structure (items_back g)

  pub items_back : Gv → Items
  items_back gnil = no_items
  items_back (gnum n) = no_items
  items_back (gcons g h) = item (data_back g) (items_back h)

mutual
  pub data_back-code_data : (d : Data) → data_back (code_data d) ≡ d
  data_back-code_data (simple s) = ap (λ ns. simple (simple_back (kind_number s) ns)) (numbers_back-numbers (simple_numbers s)) ∙ ap simple (simple_back-simple s)
  data_back-code_data (array ds) = ap array (items_back-code_items ds)
  data_back-code_data (structure ds) = ap structure (items_back-code_items ds)

  pub items_back-code_items : (ds : Items) → items_back (code_items ds) ≡ ds
  items_back-code_items no_items = refl
  items_back-code_items (item d ds) = ap₂ item (data_back-code_data d) (items_back-code_items ds)

-- no two values have one tree
abbrev pub data_code : Coded Data
data_code = record { code = code_data; inj = λ x y p. sym (data_back-code_data x) ∙ ap data_back p ∙ data_back-code_data y }
