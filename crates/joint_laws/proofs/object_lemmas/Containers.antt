-- Arrays and objects of texts that are values of JSON.
use Rattle.std.proofs.Common.{◌≡◌, ℕ, suc, ◌≤◌, Bool, true, false, List, [], ◌∷◌, ◌++◌, map, ap, refl, sym, ◌∙◌, append_assoc, arith, fold, subst}
use Rattle.std.specs.Prelude.{flat_map}
use Rattle.std.specs.List.{concat}
use Rattle.json.specs.Token.{Token}
use Rattle.json.specs.Json.{Json, null, array, object, Items, no_items, item, Members, no_members, member}
use Rattle.json.specs.Print.{ends, escape, print, print_from}
use Rattle.json.specs.Strict.{AreDistinct, ItemsHaveUniqueKeys, MembersHaveUniqueKeys, keys}
use Rattle.json.specs.Tree.{ItemsHaveNumbers, MembersHaveNumbers, items_depth, items_tokens, json_tokens, members_depth, members_tokens}
use Rattle.json.proofs.Printed.Tokens.{print_from-append}
use Rattle.object_core.specs.MemberObject.{behind_comma}
use Rattle.object_core.specs.Objects as objects
use Rattle.object_core.specs.Objects.{Field, field_text}
use Rattle.object_core.specs.Onward.{next_field}
use Rattle.object_core.proofs.ObjectParts.{array_parts, object_parts}
use Rattle.joint_laws.proofs.object_lemmas.PlainTexts.{ArePlain, escape_plain}
use Rattle.joint_laws.proofs.object_lemmas.Signs.{AreSigns, plain_signs, signs_append}
use Rattle.joint_laws.proofs.object_lemmas.Values.{IsTextOf}

-- behind the tokens of a value a comma is wanted
abbrev after : Bool → List Token → Bool
after c ts = fold (λ _ t. ends t) c ts

after-append : (c : Bool) (ts us : List Token) → after c (ts ++ us) ≡ after (after c ts) us
after-append c [] us = refl
after-append c (t ∷ ts) us = after-append (ends t) ts us

mutual
  after_value : (j : Json) (c : Bool) → after c (json_tokens j) ≡ true
  after_value (array js) c = after_items js false
  after_value (object ms) c = after_members ms false
  after_value _ _ = refl

  after_items : (js : Items) (c : Bool) → after c (items_tokens js) ≡ true
  after_items no_items c = refl
  after_items (item j js) c = after-append c (json_tokens j) (items_tokens js) ∙ after_items js _

  after_members : (ms : Members) (c : Bool) → after c (members_tokens ms) ≡ true
  after_members no_members c = refl
  after_members (member k j ms) c = after-append false (json_tokens j) (members_tokens ms) ∙ after_members ms _

-- a value, where a comma is wanted
with_comma : (j : Json) → print_from true (json_tokens j) ≡ 44 ∷ print (json_tokens j)
unfolding print_from
with_comma null = refl
with_comma _ = refl

-- a value, and more tokens behind it
then_tokens : (j : Json) (ts : List Token) → print_from false (json_tokens j ++ ts) ≡ print (json_tokens j) ++ print_from true ts
then_tokens j ts = print_from-append false (json_tokens j) ts ∙ ap (λ c. print (json_tokens j) ++ print_from c ts) (after_value j false)

then_tokens_too : (j : Json) (ts : List Token) → print_from true (json_tokens j ++ ts) ≡ (44 ∷ print (json_tokens j)) ++ print_from true ts
then_tokens_too j ts =
    print_from-append true (json_tokens j) ts ∙ ap (λ c. print_from true (json_tokens j) ++ print_from c ts) (after_value j true) ∙ ap (λ (l : List ℕ). l ++ print_from true ts) (with_comma j)

-- ---- arrays
-- ---- arrays

-- each text is that of the value in its place
abbrev pub AreTextsOf : ℕ → Items → List (List ℕ) → Type 0
AreTextsOf n no_items [] = Unit {0}
AreTextsOf n (item j js) (text ∷ texts) = IsTextOf n j text × AreTextsOf n js texts
AreTextsOf _ _ _ = ⊥

more_items : (n : ℕ) (js : Items) (texts : List (List ℕ)) → AreTextsOf n js texts → print_from true (items_tokens js) ≡ flat_map behind_comma texts ++ 93 ∷ []
unfolding print_from
more_items n no_items [] vs = refl
more_items n (item j js) (text ∷ texts) vs =
    then_tokens_too j (items_tokens js)
    ∙ ap (λ (l : List ℕ). (44 ∷ print (json_tokens j)) ++ l) (more_items n js texts vs.1)
    ∙ ap (λ (l : List ℕ). (44 ∷ l) ++ (flat_map behind_comma texts ++ 93 ∷ [])) vs.0.printed
    ∙ sym (append_assoc (44 ∷ text) (flat_map behind_comma texts) (93 ∷ []))
more_items _ _ _ vs = absurd vs

array_printed : (n : ℕ) (js : Items) (texts : List (List ℕ)) → AreTextsOf n js texts → print (json_tokens (array js)) ≡ objects.array texts
unfolding print_from
array_printed n no_items [] vs = refl
array_printed n (item j js) (text ∷ texts) vs =
    ap (λ (l : List ℕ). 91 ∷ l) (then_tokens j (items_tokens js)
    ∙ ap (λ (l : List ℕ). print (json_tokens j) ++ l) (more_items n js texts vs.1)
    ∙ ap (λ (l : List ℕ). l ++ (flat_map behind_comma texts ++ 93 ∷ [])) vs.0.printed)
    ∙ sym (append_assoc (91 ∷ text) (flat_map behind_comma texts) (93 ∷ []))
    ∙ sym (array_parts text texts)
array_printed _ _ _ vs = absurd vs

items_good : (n : ℕ) (js : Items) (texts : List (List ℕ)) → AreTextsOf n js texts → ItemsHaveNumbers js × ItemsHaveUniqueKeys js × (items_depth js ≤ n) × AreSigns (flat_map behind_comma texts)
items_good n no_items [] vs = (tt, tt, omega arith, tt)
items_good n (item j js) (text ∷ texts) vs =
    let rest = items_good n js texts vs.1 in
    ((vs.0.numbers, rest.0), (vs.0.unique, rest.1), omega (arith, vs.0.nests, rest.2), (omega arith, signs_append text (flat_map behind_comma texts) vs.0.signs rest.3))
items_good _ _ _ vs = absurd vs

array_signs : (n : ℕ) (js : Items) (texts : List (List ℕ)) → AreTextsOf n js texts → AreSigns (objects.array texts)
array_signs n js [] vs = (omega arith, (omega arith, tt))
array_signs n no_items (text ∷ texts) vs = absurd vs
array_signs n (item j js) (text ∷ texts) vs =
    let others = (items_good n js texts vs.1).3 in
    let end : AreSigns (93 ∷ []) = (omega arith, tt) in
    subst AreSigns (sym (array_parts text texts)) (omega arith, signs_append (text ++ flat_map behind_comma texts) (93 ∷ []) (signs_append text (flat_map behind_comma texts) vs.0.signs others) end)

pub array_is : (n : ℕ) (js : Items) (texts : List (List ℕ)) → AreTextsOf n js texts → IsTextOf (suc n) (array js) (objects.array texts)
array_is n js texts vs =
    let good = items_good n js texts vs in
    record { printed = array_printed n js texts vs; numbers = good.0; unique = good.1; nests = omega (arith, good.2); signs = array_signs n js texts vs }

-- ---- objects

-- a name of which nothing is escaped, and a text of a value
pub record Named (n : ℕ) : Type 0 where
  pub name : List ℕ
  pub text : List ℕ
  pub json : Json
  pub is_plain : ArePlain name
  pub is_text : IsTextOf n json text

abbrev pub names_of : {n : ℕ} → List (Named n) → List (List ℕ)
names_of [] = []
names_of (v ∷ vs) = v.name ∷ names_of vs

-- their names and texts
abbrev pub fields_of : {n : ℕ} → List (Named n) → List Field
fields_of [] = []
fields_of (v ∷ vs) = (v.name, v.text) ∷ fields_of vs

-- their names and values
abbrev pub members_of : {n : ℕ} → List (Named n) → Members
members_of [] = no_members
members_of (v ∷ vs) = member v.name v.json (members_of vs)

-- a name and its value
named : {n : ℕ} (v : Named n) (ts : List Token) → (34 ∷ (escape v.name ++ 34 ∷ []) ++ 58 ∷ []) ++ print_from false (json_tokens v.json ++ ts) ≡ field_text (v.name, v.text) ++ print_from true ts
named v ts =
    ap (λ (l : List ℕ). (34 ∷ (l ++ 34 ∷ []) ++ 58 ∷ []) ++ print_from false (json_tokens v.json ++ ts)) (escape_plain v.name v.is_plain)
    ∙ ap (λ (l : List ℕ). (34 ∷ (v.name ++ 34 ∷ []) ++ 58 ∷ []) ++ l) (then_tokens v.json ts ∙ ap (λ (l : List ℕ). l ++ print_from true ts) v.is_text.printed)
    ∙ simp append_assoc

more_members : {n : ℕ} (vs : List (Named n)) → print_from true (members_tokens (members_of vs)) ≡ concat (map next_field (fields_of vs) ++ (125 ∷ []) ∷ [])
unfolding print_from
more_members [] = refl
more_members (v ∷ vs) = ap (λ (l : List ℕ). 44 ∷ l) (named v (members_tokens (members_of vs))) ∙ ap (λ (l : List ℕ). next_field (v.name, v.text) ++ l) (more_members vs)

object_printed : {n : ℕ} (v : Named n) (vs : List (Named n)) → print (json_tokens (object (members_of (v ∷ vs)))) ≡ objects.object (fields_of (v ∷ vs))
unfolding print_from
object_printed v vs =
    ap (λ (l : List ℕ). 123 ∷ l) (named v (members_tokens (members_of vs))) ∙ ap (λ (l : List ℕ). (123 ∷ field_text (v.name, v.text)) ++ l) (more_members vs)
    ∙ sym (object_parts (v.name, v.text) (fields_of vs))

members_good : {n : ℕ} (vs : List (Named n))
    → MembersHaveNumbers (members_of vs) × MembersHaveUniqueKeys (members_of vs) × (members_depth (members_of vs) ≤ n) × (keys (members_of vs) ≡ names_of vs)
members_good [] = (tt, tt, omega arith, refl)
members_good (v ∷ vs) =
    let rest = members_good vs in
    ((v.is_text.numbers, rest.0), (v.is_text.unique, rest.1), omega (arith, v.is_text.nests, rest.2), ap (λ (l : List (List ℕ)). v.name ∷ l) rest.3)

field_signs : {n : ℕ} (v : Named n) → AreSigns (field_text (v.name, v.text))
field_signs v = (omega arith, signs_append v.name (34 ∷ 58 ∷ v.text) (plain_signs v.name v.is_plain) (omega arith, (omega arith, v.is_text.signs)))

fields_signs : {n : ℕ} (vs : List (Named n)) → AreSigns (concat (map next_field (fields_of vs) ++ (125 ∷ []) ∷ []))
fields_signs [] = (omega arith, tt)
fields_signs (v ∷ vs) = (omega arith, signs_append (field_text (v.name, v.text)) _ (field_signs v) (fields_signs vs))

object_signs : {n : ℕ} (v : Named n) (vs : List (Named n)) → AreSigns (objects.object (fields_of (v ∷ vs)))
object_signs v vs =
    subst AreSigns (sym (object_parts (v.name, v.text) (fields_of vs))) (omega arith, signs_append (field_text (v.name, v.text)) _ (field_signs v) (fields_signs vs))

pub object_is : (n : ℕ) (v : Named n) (vs : List (Named n)) → AreDistinct (names_of (v ∷ vs)) → IsTextOf (suc n) (object (members_of (v ∷ vs))) (objects.object (fields_of (v ∷ vs)))
object_is n v vs distinct =
    let good = members_good (v ∷ vs) in
    record { printed = object_printed v vs; numbers = good.0; unique = (subst AreDistinct (sym good.3) distinct, good.1); nests = omega (arith, good.2); signs = object_signs v vs }
