-- Members in which no float stands have one text alone as an array, and have that.
use Rattle.std.proofs.Common.{◌≡◌, ℕ, Bool, true, false, List, [], ◌∷◌, refl, ap, ◌∙◌}
use Rattle.std.specs.Prelude.{◌&&◌, codes}
use Rattle.mms_data.specs.Data.{Simple, boolean, bits, integer, unsigned, floating, octets, visible, binary_time, mms_text, utc, Data, simple, array, structure, Items, no_items, item, items_of}
use Rattle.object_core.specs.MemberObject.{AreItems, AreMembers, IsMember, IsSimple, one_field}
use Rattle.object_core.specs.Objects as objects
use Rattle.frame_engines.specs.computed.SettledMembers.{are_settled, is_settled, item_objects, items_are_settled, member_object, settled_array, simple_is_settled, simple_object}

first_true : (a b : Bool) → (a && b) ≡ true → a ≡ true
first_true true b e = refl
first_true false b e = absurd (cc)

second_true : (a b : Bool) → (a && b) ≡ true → b ≡ true
second_true true b e = e
second_true false b e = absurd (cc)

simple_has : (s : Simple) → simple_is_settled s ≡ true → IsSimple s (simple_object s)
simple_has (boolean b) e = refl
simple_has (bits unused os) e = refl
simple_has (integer z) e = refl
simple_has (unsigned n) e = refl
simple_has (floating os) e = absurd (cc)
simple_has (octets os) e = refl
simple_has (binary_time os) e = refl
simple_has (mms_text os) e = refl
simple_has (utc t) e = refl
simple_has (visible os) e = refl

simple_only : (s : Simple) (text : List ℕ) → simple_is_settled s ≡ true → IsSimple s text → text ≡ simple_object s
simple_only (boolean b) text e is = is
simple_only (bits unused os) text e is = is
simple_only (integer z) text e is = is
simple_only (unsigned n) text e is = is
simple_only (floating os) text e is = absurd (cc)
simple_only (octets os) text e is = is
simple_only (binary_time os) text e is = is
simple_only (mms_text os) text e is = is
simple_only (utc t) text e is = is
simple_only (visible os) text e is = is

mutual
  member_has : (d : Data) → is_settled d ≡ true → IsMember d (member_object d)
  member_has (simple s) e = simple_has s e
  member_has (array ds) e = (item_objects ds, refl, items_have ds e)
  member_has (structure ds) e = (item_objects ds, refl, items_have ds e)

  items_have : (ds : Items) → items_are_settled ds ≡ true → AreItems ds (item_objects ds)
  items_have no_items e = tt
  items_have (item d ds) e = (member_has d (first_true _ _ e), items_have ds (second_true _ _ e))

mutual
  member_only : (d : Data) (text : List ℕ) → is_settled d ≡ true → IsMember d text → text ≡ member_object d
  member_only (simple s) text e is = simple_only s text e is
  member_only (array ds) text e is = is.1 ∙ ap (λ (ts : List (List ℕ)). one_field (codes "array") (objects.array ts)) (items_only ds is.0 e is.2)
  member_only (structure ds) text e is = is.1 ∙ ap (λ (ts : List (List ℕ)). one_field (codes "structure") (objects.array ts)) (items_only ds is.0 e is.2)

  items_only : (ds : Items) (texts : List (List ℕ)) → items_are_settled ds ≡ true → AreItems ds texts → texts ≡ item_objects ds
  items_only no_items [] e are = refl
  items_only no_items (text ∷ texts) e are = absurd are
  items_only (item d ds) [] e are = absurd are
  items_only (item d ds) (text ∷ texts) e are =
      let first : text ≡ member_object d = member_only d text (first_true _ _ e) are.0 in
      let others : texts ≡ item_objects ds = items_only ds texts (second_true _ _ e) are.1 in
      ap (λ (t : List ℕ). t ∷ texts) first ∙ ap (λ (ts : List (List ℕ)). member_object d ∷ ts) others

-- the array that settled members have
pub settled_has : (ds : List Data) → are_settled ds ≡ true → AreMembers ds (settled_array ds)
settled_has ds e = (item_objects (items_of ds), refl, items_have (items_of ds) e)

-- and no other
pub settled_only : (ds : List Data) (text : List ℕ) → are_settled ds ≡ true → AreMembers ds text → text ≡ settled_array ds
settled_only ds text e are = are.1 ∙ ap (λ (ts : List (List ℕ)). objects.array ts) (items_only (items_of ds) are.0 e are.2)
