-- What octets spell has a spelling in the sense of the test: nothing is read that could not be written.
use Rattle.std.proofs.Common.{◌≡◌, ℕ, zero, suc, ◌+◌, ◌-◌, ◌*◌, ◌/◌, ◌%◌, ◌^◌, ◌<◌, List, [], ◌∷◌, ◌++◌, refl, sym, ap, subst, ◌∙◌, arith}
use Rattle.std.proofs.Math.Nat.{mul-mod_right, one-le-pow}
use Rattle.ber_core.specs.Element.{Elem}
use Rattle.ber_core.specs.Length.{AreOctets, number}
use Rattle.ber_core.proofs.Shortest.{number_small}
use Rattle.mms_data.specs.Contents.{IsUnused, SpellsSimple, cleared}
use Rattle.mms_data.specs.Data.{Simple, boolean, bits, integer, unsigned, floating, octets, visible, binary_time, mms_text, utc, Data, simple, array, structure, Items, no_items, item}
use Rattle.mms_data.specs.Spellable.{IsSpellableSimple, IsSpellableAt, ItemsAreSpellable}
use Rattle.mms_data.specs.Spelling.{Spells, SpellsItems}

-- ---- parts of octets are octets

pub front_octets : (a b : List ℕ) → AreOctets (a ++ b) → AreOctets a
front_octets [] b h i = let small : 0 < 256 = omega arith in small
front_octets (x ∷ a) b h zero = h zero
front_octets (x ∷ a) b h (suc i) = front_octets a b (λ j. h (suc j)) i

pub back_octets : (a b : List ℕ) → AreOctets (a ++ b) → AreOctets b
back_octets [] b h = h
back_octets (x ∷ a) b h = back_octets a b (λ j. h (suc j))

-- the contents of an element
pub contents_octets : (id : ℕ) (c o : List ℕ) → AreOctets o → Elem id c o → AreOctets c
contents_octets id c o h e = back_octets (id ∷ e.size) c (subst AreOctets e.parts h)

-- ---- unused bits that were set to 0 are 0

multiple : (x m : ℕ) → 0 < m → (x - x % m) % m ≡ 0
multiple x m some = let times : x - x % m ≡ m * (x / m) = omega arith in ap (λ (y : ℕ). y % m) times ∙ mul-mod_right m (x / m)

cleared_unused : (u : ℕ) (o : List ℕ) → IsUnused u o → IsUnused u (cleared u o)
cleared_unused u [] h = h
cleared_unused u (last ∷ []) h = h
cleared_unused u (first ∷ next ∷ more) h = h

cleared_again : (u : ℕ) (o : List ℕ) → cleared u (cleared u o) ≡ cleared u o
cleared_again u [] = refl
cleared_again u (last ∷ []) =
    let kept = last - last % 2 ^ u in
    let none : kept % 2 ^ u ≡ 0 = multiple last (2 ^ u) (one-le-pow u 2 (omega arith)) in
    let same : kept - kept % 2 ^ u ≡ kept = omega (arith, none) in
    ap (λ (x : ℕ). x ∷ []) same
cleared_again u (first ∷ last ∷ []) = ap (λ (x : List ℕ). first ∷ x) (cleared_again u (last ∷ []))
cleared_again u (first ∷ next ∷ third ∷ more) = ap (λ (x : List ℕ). first ∷ x) (cleared_again u (next ∷ third ∷ more))

-- ---- a value, by its kind

pub simple_spellable : (s : Simple) (c : List ℕ) → AreOctets c → SpellsSimple s c → IsSpellableSimple s
simple_spellable (boolean b) c h s = tt
simple_spellable (bits unused ns) [] h s = absurd s
simple_spellable (bits unused ns) (count ∷ more) h (same, fits, is) =
    let at : ns ≡ cleared unused more = is ∙ ap (λ (u : ℕ). cleared u more) same in
    let fit : IsUnused unused more = subst (λ (u : ℕ). IsUnused u more) same fits in
    (subst (IsUnused unused) (sym at) (cleared_unused unused more fit), ap (cleared unused) at ∙ cleared_again unused more ∙ sym at)
simple_spellable (integer n) c h s = (s.0, s.1)
simple_spellable (unsigned n) c h s = (s.0, s.1)
simple_spellable (floating ns) c h s = s.1
simple_spellable (octets ns) c h s = tt
simple_spellable (visible ns) c h s = s.1
simple_spellable (binary_time ns) c h s = s.1
simple_spellable (mms_text ns) c h s = tt
simple_spellable (utc t) c h (seconds, fraction, four, three, first, second, parts) =
    let all : AreOctets (seconds ++ (fraction ++ t.quality ∷ [])) = subst AreOctets parts h in
    let rest = back_octets seconds (fraction ++ t.quality ∷ []) all in
    let whole = number_small seconds (front_octets seconds (fraction ++ t.quality ∷ []) all) in
    let part = number_small fraction (front_octets fraction (t.quality ∷ []) rest) in
    let last : t.quality < 256 = back_octets fraction (t.quality ∷ []) rest zero in
    let s : number seconds < 256 ^ 4 = subst (λ (n : ℕ). number seconds < 256 ^ n) four whole in
    let f : number fraction < 256 ^ 3 = subst (λ (n : ℕ). number fraction < 256 ^ n) three part in
    (omega (arith, s, first), omega (arith, f, second), last)

-- ---- values, nested

mutual
  pub value_spellable : (d : Data) (L : ℕ) (o : List ℕ) → AreOctets o → Spells d L o → IsSpellableAt d L
  value_spellable (simple s) L o h (low, c, elem, spelled) = (low, simple_spellable s c (contents_octets _ c o h elem) spelled)
  value_spellable (array ds) L o h (low, c, elem, spelled) = (low, items_spellable ds (L + 1) c (contents_octets 161 c o h elem) spelled)
  value_spellable (structure ds) L o h (low, c, elem, spelled) = (low, items_spellable ds (L + 1) c (contents_octets 162 c o h elem) spelled)

  pub items_spellable : (ds : Items) (L : ℕ) (o : List ℕ) → AreOctets o → SpellsItems ds L o → ItemsAreSpellable ds L
  items_spellable no_items L o h s = tt
  items_spellable (item d ds) L o h (first, rest, spelled, more, parts) =
      let all : AreOctets (first ++ rest) = subst AreOctets parts h in
      (value_spellable d L first (front_octets first rest all) spelled, items_spellable ds L rest (back_octets first rest all) more)
