-- Where the parts of a written form stand: what stands at the front of one is told by itself.
use Rattle.std.proofs.Common.{◌≡◌, ℕ, ◌+◌, ◌<◌, ◌^◌, List, [], ◌∷◌, ◌++◌, length, take, drop, Option, Some, None, sym, ap, ◌∙◌, append_assoc, arith, inl, inr}
use Rattle.std.proofs.lemmas.List.{length-append}
use Rattle.std.proofs.Math.Seq.{take-append_seam, drop-append_seam}
use Rattle.ber_core.specs.Fields.{AbsenceMeans, Field, Presence, SpellsField, SpellsFields, always, optional, default, filled, left_out}
use Rattle.ber_core.specs.Length.{Len, number}
use Rattle.ber_core.specs.Written.{short_length, written_element}
use Rattle.ber_core.proofs.Shortest.{length_shortest}
use Rattle.mms_data.proofs.Sizes.{element_size}
use Rattle.pdu_core.specs.Contents.{Kind, Item, contents_grammar}
use Rattle.pdu_core.specs.Written.{written_field, written_fields, written_item}

-- lists that are the same where they are joined at the same place
pub apart : (a b r s : List ℕ) → length a ≡ length b → a ++ r ≡ b ++ s → (a ≡ b) × (r ≡ s)
apart a b r s size same = (
  sym (take-append_seam a r) ∙ ap (take (length a)) same ∙ ap (λ (k : ℕ). take k (b ++ s)) size ∙ take-append_seam b s,
  sym (drop-append_seam a r) ∙ ap (drop (length a)) same ∙ ap (λ (k : ℕ). drop k (b ++ s)) size ∙ drop-append_seam b s,
)

heads : (x y : ℕ) (xs ys : List ℕ) → ◌≡◌ {A = List ℕ} (x ∷ xs) (y ∷ ys) → (x ≡ y) × (xs ≡ ys)
heads x y xs ys e = (cc, cc)

-- a length says how far it reaches
length_apart : (n m : ℕ) (a b r s : List ℕ) → Len n a → Len m b → a ++ r ≡ b ++ s → (n ≡ m) × (a ≡ b) × (r ≡ s)
length_apart n m [] b r s p q same = absurd p
length_apart n m (x ∷ a) [] r s p q same = absurd q
length_apart n m (x ∷ a) (y ∷ b) r s (inl p) (inl q) same =
    let h = heads x y (a ++ r) (b ++ s) same in
    let both = apart a b r s (ap length p.0 ∙ sym (ap length q.0)) h.1 in
    (sym p.1 ∙ h.0 ∙ q.1, (let tail = both.0 in let head = h.0 in cc), both.1)
length_apart n m (x ∷ a) (y ∷ b) r s (inl p) (inr q) same =
    let h = heads x y (a ++ r) (b ++ s) same in absurd (omega (arith, h.0, p.1, p.2, q.0))
length_apart n m (x ∷ a) (y ∷ b) r s (inr p) (inl q) same =
    let h = heads x y (a ++ r) (b ++ s) same in absurd (omega (arith, h.0, q.1, q.2, p.0))
length_apart n m (x ∷ a) (y ∷ b) r s (inr p) (inr q) same =
    let h = heads x y (a ++ r) (b ++ s) same in
    let both = apart a b r s (omega (arith, h.0, p.0, q.0)) h.1 in
    (sym p.3 ∙ ap number both.0 ∙ q.3, (let tail = both.0 in let head = h.0 in cc), both.1)

-- an element at the front of what begins with a written one
pub record Apart (size c w r s : List ℕ) : Type 0 where
  pub sized : size ≡ short_length (length c)
  pub contents : c ≡ w
  pub rest : r ≡ s

pub element_apart : (id there : ℕ) (size c w r s : List ℕ) → Len (length c) size → length w < 2 ^ 32 → (there ∷ size ++ c) ++ r ≡ written_element id w ++ s → Apart size c w r s
unfolding written_element
element_apart id there size c w r s sized small same =
    let h = heads there id ((size ++ c) ++ r) ((short_length (length w) ++ w) ++ s) same in
    let tails : size ++ (c ++ r) ≡ short_length (length w) ++ (w ++ s) = sym (append_assoc size c r) ∙ h.1 ∙ append_assoc (short_length (length w)) w s in
    let l = length_apart (length c) (length w) size (short_length (length w)) (c ++ r) (w ++ s) sized (length_shortest (length w) small).spells tails in
    let both = apart c w r s l.0 l.2 in
    record { sized = l.1 ∙ ap short_length (sym l.0); contents = both.0; rest = both.1 }

as_written : (id : ℕ) (size c w r s : List ℕ) → Apart size c w r s → id ∷ size ++ c ≡ written_element id w
unfolding written_element
as_written id size c w r s p = ap (λ (z : List ℕ). id ∷ z ++ c) p.sized ∙ ap (λ (z : List ℕ). id ∷ short_length (length z) ++ z) p.contents

-- no field is one with a default
abbrev pub HasNone : Presence Item → Type 0
HasNone always = Unit {0}
HasNone optional = Unit {0}
HasNone (default d) = ⊥

abbrev pub HaveNone : List (Field Kind Item) → Type 0
HaveNone [] = Unit {0}
HaveNone (g ∷ gs) = HasNone g.presence × HaveNone gs

not_there : (x : Item) → ◌≡◌ {A = Option Item} None (Some x) → ⊥
not_there x e = cc

not_absent : (q : Presence Item) (x : Item) → HasNone q → AbsenceMeans q (Some x) → ⊥
not_absent always x none means = means
not_absent optional x none means = cc
not_absent (default d) x none means = none

-- a field at the front of what begins with its written form
field_apart : (g : Field Kind Item) (v : Option Item) (a r s : List ℕ) → HasNone g.presence → SpellsField contents_grammar g v a → length (written_field g.identifier v) < 2 ^ 32
    → a ++ r ≡ written_field g.identifier v ++ s → (a ≡ written_field g.identifier v) × (r ≡ s)
field_apart g None a r s none (filled x c is elem spelled) small same = absurd (not_there x is)
field_apart g None a r s none (left_out means is) small same = (is, sym (ap (λ (z : List ℕ). z ++ r) is) ∙ same)
field_apart g (Some y) a r s none (filled x c is elem spelled) small same =
    let w = written_item y in
    let few : length w < 2 ^ 32 = omega (arith, small, element_size g.identifier w) in
    let parts = element_apart g.identifier g.identifier elem.size c w r s elem.sized few (sym (ap (λ (z : List ℕ). z ++ r) elem.parts) ∙ same) in
    (elem.parts ∙ as_written g.identifier elem.size c w r s parts, parts.rest)
field_apart g (Some y) a r s none (left_out means is) small same = absurd (not_absent g.presence y none means)

-- and some fields
pub fields_apart : (gs hs : List (Field Kind Item)) (vs ws : List (Option Item)) (a r : List ℕ) → HaveNone gs → SpellsFields contents_grammar gs vs a → length (written_fields (gs ++ hs) (vs ++ ws)) < 2 ^ 32
    → a ++ r ≡ written_fields (gs ++ hs) (vs ++ ws) → (a ≡ written_fields gs vs) × (r ≡ written_fields hs ws)
fields_apart [] hs [] ws a r none spelled small same = (spelled, sym (ap (λ (z : List ℕ). z ++ r) spelled) ∙ same)
fields_apart [] hs (v ∷ vs) ws a r none spelled small same = absurd spelled
fields_apart (g ∷ gs) hs [] ws a r none spelled small same = absurd spelled
fields_apart (g ∷ gs) hs (v ∷ vs) ws a r none (x, y, first, more, parts) small same =
    let w = written_field g.identifier v in
    let rest = written_fields (gs ++ hs) (vs ++ ws) in
    let size : length (w ++ rest) ≡ length w + length rest = length-append w rest in
    let here = field_apart g v x (y ++ r) rest none.0 first (omega (arith, size, small)) (sym (append_assoc x y r) ∙ sym (ap (λ (z : List ℕ). z ++ r) parts) ∙ same) in
    let behind = fields_apart gs hs vs ws y r none.1 more (omega (arith, size, small)) here.1 in
    (parts ∙ ap (λ (z : List ℕ). z ++ y) here.0 ∙ ap (λ (z : List ℕ). w ++ z) behind.0, behind.1)
