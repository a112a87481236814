-- A tag is taken out exactly where one is computed, and what is left then is one.
use Rattle.std.proofs.Common.{◌≡◌, ◌⊎◌, ◌∙◌, ℕ, Bool, true, false, List, Option, Some, None, inl, inr, refl, sym, ap}
use Rattle.std.specs.Prelude.{◌==◌, ◌||◌, option_map, if◌then◌else◌}
use Rattle.std.proofs.lemmas.Bool.{and_from, and_parts, eq-eqb, eqb-true, le-leb, leb-true, or_cases}
use Rattle.frame_core.specs.Envelope.{word_at}
use Rattle.unwrap_core.specs.Tags.{HsrTagAt, VlanTagAt, without}
use Rattle.unwrap_core.specs.Unwrapped.{TakesOut, hsr_tag, hsr_tag_behind, is_hsr_tag_at, is_vlan_tag_at, outer_tag, tag_behind, tag_in, tag_out}

-- ---- what stands at a place

pub hsr_there : (p : ℕ) (o : List ℕ) → is_hsr_tag_at p o ≡ true → HsrTagAt p o
hsr_there p o e = let parts = and_parts _ _ e in (eqb-true _ _ parts.0, leb-true _ _ parts.1)

hsr_found : (p : ℕ) (o : List ℕ) → HsrTagAt p o → is_hsr_tag_at p o ≡ true
hsr_found p o h = and_from _ _ (eq-eqb _ _ h.0) (le-leb _ _ h.1)

vlan_word : (w : ℕ) → (w == 0x8100 || w == 0x88a8) ≡ true → (w ≡ 0x8100) ⊎ (w ≡ 0x88a8)
vlan_word w e = elim (or_cases (w == 0x8100) (w == 0x88a8) e) [ inl a ↦ inl (eqb-true w 0x8100 a) | inr b ↦ inr (eqb-true w 0x88a8 b) ]

pub vlan_there : (p : ℕ) (o : List ℕ) → is_vlan_tag_at p o ≡ true → VlanTagAt p o
vlan_there p o e = let parts = and_parts _ _ e in (vlan_word (word_at o p) parts.0, leb-true _ _ parts.1)

word_found : (w : ℕ) → (w ≡ 0x8100) ⊎ (w ≡ 0x88a8) → (w == 0x8100 || w == 0x88a8) ≡ true
word_found w (inl a) = rw a refl
word_found w (inr b) = rw b refl

vlan_found : (p : ℕ) (o : List ℕ) → VlanTagAt p o → is_vlan_tag_at p o ≡ true
vlan_found p o h = and_from _ _ (word_found (word_at o p) h.0) (le-leb _ _ h.1)

-- a VLAN tag is no HSR tag
word_is_other : (w : ℕ) → (w ≡ 0x8100) ⊎ (w ≡ 0x88a8) → (w == 0x892f) ≡ false
word_is_other w (inl a) = rw a refl
word_is_other w (inr b) = rw b refl

no_hsr : (p : ℕ) (o : List ℕ) → VlanTagAt p o → is_hsr_tag_at p o ≡ false
no_hsr p o h = let other = word_is_other (word_at o p) h.0 in rw other refl

-- ---- what is taken out

out_where : (o : List ℕ) (t : ℕ × ℕ) (p : List ℕ) → tag_in o ≡ Some t → p ≡ without t.0 t.1 o → tag_out o ≡ Some p
out_where o t p found is = ap (option_map (λ (t : ℕ × ℕ). without t.0 t.1 o)) found ∙ ap (λ (x : List ℕ). Some x) (sym is)

pub taken_is : (o p : List ℕ) → TakesOut o p → tag_out o ≡ Some p
taken_is o p (hsr_tag there is) = let found = hsr_found 12 o there in out_where o (12, 6) p (rw found refl) is
taken_is o p (hsr_tag_behind vlan there is) =
    let none = no_hsr 12 o vlan in
    let before = vlan_found 12 o vlan in
    let found = hsr_found 16 o there in
    out_where o (16, 6) p (rw none (rw before (rw found refl))) is
taken_is o p (outer_tag outer inner is) =
    let none = no_hsr 12 o outer in
    let before = vlan_found 12 o outer in
    let no_ring = no_hsr 16 o inner in
    let found = vlan_found 16 o inner in
    out_where o (12, 4) p (rw none (rw before (rw no_ring (rw found refl)))) is

some_is : {X : Type 0} (x y : X) → ◌≡◌ {A = Option X} (Some x) (Some y) → y ≡ x
some_is x y e = cc

-- the cases of what is computed
behind_is : (o p : List ℕ) → VlanTagAt 12 o → option_map (λ (t : ℕ × ℕ). without t.0 t.1 o) (tag_behind o) ≡ Some p → TakesOut o p
behind_is o p vlan e = go (is_hsr_tag_at 16 o) (is_vlan_tag_at 16 o) refl refl e
  where
    go : (h v : Bool) → is_hsr_tag_at 16 o ≡ h → is_vlan_tag_at 16 o ≡ v →
        option_map (λ (t : ℕ × ℕ). without t.0 t.1 o) (if h then Some (16, 6) else (if v then Some (12, 4) else None)) ≡ Some p → TakesOut o p
    go true v h_is v_is e = hsr_tag_behind vlan (hsr_there 16 o h_is) (some_is _ _ e)
    go false true h_is v_is e = outer_tag vlan (vlan_there 16 o v_is) (some_is _ _ e)
    go false false h_is v_is e = absurd (cc)

pub is_taken : (o p : List ℕ) → tag_out o ≡ Some p → TakesOut o p
is_taken o p e = go (is_hsr_tag_at 12 o) (is_vlan_tag_at 12 o) refl refl e
  where
    go : (h v : Bool) → is_hsr_tag_at 12 o ≡ h → is_vlan_tag_at 12 o ≡ v →
        option_map (λ (t : ℕ × ℕ). without t.0 t.1 o) (if h then Some (12, 6) else (if v then tag_behind o else None)) ≡ Some p → TakesOut o p
    go true v h_is v_is e = hsr_tag (hsr_there 12 o h_is) (some_is _ _ e)
    go false true h_is v_is e = behind_is o p (vlan_there 12 o v_is) e
    go false false h_is v_is e = absurd (cc)
