-- Names in order, and the blocks that they name.
use Rattle.std.proofs.Common.{◌≡◌, ◌⊎◌, ℕ, Option, zero, suc, ◌+◌, ◌<◌, Some, None, List, [], ◌∷◌, ◌++◌, length, position, slice_get, get_or, sym, ap, ◌∙◌, arith, subst, refl, inl, inr}
use Rattle.std.proofs.lemmas.Bool.{cases_lt, false_from_ne_true, lt-ltb, le-ltb}
use Rattle.std.proofs.lemmas.Option.{slice_get-get_or, slice_get_within, get_or_from_slice_get, none-some, same_Some}
use Rattle.std.proofs.lemmas.List.{get_or_append_left, length_push}
use Rattle.std.proofs.lemmas.List.Elements.{Contains-push_cases, Contains-append_left, Contains-push, All-contains}
use Rattle.std.proofs.lemmas.List.Sorted.{Contains-permutation, IsPermutation-sym}
use Rattle.std.proofs.lemmas.List.Sums.{position_or_len_is}
use Rattle.std.specs.Prelude.{MatchOption}
use Rattle.std.specs.List.{position_or_len, All}
use Rattle.std.proofs.lemmas.Cmp.{nat_cmp_total, then_total, on_total, nat_list_cmp_total, tied_itself}
use Rattle.std.proofs.lemmas.Map.Lookups.{exact_pairs, exact_unsigned, exact_bytes}
use Rattle.std.specs.Cmp.{IsTotalOrder}
use Rattle.std.specs.Cmp.Lexicographic.{slice_cmp}
use Rattle.std.specs.Ordering.{nat_cmp}
use Rattle.std.specs.declared.cmp.Ordering.TheVariants.{Less, Equal, Greater}
use Rattle.std.specs.List.Sorted.{IsPermutation, IsPartitionPoint}
use Rattle.block_core.specs.declared.block.Block.{Block}
use Rattle.subscribe_core.specs.EventsRead.{FrameRead}
use Rattle.subscribe_core.specs.declared.names.Name.{Name}
use Rattle.subscribe_core.specs.Matching.{is_of}
use Rattle.subscribe_core.specs.Apart.{AreApart}
use Rattle.subscribe_core.proofs.BlockNames.{is_of_key, key_is_of}
use Rattle.subscribe_core.specs.computed.Names.{key_cmp, key_of, block_key, HasName, AreNamesOf}

pub key_total : IsTotalOrder key_cmp
key_total = then_total (on_total (λ (p : ℕ × List ℕ). p.0) nat_cmp_total) (on_total (λ (p : ℕ × List ℕ). p.1) nat_list_cmp_total)

pub key_exact : (x y : ℕ × List ℕ) → key_cmp x y ≡ Equal → x ≡ y
key_exact x y e = exact_pairs nat_cmp (slice_cmp nat_cmp) exact_unsigned exact_bytes x y e

pub slice_get_front : {A : Type 0} → (blocks : List (Block A)) (b : Block A) (i : ℕ) (x : Block A) → slice_get blocks i ≡ Some x → slice_get (blocks ++ b ∷ []) i ≡ Some x
slice_get_front {A} blocks b i x e =
    let lt : i < length blocks = slice_get_within blocks i x e in
    let more : length (blocks ++ b ∷ []) ≡ length blocks + 1 = length_push blocks b in
    slice_get-get_or (blocks ++ b ∷ []) i b (omega arith)
    ∙ ap (λ (y : Block A). Some y) (get_or_append_left blocks (b ∷ []) b i lt ∙ get_or_from_slice_get blocks i x b e)

pub slice_get_end : {A : Type 0} → (blocks : List (Block A)) (b : Block A) → slice_get (blocks ++ b ∷ []) (length blocks) ≡ Some b
slice_get_end {A} [] b = refl
slice_get_end {A} (x ∷ xs) b = slice_get_end xs b

pub slice_get_push_cases : {A : Type 0} → (blocks : List (Block A)) (b : Block A) (i : ℕ) (x : Block A) → slice_get (blocks ++ b ∷ []) i ≡ Some x
    → (slice_get blocks i ≡ Some x) ⊎ ((i ≡ length blocks) × (x ≡ b))
slice_get_push_cases {A} [] b zero x e = inr (refl, sym (same_Some b x e))
slice_get_push_cases {A} [] b (suc i) x e = absurd (none-some x e)
slice_get_push_cases {A} (y ∷ ys) b zero x e = inl e
slice_get_push_cases {A} (y ∷ ys) b (suc i) x e =
    elim (slice_get_push_cases ys b i x e) [ inl old ↦ inl old | inr last ↦ inr (ap suc last.0, last.1) ]

-- one more name of one more block
pub names_push : {A : Type 0} → (names : List (Name A)) (n : Name A) (blocks : List (Block A)) (b : Block A) → AreNamesOf names blocks → block_key b ≡ key_of n → n.position ≡ length blocks
    → AreNamesOf (names ++ n ∷ []) (blocks ++ b ∷ [])
names_push {A} names n blocks b all same at =
    record {
      sound = λ m c.
          elim (Contains-push_cases names n m c) [
            | inl old ↦
                let w = all.sound m old in
                (w.0, slice_get_front blocks b m.position w.0 w.1, w.2)
            | inr here ↦ (
              b,
              subst (λ (x : Name A). slice_get (blocks ++ b ∷ []) x.position ≡ Some b) here
                  (subst (λ (i : ℕ). slice_get (blocks ++ b ∷ []) i ≡ Some b) (sym at) (slice_get_end blocks b)),
              same ∙ ap key_of here,
            )
          ];
      whole = λ i x e.
          elim (slice_get_push_cases blocks b i x e) [
            | inl old ↦
                let w = all.whole i x old in
                (w.0, Contains-append_left names (n ∷ []) w.0 w.1, w.2, w.3)
            | inr last ↦
                (n, Contains-push names n, sym same ∙ ap block_key (sym last.1), at ∙ sym last.0)
          ];
    }

-- in another order
pub names_permuted : {A : Type 0} → (names names' : List (Name A)) (blocks : List (Block A)) → IsPermutation names names' → AreNamesOf names blocks → AreNamesOf names' blocks
names_permuted {A} names names' blocks p all =
    record {
      sound = λ n c. all.sound n (Contains-permutation names' names n (IsPermutation-sym names names' p) c);
      whole = λ at b e. let w = all.whole at b e in (w.0, Contains-permutation names names' w.0 p w.1, w.2, w.3);
    }

less_equal : Less ≡ Equal → ⊥
less_equal e = cc

greater_equal : Greater ≡ Equal → ⊥
greater_equal e = cc

-- between the lower and the higher there is none that is equal
pub not_found : {A : Type 0} → (names : List (Name A)) (key : ℕ × List ℕ) (i : ℕ)
    → IsPartitionPoint (λ n. key_cmp (key_of n) key ≡ Less) (λ n. key_cmp (key_of n) key ≡ Greater) names i
    → (k : ℕ) (d : Name A) → k < length names → key_of (get_or names k d) ≡ key → ⊥
not_found {A} names key i parts k d lt e =
    let same : key_cmp (key_of (get_or names k d)) key ≡ Equal = ap (λ (x : ℕ × List ℕ). key_cmp x key) e ∙ tied_itself key_total key in
    elim (cases_lt k i) [
      | inl below ↦ let less : key_cmp (key_of (get_or names k d)) key ≡ Less = parts.0 k d (omega arith) below in less_equal (sym less ∙ same)
      | inr above ↦ let more : key_cmp (key_of (get_or names k d)) key ≡ Greater = parts.1 k d above lt in greater_equal (sym more ∙ same)
    ]

name_key : {A : Type 0} → (b : Block A) (f : FrameRead) → (b.app_id ≡ f.app_id) × (b.gocb_ref ≡ f.pdu.gocb_ref) → block_key b ≡ (f.app_id, f.pdu.gocb_ref)
name_key b f e = cc (e.0, e.1)

-- the name that was found is that of the first block with this number and reference
pub found_at : {A : Type 0} → (names : List (Name A)) (blocks : List (Block A)) (f : FrameRead) (at : ℕ) → AreNamesOf names blocks → AreApart blocks
    → HasName names (f.app_id, f.pdu.gocb_ref) at → position (is_of f) blocks ≡ Some at
found_at {A} names blocks f at all apart w =
    let block = all.sound w.0 w.1 in
    let here : slice_get blocks at ≡ Some block.0 = subst (λ (i : ℕ). slice_get blocks i ≡ Some block.0) w.3 block.1 in
    let whole : block_key block.0 ≡ (f.app_id, f.pdu.gocb_ref) = block.2 ∙ w.2 in
    let number : block.0.app_id ≡ f.app_id = ap (λ (x : ℕ × List ℕ). x.0) whole in
    let octets : block.0.gocb_ref ≡ f.pdu.gocb_ref = ap (λ (x : ℕ × List ℕ). x.1) whole in
    let lt : at < length blocks = slice_get_within blocks at block.0 here in
    let first : position_or_len (is_of f) blocks ≡ at =
    position_or_len_is (is_of f) blocks at block.0 (omega arith)
    (λ k below. false_from_ne_true _ (λ yes.
    let same = is_of_key f (get_or blocks k block.0) yes in
    let e : k ≡ at = apart k at (get_or blocks k block.0) block.0 (slice_get-get_or blocks k block.0 (omega arith)) here
    (same.0 ∙ sym number, same.1 ∙ sym octets) in
    omega arith))
    (λ _. ap (is_of f) (get_or_from_slice_get blocks at block.0 block.0 here) ∙ key_is_of f block.0 number octets) in
    rw (first, lt-ltb at (length blocks) lt) refl

-- where no name has them, no block has
pub absent : {A : Type 0} → (names : List (Name A)) (blocks : List (Block A)) (f : FrameRead) → AreNamesOf names blocks
    → All (λ n. key_of n ≡ (f.app_id, f.pdu.gocb_ref) → ⊥) names → position (is_of f) blocks ≡ None
absent {A} names [] f all none = refl
absent {A} names (b ∷ bs) f all none =
    let blocks : List (Block A) = b ∷ bs in
    let last : position_or_len (is_of f) blocks ≡ length blocks =
    position_or_len_is (is_of f) blocks (length blocks) b (omega arith)
    (λ k below. false_from_ne_true _ (λ yes.
    let w = all.whole k (get_or blocks k b) (slice_get-get_or blocks k b below) in
    All-contains (λ n. key_of n ≡ (f.app_id, f.pdu.gocb_ref) → ⊥) names w.0 none w.1 (w.2 ∙ name_key (get_or blocks k b) f (is_of_key f (get_or blocks k b) yes))))
    (λ lt. absurd (omega arith)) in
    rw (last, le-ltb (length blocks) (length blocks) (omega arith)) refl

-- what is found is the position of the frame's block
pub position_is : {A : Type 0} → (names : List (Name A)) (blocks : List (Block A)) (f : FrameRead) (o : Option ℕ) → AreNamesOf names blocks → AreApart blocks
    → MatchOption o (All (λ n. key_of n ≡ (f.app_id, f.pdu.gocb_ref) → ⊥) names) (HasName names (f.app_id, f.pdu.gocb_ref)) → o ≡ position (is_of f) blocks
position_is {A} names blocks f None all apart w = sym (absent names blocks f all w)
position_is {A} names blocks f (Some at) all apart w = sym (found_at names blocks f at all apart w)
