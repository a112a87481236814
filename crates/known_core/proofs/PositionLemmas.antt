-- Positions of entries in the order of the entries' keys: what is found by them, and what one more leaves.
use Rattle.std.proofs.Common.{◌≡◌, ◌⊎◌, ℕ, zero, suc, ◌+◌, ◌-◌, ◌<◌, ◌≤◌, List, [], ◌∷◌, ◌++◌, length, get_or, ap, sym, ◌∙◌, refl, subst, arith, inl, inr}
use Rattle.std.specs.Cmp.{IsTotalOrder}
use Rattle.std.specs.List.{insert}
use Rattle.std.specs.Ordering.{ordering_index}
use Rattle.std.specs.declared.cmp.Ordering.{Ordering}
use Rattle.std.specs.declared.cmp.Ordering.TheVariants.{Less, Equal, Greater}
use Rattle.std.proofs.lemmas.Bool.{cases_lt}
use Rattle.std.proofs.lemmas.Cmp.{tied_itself}
use Rattle.std.proofs.lemmas.List.{get_or_append_left, length-append}
use Rattle.std.proofs.lemmas.List.Edits.{length-insert, get_or-insert_below, get_or-insert_at, get_or-insert_above}
use Rattle.known_core.specs.declared.runs.Runs.{Runs}
use Rattle.known_core.specs.declared.runs.Place.{Place}
use Rattle.known_core.specs.computed.Held.{HoldsSame, InOrderFor, IsAt, IsGap, PutsOne, held, position_of}
use Rattle.known_core.specs.computed.Order.{Ascends}
use Rattle.known_core.specs.computed.Positions.{AreInOrder, stands_at}
use Rattle.known_core.proofs.OrderLemmas.{ascends_insert, in_order_for, less_differs}

-- a position that is what is looked for is that of an entry, and so is this
pub found_entry : {E : Type 0} (by : E → Ordering) (entries : List E) (p : ℕ) → stands_at by entries p ≡ Equal → IsAt by entries p
found_entry by [] p e = cc
found_entry by (x ∷ xs) zero e = record { within = omega arith; is = λ d. e }
found_entry by (x ∷ xs) (suc p) e =
    let rest = found_entry by xs p e in
    let lt : p < length xs = rest.within in
    record { within = omega arith; is = λ d. rest.is d }

-- the position of an entry stands as that does
stands_there : {E : Type 0} (by : E → Ordering) (entries : List E) (p : ℕ) (d : E) → p < length entries → stands_at by entries p ≡ by (get_or entries p d)
stands_there by [] p d lt = absurd (omega arith)
stands_there by (x ∷ xs) zero d lt = refl
stands_there by (x ∷ xs) (suc p) d lt = stands_there by xs p d (omega arith)

-- one of some entries
pub one_of : {E : Type 0} (entries : List E) → 0 < length entries → E
one_of [] some = absurd (omega arith)
one_of (x ∷ xs) some = x

at_end : {E : Type 0} (entries : List E) (e d : E) → get_or (entries ++ e ∷ []) (length entries) d ≡ e
at_end [] e d = refl
at_end (x ∷ xs) e d = at_end xs e d

-- a number at each place is below a bound, also behind one more that is
each_below : (ns : List ℕ) (at n bound : ℕ) → at ≤ length ns → n < bound → ((i d : ℕ) → i < length ns → get_or ns i d < bound) → (i d : ℕ) → i < length (insert ns at n) → get_or (insert ns at n) i d < bound
each_below ns at n bound le lt each i d within =
    let size : length (insert ns at n) ≡ length ns + 1 = length-insert ns at n le in
    elim (cases_lt i at) [
      | inl below ↦ subst (λ (m : ℕ). m < bound) (sym (get_or-insert_below ns at n d i below le)) (each i d (omega arith))
      | inr from ↦
          elim (cases_lt at i) [
            | inr last ↦ subst (λ (m : ℕ). m < bound) (sym (ap (λ (j : ℕ). get_or (insert ns at n) j d) (same i from last) ∙ get_or-insert_at ns at n d le)) lt
            | inl above ↦
                subst (λ (m : ℕ). m < bound) (sym (ap (λ (j : ℕ). get_or (insert ns at n) j d) (up i above) ∙ get_or-insert_above ns at n d (i - 1) (omega arith) le)) (each (i - 1) d (omega arith))
          ]
    ]
  where
    same : (i : ℕ) → at ≤ i → i ≤ at → i ≡ at
    same i a b = omega arith

    up : (i : ℕ) → at < i → i ≡ i - 1 + 1
    up i l = omega arith

-- where a number stands behind one more
still_there : (ns : List ℕ) (at n p i : ℕ) → at ≤ length ns → i < length ns → ((d : ℕ) → get_or ns i d ≡ p) → (j : ℕ) × (j < length (insert ns at n)) × ((d : ℕ) → get_or (insert ns at n) j d ≡ p)
still_there ns at n p i le lt is =
    let size : length (insert ns at n) ≡ length ns + 1 = length-insert ns at n le in
    elim (cases_lt i at) [
      | inl below ↦ (i, omega arith, λ d. get_or-insert_below ns at n d i below le ∙ is d)
      | inr from ↦ (i + 1, omega arith, λ d. get_or-insert_above ns at n d i from le ∙ is d)
    ]

module _ {E K : Type 0} (cmp : K → K → Ordering) (total : IsTotalOrder cmp) (key : E → K) where
  module _ {A : Type 0} (entries : List E) (positions : Runs ℕ A) (are : AreInOrder cmp key entries positions) where
    -- positions stand in order for each key that is looked for
    pub positions_for : (k : K) → InOrderFor (stands_at (λ e. cmp (key e) k) entries) (held positions)
    positions_for k i j d le lt =
        let p = get_or (held positions) i d in
        let q = get_or (held positions) j d in
        let p_in : p < length entries = are.within i d (omega arith) in
        let q_in : q < length entries = are.within j d lt in
        let e = one_of entries (omega arith) in
        let by = λ (x : E). cmp (key x) k in
        let low : ordering_index (by (get_or entries p e)) ≤ ordering_index (by (get_or entries q e)) = in_order_for cmp total (λ n. key (get_or entries n e)) (held positions) (are.order e) k i j d le lt in
        subst (λ (o : Ordering). ordering_index o ≤ ordering_index (stands_at by entries q)) (sym (stands_there by entries p e p_in))
        (subst (λ (o : Ordering). ordering_index (by (get_or entries p e)) ≤ ordering_index o) (sym (stands_there by entries q e q_in)) low)

    -- no entry has a key whose gap is there
    pub none_has : (k : K) (at : ℕ) → IsGap (stands_at (λ e. cmp (key e) k) entries) (held positions) at → (p : ℕ) (d : E) → p < length entries → key (get_or entries p d) ≡ k → ⊥
    none_has k at gap p d lt e =
        let there = are.all p lt in
        let i = there.0 in
        let by = λ (x : E). cmp (key x) k in
        let equal : stands_at by entries (get_or (held positions) i p) ≡ Equal =
        ap (λ (n : ℕ). stands_at by entries n) (there.2 p) ∙ stands_there by entries p d lt ∙ ap (λ (x : K). cmp x k) e ∙ tied_itself total k in
        elim (cases_lt i at) [
          | inl below ↦ not_less (sym (gap.below i p below) ∙ equal)
          | inr above ↦ not_greater (sym (gap.above i p above there.1) ∙ equal)
        ]
      where
        not_less : Less ≡ Equal → ⊥
        not_less e = cc

        not_greater : Greater ≡ Equal → ⊥
        not_greater e = cc

    -- two entries have two keys
    pub keys_differ : (p q : ℕ) (d : E) → p < q → q < length entries → key (get_or entries p d) ≡ key (get_or entries q d) → ⊥
    keys_differ p q d lt within e =
        let first = are.all p (omega arith) in
        let second = are.all q within in
        let i = first.0 in
        let j = second.0 in
        let there = λ (n : ℕ). key (get_or entries n d) in
        elim (cases_lt i j) [
          | inl before ↦ less_differs cmp total _ _ (are.order d i j p before second.1) (ap there (first.2 p) ∙ e ∙ ap there (sym (second.2 p)))
          | inr from ↦
              elim (cases_lt j i) [
                | inl behind ↦ less_differs cmp total _ _ (are.order d j i p behind first.1) (ap there (second.2 p) ∙ sym e ∙ ap there (sym (first.2 p)))
                | inr last ↦ let same : p ≡ q = sym (first.2 p) ∙ ap (λ (n : ℕ). get_or (held positions) n p) (alike i j from last) ∙ second.2 p in omega arith
              ]
        ]
      where
        alike : (i j : ℕ) → j ≤ i → i ≤ j → i ≡ j
        alike i j a b = omega arith

    -- entries that are others, and have the same keys
    pub keys_kept : (others : List E) → length others ≡ length entries → ((p : ℕ) (d : E) → p < length entries → key (get_or others p d) ≡ key (get_or entries p d)) → AreInOrder cmp key others positions
    keys_kept others size same = record {
      compact = are.compact;
      within = λ i d lt. let below : get_or (held positions) i d < length entries = are.within i d lt in omega arith;
      all = λ p lt. are.all p (omega arith);
      order = λ e i j d lt within.
          let p_in = are.within i d (omega arith) in
          let q_in = are.within j d within in
          ap (λ (x : K). cmp x (key (get_or others (get_or (held positions) j d) e))) (same (get_or (held positions) i d) e p_in)
          ∙ ap (cmp (key (get_or entries (get_or (held positions) i d) e))) (same (get_or (held positions) j d) e q_in) ∙ are.order e i j d lt within;
    }

    -- positions that are held as before
    pub same_held : (new : Runs ℕ A) → HoldsSame positions new → AreInOrder cmp key entries new
    same_held new holds = record {
      compact = holds.runs are.compact;
      within = λ i d. subst (λ (l : List ℕ). i < length l → get_or l i d < length entries) (sym holds.same) (are.within i d);
      all = λ p lt. subst (λ (l : List ℕ). (i : ℕ) × (i < length l) × ((d : ℕ) → get_or l i d ≡ p)) (sym holds.same) (are.all p lt);
      order = λ d. subst (λ (l : List ℕ). Ascends cmp (λ p. key (get_or entries p d)) l) (sym holds.same) (are.order d);
    }

    -- one entry more, of which the position was put into the gap of its key
    pub one_indexed : (new : Runs ℕ A) (place : Place) (k : K) (one : E) → key one ≡ k → IsGap (stands_at (λ e. cmp (key e) k) entries) (held positions) (position_of positions place)
        → PutsOne positions new place (length entries) → AreInOrder cmp key (entries ++ one ∷ []) new
    one_indexed new place k one has gap puts =
        let n = length entries in
        let at = position_of positions place in
        let more : length (entries ++ one ∷ []) ≡ n + 1 = length-append entries (one ∷ []) in
        let by = λ (x : E). cmp (key x) k in
        record {
          compact = puts.runs are.compact;
          within = λ i d lt.
              let below : get_or (held new) i d < n + 1 =
              subst (λ (l : List ℕ). i < length l → get_or l i d < n + 1) (sym puts.put)
              (each_below (held positions) at n (n + 1) gap.within (omega arith) (λ j f within. let low : get_or (held positions) j f < n = are.within j f within in omega arith) i d) lt in
              omega arith;
          all = λ p lt. subst (λ (l : List ℕ). (i : ℕ) × (i < length l) × ((d : ℕ) → get_or l i d ≡ p)) (sym puts.put) (all_there p at (cases_lt p n) (omega arith) gap.within);
          order = λ d. subst (λ (l : List ℕ). Ascends cmp (λ p. key (get_or (entries ++ one ∷ []) p d)) l) (sym puts.put)
              (ascends_insert cmp total (λ p. key (get_or (entries ++ one ∷ []) p d)) (held positions)
              (λ i j f lt within.
              ap (λ (x : K). cmp x (key (get_or (entries ++ one ∷ []) (get_or (held positions) j f) d))) (old (get_or (held positions) i f) d (are.within i f (omega arith)))
              ∙ ap (cmp (key (get_or entries (get_or (held positions) i f) d))) (old (get_or (held positions) j f) d (are.within j f within)) ∙ are.order d i j f lt within)
              k at
              (record {
                within = gap.within;
                below = λ i f lt.
                    let within = are.within i f (omega (arith, gap.within)) in
                    ap (λ (x : K). cmp x k) (old (get_or (held positions) i f) d within) ∙ sym (stands_there by entries (get_or (held positions) i f) d within) ∙ gap.below i f lt;
                above = λ i f le lt.
                    let within = are.within i f lt in
                    ap (λ (x : K). cmp x k) (old (get_or (held positions) i f) d within) ∙ sym (stands_there by entries (get_or (held positions) i f) d within) ∙ gap.above i f le lt;
              })
              n (ap key (at_end entries one d) ∙ has));
        }
      where
        old : (p : ℕ) (d : E) → p < length entries → key (get_or (entries ++ one ∷ []) p d) ≡ key (get_or entries p d)
        old p d lt = ap key (get_or_append_left entries (one ∷ []) d p lt)

        all_there : (p at : ℕ) → (p < length entries) ⊎ (length entries ≤ p) → p < length entries + 1 → at ≤ length (held positions) → (i : ℕ) × (i < length (insert (held positions) at (length entries))) × ((d : ℕ) → get_or (insert (held positions) at (length entries)) i d ≡ p)
        all_there p at (inl lt) most le = let there = are.all p lt in still_there (held positions) at (length entries) p there.0 le there.1 there.2
        all_there p at (inr from) most le =
            let size : length (insert (held positions) at (length entries)) ≡ length (held positions) + 1 = length-insert (held positions) at (length entries) le in
            let last : length entries ≡ p = omega arith in
            (at, omega arith, λ d. get_or-insert_at (held positions) at (length entries) d le ∙ last)
