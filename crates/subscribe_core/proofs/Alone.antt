-- The entries are determined, and those of a block are its own.
use Rattle.std.proofs.Common.{◌≡◌, ℕ, zero, suc, ◌+◌, ◌<◌, Bool, true, false, inl, inr, Option, Some, None, List, [], ◌∷◌, ◌++◌, slice_get, if◌then◌else◌, sym, refl, ap, ap₂, ◌∙◌, subst, arith, append_assoc, ne_eqb, eq-eqb}
use Rattle.std.proofs.lemmas.Bool.{false≢true}
use Rattle.std.proofs.lemmas.Option.{none-some, same_Some}
use Rattle.block_core.specs.declared.block.Block.{Block}
use Rattle.subscribe_core.specs.EventsRead.{FrameRead, EventRead, Content, OfGoose, OfSampled, OfFault, OfClock, OfMode}
use Rattle.subscribe_core.specs.declared.registers.Facts.{Facts}
use Rattle.subscribe_core.specs.declared.entry.Reason.{Reason}
use Rattle.subscribe_core.specs.declared.registers.Verdict.{Verdict}
use Rattle.subscribe_core.specs.declared.registers.Verdict.TheVariants.{Act, Refreshed, Repeated, Older}
use Rattle.subscribe_core.specs.declared.entry.Entry.{Entry}
use Rattle.subscribe_core.specs.declared.entry.Entry.TheVariants as says
use Rattle.subscribe_core.specs.Epoch.{Trace, IsVerdict}
use Rattle.subscribe_core.specs.Matching.{is_of, facts_of_frame}
use Rattle.subscribe_core.specs.Sight.{trace_of_block}
use Rattle.subscribe_core.specs.Entries.{AreOfContent, AreOfEach, ExpiresAt, SwitchesAt, AreReadEntriesAt}
use Rattle.subscribe_core.specs.FrameEntry.{IsFrameEntry, IsBlockEntry, entry_of, reason_at}
use Rattle.subscribe_core.proofs.BlockNames.{is_of_key}
use Rattle.subscribe_core.specs.Apart.{AreApart}
use Rattle.subscribe_core.specs.Laws.{own, own_of}

-- one verdict

pub verdict_unique : (t : Trace) (i : ℕ) (f : Facts) (v w : Verdict) → IsVerdict t i f v → IsVerdict t i f w → v ≡ w
verdict_unique t i f Act Act a b = refl
verdict_unique t i f Act Refreshed a b = absurd (b.0 a)
verdict_unique t i f Act Repeated a b = absurd (b.0 a)
verdict_unique t i f Act Older a b = absurd (b.0 a)
verdict_unique t i f Refreshed Act a b = absurd (a.0 b)
verdict_unique t i f Refreshed Refreshed a b = refl
verdict_unique t i f Refreshed Repeated a b = absurd (b.1 a.1)
verdict_unique t i f Refreshed Older a b = absurd (b.1 a.1)
verdict_unique t i f Repeated Act a b = absurd (a.0 b)
verdict_unique t i f Repeated Refreshed a b = absurd (a.1 b.1)
verdict_unique t i f Repeated Repeated a b = refl
verdict_unique t i f Repeated Older a b = absurd (b.2 a.2)
verdict_unique t i f Older Act a b = absurd (a.0 b)
verdict_unique t i f Older Refreshed a b = absurd (a.1 b.1)
verdict_unique t i f Older Repeated a b = absurd (a.2 b.2)
verdict_unique t i f Older Older a b = refl

-- one list of entries

each_unique : {A : Type 0} → (so : Block A → Type 0) (entry : ℕ → Entry A) (b : ℕ) (blocks : List (Block A)) (es fs : List (Entry A)) → AreOfEach so entry b blocks es → AreOfEach so entry b blocks fs → es ≡ fs
each_unique so entry b [] es fs a c = a ∙ sym c
each_unique {A} so entry b (x ∷ xs) es fs (inl a) (inl c) =
    a.1.1 ∙ (ap (λ (r : List (Entry A)). entry b ∷ r) (each_unique so entry (b + 1) xs a.1.0 c.1.0 a.1.2 c.1.2) ∙ sym c.1.1)
each_unique so entry b (x ∷ xs) es fs (inl a) (inr c) = absurd (c.0 a.0)
each_unique so entry b (x ∷ xs) es fs (inr a) (inl c) = absurd (a.0 c.0)
each_unique so entry b (x ∷ xs) es fs (inr a) (inr c) = each_unique so entry (b + 1) xs es fs a.1 c.1

block_unique : {A : Type 0} → (events : List EventRead) (i b : ℕ) (block : Block A) (f : FrameRead) (r : Option Reason) (x y : Entry A) → IsBlockEntry events i b block f r x → IsBlockEntry events i b block f r y → x ≡ y
block_unique {A} events i b block f (Some r) x y a c = a ∙ sym c
block_unique {A} events i b block f None x y a c =
    a.2 ∙ (ap (entry_of b f) (verdict_unique (trace_of_block block events) i (facts_of_frame f) a.0 c.0 a.1 c.1) ∙ sym c.2)

-- two blocks of one frame are one
pub same_position : {A : Type 0} → (blocks : List (Block A)) → AreApart blocks → (f : FrameRead) (b c : ℕ) (x y : Block A) → slice_get blocks b ≡ Some x → slice_get blocks c ≡ Some y → is_of f x ≡ true → is_of f y ≡ true → b ≡ c
same_position {A} blocks apart f b c x y p q u v =
    let u_key = is_of_key f x u in
    let v_key = is_of_key f y v in
    apart b c x y p q (u_key.0 ∙ sym v_key.0, u_key.1 ∙ sym v_key.1)

pub same_block : {A : Type 0} → (blocks : List (Block A)) (b c : ℕ) (x y : Block A) → slice_get blocks b ≡ Some x → slice_get blocks c ≡ Some y → b ≡ c → x ≡ y
same_block {A} blocks b c x y p q e = same_Some x y (sym p ∙ (ap (slice_get blocks) e ∙ q))

frame_unique : {A : Type 0} → (blocks : List (Block A)) → AreApart blocks → (events : List EventRead) (i : ℕ) (f : FrameRead) (x y : Entry A) → IsFrameEntry blocks events i f x → IsFrameEntry blocks events i f y → x ≡ y
frame_unique {A} blocks apart events i f x y (inl a) (inl c) = a.told ∙ sym c.told
frame_unique {A} blocks apart events i f x y (inl a) (inr c) = absurd (false≢true (sym (a.foreign c.position c.block c.here) ∙ c.own))
frame_unique {A} blocks apart events i f x y (inr a) (inl c) = absurd (false≢true (sym (c.foreign a.position a.block a.here) ∙ a.own))
frame_unique {A} blocks apart events i f x y (inr a) (inr c) =
    let position : c.position ≡ a.position = same_position blocks apart f c.position a.position c.block a.block c.here a.here c.own a.own in
    let block : c.block ≡ a.block = same_block blocks c.position a.position c.block a.block c.here a.here position in
    block_unique events i a.position a.block f (reason_at a.block events i f) x y a.told
    (subst (λ (z : Block A). IsBlockEntry events i a.position z f (reason_at z events i f) y) block
    (subst (λ b. IsBlockEntry events i b c.block f (reason_at c.block events i f) y) position c.told))

content_unique : {A : Type 0} → (blocks : List (Block A)) → AreApart blocks → (events : List EventRead) (i : ℕ) (k : Content) (es fs : List (Entry A)) → AreOfContent blocks events i k es → AreOfContent blocks events i k fs → es ≡ fs
content_unique {A} blocks apart events i (OfGoose f) es fs a c =
    a.2 ∙ (ap (λ (x : Entry A). x ∷ []) (frame_unique blocks apart events i f a.0 c.0 a.1 c.1) ∙ sym c.2)
content_unique {A} blocks apart events i OfSampled es fs a c = a ∙ sym c
content_unique {A} blocks apart events i (OfFault fault) es fs a c = a ∙ sym c
content_unique {A} blocks apart events i OfClock es fs a c = a ∙ sym c
content_unique {A} blocks apart events i (OfMode on) es fs a c = a ∙ sym c

pub read_entries_are_one : {A : Type 0} → (blocks : List (Block A)) (events : List EventRead) (i : ℕ) (es fs : List (Entry A)) → AreApart blocks → AreReadEntriesAt blocks events i es → AreReadEntriesAt blocks events i fs → es ≡ fs
read_entries_are_one {A} blocks events i es fs apart a c =
    let event : c.event ≡ a.event = same_Some c.event a.event (sym c.at ∙ a.at) in
    let said : a.said ≡ c.said =
    content_unique blocks apart events i a.event.content a.said c.said a.are_said
    (subst (λ (e : EventRead). AreOfContent blocks events i e.content c.said) event c.are_said) in
    let expired : a.expired ≡ c.expired = each_unique (ExpiresAt events i) says.Expired 0 blocks a.expired c.expired a.are_expired c.are_expired in
    let switched : a.switched ≡ c.switched = each_unique (SwitchesAt events i) says.Switched 0 blocks a.switched c.switched a.are_switched c.are_switched in
    a.whole ∙ (ap (λ (x : List (Entry A)). x ++ (a.switched ++ a.said)) expired ∙
    (ap₂ (λ (x y : List (Entry A)). c.expired ++ (x ++ y)) switched said ∙ sym c.whole))

-- a block's own entries

own-append : {A : Type 0} → (b : ℕ) (es fs : List (Entry A)) → own b (es ++ fs) ≡ own b es ++ own b fs
own-append {A} b [] fs = refl
own-append {A} b (e ∷ es) fs = ap (λ (x : List (Entry A)). own_of b e ++ x) (own-append b es fs) ∙ sym (append_assoc (own_of b e) (own b es) (own b fs))

-- an entry that says nothing but the position of its block is that block's own
record IsOwn (A : Type 0) (entry : ℕ → Entry A) : Type 0 where
  here : (b c : ℕ) → c ≡ b → own_of b (entry c) ≡ entry 0 ∷ []
  away : (b c : ℕ) → (c ≡ b → ⊥) → own_of b (entry c) ≡ []

abbrev one_if : {A : Type 0} → Entry A → Bool → List (Entry A)
one_if e x = if x then e ∷ [] else []

expired_is_own : (A : Type 0) → IsOwn A says.Expired
expired_is_own A = record { here = λ b c e. ap (one_if {A = A} (says.Expired 0)) (eq-eqb c b e); away = λ b c ne. ap (one_if {A = A} (says.Expired 0)) (ne_eqb c b ne) }

switched_is_own : (A : Type 0) → IsOwn A says.Switched
switched_is_own A = record { here = λ b c e. ap (one_if {A = A} (says.Switched 0)) (eq-eqb c b e); away = λ b c ne. ap (one_if {A = A} (says.Switched 0)) (ne_eqb c b ne) }

module _ {A : Type 0} (so : Block A → Type 0) (entry : ℕ → Entry A) (is : IsOwn A entry) where
  own_below : (from c : ℕ) (blocks : List (Block A)) (es : List (Entry A)) → c < from → AreOfEach so entry from blocks es → own c es ≡ []
  own_below from c [] es lt a = ap (own c) a
  own_below from c (x ∷ xs) es lt (inl a) =
      ap (own c) a.1.1 ∙ (ap (λ (y : List (Entry A)). y ++ own c a.1.0) (is.away c from (λ e. omega arith)) ∙ own_below (from + 1) c xs a.1.0 (omega arith) a.1.2)
  own_below from c (x ∷ xs) es lt (inr a) = own_below (from + 1) c xs es (omega arith) a.1

  -- what such entries leave of block c, by whether it is so of that
  abbrev Left : Block A → List (Entry A) → Type 0
  Left block es = (so block → es ≡ entry 0 ∷ []) × (¬ so block → es ≡ [])

  own_left : (from c k : ℕ) (blocks : List (Block A)) (block : Block A) (es : List (Entry A)) → c ≡ from + k → slice_get blocks k ≡ Some block → AreOfEach so entry from blocks es → Left block (own c es)
  own_left from c k [] block es e at a = absurd (none-some block at)
  own_left from c zero (x ∷ xs) block es e at (inl a) =
      let whole : own c es ≡ entry 0 ∷ [] =
      ap (own c) a.1.1 ∙ (ap (λ (y : List (Entry A)). y ++ own c a.1.0) (is.here c from (omega arith)) ∙ ap (λ (y : List (Entry A)). entry 0 ∷ y) (own_below (from + 1) c xs a.1.0 (omega arith) a.1.2)) in
      ((λ w. whole), (λ w. absurd (w (subst so (same_Some x block at) a.0))))
  own_left from c zero (x ∷ xs) block es e at (inr a) =
      ((λ w. absurd (a.0 (subst so (sym (same_Some x block at)) w))), (λ w. own_below (from + 1) c xs es (omega arith) a.1))
  own_left from c (suc k) (x ∷ xs) block es e at (inl a) =
      let rest = own_left (from + 1) c k xs block a.1.0 (omega arith) at a.1.2 in
      let whole : own c es ≡ own c a.1.0 = ap (own c) a.1.1 ∙ ap (λ (y : List (Entry A)). y ++ own c a.1.0) (is.away c from (λ q. omega arith)) in
      ((λ w. whole ∙ rest.0 w), (λ w. whole ∙ rest.1 w))
  own_left from c (suc k) (x ∷ xs) block es e at (inr a) = own_left (from + 1) c k xs block es (omega arith) at a.1

  -- they are those that the block has alone
  own_each : (b : ℕ) (blocks : List (Block A)) (block : Block A) (es fs : List (Entry A)) → slice_get blocks b ≡ Some block → AreOfEach so entry 0 blocks es → AreOfEach so entry 0 (block ∷ []) fs → own b es ≡ own 0 fs
  own_each b blocks block es fs at a c = go c
    where
      mine : Left block (own b es)
      mine = own_left 0 b b blocks block es (omega arith) at a

      only_one : Left block (own 0 fs)
      only_one = own_left 0 0 0 (block ∷ []) block fs (omega arith) refl c

      go : AreOfEach so entry 0 (block ∷ []) fs → own b es ≡ own 0 fs
      go (inl w) = mine.0 w.0 ∙ sym (only_one.0 w.0)
      go (inr w) = mine.1 w.0 ∙ sym (only_one.1 w.0)

own_three : {A : Type 0} → (b : ℕ) (xs ys zs : List (Entry A)) → own b (xs ++ (ys ++ zs)) ≡ own b xs ++ (own b ys ++ own b zs)
own_three {A} b xs ys zs = own-append b xs (ys ++ zs) ∙ ap (λ (l : List (Entry A)). own b xs ++ l) (own-append b ys zs)

-- a verdict's entry is the block's own
own_entry_is : (A : Type 0) (b : ℕ) (f : FrameRead) (v : Verdict) → own_of {A = A} b (entry_of b f v) ≡ entry_of 0 f v ∷ []
own_entry_is A b f Act = ap (λ (x : Bool). if x then entry_of {A = A} 0 f Act ∷ [] else []) (eq-eqb b b refl)
own_entry_is A b f Refreshed = ap (λ (x : Bool). if x then entry_of {A = A} 0 f Refreshed ∷ [] else []) (eq-eqb b b refl)
own_entry_is A b f Repeated = ap (λ (x : Bool). if x then entry_of {A = A} 0 f Repeated ∷ [] else []) (eq-eqb b b refl)
own_entry_is A b f Older = ap (λ (x : Bool). if x then entry_of {A = A} 0 f Older ∷ [] else []) (eq-eqb b b refl)

own_entry_not : (A : Type 0) (b c : ℕ) (f : FrameRead) (v : Verdict) → (c ≡ b → ⊥) → own_of {A = A} b (entry_of c f v) ≡ []
own_entry_not A b c f Act ne = ap (λ (x : Bool). if x then entry_of {A = A} 0 f Act ∷ [] else []) (ne_eqb c b ne)
own_entry_not A b c f Refreshed ne = ap (λ (x : Bool). if x then entry_of {A = A} 0 f Refreshed ∷ [] else []) (ne_eqb c b ne)
own_entry_not A b c f Repeated ne = ap (λ (x : Bool). if x then entry_of {A = A} 0 f Repeated ∷ [] else []) (ne_eqb c b ne)
own_entry_not A b c f Older ne = ap (λ (x : Bool). if x then entry_of {A = A} 0 f Older ∷ [] else []) (ne_eqb c b ne)

own_block_not : {A : Type 0} → (events : List EventRead) (i b c : ℕ) (block : Block A) (f : FrameRead) (r : Option Reason) (x : Entry A) → (c ≡ b → ⊥) → IsBlockEntry events i c block f r x → own_of b x ≡ []
own_block_not {A} events i b c block f (Some r) x ne a =
    ap (own_of b) a ∙ ap (λ (y : Bool). if y then says.Refused 0 r ∷ [] else []) (ne_eqb c b ne)
own_block_not {A} events i b c block f None x ne a = ap (own_of b) a.2 ∙ own_entry_not A b c f a.0 ne

own_block_same : {A : Type 0} → (events : List EventRead) (i b : ℕ) (block : Block A) (f : FrameRead) (r : Option Reason) (x y : Entry A) → IsBlockEntry events i b block f r x → IsBlockEntry events i 0 block f r y → own_of b x ≡ own_of 0 y
own_block_same {A} events i b block f (Some r) x y a c =
    ap (own_of b) a ∙ (ap (λ (z : Bool). if z then says.Refused 0 r ∷ [] else []) (eq-eqb b b refl) ∙ sym (ap (own_of 0) c))
own_block_same {A} events i b block f None x y a c =
    let v = verdict_unique (trace_of_block block events) i (facts_of_frame f) a.0 c.0 a.1 c.1 in
    ap (own_of b) a.2 ∙ (own_entry_is A b f a.0 ∙ (ap (λ (v : Verdict). entry_of 0 f v ∷ []) v ∙ sym (ap (own_of 0) c.2 ∙ own_entry_is A 0 f c.0)))

-- the one position of a list of one
only : {A : Type 0} → (block x : Block A) (c : ℕ) → slice_get (block ∷ []) c ≡ Some x → (c ≡ 0) × (block ≡ x)
only {A} block x zero e = (refl, same_Some block x e)
only {A} block x (suc c) e = absurd (none-some x e)

own_frame : {A : Type 0} → (blocks : List (Block A)) → AreApart blocks → (events : List EventRead) (i b : ℕ) (block : Block A) (f : FrameRead) (x y : Entry A) → slice_get blocks b ≡ Some block → IsFrameEntry blocks events i f x → IsFrameEntry (block ∷ []) events i f y → own_of b x ≡ own_of 0 y
own_frame {A} blocks apart events i b block f x y here (inl a) (inl c) = ap (own_of b) a.told ∙ sym (ap (own_of 0) c.told)
own_frame {A} blocks apart events i b block f x y here (inl a) (inr c) =
    let o = only block c.block c.position c.here in
    absurd (false≢true (sym (a.foreign b block here) ∙ (ap (is_of f) o.1 ∙ c.own)))
own_frame {A} blocks apart events i b block f x y here (inr a) (inl c) =
    let no_of : is_of f block ≡ false = c.foreign 0 block refl in
    let ne : a.position ≡ b → ⊥ =
    λ e. false≢true (sym no_of ∙ (ap (is_of f) (sym (same_block blocks a.position b a.block block a.here here e)) ∙ a.own)) in
    own_block_not events i b a.position a.block f (reason_at a.block events i f) x ne a.told ∙ sym (ap (own_of 0) c.told)
own_frame {A} blocks apart events i b block f x y here (inr a) (inr c) =
    let o = only block c.block c.position c.here in
    let yes_of : is_of f block ≡ true = ap (is_of f) o.1 ∙ c.own in
    let position : a.position ≡ b = same_position blocks apart f a.position b a.block block a.here here a.own yes_of in
    let same : a.block ≡ block = same_block blocks a.position b a.block block a.here here position in
    own_block_same events i b block f (reason_at block events i f) x y
    (subst (λ (z : Block A). IsBlockEntry events i b z f (reason_at z events i f) x) same
    (subst (λ k. IsBlockEntry events i k a.block f (reason_at a.block events i f) x) position a.told))
    (subst (λ (z : Block A). IsBlockEntry events i 0 z f (reason_at z events i f) y) (sym o.1)
    (subst (λ k. IsBlockEntry events i k c.block f (reason_at c.block events i f) y) o.0 c.told))

own_content : {A : Type 0} → (blocks : List (Block A)) → AreApart blocks → (events : List EventRead) (i b : ℕ) (block : Block A) (k : Content) (es fs : List (Entry A)) → slice_get blocks b ≡ Some block → AreOfContent blocks events i k es → AreOfContent (block ∷ []) events i k fs → own b es ≡ own 0 fs
own_content {A} blocks apart events i b block (OfGoose f) es fs here a c =
    ap (own b) a.2 ∙ (ap (λ (x : List (Entry A)). x ++ []) (own_frame blocks apart events i b block f a.0 c.0 here a.1 c.1) ∙ sym (ap (own 0) c.2))
own_content {A} blocks apart events i b block OfSampled es fs here a c = ap (own b) a ∙ sym (ap (own 0) c)
own_content {A} blocks apart events i b block (OfFault fault) es fs here a c = ap (own b) a ∙ sym (ap (own 0) c)
own_content {A} blocks apart events i b block OfClock es fs here a c = ap (own b) a ∙ sym (ap (own 0) c)
own_content {A} blocks apart events i b block (OfMode on) es fs here a c = ap (own b) a ∙ sym (ap (own 0) c)

pub read_blocks_are_alone : {A : Type 0} → (blocks : List (Block A)) (events : List EventRead) (b : ℕ) (block : Block A) (i : ℕ) (es alone : List (Entry A)) → AreApart blocks → slice_get blocks b ≡ Some block → AreReadEntriesAt blocks events i es → AreReadEntriesAt (block ∷ []) events i alone → own b es ≡ own 0 alone
read_blocks_are_alone {A} blocks events b block i es alone apart here a c =
    let event : c.event ≡ a.event = same_Some c.event a.event (sym c.at ∙ a.at) in
    let said : own b a.said ≡ own 0 c.said =
    own_content blocks apart events i b block a.event.content a.said c.said here a.are_said
    (subst (λ (e : EventRead). AreOfContent (block ∷ []) events i e.content c.said) event c.are_said) in
    let expired : own b a.expired ≡ own 0 c.expired =
    own_each (ExpiresAt events i) says.Expired (expired_is_own A) b blocks block a.expired c.expired here a.are_expired c.are_expired in
    let switched : own b a.switched ≡ own 0 c.switched =
    own_each (SwitchesAt events i) says.Switched (switched_is_own A) b blocks block a.switched c.switched here a.are_switched c.are_switched in
    ap (own b) a.whole ∙ (own_three b a.expired a.switched a.said ∙
    (ap (λ (x : List (Entry A)). x ++ (own b a.switched ++ own b a.said)) expired ∙
    (ap₂ (λ (x y : List (Entry A)). own 0 c.expired ++ (x ++ y)) switched said ∙
    (sym (own_three 0 c.expired c.switched c.said) ∙ sym (ap (own 0) c.whole)))))
