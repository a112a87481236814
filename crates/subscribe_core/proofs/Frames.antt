-- A frame of GOOSE: what its block says and keeps is what the step functions say of all blocks.
use Rattle.std.proofs.Common.{◌≡◌, ℕ, zero, suc, ◌+◌, ◌<◌, ◌≤◌, Bool, true, false, not, ◌&&◌, ◌||◌, if◌then◌else◌, Option, Some, None, List, [], ◌∷◌, ◌++◌, length, set, slice_get, position, sym, ap, ap₂, ◌∙◌, arith, subst, refl, inl, inr}
use Rattle.std.proofs.lemmas.Bool.{cases_Bool, cases_lt, false≢true, and_parts, and_from, and_right, and_left, not-false, eq-eqb, lt-leb}
use Rattle.std.proofs.lemmas.List.{map-set}
use Rattle.std.proofs.lemmas.List.Quantifiers.{position-Some}
use Rattle.std.proofs.lemmas.Option.{none-some, same_Some, get_or_from_slice_get}
use Rattle.block_core.specs.declared.block.Block.{Block}
use Rattle.subscribe_core.specs.declared.entry.Entry.{Entry}
use Rattle.subscribe_core.specs.declared.entry.Entry.TheVariants as says
use Rattle.subscribe_core.specs.declared.entry.Reason.{Reason}
use Rattle.subscribe_core.specs.declared.entry.Reason.TheVariants.{DatSet, GoId, ConfRev, Commissioning, Simulated, Entries, StateZero, LiveZero}
use Rattle.subscribe_core.specs.declared.registers.Facts.{Facts}
use Rattle.subscribe_core.specs.declared.registers.LiveState.{LiveState}
use Rattle.subscribe_core.specs.declared.registers.Register.{Register}
use Rattle.subscribe_core.specs.declared.registers.Verdict.{Verdict}
use Rattle.subscribe_core.specs.declared.registers.Verdict.TheVariants.{Act, Refreshed, Repeated, Older}
use Rattle.subscribe_core.specs.computed.Deadlines.{due_count, helds}
use Rattle.subscribe_core.specs.computed.Indexed.{registers_after_clock, register_after_clock, good_entries, good_held, good_register, good_renewal, switches}
use Rattle.subscribe_core.specs.Matching.{facts_of_frame, holds, is_clear, is_of, reason_of}
use Rattle.subscribe_core.specs.EventsRead.{FrameRead, OfGoose}
use Rattle.subscribe_core.specs.Simulation.{is_other_kind, is_plain_simulated}
use Rattle.subscribe_core.specs.Apart.{AreApart}
use Rattle.subscribe_core.specs.computed.Steps.{after_clock, after_switch, block_entry, block_held, flag_by, is_dead, register_by, registers_by, said_of, switch_by, switched_entries, held_after_frame, turned, verdict_on}
use Rattle.subscribe_core.proofs.Alike.{no_reason, refused}
use Rattle.subscribe_core.proofs.BlockNames.{is_of_key}
use Rattle.subscribe_core.proofs.Clearing.{not_due_stays}
use Rattle.subscribe_core.proofs.Whole.{position_none}

-- whether the frame switches a block

plain_is : {A : Type 0} (x : Block A) (f : FrameRead) → is_of f x ≡ true → reason_of false x f ≡ None → f.pdu.simulation ≡ true → is_plain_simulated x (OfGoose f) ≡ true
plain_is x f yes_of clear s =
    and_from (is_of f x) (is_clear (reason_of false x f) && f.pdu.simulation) yes_of
    (and_from (is_clear (reason_of false x f)) f.pdu.simulation (ap is_clear clear) s)

plain_real : {A : Type 0} (x : Block A) (f : FrameRead) → f.pdu.simulation ≡ false → is_plain_simulated x (OfGoose f) ≡ false
plain_real x f s =
    and_right (is_of f x) (is_clear (reason_of false x f) && f.pdu.simulation) (and_right (is_clear (reason_of false x f)) f.pdu.simulation s)

plain_other : {A : Type 0} (x : Block A) (f : FrameRead) → is_of f x ≡ false → is_plain_simulated x (OfGoose f) ≡ false
plain_other x f no_of = and_left (is_of f x) (is_clear (reason_of false x f) && f.pdu.simulation) no_of

-- the switch and the flag, by whether such a frame comes with the mode on
switch_true : (flag : Bool) → ((true && not flag) || (false && flag)) ≡ (true && not flag)
switch_true true = refl
switch_true false = refl

flag_true : (flag : Bool) → (true || flag) ≡ (flag || true)
flag_true true = refl
flag_true false = refl

flag_false : (flag : Bool) → flag ≡ (flag || false)
flag_false true = refl
flag_false false = refl

-- what a frame says of its block, where no reason holds against it
pub record Good {A : Type 0} (mode flag : Bool) (x : Block A) (f : FrameRead) : Type 0 where
  pub switch_is : switch_by x mode flag (OfGoose f) ≡ (f.pdu.simulation && not flag)
  pub flag_is : flag_by x mode flag (OfGoose f) ≡ (flag || f.pdu.simulation)

good_case : {A : Type 0} (mode flag : Bool) (x : Block A) (f : FrameRead) (p s : Bool) → (is_plain_simulated x (OfGoose f) && mode) ≡ p → f.pdu.simulation ≡ s → p ≡ s → Good mode flag x f
good_case mode flag x f true true e s same =
    record {
      switch_is = ap (λ (y : Bool). (y && not flag) || (false && flag)) e ∙ (switch_true flag ∙ ap (λ (y : Bool). y && not flag) (sym s));
      flag_is = ap (λ (y : Bool). y || flag) e ∙ (flag_true flag ∙ ap (λ (y : Bool). flag || y) (sym s));
    }
good_case mode flag x f false false e s same =
    record {
      switch_is = ap (λ (y : Bool). (y && not flag) || (false && flag)) e ∙ ap (λ (y : Bool). y && not flag) (sym s);
      flag_is = ap (λ (y : Bool). y || flag) e ∙ (flag_false flag ∙ ap (λ (y : Bool). flag || y) (sym s));
    }
good_case mode flag x f true false e s same = absurd (false≢true (sym same))
good_case mode flag x f false true e s same = absurd (false≢true same)

pub good_is : {A : Type 0} (mode flag : Bool) (x : Block A) (f : FrameRead) → is_of f x ≡ true → reason_of (is_other_kind f mode flag) x f ≡ None → Good mode flag x f
good_is mode flag x f yes_of clear =
    let none : is_other_kind f mode flag ≡ false = refused (is_other_kind f mode flag) x f clear in
    elim (cases_Bool f.pdu.simulation) [
      | inl s ↦
          let off : not mode ≡ false = sym (ap (λ (y : Bool). if y then not mode else flag) s) ∙ none in
          let on : mode ≡ true = not-false mode off in
          let plain : is_plain_simulated x (OfGoose f) ≡ true = plain_is x f yes_of (ap (λ (y : Bool). reason_of y x f) (sym none) ∙ clear) s in
          good_case mode flag x f true true (and_from (is_plain_simulated x (OfGoose f)) mode plain on) s refl
      | inr s ↦ good_case mode flag x f false false (and_left (is_plain_simulated x (OfGoose f)) mode (plain_real x f s)) s refl
    ]

-- and what it says where one does, or where it is another block's: nothing
pub record Quiet {A : Type 0} (mode flag : Bool) (x : Block A) (f : FrameRead) : Type 0 where
  pub switch_is : switch_by x mode flag (OfGoose f) ≡ false
  pub flag_is : flag_by x mode flag (OfGoose f) ≡ flag

quiet_from : {A : Type 0} (mode flag : Bool) (x : Block A) (f : FrameRead) → (is_plain_simulated x (OfGoose f) && mode) ≡ false → Quiet mode flag x f
quiet_from mode flag x f e =
    record {
      switch_is = ap (λ (y : Bool). (y && not flag) || (false && flag)) e;
      flag_is = ap (λ (y : Bool). y || flag) e;
    }

pub quiet_refused : {A : Type 0} (mode flag : Bool) (x : Block A) (f : FrameRead) (r : Reason) → reason_of (is_other_kind f mode flag) x f ≡ Some r → Quiet mode flag x f
quiet_refused mode flag x f r e =
    quiet_from mode flag x f
    (elim (cases_Bool (is_plain_simulated x (OfGoose f) && mode)) [
      | inr no_plain ↦ no_plain
      | inl both ↦
          let p = and_parts (is_plain_simulated x (OfGoose f)) mode both in
          let q = and_parts (is_of f x) (is_clear (reason_of false x f) && f.pdu.simulation) p.0 in
          let s = and_parts (is_clear (reason_of false x f)) f.pdu.simulation q.1 in
          let none : is_other_kind f mode flag ≡ false = ap (λ (y : Bool). if y then not mode else flag) s.1 ∙ ap not p.1 in
          let told : reason_of false x f ≡ Some r = ap (λ (y : Bool). reason_of y x f) (sym none) ∙ e in
          absurd (false≢true (sym (ap is_clear told) ∙ s.0))
    ])

pub quiet_other : {A : Type 0} (mode flag : Bool) (x : Block A) (f : FrameRead) → is_of f x ≡ false → Quiet mode flag x f
quiet_other mode flag x f no_of = quiet_from mode flag x f (and_left (is_plain_simulated x (OfGoose f)) mode (plain_other x f no_of))

-- a register of another block
register_other : {A : Type 0} (now : ℕ) (mode : Bool) (x : Block A) (r : Register) (f : FrameRead) → is_of f x ≡ false → register_by now mode (OfGoose f) x r ≡ register_after_clock now r
register_other now mode x r f no_of =
    let q = quiet_other mode r.takes_simulated x f no_of in
    let held : turned now mode (OfGoose f) x r ≡ after_clock r.held now = ap (λ (y : Bool). after_switch y (after_clock r.held now)) q.switch_is in
    let stays : (if is_of f x then block_held now f (reason_of (is_other_kind f mode r.takes_simulated) x f) (turned now mode (OfGoose f) x r) else turned now mode (OfGoose f) x r) ≡ turned now mode (OfGoose f) x r =
    ap (λ (y : Bool). if y then block_held now f (reason_of (is_other_kind f mode r.takes_simulated) x f) (turned now mode (OfGoose f) x r) else turned now mode (OfGoose f) x r) no_of in
    ap₂ (λ (o : Option LiveState) (b : Bool). record { held = o; takes_simulated = b }) (stays ∙ held) q.flag_is

-- lists of blocks, of which the frame is none's

pub switched_none : {A : Type 0} (mode : Bool) (f : FrameRead) (b : ℕ) (xs : List (Block A)) (rs : List Register)
    → ((j : ℕ) (y : Block A) → slice_get xs j ≡ Some y → is_of f y ≡ false) → switched_entries mode (OfGoose f) b xs rs ≡ []
switched_none mode f b [] rs none = refl
switched_none mode f b (x ∷ xs) [] none = refl
switched_none {A} mode f b (x ∷ xs) (r ∷ rs) none =
    ap (λ (y : Bool). if y then says.Switched b ∷ switched_entries mode (OfGoose f) (b + 1) xs rs else switched_entries mode (OfGoose f) (b + 1) xs rs)
    (quiet_other mode r.takes_simulated x f (none 0 x refl)).switch_is
    ∙ switched_none mode f (b + 1) xs rs (λ j. none (suc j))

pub registers_none : {A : Type 0} (now : ℕ) (mode : Bool) (f : FrameRead) (xs : List (Block A)) (rs : List Register) → length rs ≡ length xs
    → ((j : ℕ) (y : Block A) → slice_get xs j ≡ Some y → is_of f y ≡ false) → registers_by now mode (OfGoose f) xs rs ≡ registers_after_clock now rs
registers_none now mode f [] [] same none = refl
registers_none now mode f [] (r ∷ rs) same none = absurd (omega arith)
registers_none now mode f (x ∷ xs) [] same none = refl
registers_none now mode f (x ∷ xs) (r ∷ rs) same none =
    ap₂ (λ (y : Register) (ys : List Register). y ∷ ys) (register_other now mode x r f (none 0 x refl))
    (registers_none now mode f xs rs (omega arith) (λ j. none (suc j)))

-- and of which it is one's

abbrev one_switched : (A : Type 0) → ℕ → Bool → List (Entry A)
one_switched A b y = if y then says.Switched b ∷ [] else []

pub switched_one : {A : Type 0} (mode : Bool) (f : FrameRead) (b at : ℕ) (xs : List (Block A)) (rs : List Register) (x : Block A) (r : Register)
    → slice_get xs at ≡ Some x → slice_get rs at ≡ Some r
    → ((j : ℕ) (y : Block A) → slice_get xs j ≡ Some y → (j ≡ at → ⊥) → is_of f y ≡ false)
    → switched_entries mode (OfGoose f) b xs rs ≡ one_switched A (b + at) (switch_by x mode r.takes_simulated (OfGoose f))
switched_one mode f b at [] rs x r p q others = absurd (none-some x p)
switched_one mode f b at (z ∷ xs) [] x r p q others = absurd (none-some r q)
switched_one {A} mode f b zero (z ∷ xs) (w ∷ rs) x r p q others =
    let rest : switched_entries mode (OfGoose f) (b + 1) xs rs ≡ [] = switched_none mode f (b + 1) xs rs (λ j y e. others (suc j) y e (λ c. absurd (omega arith))) in
    let here : b ≡ b + 0 = omega arith in
    ap (λ (l : List (Entry A)). if switch_by z mode w.takes_simulated (OfGoose f) then says.Switched b ∷ l else l) rest ∙
    (ap₂ (λ (y : Block A) (v : Register). one_switched A b (switch_by y mode v.takes_simulated (OfGoose f))) (same_Some z x p) (same_Some w r q) ∙
    ap (λ (n : ℕ). one_switched A n (switch_by x mode r.takes_simulated (OfGoose f))) here)
switched_one {A} mode f b (suc at) (z ∷ xs) (w ∷ rs) x r p q others =
    let next : (b + 1) + at ≡ b + suc at = omega arith in
    ap (λ (y : Bool). if y then says.Switched b ∷ switched_entries mode (OfGoose f) (b + 1) xs rs else switched_entries mode (OfGoose f) (b + 1) xs rs)
    (quiet_other mode w.takes_simulated z f (others 0 z refl (λ c. absurd (omega arith)))).switch_is
    ∙ (switched_one mode f (b + 1) at xs rs x r p q (λ j y e apart. others (suc j) y e (λ c. apart (omega arith)))
    ∙ ap (λ (n : ℕ). one_switched A n (switch_by x mode r.takes_simulated (OfGoose f))) next)

pub registers_one : {A : Type 0} (now : ℕ) (mode : Bool) (f : FrameRead) (at : ℕ) (xs : List (Block A)) (rs : List Register) (x : Block A) (r : Register) → length rs ≡ length xs
    → slice_get xs at ≡ Some x → slice_get rs at ≡ Some r
    → ((j : ℕ) (y : Block A) → slice_get xs j ≡ Some y → (j ≡ at → ⊥) → is_of f y ≡ false)
    → registers_by now mode (OfGoose f) xs rs ≡ set (registers_after_clock now rs) at (register_by now mode (OfGoose f) x r)
registers_one now mode f at [] rs x r same p q others = absurd (none-some x p)
registers_one now mode f at (z ∷ xs) [] x r same p q others = absurd (none-some r q)
registers_one {A} now mode f zero (z ∷ xs) (w ∷ rs) x r same p q others =
    ap₂ (λ (y : Register) (ys : List Register). y ∷ ys)
    (ap₂ (λ (y : Block A) (v : Register). register_by now mode (OfGoose f) y v) (same_Some z x p) (same_Some w r q))
    (registers_none now mode f xs rs (omega arith) (λ j y e. others (suc j) y e (λ c. absurd (omega arith))))
registers_one now mode f (suc at) (z ∷ xs) (w ∷ rs) x r same p q others =
    ap₂ (λ (y : Register) (ys : List Register). y ∷ ys)
    (register_other now mode z w f (others 0 z refl (λ c. absurd (omega arith))))
    (registers_one now mode f at xs rs x r (omega arith) p q (λ j y e apart. others (suc j) y e (λ c. apart (omega arith))))

-- the frame is of no other block than the one at the position
pub is_of_others : {A : Type 0} (xs : List (Block A)) (f : FrameRead) (at : ℕ) (x : Block A) → AreApart xs → slice_get xs at ≡ Some x → is_of f x ≡ true
    → (j : ℕ) (y : Block A) → slice_get xs j ≡ Some y → (j ≡ at → ⊥) → is_of f y ≡ false
is_of_others xs f at x apart p yes_of j y q differ =
    elim (cases_Bool (is_of f y)) [
      | inr f ↦ f
      | inl t ↦
          let a = is_of_key f x yes_of in
          let b = is_of_key f y t in
          absurd (differ (apart j at y x q p (b.0 ∙ sym a.0, b.1 ∙ sym a.1)))
    ]

pub found_is_of : {A : Type 0} (xs : List (Block A)) (f : FrameRead) (at : ℕ) (x : Block A) → position (is_of f) xs ≡ Some at → slice_get xs at ≡ Some x → is_of f x ≡ true
found_is_of xs f at x e p =
    let found = position-Some (is_of f) xs at x e in
    sym (ap (is_of f) (get_or_from_slice_get xs at x x p)) ∙ found.1

-- the three answers to a frame

abbrev pub Answers : {A : Type 0} → ℕ → Bool → List (Block A) → List Register → FrameRead → List (Entry A) → Type 0
Answers now mode xs rs f es = es ≡ switched_entries mode (OfGoose f) 0 xs rs ++ said_of now mode xs rs (OfGoose f)

said_at : {A : Type 0} (now : ℕ) (mode : Bool) (xs : List (Block A)) (rs : List Register) (f : FrameRead) (at : ℕ) (x : Block A) (r : Register) → position (is_of f) xs ≡ Some at → slice_get xs at ≡ Some x → slice_get rs at ≡ Some r
    → said_of now mode xs rs (OfGoose f) ≡ block_entry at f (reason_of (is_other_kind f mode r.takes_simulated) x f) (turned now mode (OfGoose f) x r) ∷ []
said_at {A} now mode xs rs f at x r e p q = rw (e, p, q) refl

pub answer_none : {A : Type 0} (now : ℕ) (mode : Bool) (xs : List (Block A)) (rs : List Register) (f : FrameRead) → position (is_of f) xs ≡ None → Answers now mode xs rs f (says.NotSubscribed ∷ [])
answer_none {A} now mode xs rs f e =
    let quiet : switched_entries mode (OfGoose f) 0 xs rs ≡ [] = switched_none mode f 0 xs rs (λ j y p. position_none (is_of f) xs e j y p) in
    rw (quiet, e) refl

pub registers_kept : {A : Type 0} (now : ℕ) (mode : Bool) (xs : List (Block A)) (rs : List Register) (f : FrameRead) → length rs ≡ length xs → position (is_of f) xs ≡ None → registers_after_clock now rs ≡ registers_by now mode (OfGoose f) xs rs
registers_kept now mode xs rs f same e = sym (registers_none now mode f xs rs same (λ j y p. position_none (is_of f) xs e j y p))

pub answer_refused : {A : Type 0} (now : ℕ) (mode : Bool) (xs : List (Block A)) (rs : List Register) (f : FrameRead) (at : ℕ) (x : Block A) (r : Register) (reason : Reason) → AreApart xs → position (is_of f) xs ≡ Some at → slice_get xs at ≡ Some x → slice_get rs at ≡ Some r
    → reason_of (is_other_kind f mode r.takes_simulated) x f ≡ Some reason → Answers now mode xs rs f (says.Refused at reason ∷ [])
answer_refused {A} now mode xs rs f at x r reason apart e p q told =
    let others = is_of_others xs f at x apart p (found_is_of xs f at x e p) in
    let quiet : switched_entries mode (OfGoose f) 0 xs rs ≡ [] =
    switched_one mode f 0 at xs rs x r p q others ∙ ap (one_switched A (0 + at)) (quiet_refused mode r.takes_simulated x f reason told).switch_is in
    let said : said_of now mode xs rs (OfGoose f) ≡ says.Refused at reason ∷ [] =
    said_at now mode xs rs f at x r e p q ∙ ap (λ (o : Option Reason). block_entry at f o (turned now mode (OfGoose f) x r) ∷ []) told in
    sym (ap₂ (λ (a b : List (Entry A)). a ++ b) quiet said)

set_same : (ys : List Register) (at : ℕ) (y : Register) → slice_get ys at ≡ Some y → set ys at y ≡ ys
set_same [] at y e = refl
set_same (z ∷ ys) zero y e = ap (λ (w : Register). w ∷ ys) (sym (same_Some z y e))
set_same (z ∷ ys) (suc at) y e = ap (λ (ws : List Register). z ∷ ws) (set_same ys at y e)

cleared_get : (now : ℕ) (rs : List Register) (at : ℕ) (r : Register) → slice_get rs at ≡ Some r → slice_get (registers_after_clock now rs) at ≡ Some (register_after_clock now r)
cleared_get now [] at r e = absurd (none-some r e)
cleared_get now (x ∷ rs) zero r e = ap (λ (y : Register). Some (register_after_clock now y)) (same_Some x r e)
cleared_get now (x ∷ rs) (suc at) r e = cleared_get now rs at r e

pub registers_refused : {A : Type 0} (now : ℕ) (mode : Bool) (xs : List (Block A)) (rs : List Register) (f : FrameRead) (at : ℕ) (x : Block A) (r : Register) (reason : Reason) → length rs ≡ length xs → AreApart xs → position (is_of f) xs ≡ Some at → slice_get xs at ≡ Some x → slice_get rs at ≡ Some r
    → reason_of (is_other_kind f mode r.takes_simulated) x f ≡ Some reason → registers_after_clock now rs ≡ registers_by now mode (OfGoose f) xs rs
registers_refused now mode xs rs f at x r reason same apart e p q told =
    let yes_of = found_is_of xs f at x e p in
    let quiet = quiet_refused mode r.takes_simulated x f reason told in
    let held : turned now mode (OfGoose f) x r ≡ after_clock r.held now = ap (λ (y : Bool). after_switch y (after_clock r.held now)) quiet.switch_is in
    let stays : (if is_of f x then block_held now f (reason_of (is_other_kind f mode r.takes_simulated) x f) (turned now mode (OfGoose f) x r) else turned now mode (OfGoose f) x r) ≡ turned now mode (OfGoose f) x r =
    ap (λ (y : Bool). if y then block_held now f (reason_of (is_other_kind f mode r.takes_simulated) x f) (turned now mode (OfGoose f) x r) else turned now mode (OfGoose f) x r) yes_of
    ∙ ap (λ (o : Option Reason). block_held now f o (turned now mode (OfGoose f) x r)) told in
    let register : register_by now mode (OfGoose f) x r ≡ register_after_clock now r =
    ap₂ (λ (o : Option LiveState) (b : Bool). record { held = o; takes_simulated = b }) (stays ∙ held) quiet.flag_is in
    sym (registers_one now mode f at xs rs x r same p q (is_of_others xs f at x apart p yes_of)
    ∙ (ap (set (registers_after_clock now rs) at) register ∙ set_same (registers_after_clock now rs) at (register_after_clock now r) (cleared_get now rs at r q)))

pub answer_good : {A : Type 0} (now : ℕ) (mode : Bool) (xs : List (Block A)) (rs : List Register) (f : FrameRead) (at : ℕ) (x : Block A) (r : Register) → AreApart xs → position (is_of f) xs ≡ Some at → slice_get xs at ≡ Some x → slice_get rs at ≡ Some r
    → reason_of (is_other_kind f mode r.takes_simulated) x f ≡ None → Answers now mode xs rs f (good_entries at now r f)
answer_good {A} now mode xs rs f at x r apart e p q clear =
    let yes_of = found_is_of xs f at x e p in
    let good = good_is mode r.takes_simulated x f yes_of clear in
    let here : 0 + at ≡ at = omega arith in
    let switched : switched_entries mode (OfGoose f) 0 xs rs ≡ one_switched A at (switches r f) =
    switched_one mode f 0 at xs rs x r p q (is_of_others xs f at x apart p yes_of)
    ∙ ap₂ (one_switched A) here good.switch_is in
    let said : said_of now mode xs rs (OfGoose f) ≡ block_entry at f None (good_held now r f) ∷ [] =
    said_at now mode xs rs f at x r e p q
    ∙ ap₂ (λ (o : Option Reason) (y : Bool). block_entry at f o (after_switch y (after_clock r.held now)) ∷ []) clear good.switch_is in
    sym (ap₂ (λ (a b : List (Entry A)). a ++ b) switched said)

pub registers_good : {A : Type 0} (now : ℕ) (mode : Bool) (xs : List (Block A)) (rs : List Register) (f : FrameRead) (at : ℕ) (x : Block A) (r : Register) → length rs ≡ length xs → AreApart xs → position (is_of f) xs ≡ Some at → slice_get xs at ≡ Some x → slice_get rs at ≡ Some r
    → reason_of (is_other_kind f mode r.takes_simulated) x f ≡ None → set (registers_after_clock now rs) at (good_register now r f) ≡ registers_by now mode (OfGoose f) xs rs
registers_good now mode xs rs f at x r same apart e p q clear =
    let yes_of = found_is_of xs f at x e p in
    let good = good_is mode r.takes_simulated x f yes_of clear in
    let held : turned now mode (OfGoose f) x r ≡ good_held now r f = ap (λ (y : Bool). after_switch y (after_clock r.held now)) good.switch_is in
    let stays : (if is_of f x then block_held now f (reason_of (is_other_kind f mode r.takes_simulated) x f) (turned now mode (OfGoose f) x r) else turned now mode (OfGoose f) x r) ≡ block_held now f None (turned now mode (OfGoose f) x r) =
    ap (λ (y : Bool). if y then block_held now f (reason_of (is_other_kind f mode r.takes_simulated) x f) (turned now mode (OfGoose f) x r) else turned now mode (OfGoose f) x r) yes_of
    ∙ ap (λ (o : Option Reason). block_held now f o (turned now mode (OfGoose f) x r)) clear in
    let register : register_by now mode (OfGoose f) x r ≡ good_register now r f =
    ap₂ (λ (o : Option LiveState) (b : Bool). record { held = o; takes_simulated = b }) (stays ∙ ap (block_held now f None) held) good.flag_is in
    sym (registers_one now mode f at xs rs x r same p q (is_of_others xs f at x apart p yes_of) ∙ ap (set (registers_after_clock now rs) at) register)

-- what is written of a good frame

taken_some : (v : Verdict) (held : Option LiveState) (now : ℕ) (f : Facts) (new : LiveState) → held_after_frame v None now f ≡ Some new → held_after_frame v held now f ≡ Some new
taken_some Act held now f new e = e
taken_some Refreshed held now f new e = e
taken_some Repeated held now f new e = absurd (none-some new e)
taken_some Older held now f new e = absurd (none-some new e)

taken_none : (v : Verdict) (held : Option LiveState) (now : ℕ) (f : Facts) → held_after_frame v None now f ≡ None → held_after_frame v held now f ≡ held
taken_none Act held now f e = absurd (none-some _ (sym e))
taken_none Refreshed held now f e = absurd (none-some _ (sym e))
taken_none Repeated held now f e = refl
taken_none Older held now f e = refl

taken_deadline : (v : Verdict) (now : ℕ) (f : Facts) (new : LiveState) → held_after_frame v None now f ≡ Some new → new.deadline ≡ now + f.lifetime
taken_deadline Act now f new e = sym (ap (λ (h : LiveState). h.deadline) (same_Some _ new e))
taken_deadline Refreshed now f new e = sym (ap (λ (h : LiveState). h.deadline) (same_Some _ new e))
taken_deadline Repeated now f new e = absurd (none-some new e)
taken_deadline Older now f new e = absurd (none-some new e)

-- an idle block takes any good frame
taken_idle : (o : Option LiveState) (now : ℕ) (f : Facts) → o ≡ None → held_after_frame (verdict_on o f) None now f ≡ None → ⊥
taken_idle None now f is e = none-some _ (sym e)
taken_idle (Some h) now f is e = none-some h (sym is)

lives : {A : Type 0} (b : Block A) (f : FrameRead) (against : Bool) → reason_of against b f ≡ None → 0 < f.pdu.live
lives b f against e =
    elim (cases_lt 0 f.pdu.live) [
      | inl lt ↦ lt
      | inr le ↦
          let dead : f.pdu.live ≡ 0 = omega arith in
          absurd (no_reason (holds against b f) (DatSet ∷ GoId ∷ ConfRev ∷ Commissioning ∷ Simulated ∷ Entries ∷ StateZero ∷ []) [] LiveZero (eq-eqb f.pdu.live 0 dead) e)
    ]

pub new_lives : {A : Type 0} (now : ℕ) (b : Block A) (r : Register) (f : FrameRead) (against : Bool) (new : LiveState) → reason_of against b f ≡ None → good_renewal now r f ≡ Some new → is_dead (Some new) now ≡ false
new_lives now b r f against new clear e =
    let lt = lives b f against clear in
    let at = taken_deadline (verdict_on (good_held now r f) (facts_of_frame f)) now (facts_of_frame f) new e in
    lt-leb new.deadline now (omega arith)

pub new_ahead : {A : Type 0} (now : ℕ) (b : Block A) (r : Register) (f : FrameRead) (against : Bool) (new : LiveState) → reason_of against b f ≡ None → good_renewal now r f ≡ Some new → 0 < new.deadline
new_ahead now b r f against new clear e =
    let lt = lives b f against clear in
    let at = taken_deadline (verdict_on (good_held now r f) (facts_of_frame f)) now (facts_of_frame f) new e in
    omega arith

pub written_new : (now : ℕ) (rs : List Register) (at : ℕ) (r : Register) (f : FrameRead) (new : LiveState) → is_dead (Some new) now ≡ false → good_renewal now r f ≡ Some new
    → registers_after_clock now (set rs at (record { held = Some new; takes_simulated = r.takes_simulated || f.pdu.simulation })) ≡ set (registers_after_clock now rs) at (good_register now r f)
written_new now rs at r f new fresh e =
    let here : register_after_clock now (record { held = Some new; takes_simulated = r.takes_simulated || f.pdu.simulation }) ≡ good_register now r f =
    ap (λ (o : Option LiveState). record { held = o; takes_simulated = r.takes_simulated || f.pdu.simulation })
    (not_due_stays (Some new) now fresh ∙ sym (taken_some (verdict_on (good_held now r f) (facts_of_frame f)) (good_held now r f) now (facts_of_frame f) new e)) in
    map-set (register_after_clock now) rs at (record { held = Some new; takes_simulated = r.takes_simulated || f.pdu.simulation }) ∙ ap (set (registers_after_clock now rs) at) here

flag_kept : (flag s : Bool) → (s && not flag) ≡ false → (flag || s) ≡ flag
flag_kept true s e = refl
flag_kept false true e = e
flag_kept false false e = refl

pub written_none : (now : ℕ) (rs : List Register) (at : ℕ) (r : Register) (f : FrameRead) → slice_get rs at ≡ Some r → good_renewal now r f ≡ None
    → registers_after_clock now rs ≡ set (registers_after_clock now rs) at (good_register now r f)
written_none now rs at r f q e =
    elim (cases_Bool (switches r f)) [
      | inl t ↦ absurd (taken_idle (good_held now r f) now (facts_of_frame f) (ap (λ (y : Bool). after_switch y (after_clock r.held now)) t) e)
      | inr no_switch ↦
          let held : good_held now r f ≡ after_clock r.held now = ap (λ (y : Bool). after_switch y (after_clock r.held now)) no_switch in
          let register : good_register now r f ≡ register_after_clock now r =
          ap₂ (λ (o : Option LiveState) (b : Bool). record { held = o; takes_simulated = b })
          (taken_none (verdict_on (good_held now r f) (facts_of_frame f)) (good_held now r f) now (facts_of_frame f) e ∙ held)
          (flag_kept r.takes_simulated f.pdu.simulation no_switch) in
          sym (ap (set (registers_after_clock now rs) at) register ∙ set_same (registers_after_clock now rs) at (register_after_clock now r) (cleared_get now rs at r q))
    ]

-- one block more holds what isn't due
due_fewer : (held : List (Option LiveState)) (at now : ℕ) (new : Option LiveState) → is_dead new now ≡ false → due_count now (set held at new) ≤ due_count now held
due_fewer [] at now new e = omega arith
due_fewer (h ∷ hs) zero now new e =
    elim (cases_Bool (is_dead h now)) [ inl d ↦ rw (e, d) (omega arith) | inr d ↦ rw (e, d) (omega arith) ]
due_fewer (h ∷ hs) (suc at) now new e =
    let rest : due_count now (set hs at new) ≤ due_count now hs = due_fewer hs at now new e in
    elim (cases_Bool (is_dead h now)) [ inl d ↦ rw d (omega arith) | inr d ↦ rw d rest ]

pub written_fewer : (now : ℕ) (rs : List Register) (at : ℕ) (r : Register) → is_dead r.held now ≡ false → due_count now (helds (set rs at r)) ≤ due_count now (helds rs)
written_fewer now rs at r e =
    subst (λ (hs : List (Option LiveState)). due_count now hs ≤ due_count now (helds rs)) (sym (map-set (λ (x : Register). x.held) rs at r)) (due_fewer (helds rs) at now r.held e)

-- the reason that was found
pub reason_told : {A : Type 0} (x : Block A) (f : FrameRead) (against mode m flag : Bool) (o : Option Reason) → against ≡ is_other_kind f m flag → m ≡ mode → o ≡ reason_of against x f
    → reason_of (is_other_kind f mode flag) x f ≡ o
reason_told x f against mode m flag o a b told =
    sym (told ∙ ap (λ (y : Bool). reason_of y x f) (a ∙ ap (λ (y : Bool). is_other_kind f y flag) b))
