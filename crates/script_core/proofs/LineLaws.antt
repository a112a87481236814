-- A name and fields are taken for an item exactly where they say that, and refused for a cause exactly where they have it.
use Rattle.std.proofs.Common.{◌≡◌, ℕ, ◌+◌, ◌<◌, ◌==◌, ◌&&◌, Bool, true, false, nat_lt, if◌then◌else◌, List, [], ◌∷◌, length, Option, Some, None, Result, Ok, Err, inl, inr, refl, sym, ap, ◌∙◌, subst, arith}
use Rattle.std.specs.Prelude.{◌⊎◌, option_map, codes}
use Rattle.std.specs.Str.{bytes_eq}
use Rattle.std.proofs.lemmas.Bool.{cases_lt, eqb-false, eqb-true, le-ltb, lt-ltb, ltb-false, ltb-true, ne_eqb}
use Rattle.std.proofs.lemmas.Option.{same_Some}
use Rattle.std.proofs.lemmas.Slice.Eq.{bytes_eq-Decides}
use Rattle.ber_core.specs.declared.fault.Fault.{Fault}
use Rattle.mms_data.specs.Data.{Data}
use Rattle.mms_data.specs.computed.Reading.{members_at}
use Rattle.mms_data.specs.declared.time.UtcTime.{UtcTime}
use Rattle.mms_data.proofs.Again.{all_again}
use Rattle.mms_data.proofs.Found.{all_found}
use Rattle.mms_data.proofs.Wrong.{all_wrong}
use Rattle.mms_data.proofs.WrongAgain.{all_wrong_again}
use Rattle.mms_data.specs.Spelling.{FaultIn}
use Rattle.list_core.specs.EventLine.{moment_of}
use Rattle.list_core.specs.declared.event_lines.MomentUnit.{MomentUnit}
use Rattle.frame_core.specs.declared.vlan_tag.VlanTag.{VlanTag}
use Rattle.block_core.specs.BlockText.{go_id_of}
use Rattle.block_core.specs.Commas.{number_by, octets_in, text_in, word_in}
use Rattle.publish_core.specs.declared.control.Control.{Control}
use Rattle.publish_core.specs.declared.table.Step.{Step}
use Rattle.publish_core.specs.Table.{IsGood, most_steps}
use Rattle.script_core.specs.computed.CallLine.{call_said, change_said, change_said_by, change_to, poll_of, poll_said, too_early}
use Rattle.script_core.specs.computed.ControlLine.{ControlLine, block_of_line, control_of, control_said, control_with, numbers_with}
use Rattle.script_core.specs.Laws.{LinesAreRefused, LinesSayItems}
use Rattle.script_core.specs.Lines.{IsChangeLine, IsLine, IsStepLine, MayCall, SaysChange, SaysControl, SaysField, SaysNoField, SaysPoll, SaysStep}
use Rattle.script_core.specs.RefusedLines.{HasForm, IsCallLine, IsRefusedLine, of_call, of_control, of_step}
use Rattle.script_core.specs.computed.LineReading.{fields_said}
use Rattle.script_core.specs.ScriptFields.{all_octets_in, flag_in, tag_in, time_in}
use Rattle.script_core.specs.computed.StepLine.{step_said, step_said_by, step_with}
use Rattle.script_core.specs.declared.script.ScriptCause.{ScriptCause}
use Rattle.script_core.specs.declared.script.ScriptCause.TheVariants as cause
use Rattle.script_core.specs.declared.script.ScriptItem.{ScriptItem}
use Rattle.script_core.specs.declared.script.ScriptItem.TheVariants as item
use Rattle.script_core.specs.declared.script.ScriptPart.{ScriptPart}
use Rattle.script_core.specs.declared.script.ScriptPart.TheVariants as part

-- what is answered for a line is what the line is
abbrev pub Fits : {A : Type 0} → MomentUnit → ScriptPart → List ℕ → List (List ℕ) → Result (Option (ScriptItem A) × ScriptPart) ScriptCause → Type 0
Fits unit p name fields (Ok (Some x, next)) = IsLine unit p name fields x next
Fits unit p name fields (Ok (None, next)) = ⊥
Fits {A} unit p name fields (Err why) = IsRefusedLine A unit p name fields why

-- ---- names

-- a name is none of two that differ
pub one_name : (name a b : List ℕ) → bytes_eq a b ≡ false → name ≡ a → name ≡ b → ⊥
one_name name a b differ x y = let same = (bytes_eq-Decides a b).1 (sym x ∙ y) in absurd cc

other_name : (name a : List ℕ) → bytes_eq name a ≡ false → name ≡ a → ⊥
other_name name a differ x = let same = (bytes_eq-Decides name a).1 x in absurd cc

-- ---- control lines

record AreParts (a b : Option (List ℕ)) (c : Option (Option VlanTag)) (d : Option ℕ) (e f g : Option (List ℕ)) (h i : Option ℕ) (j k : Option Bool) (m : Option ℕ) (l : ControlLine) : Type 0 where
  destination : a ≡ Some l.destination
  source : b ≡ Some l.source
  tag : c ≡ Some l.tag
  app_id : d ≡ Some l.app_id
  gocb_ref : e ≡ Some l.gocb_ref
  dat_set : f ≡ Some l.dat_set
  go_id : option_map go_id_of g ≡ Some l.go_id
  conf_rev : h ≡ Some l.numbers.conf_rev
  entries : i ≡ Some l.numbers.entries
  simulation : j ≡ Some l.numbers.simulation
  nds_com : k ≡ Some l.numbers.nds_com
  first_state : m ≡ Some l.numbers.first

parts_of : (a b : Option (List ℕ)) (c : Option (Option VlanTag)) (d : Option ℕ) (e f g : Option (List ℕ)) (h i : Option ℕ) (j k : Option Bool) (m : Option ℕ) (l : ControlLine) → control_with a b c d e f g (numbers_with h i j k m) ≡ Some l → AreParts a b c d e f g h i j k m l
parts_of (Some a) (Some b) (Some c) (Some d) (Some e) (Some f) (Some g) (Some h) (Some i) (Some j) (Some k) (Some m) l is =
    subst (λ (y : ControlLine). AreParts (Some a) (Some b) (Some c) (Some d) (Some e) (Some f) (Some g) (Some h) (Some i) (Some j) (Some k) (Some m) y) (same_Some _ l is)
    (record { destination = refl; source = refl; tag = refl; app_id = refl; gocb_ref = refl; dat_set = refl; go_id = refl; conf_rev = refl; entries = refl; simulation = refl; nds_com = refl; first_state = refl })
parts_of None b c d e f g h i j k m l is = absurd cc
parts_of (Some a) None c d e f g h i j k m l is = absurd cc
parts_of (Some a) (Some b) None d e f g h i j k m l is = absurd cc
parts_of (Some a) (Some b) (Some c) None e f g h i j k m l is = absurd cc
parts_of (Some a) (Some b) (Some c) (Some d) None f g h i j k m l is = absurd cc
parts_of (Some a) (Some b) (Some c) (Some d) (Some e) None g h i j k m l is = absurd cc
parts_of (Some a) (Some b) (Some c) (Some d) (Some e) (Some f) None h i j k m l is = absurd cc
parts_of (Some a) (Some b) (Some c) (Some d) (Some e) (Some f) (Some g) None i j k m l is = absurd cc
parts_of (Some a) (Some b) (Some c) (Some d) (Some e) (Some f) (Some g) (Some h) None j k m l is = absurd cc
parts_of (Some a) (Some b) (Some c) (Some d) (Some e) (Some f) (Some g) (Some h) (Some i) None k m l is = absurd cc
parts_of (Some a) (Some b) (Some c) (Some d) (Some e) (Some f) (Some g) (Some h) (Some i) (Some j) None m l is = absurd cc
parts_of (Some a) (Some b) (Some c) (Some d) (Some e) (Some f) (Some g) (Some h) (Some i) (Some j) (Some k) None l is = absurd cc

with_parts : (a b : Option (List ℕ)) (c : Option (Option VlanTag)) (d : Option ℕ) (e f g : Option (List ℕ)) (h i : Option ℕ) (j k : Option Bool) (m : Option ℕ) (l : ControlLine) → AreParts a b c d e f g h i j k m l → control_with a b c d e f g (numbers_with h i j k m) ≡ Some l
with_parts a b c d e f None h i j k m l w = let none = w.go_id in absurd cc
with_parts a b c d e f (Some g) h i j k m l w =
    rw (w.destination, w.source, w.tag, w.app_id, w.gocb_ref, w.dat_set, w.conf_rev, w.entries, w.simulation, w.nds_com, w.first_state)
    (ap (λ (y : Option (List ℕ)). Some (record l { go_id = y })) (same_Some _ _ w.go_id))

-- twelve fields, or another count of them
data Twelve : List (List ℕ) → Type 0 where
  twelve : (a b c d e f g h i j k m : List ℕ) → Twelve (a ∷ b ∷ c ∷ d ∷ e ∷ f ∷ g ∷ h ∷ i ∷ j ∷ k ∷ m ∷ [])
  other : {fields : List (List ℕ)} → control_of fields ≡ None → (length fields ≡ 12 → ⊥) → Twelve fields

count : (fields : List (List ℕ)) → Twelve fields
count (a ∷ b ∷ c ∷ d ∷ e ∷ f ∷ g ∷ h ∷ i ∷ j ∷ k ∷ m ∷ []) = twelve a b c d e f g h i j k m
count [] = other refl (λ e. omega arith)
count (a ∷ []) = other refl (λ e. omega arith)
count (a ∷ b ∷ []) = other refl (λ e. omega arith)
count (a ∷ b ∷ c ∷ []) = other refl (λ e. omega arith)
count (a ∷ b ∷ c ∷ d ∷ []) = other refl (λ e. omega arith)
count (a ∷ b ∷ c ∷ d ∷ e ∷ []) = other refl (λ z. omega arith)
count (a ∷ b ∷ c ∷ d ∷ e ∷ f ∷ []) = other refl (λ z. omega arith)
count (a ∷ b ∷ c ∷ d ∷ e ∷ f ∷ g ∷ []) = other refl (λ z. omega arith)
count (a ∷ b ∷ c ∷ d ∷ e ∷ f ∷ g ∷ h ∷ []) = other refl (λ z. omega arith)
count (a ∷ b ∷ c ∷ d ∷ e ∷ f ∷ g ∷ h ∷ i ∷ []) = other refl (λ z. omega arith)
count (a ∷ b ∷ c ∷ d ∷ e ∷ f ∷ g ∷ h ∷ i ∷ j ∷ []) = other refl (λ z. omega arith)
count (a ∷ b ∷ c ∷ d ∷ e ∷ f ∷ g ∷ h ∷ i ∷ j ∷ k ∷ []) = other refl (λ z. omega arith)
count (a ∷ b ∷ c ∷ d ∷ e ∷ f ∷ g ∷ h ∷ i ∷ j ∷ k ∷ m ∷ n ∷ more) = other refl (λ z. omega arith)

control_says : {A : Type 0} (fields : List (List ℕ)) (l : ControlLine) → Twelve fields → control_of fields ≡ Some l → SaysControl {A = A} fields (block_of_line l) l.numbers.first
control_says fields l (twelve a b c d e f g h i j k m) is =
    let w = parts_of (octets_in 6 a) (octets_in 6 b) (tag_in c) (word_in d) (text_in e) (text_in f) (text_in g) (number_by h) (number_by i) (flag_in j) (flag_in k) (number_by m) l is in
    record { size = refl; destination = w.destination; source = w.source; tag = w.tag; app_id = w.app_id; gocb_ref = w.gocb_ref; dat_set = w.dat_set; go_id = w.go_id; conf_rev = w.conf_rev; entries = w.entries; simulation = w.simulation; nds_com = w.nds_com; first_state = w.first_state }
control_says fields l (other none few) is = absurd cc

abbrev line_of : {A : Type 0} → Control A → ℕ → ControlLine
line_of c first = record {
  destination = c.destination;
  source = c.source;
  tag = c.tag;
  app_id = c.app_id;
  gocb_ref = c.gocb_ref;
  dat_set = c.dat_set;
  go_id = c.go_id;
  numbers = record { conf_rev = c.conf_rev; entries = c.entries; simulation = c.simulation; nds_com = c.nds_com; first = first };
}

says_control : {A : Type 0} (fields : List (List ℕ)) (control : Control A) (first : ℕ) → Twelve fields → SaysControl fields control first → control_of fields ≡ Some (line_of control first)
says_control fields control first (twelve a b c d e f g h i j k m) w =
    with_parts (octets_in 6 a) (octets_in 6 b) (tag_in c) (word_in d) (text_in e) (text_in f) (text_in g) (number_by h) (number_by i) (flag_in j) (flag_in k) (number_by m) (line_of control first)
    (record { destination = w.destination; source = w.source; tag = w.tag; app_id = w.app_id; gocb_ref = w.gocb_ref; dat_set = w.dat_set; go_id = w.go_id; conf_rev = w.conf_rev; entries = w.entries; simulation = w.simulation; nds_com = w.nds_com; first_state = w.first_state })
says_control fields control first (other none few) w = absurd (few w.size)

some_of : (n : ℕ) → (n == 0) ≡ false → 0 < n
some_of n e = elim (cases_lt 0 n) [ inl lt ↦ lt | inr le ↦ absurd (eqb-false n 0 e (omega arith)) ]

no_control : (A : Type 0) (p : ScriptPart) (name : List ℕ) (fields : List (List ℕ)) → name ≡ codes "control" → (p ≡ part.Control → control_of fields ≡ None) → HasForm A p name fields → ⊥
no_control A p name fields is none (of_control control first w) = let some = says_control fields control first (count fields) w.says in let no = none w.stands_first in absurd cc
no_control A p name fields is none (of_step steps s w) = one_name name (codes "control") (codes "step") refl is w.named
no_control A p name fields is none (of_call (inl w)) = one_name name (codes "control") (codes "change") refl is w.named
no_control A p name fields is none (of_call (inr w)) = one_name name (codes "control") (codes "poll") refl is w.named

control_fits : (A : Type 0) (unit : MomentUnit) (p : ScriptPart) (name : List ℕ) (fields : List (List ℕ)) → name ≡ codes "control" → (o : Option ControlLine) → control_of fields ≡ o → Fits {A = A} unit p name fields (control_said p o)
control_fits A unit part.Control name fields is None e = no_control A part.Control name fields is (λ first. e)
control_fits A unit part.Control name fields is (Some l) e = go (l.numbers.first == 0) refl
  where
    says : SaysControl {A = A} fields (block_of_line l) l.numbers.first
    says = control_says fields l (count fields) e

    go : (z : Bool) → (l.numbers.first == 0) ≡ z → Fits {A = A} unit part.Control name fields (if z then Err cause.FirstState else Ok (Some (item.Control (block_of_line l) l.numbers.first), part.Steps 0))
    go true ez = record {
      control = block_of_line l;
      is_line = record { named = is; stands_first = refl; says = subst (λ (n : ℕ). SaysControl {A = A} fields (block_of_line l) n) (eqb-true l.numbers.first 0 ez) says };
    }
    go false ez = record {
      is_line = record { named = is; stands_first = refl; says = says };
      first_state = some_of l.numbers.first ez;
      follows = refl;
    }
control_fits A unit (part.Steps n) name fields is o e = no_control A (part.Steps n) name fields is (λ first. absurd cc)
control_fits A unit part.Calls name fields is o e = no_control A part.Calls name fields is (λ first. absurd cc)

-- ---- steps

step_says : (fields : List (List ℕ)) (s : Step) → step_said_by fields ≡ Some s → SaysStep fields s
step_says [] s e = absurd cc
step_says (a ∷ []) s e = absurd cc
step_says (a ∷ b ∷ c ∷ more) s e = absurd cc
step_says (a ∷ b ∷ []) s e = go (number_by a) refl (number_by b) refl e
  where
    go : (x : Option ℕ) → number_by a ≡ x → (y : Option ℕ) → number_by b ≡ y → step_with x y ≡ Some s → SaysStep (a ∷ b ∷ []) s
    go None ex y ey is = absurd cc
    go (Some wait) ex None ey is = absurd cc
    go (Some wait) ex (Some live) ey is = subst (λ (z : Step). SaysStep (a ∷ b ∷ []) z) (same_Some _ s is) (record { size = refl; wait = ex; live = ey })

says_step : (fields : List (List ℕ)) (s : Step) → SaysStep fields s → step_said_by fields ≡ Some s
says_step [] s w = absurd (let e = w.size in omega arith)
says_step (a ∷ []) s w = absurd (let e = w.size in omega arith)
says_step (a ∷ b ∷ []) s w = rw (w.wait, w.live) refl
says_step (a ∷ b ∷ c ∷ more) s w = absurd (let e = w.size in omega arith)

no_step : (A : Type 0) (p : ScriptPart) (name : List ℕ) (fields : List (List ℕ)) → name ≡ codes "step" → ((n : ℕ) → p ≡ part.Steps n → step_said_by fields ≡ None) → HasForm A p name fields → ⊥
no_step A p name fields is none (of_control control first w) = one_name name (codes "step") (codes "control") refl is w.named
no_step A p name fields is none (of_step steps s w) = let some = says_step fields s w.says in let no = none steps w.stands_behind in absurd cc
no_step A p name fields is none (of_call (inl w)) = one_name name (codes "step") (codes "change") refl is w.named
no_step A p name fields is none (of_call (inr w)) = one_name name (codes "step") (codes "poll") refl is w.named

-- a step that is not good does not wait, or its frame lives no longer than that
bad_times : (s : Step) → (IsGood s → ⊥) → (nat_lt 0 s.wait_ms && nat_lt s.wait_ms s.live_ms) ≡ false
bad_times s bad = go (nat_lt 0 s.wait_ms) refl (nat_lt s.wait_ms s.live_ms) refl
  where
    go : (x : Bool) → nat_lt 0 s.wait_ms ≡ x → (y : Bool) → nat_lt s.wait_ms s.live_ms ≡ y → (x && y) ≡ false
    go false ex y ey = refl
    go true ex false ey = refl
    go true ex true ey = absurd (bad (ltb-true 0 s.wait_ms ex, ltb-true s.wait_ms s.live_ms ey))

step_fits : (A : Type 0) (unit : MomentUnit) (p : ScriptPart) (name : List ℕ) (fields : List (List ℕ)) → name ≡ codes "step" → (o : Option Step) → step_said_by fields ≡ o → Fits {A = A} unit p name fields (step_said p o)
step_fits A unit part.Control name fields is o e = no_step A part.Control name fields is (λ n behind. absurd cc)
step_fits A unit part.Calls name fields is o e = no_step A part.Calls name fields is (λ n behind. absurd cc)
step_fits A unit (part.Steps n) name fields is None e = no_step A (part.Steps n) name fields is (λ m behind. e)
step_fits A unit (part.Steps n) name fields is (Some s) e =
    go (nat_lt 0 s.wait_ms) refl (nat_lt s.wait_ms s.live_ms) refl (nat_lt n most_steps) refl
  where
    line : IsStepLine (part.Steps n) name fields n s
    line = record { named = is; stands_behind = refl; says = step_says fields s e }

    go : (x : Bool) → nat_lt 0 s.wait_ms ≡ x → (y : Bool) → nat_lt s.wait_ms s.live_ms ≡ y → (z : Bool) → nat_lt n most_steps ≡ z → Fits {A = A} unit (part.Steps n) name fields (if x && y then (if z then Ok (Some (item.Step s), part.Steps (n + 1)) else Err cause.StepCount) else Err cause.StepTimes)
    go false ex y ey z ez = record { steps = n; step = s; is_line = line; bad = λ good. absurd (let wrong = lt-ltb 0 s.wait_ms good.0 in cc) }
    go true ex false ey z ez = record { steps = n; step = s; is_line = line; bad = λ good. absurd (let wrong = lt-ltb s.wait_ms s.live_ms good.1 in cc) }
    go true ex true ey false ez = inl (record { steps = n; step = s; is_line = line; is_good = (ltb-true 0 s.wait_ms ex, ltb-true s.wait_ms s.live_ms ey); is_full = ltb-false n most_steps ez })
    go true ex true ey true ez = record { steps = n; is_line = line; is_good = (ltb-true 0 s.wait_ms ex, ltb-true s.wait_ms s.live_ms ey); has_room = ltb-true n most_steps ez; follows = refl }

-- ---- calls

may_call : (p : ScriptPart) → too_early p ≡ None → MayCall p
may_call part.Control e = absurd cc
may_call part.Calls e = tt
may_call (part.Steps n) e = go (n == 0) refl e
  where
    go : (z : Bool) → (n == 0) ≡ z → (if z then Some cause.StepCount else None) ≡ None → 0 < n
    go true ez is = absurd cc
    go false ez is = some_of n ez

not_early : (p : ScriptPart) → MayCall p → too_early p ≡ None
not_early part.Control w = absurd w
not_early part.Calls w = refl
not_early (part.Steps n) w = rw (ne_eqb n 0 (λ e. omega arith)) refl

behind_control : (p : ScriptPart) → MayCall p → p ≡ part.Control → ⊥
behind_control part.Control may e = may
behind_control (part.Steps n) may e = absurd cc
behind_control part.Calls may e = absurd cc

-- why no change or poll may stand somewhere
early : (p : ScriptPart) (why : ScriptCause) → too_early p ≡ Some why → ((p ≡ part.Control) × (why ≡ cause.ScriptForm)) ⊎ ((p ≡ part.Steps 0) × (why ≡ cause.StepCount))
early part.Control why e = inl (refl, sym (same_Some _ why e))
early part.Calls why e = absurd cc
early (part.Steps n) why e = go (n == 0) refl e
  where
    go : (z : Bool) → (n == 0) ≡ z → (if z then Some cause.StepCount else None) ≡ Some why → ((part.Steps n ≡ part.Control) × (why ≡ cause.ScriptForm)) ⊎ ((part.Steps n ≡ part.Steps 0) × (why ≡ cause.StepCount))
    go true ez is = inr (ap (λ (k : ℕ). part.Steps k) (eqb-true n 0 ez), sym (same_Some _ why is))
    go false ez is = absurd cc

no_change : (A : Type 0) (p : ScriptPart) (name : List ℕ) (fields : List (List ℕ)) → name ≡ codes "change" → (length fields ≡ 3 → p ≡ part.Control) → HasForm A p name fields → ⊥
no_change A p name fields is none (of_control control first w) = one_name name (codes "change") (codes "control") refl is w.named
no_change A p name fields is none (of_step steps s w) = one_name name (codes "change") (codes "step") refl is w.named
no_change A p name fields is none (of_call (inl w)) = w.behind_control (none w.size)
no_change A p name fields is none (of_call (inr w)) = one_name name (codes "change") (codes "poll") refl is w.named

no_poll : (A : Type 0) (p : ScriptPart) (name : List ℕ) (fields : List (List ℕ)) → name ≡ codes "poll" → (length fields ≡ 1 → p ≡ part.Control) → HasForm A p name fields → ⊥
no_poll A p name fields is none (of_control control first w) = one_name name (codes "poll") (codes "control") refl is w.named
no_poll A p name fields is none (of_step steps s w) = one_name name (codes "poll") (codes "step") refl is w.named
no_poll A p name fields is none (of_call (inl w)) = one_name name (codes "poll") (codes "change") refl is w.named
no_poll A p name fields is none (of_call (inr w)) = w.behind_control (none w.size)

-- a change or a poll that stands too early is refused
early_fits : (A : Type 0) (unit : MomentUnit) (p : ScriptPart) (name : List ℕ) (fields : List (List ℕ)) → ((p ≡ part.Control → ⊥) → IsCallLine p name fields) → (p ≡ part.Control → HasForm A p name fields → ⊥) → (why : ScriptCause) → too_early p ≡ Some why → IsRefusedLine A unit p name fields why
early_fits A unit p name fields line none why e =
    elim (early p why e) as (λ _. IsRefusedLine A unit p name fields why) [
      | inl w ↦ subst (IsRefusedLine A unit p name fields) (sym w.1) (none w.0)
      | inr w ↦ subst (IsRefusedLine A unit p name fields) (sym w.1) (inr (record { is_line = line (λ first. let no = sym first ∙ w.0 in absurd cc); no_step = w.0 }))
    ]

change_fits : (A : Type 0) (unit : MomentUnit) (p : ScriptPart) (name : List ℕ) (fields : List (List ℕ)) → name ≡ codes "change" → (o : Option ScriptCause) → too_early p ≡ o → Fits {A = A} unit p name fields (change_said unit p fields)
change_fits A unit p name [] is o e = no_change A p name [] is (λ size. absurd (omega arith))
change_fits A unit p name (a ∷ []) is o e = no_change A p name (a ∷ []) is (λ size. absurd (omega arith))
change_fits A unit p name (a ∷ b ∷ []) is o e = no_change A p name (a ∷ b ∷ []) is (λ size. absurd (omega arith))
change_fits A unit p name (a ∷ b ∷ c ∷ d ∷ more) is o e = no_change A p name (a ∷ b ∷ c ∷ d ∷ more) is (λ size. absurd (omega arith))
change_fits A unit p name (a ∷ b ∷ c ∷ []) is (Some why) e =
    rw e (early_fits A unit p name (a ∷ b ∷ c ∷ []) (λ behind. inl (record { named = is; behind_control = behind; size = refl })) (λ first. no_change A p name (a ∷ b ∷ c ∷ []) is (λ size. first)) why e)
change_fits A unit p name (a ∷ b ∷ c ∷ []) is None e = rw e (go (moment_of unit a) refl (time_in b) refl (all_octets_in c) refl)
  where
    line : IsChangeLine p name (a ∷ b ∷ c ∷ [])
    line = record { named = is; behind_control = behind_control p (may_call p e); size = refl }

    read : (moment : ℕ) (t : UtcTime) (octets : List ℕ) → moment_of unit a ≡ Some moment → time_in b ≡ Some t → all_octets_in c ≡ Some octets → (r : Result (List Data) Fault) → members_at 16 0 octets ≡ r → Fits {A = A} unit p name (a ∷ b ∷ c ∷ []) (call_said None (change_to moment t r))
    read moment t octets ex ey ez (Err f) er =
        record { is_line = line; may_stand = may_call p e; moment = moment; moment_is = ex; t = t; time_is = ey; octets = octets; members = ez; faulty = all_wrong 16 1 f refl 0 octets er }
    read moment t octets ex ey ez (Ok values) er =
        record { named = is; may_stand = may_call p e; says = record { size = refl; moment_is = ex; time_is = ey; octets = octets; members = ez; spelled = all_found 16 1 refl 0 octets values er }; follows = refl }

    go : (x : Option ℕ) → moment_of unit a ≡ x → (y : Option UtcTime) → time_in b ≡ y → (z : Option (List ℕ)) → all_octets_in c ≡ z → Fits {A = A} unit p name (a ∷ b ∷ c ∷ []) (call_said None (change_said_by x y z))
    go None ex y ey z ez = record { is_line = inl line; may_stand = may_call p e; bad = ex }
    go (Some moment) ex None ey z ez = record { is_line = line; may_stand = may_call p e; moment = moment; moment_is = ex; bad = inl ey }
    go (Some moment) ex (Some t) ey None ez = record { is_line = line; may_stand = may_call p e; moment = moment; moment_is = ex; bad = inr ez }
    go (Some moment) ex (Some t) ey (Some octets) ez = read moment t octets ex ey ez (members_at 16 0 octets) refl

poll_fits : (A : Type 0) (unit : MomentUnit) (p : ScriptPart) (name : List ℕ) (fields : List (List ℕ)) → name ≡ codes "poll" → (o : Option ScriptCause) → too_early p ≡ o → Fits {A = A} unit p name fields (poll_said unit p fields)
poll_fits A unit p name [] is o e = no_poll A p name [] is (λ size. absurd (omega arith))
poll_fits A unit p name (a ∷ b ∷ more) is o e = no_poll A p name (a ∷ b ∷ more) is (λ size. absurd (omega arith))
poll_fits A unit p name (a ∷ []) is (Some why) e =
    rw e (early_fits A unit p name (a ∷ []) (λ behind. inr (record { named = is; behind_control = behind; size = refl })) (λ first. no_poll A p name (a ∷ []) is (λ size. first)) why e)
poll_fits A unit p name (a ∷ []) is None e = rw e (go (moment_of unit a) refl)
  where
    go : (x : Option ℕ) → moment_of unit a ≡ x → Fits {A = A} unit p name (a ∷ []) (call_said None (poll_of x))
    go None ex = record { is_line = inr (record { named = is; behind_control = behind_control p (may_call p e); size = refl }); may_stand = may_call p e; bad = ex }
    go (Some moment) ex = record { named = is; may_stand = may_call p e; says = record { size = refl; moment_is = ex }; follows = refl }

-- ---- what is said of a change or a poll

data Three : List (List ℕ) → Type 0 where
  three : (a b c : List ℕ) → Three (a ∷ b ∷ c ∷ [])

three_fields : (fields : List (List ℕ)) → length fields ≡ 3 → Three fields
three_fields [] e = absurd (omega arith)
three_fields (a ∷ []) e = absurd (omega arith)
three_fields (a ∷ b ∷ []) e = absurd (omega arith)
three_fields (a ∷ b ∷ c ∷ []) e = three a b c
three_fields (a ∷ b ∷ c ∷ d ∷ more) e = absurd (omega arith)

data One : List (List ℕ) → Type 0 where
  one : (a : List ℕ) → One (a ∷ [])

one_field : (fields : List (List ℕ)) → length fields ≡ 1 → One fields
one_field [] e = absurd (omega arith)
one_field (a ∷ []) e = one a
one_field (a ∷ b ∷ more) e = absurd (omega arith)

module _ {A : Type 0} (unit : MomentUnit) where
  says_change : (p : ScriptPart) (fields : List (List ℕ)) (moment : ℕ) (t : UtcTime) (values : List Data) → Three fields → MayCall p → SaysChange unit fields moment t values → change_said {A = A} unit p fields ≡ Ok (Some (item.Change moment t values), part.Calls)
  says_change p fields moment t values (three a b c) may w =
      rw (not_early p may, w.moment_is, w.time_is, w.members, all_again 16 1 refl 0 w.octets values w.spelled) refl

  says_poll : (p : ScriptPart) (fields : List (List ℕ)) (moment : ℕ) → One fields → MayCall p → SaysPoll unit fields moment → poll_said {A = A} unit p fields ≡ Ok (Some (item.Poll moment), part.Calls)
  says_poll p fields moment (one a) may w = rw (not_early p may, w.moment_is) refl

  change_before_steps : (fields : List (List ℕ)) → Three fields → change_said {A = A} unit (part.Steps 0) fields ≡ Err cause.StepCount
  change_before_steps fields (three a b c) = refl

  poll_before_steps : (fields : List (List ℕ)) → One fields → poll_said {A = A} unit (part.Steps 0) fields ≡ Err cause.StepCount
  poll_before_steps fields (one a) = refl

  change_no_moment : (p : ScriptPart) (fields : List (List ℕ)) → Three fields → MayCall p → SaysNoField fields 0 (moment_of unit) → change_said {A = A} unit p fields ≡ Err cause.Moment
  change_no_moment p fields (three a b c) may bad = rw (not_early p may, bad) refl

  poll_no_moment : (p : ScriptPart) (fields : List (List ℕ)) → One fields → MayCall p → SaysNoField fields 0 (moment_of unit) → poll_said {A = A} unit p fields ≡ Err cause.Moment
  poll_no_moment p fields (one a) may bad = rw (not_early p may, bad) refl

  change_bad_digits : (p : ScriptPart) (fields : List (List ℕ)) (moment : ℕ) → Three fields → MayCall p → SaysField fields 0 (moment_of unit) moment → SaysNoField fields 1 time_in ⊎ SaysNoField fields 2 all_octets_in → change_said {A = A} unit p fields ≡ Err cause.Hex
  change_bad_digits p fields moment (three a b c) may is (inl bad) = rw (not_early p may, is, bad) refl
  change_bad_digits p fields moment (three a b c) may is (inr bad) = rw (not_early p may, is) (go (time_in b))
    where
      go : (y : Option UtcTime) → call_said {A = A} None (change_said_by (Some moment) y (all_octets_in c)) ≡ Err cause.Hex
      go None = refl
      go (Some t) = rw bad refl

  change_faulty : (p : ScriptPart) (fields : List (List ℕ)) (moment : ℕ) (t : UtcTime) (octets : List ℕ) (f : Fault) → Three fields → MayCall p → SaysField fields 0 (moment_of unit) moment → SaysField fields 1 time_in t → SaysField fields 2 all_octets_in octets → FaultIn f 1 0 octets → change_said {A = A} unit p fields ≡ Err (cause.Members f)
  change_faulty p fields moment t octets f (three a b c) may is_moment is_time are_octets faulty =
      rw (not_early p may, is_moment, is_time, are_octets, all_wrong_again 16 1 f refl 0 octets faulty) refl

-- ---- lines

no_name : (A : Type 0) (p : ScriptPart) (name : List ℕ) (fields : List (List ℕ)) → bytes_eq name (codes "control") ≡ false → bytes_eq name (codes "step") ≡ false → bytes_eq name (codes "change") ≡ false → bytes_eq name (codes "poll") ≡ false → HasForm A p name fields → ⊥
no_name A p name fields a b c d (of_control control first w) = other_name name (codes "control") a w.named
no_name A p name fields a b c d (of_step steps s w) = other_name name (codes "step") b w.named
no_name A p name fields a b c d (of_call (inl w)) = other_name name (codes "change") c w.named
no_name A p name fields a b c d (of_call (inr w)) = other_name name (codes "poll") d w.named

pub fits : (A : Type 0) (unit : MomentUnit) (p : ScriptPart) (name : List ℕ) (fields : List (List ℕ)) → Fits {A = A} unit p name fields (fields_said unit p name fields)
fits A unit p name fields = go (bytes_eq name (codes "control")) refl (bytes_eq name (codes "step")) refl (bytes_eq name (codes "change")) refl (bytes_eq name (codes "poll")) refl
  where
    go : (x : Bool) → bytes_eq name (codes "control") ≡ x → (y : Bool) → bytes_eq name (codes "step") ≡ y → (z : Bool) → bytes_eq name (codes "change") ≡ z → (w : Bool) → bytes_eq name (codes "poll") ≡ w →
        Fits {A = A} unit p name fields (if x then control_said p (control_of fields) else (if y then step_said p (step_said_by fields) else (if z then change_said unit p fields else (if w then poll_said unit p fields else Err cause.ScriptForm))))
    go true ex y ey z ez w ew = control_fits A unit p name fields ((bytes_eq-Decides name (codes "control")).0 ex) (control_of fields) refl
    go false ex true ey z ez w ew = step_fits A unit p name fields ((bytes_eq-Decides name (codes "step")).0 ey) (step_said_by fields) refl
    go false ex false ey true ez w ew = change_fits A unit p name fields ((bytes_eq-Decides name (codes "change")).0 ez) (too_early p) refl
    go false ex false ey false ez true ew = poll_fits A unit p name fields ((bytes_eq-Decides name (codes "poll")).0 ew) (too_early p) refl
    go false ex false ey false ez false ew = no_name A p name fields ex ey ez ew

pub said : {A : Type 0} (unit : MomentUnit) (p : ScriptPart) (name : List ℕ) (fields : List (List ℕ)) (x : ScriptItem A) (next : ScriptPart) → IsLine unit p name fields x next → fields_said unit p name fields ≡ Ok (Some x, next)
said unit p name fields (item.Control control first) next w =
    rw (w.is_line.named, w.is_line.stands_first, w.follows, says_control fields control first (count fields) w.is_line.says, ne_eqb first 0 (let some = w.first_state in λ e. omega arith)) refl
said unit p name fields (item.Step s) next w =
    rw (w.is_line.named, w.is_line.stands_behind, w.follows, says_step fields s w.is_line.says, lt-ltb 0 s.wait_ms w.is_good.0, lt-ltb s.wait_ms s.live_ms w.is_good.1, lt-ltb w.steps most_steps w.has_room) refl
said unit p name fields (item.Change moment t values) next w = rw (w.named, w.follows) (says_change unit p fields moment t values (three_fields fields w.says.size) w.may_stand w.says)
said unit p name fields (item.Poll moment) next w = rw (w.named, w.follows) (says_poll unit p fields moment (one_field fields w.says.size) w.may_stand w.says)

pub lines_say_items : {A : Type 0} → LinesSayItems A
lines_say_items {A} unit p next name fields x =
    ((λ e. subst (Fits {A = A} unit p name fields) e (fits A unit p name fields)), said unit p name fields x next)

-- what is said as an item has the form of a line
form : {A : Type 0} (unit : MomentUnit) (p : ScriptPart) (name : List ℕ) (fields : List (List ℕ)) (x : ScriptItem A) (next : ScriptPart) → IsLine unit p name fields x next → HasForm A p name fields
form unit p name fields (item.Control control first) next w = of_control control first w.is_line
form unit p name fields (item.Step s) next w = of_step w.steps s w.is_line
form unit p name fields (item.Change moment t values) next w = of_call (inl (record { named = w.named; behind_control = behind_control p w.may_stand; size = w.says.size }))
form unit p name fields (item.Poll moment) next w = of_call (inr (record { named = w.named; behind_control = behind_control p w.may_stand; size = w.says.size }))

-- what has no form is refused for that
formless : {A : Type 0} (unit : MomentUnit) (p : ScriptPart) (name : List ℕ) (fields : List (List ℕ)) → (HasForm A p name fields → ⊥) → (r : Result (Option (ScriptItem A) × ScriptPart) ScriptCause) → Fits unit p name fields r → r ≡ Err cause.ScriptForm
formless unit p name fields none (Ok (Some x, next)) w = absurd (none (form unit p name fields x next w))
formless unit p name fields none (Ok (None, next)) w = absurd w
formless unit p name fields none (Err cause.ScriptForm) w = refl
formless unit p name fields none (Err cause.FirstState) w = absurd (none (of_control w.control 0 w.is_line))
formless unit p name fields none (Err cause.StepTimes) w = absurd (none (of_step w.steps w.step w.is_line))
formless unit p name fields none (Err cause.StepCount) (inl w) = absurd (none (of_step w.steps w.step w.is_line))
formless unit p name fields none (Err cause.StepCount) (inr w) = absurd (none (of_call w.is_line))
formless unit p name fields none (Err cause.Moment) w = absurd (none (of_call w.is_line))
formless unit p name fields none (Err cause.Hex) w = absurd (none (of_call (inl w.is_line)))
formless unit p name fields none (Err (cause.Members f)) w = absurd (none (of_call (inl w.is_line)))
formless unit p name fields none (Err cause.EntriesDiffer) w = absurd w
formless unit p name fields none (Err cause.NotSpellable) w = absurd w
formless unit p name fields none (Err cause.WouldNotFit) w = absurd w

call_too_early : (A : Type 0) (unit : MomentUnit) (p : ScriptPart) (name : List ℕ) (fields : List (List ℕ)) → IsCallLine p name fields → p ≡ part.Steps 0 → fields_said {A = A} unit p name fields ≡ Err cause.StepCount
call_too_early A unit p name fields (inl w) is = rw (w.named, is) (change_before_steps unit fields (three_fields fields w.size))
call_too_early A unit p name fields (inr w) is = rw (w.named, is) (poll_before_steps unit fields (one_field fields w.size))

call_no_moment : (A : Type 0) (unit : MomentUnit) (p : ScriptPart) (name : List ℕ) (fields : List (List ℕ)) → IsCallLine p name fields → MayCall p → SaysNoField fields 0 (moment_of unit) → fields_said {A = A} unit p name fields ≡ Err cause.Moment
call_no_moment A unit p name fields (inl w) may bad = rw w.named (change_no_moment unit p fields (three_fields fields w.size) may bad)
call_no_moment A unit p name fields (inr w) may bad = rw w.named (poll_no_moment unit p fields (one_field fields w.size) may bad)

pub refused : (A : Type 0) (unit : MomentUnit) (p : ScriptPart) (name : List ℕ) (fields : List (List ℕ)) (why : ScriptCause) → IsRefusedLine A unit p name fields why → fields_said {A = A} unit p name fields ≡ Err why
refused A unit p name fields cause.ScriptForm w = formless unit p name fields w (fields_said unit p name fields) (fits A unit p name fields)
refused A unit p name fields cause.FirstState w =
    rw (w.is_line.named, w.is_line.stands_first, says_control fields w.control 0 (count fields) w.is_line.says) refl
refused A unit p name fields cause.StepTimes w =
    rw (w.is_line.named, w.is_line.stands_behind, says_step fields w.step w.is_line.says, bad_times w.step w.bad) refl
refused A unit p name fields cause.StepCount (inl w) =
    rw (w.is_line.named, w.is_line.stands_behind, says_step fields w.step w.is_line.says, lt-ltb 0 w.step.wait_ms w.is_good.0, lt-ltb w.step.wait_ms w.step.live_ms w.is_good.1, le-ltb w.steps most_steps w.is_full) refl
refused A unit p name fields cause.StepCount (inr w) = call_too_early A unit p name fields w.is_line w.no_step
refused A unit p name fields cause.Moment w = call_no_moment A unit p name fields w.is_line w.may_stand w.bad
refused A unit p name fields cause.Hex w =
    rw w.is_line.named (change_bad_digits unit p fields w.moment (three_fields fields w.is_line.size) w.may_stand w.moment_is w.bad)
refused A unit p name fields (cause.Members f) w =
    rw w.is_line.named (change_faulty unit p fields w.moment w.t w.octets f (three_fields fields w.is_line.size) w.may_stand w.moment_is w.time_is w.members w.faulty)
refused A unit p name fields cause.EntriesDiffer w = absurd w
refused A unit p name fields cause.NotSpellable w = absurd w
refused A unit p name fields cause.WouldNotFit w = absurd w

pub lines_are_refused : {A : Type 0} → LinesAreRefused A
lines_are_refused {A} unit p name fields why =
    ((λ e. subst (Fits {A = A} unit p name fields) e (fits A unit p name fields)), refused A unit p name fields why)
