-- A line of a script is read as what it says after the lines before it, and kept where it says an item that needs memory.
use Rattle.std.proofs.Common.{◌≡◌, ℕ, ◌==◌, ◌&&◌, Bool, true, false, if◌then◌else◌, List, [], ◌∷◌, get_or, Option, Some, None, Result, Ok, Err, inl, inr, refl, sym, ap, ◌∙◌, subst, arith}
use Rattle.std.specs.Prelude.{◌+◌, ◌↔◌, is_none, is_ok, nat_lt, codes}
use Rattle.std.specs.Str.{bytes_eq}
use Rattle.std.proofs.lemmas.Bool.{eq-eqb, eqb-false, eqb-true, ne_eqb}
use Rattle.std.proofs.lemmas.Slice.Eq.{bytes_eq-Decides}
use Rattle.ber_core.specs.declared.fault.Fault.{Fault}
use Rattle.mms_data.specs.Data.{Data}
use Rattle.mms_data.specs.computed.Reading.{members_at}
use Rattle.mms_data.specs.declared.time.UtcTime.{UtcTime}
use Rattle.mms_data.proofs.Again.{all_again}
use Rattle.mms_data.proofs.Found.{all_found}
use Rattle.list_core.specs.EventLine.{is_version, moment_of}
use Rattle.list_core.specs.declared.event_lines.MomentUnit.{MomentUnit}
use Rattle.list_core.specs.declared.event_lines.MomentUnit.TheVariants.{Milliseconds, Microseconds}
use Rattle.list_core.proofs.Cuts.{cut_some}
use Rattle.block_core.specs.Commas.{comma_fields}
use Rattle.block_core.specs.BlockText.{texts_keep}
use Rattle.publish_core.specs.declared.table.Step.{Step}
use Rattle.publish_core.specs.Table.{most_steps}
use Rattle.script_core.specs.Laws.{LinesAreKept, LinesAreRead}
use Rattle.script_core.specs.Lines.{IsLine}
use Rattle.script_core.specs.RefusedLines.{IsRefusedLine}
use Rattle.script_core.specs.Script.{HasFields, IsComment, IsVersion, LineNeedsMemory, LineSays, NeedsMemory, SaysItem, part_of, unit_of}
use Rattle.script_core.specs.ScriptFields.{all_octets_in, time_in}
use Rattle.script_core.specs.computed.CallLine.{call_said, change_keeps, change_said, change_said_by, change_to, members_keep, octets_keep, poll_of, poll_said, too_early}
use Rattle.script_core.specs.computed.ControlLine.{ControlLine, block_of_line, control_keeps, control_of, control_said}
use Rattle.script_core.specs.computed.LineReading.{all_keep, all_said, fields_said, line_keeps, line_said, part_keeps, script_keeps, script_said, settled}
use Rattle.script_core.specs.computed.StepLine.{step_said, step_said_by}
use Rattle.script_core.specs.declared.script.ScriptCause.{ScriptCause}
use Rattle.script_core.specs.declared.script.ScriptCause.TheVariants as cause
use Rattle.script_core.specs.declared.script.ScriptItem.{ScriptItem}
use Rattle.script_core.specs.declared.script.ScriptItem.TheVariants as item
use Rattle.script_core.specs.declared.script.ScriptLines.{ScriptLines}
use Rattle.script_core.specs.declared.script.ScriptLines.TheVariants.{First, After}
use Rattle.script_core.specs.declared.script.ScriptPart.{ScriptPart}
use Rattle.script_core.specs.declared.script.ScriptPart.TheVariants as part
use Rattle.script_core.proofs.LineLaws.{Fits, fits, one_name, refused, said}

-- ---- one line

-- a line with fields of which this holds
record Has (line : List ℕ) (Is : List ℕ → List (List ℕ) → Type 0) : Type 0 where
  name : List ℕ
  fields : List (List ℕ)
  has_fields : HasFields line name fields
  holds : Is name fields

-- what is answered for a line is what it says
abbrev LineFits : {A : Type 0} → MomentUnit → ScriptPart → List ℕ → Result (Option (ScriptItem A) × ScriptPart) ScriptCause → Type 0
LineFits unit p line (Ok (None, next)) = IsComment line × (next ≡ p)
LineFits unit p line (Ok (Some x, next)) = Has line (λ name fields. IsLine unit p name fields x next)
LineFits {A} unit p line (Err why) = Has line (λ name fields. IsRefusedLine A unit p name fields why)

by_fields : {A : Type 0} (unit : MomentUnit) (p : ScriptPart) (line name : List ℕ) (fields : List (List ℕ)) → HasFields line name fields → (r : Result (Option (ScriptItem A) × ScriptPart) ScriptCause) → Fits unit p name fields r → LineFits unit p line r
by_fields unit p line name fields has (Ok (None, next)) w = absurd w
by_fields unit p line name fields has (Ok (Some x, next)) w = record { name = name; fields = fields; has_fields = has; holds = w }
by_fields unit p line name fields has (Err why) w = record { name = name; fields = fields; has_fields = has; holds = w }

line_fits : (A : Type 0) (unit : MomentUnit) (p : ScriptPart) (line : List ℕ) → LineFits {A = A} unit p line (line_said unit p line)
line_fits A unit p [] = (tt, refl)
line_fits A unit p (x ∷ xs) = go (x == 35) refl
  where
    go : (z : Bool) → (x == 35) ≡ z → LineFits {A = A} unit p (x ∷ xs) (if z then Ok (None, p) else all_said unit p (comma_fields (x ∷ xs)))
    go true ez = (eqb-true x 35 ez, refl)
    go false ez =
        let r = cut_some 44 (x ∷ xs) in
        subst (λ (parts : List (List ℕ)). LineFits {A = A} unit p (x ∷ xs) (all_said unit p parts)) (sym r.2)
        (by_fields unit p (x ∷ xs) r.0 r.1 (record { is_no_comment = eqb-false x 35 ez; cut = r.2 }) (fields_said unit p r.0 r.1) (fits A unit p r.0 r.1))

said_of_comment : (A : Type 0) (unit : MomentUnit) (p : ScriptPart) (line : List ℕ) → IsComment line → line_said {A = A} unit p line ≡ Ok (None, p)
said_of_comment A unit p [] is = refl
said_of_comment A unit p (x ∷ xs) is = rw (eq-eqb x 35 is) refl

said_of_fields : (A : Type 0) (unit : MomentUnit) (p : ScriptPart) (line name : List ℕ) (fields : List (List ℕ)) → HasFields line name fields → line_said {A = A} unit p line ≡ fields_said unit p name fields
said_of_fields A unit p [] name fields has = absurd (has.is_no_comment tt)
said_of_fields A unit p (x ∷ xs) name fields has = rw (ne_eqb x 35 has.is_no_comment, has.cut) refl

-- ---- the version

version_is : (line : List ℕ) → is_version line ≡ true → line ≡ codes "V2"
version_is [] e = absurd cc
version_is (a ∷ []) e = absurd cc
version_is (a ∷ b ∷ c ∷ more) e = absurd cc
version_is (a ∷ b ∷ []) e = go (a == 86) refl (b == 50) refl e
  where
    go : (x : Bool) → (a == 86) ≡ x → (y : Bool) → (b == 50) ≡ y → (x && y) ≡ true → a ∷ b ∷ [] ≡ codes "V2"
    go false ex y ey is = absurd cc
    go true ex false ey is = absurd cc
    go true ex true ey is = rw (eqb-true a 86 ex, eqb-true b 50 ey) refl

no_version : (line : List ℕ) → (line ≡ codes "V2" → ⊥) → is_version line ≡ false
no_version line none = go (is_version line) refl
  where
    go : (z : Bool) → is_version line ≡ z → z ≡ false
    go true e = absurd (none (version_is line e))
    go false e = refl

comment_is_no_version : (line : List ℕ) → IsComment line → line ≡ codes "V2" → ⊥
comment_is_no_version [] is e = absurd cc
comment_is_no_version (x ∷ xs) is e = let first : x ≡ 86 = ap (λ (l : List ℕ). get_or l 0 0) e in absurd (omega (arith, is, first))

-- `V2` has no fields of an item
item_is_no_version : {A : Type 0} (unit : MomentUnit) (p : ScriptPart) (line name : List ℕ) (fields : List (List ℕ)) (x : ScriptItem A) (next : ScriptPart) → HasFields line name fields → IsLine unit p name fields x next → line ≡ codes "V2" → ⊥
item_is_no_version {A} unit p line name fields x next has w e =
    let read : line_said {A = A} unit p line ≡ Ok (Some x, next) = said_of_fields A unit p line name fields has ∙ said unit p name fields x next w in
    let none : line_said {A = A} unit p line ≡ Err cause.ScriptForm = rw e refl in
    absurd (let wrong = sym none ∙ read in cc)

-- ---- a line after others

settles : {A : Type 0} (s : ScriptLines) (line : List ℕ) → (IsVersion s line → ⊥) → (r : Result (Option (ScriptItem A) × ScriptPart) ScriptCause) → LineFits (unit_of s) (part_of s) line r → LineSays s line (settled (unit_of s) r)
settles s line none (Ok (None, next)) w = inr (w.0, ap (λ (p : ScriptPart). After (unit_of s) p) w.1)
settles s line none (Ok (Some x, next)) w = record { name = w.name; fields = w.fields; has_fields = w.has_fields; following = next; is_line = w.holds; settles = refl }
settles s line none (Err why) w = record { is_no_version = none; name = w.name; fields = w.fields; has_fields = w.has_fields; is_refused = w.holds }

reads : (A : Type 0) (s : ScriptLines) (line : List ℕ) → LineSays {A = A} s line (script_said s line)
reads A (After unit p) line = settles (After unit p) line (λ e. e) (line_said unit p line) (line_fits A unit p line)
reads A First line = go (is_version line) refl
  where
    go : (z : Bool) → is_version line ≡ z → LineSays {A = A} First line (if z then Ok (None, After Microseconds part.Control) else settled Milliseconds (line_said Milliseconds part.Control line))
    go true e = inl (version_is line e, refl)
    go false e = settles First line (λ is. let no : is_version line ≡ true = rw is refl in absurd cc) (line_said Milliseconds part.Control line) (line_fits A Milliseconds part.Control line)

-- a line that is no version
said_by_line : (A : Type 0) (s : ScriptLines) (line : List ℕ) → (IsVersion s line → ⊥) → script_said {A = A} s line ≡ settled (unit_of s) (line_said (unit_of s) (part_of s) line)
said_by_line A First line none = rw (no_version line none) refl
said_by_line A (After unit p) line none = refl

comment_of_any : (s : ScriptLines) (line : List ℕ) → IsComment line → IsVersion s line → ⊥
comment_of_any First line is e = comment_is_no_version line is e
comment_of_any (After unit p) line is e = e

item_of_any : {A : Type 0} (s : ScriptLines) (line : List ℕ) (x : ScriptItem A) (next : ScriptLines) → SaysItem s line x next → IsVersion s line → ⊥
item_of_any First line x next w e = item_is_no_version Milliseconds part.Control line w.name w.fields x w.following w.has_fields w.is_line e
item_of_any (After unit p) line x next w e = e

read_back : {A : Type 0} (s : ScriptLines) (line : List ℕ) (answer : Result (Option (ScriptItem A) × ScriptLines) ScriptCause) → LineSays s line answer → script_said s line ≡ answer
read_back First line (Ok (None, next)) (inl w) = rw (w.0, w.1) refl
read_back (After unit p) line (Ok (None, next)) (inl w) = absurd w.0
read_back {A} s line (Ok (None, next)) (inr w) =
    said_by_line A s line (comment_of_any s line w.0) ∙ ap (settled (unit_of s)) (said_of_comment A (unit_of s) (part_of s) line w.0) ∙ ap (λ (t : ScriptLines). Ok (None, t)) (sym w.1)
read_back {A} s line (Ok (Some x, next)) w =
    said_by_line A s line (item_of_any s line x next w)
    ∙ ap (settled (unit_of s)) (said_of_fields A (unit_of s) (part_of s) line w.name w.fields w.has_fields ∙ said (unit_of s) (part_of s) w.name w.fields x w.following w.is_line)
    ∙ ap (λ (t : ScriptLines). Ok (Some x, t)) (sym w.settles)
read_back {A} s line (Err why) w =
    said_by_line A s line w.is_no_version
    ∙ ap (settled (unit_of s)) (said_of_fields A (unit_of s) (part_of s) line w.name w.fields w.has_fields ∙ refused A (unit_of s) (part_of s) w.name w.fields why w.is_refused)

pub lines_are_read : {A : Type 0} → LinesAreRead A
lines_are_read {A} s line answer = ((λ e. subst (LineSays {A = A} s line) e (reads A s line)), read_back s line answer)

-- ---- what needs memory

-- what is answered has something to keep
abbrev Keeps : {A S : Type 0} → Result (Option (ScriptItem A) × S) ScriptCause → Type 0
Keeps (Ok (None, s)) = ⊥
Keeps (Ok (Some x, s)) = NeedsMemory x
Keeps (Err why) = ⊥

abbrev Agree : {A S : Type 0} → Bool → Result (Option (ScriptItem A) × S) ScriptCause → Type 0
Agree b r = (b ≡ true) ↔ Keeps r

none_kept : (false ≡ true) ↔ ⊥
none_kept = ((λ e. absurd cc), (λ w. absurd w))

control_agrees : (A : Type 0) (p : ScriptPart) (o : Option ControlLine) → Agree {A = A} (control_keeps p o) (control_said p o)
control_agrees A part.Control None = none_kept
control_agrees A (part.Steps n) o = none_kept
control_agrees A part.Calls o = none_kept
control_agrees A part.Control (Some l) = go (l.numbers.first == 0)
  where
    go : (z : Bool) → Agree {A = A} (if z then false else texts_keep l.gocb_ref l.dat_set l.go_id) (if z then Err cause.FirstState else Ok (Some (item.Control (block_of_line l) l.numbers.first), part.Steps 0))
    go true = none_kept
    go false = ((λ e. e), (λ e. e))

step_agrees : (A : Type 0) (p : ScriptPart) (o : Option Step) → Agree {A = A} false (step_said p o)
step_agrees A part.Control o = none_kept
step_agrees A part.Calls o = none_kept
step_agrees A (part.Steps n) None = none_kept
step_agrees A (part.Steps n) (Some s) = go (nat_lt 0 s.wait_ms && nat_lt s.wait_ms s.live_ms) (nat_lt n most_steps)
  where
    go : (x y : Bool) → Agree {A = A} false (if x then (if y then Ok (Some (item.Step s), part.Steps (n + 1)) else Err cause.StepCount) else Err cause.StepTimes)
    go false y = none_kept
    go true false = none_kept
    go true true = none_kept

-- octets have members exactly where there are some
octets_agree : (A : Type 0) (moment : ℕ) (t : UtcTime) (octets : List ℕ) (r : Result (List Data) Fault) → members_at 16 0 octets ≡ r → Agree {A = A} (octets_keep octets) (call_said None (change_to moment t r))
octets_agree A moment t [] r e =
    let none : members_at 16 0 [] ≡ Ok [] = all_again 16 1 refl 0 [] [] refl in
    subst (λ (x : Result (List Data) Fault). Agree {A = A} false (call_said None (change_to moment t x))) (sym none ∙ e) ((λ is. absurd cc), (λ some. absurd (some refl)))
octets_agree A moment t (x ∷ xs) (Ok []) e = let none : x ∷ xs ≡ [] = all_found 16 1 refl 0 (x ∷ xs) [] e in absurd cc
octets_agree A moment t (x ∷ xs) (Ok (v ∷ values)) e = ((λ is none. absurd cc), (λ some. ap is_ok e))
octets_agree A moment t (x ∷ xs) (Err f) e = ((λ is. let no = sym is ∙ ap is_ok e in absurd cc), (λ w. absurd w))

change_agrees : (A : Type 0) (unit : MomentUnit) (p : ScriptPart) (fields : List (List ℕ)) → Agree {A = A} (change_keeps unit p fields) (change_said unit p fields)
change_agrees A unit p [] = none_kept
change_agrees A unit p (a ∷ []) = none_kept
change_agrees A unit p (a ∷ b ∷ []) = none_kept
change_agrees A unit p (a ∷ b ∷ c ∷ d ∷ more) = none_kept
change_agrees A unit p (a ∷ b ∷ c ∷ []) = go (too_early p) (moment_of unit a) (time_in b) (all_octets_in c)
  where
    go : (o : Option ScriptCause) (x : Option ℕ) (y : Option UtcTime) (z : Option (List ℕ)) → Agree {A = A} (is_none o && members_keep x y z) (call_said o (change_said_by x y z))
    go (Some why) x y z = none_kept
    go None None y z = none_kept
    go None (Some moment) None z = none_kept
    go None (Some moment) (Some t) None = none_kept
    go None (Some moment) (Some t) (Some octets) = octets_agree A moment t octets (members_at 16 0 octets) refl

poll_agrees : (A : Type 0) (unit : MomentUnit) (p : ScriptPart) (fields : List (List ℕ)) → Agree {A = A} false (poll_said unit p fields)
poll_agrees A unit p [] = none_kept
poll_agrees A unit p (a ∷ b ∷ more) = none_kept
poll_agrees A unit p (a ∷ []) = go (too_early p) (moment_of unit a)
  where
    go : (o : Option ScriptCause) (x : Option ℕ) → Agree {A = A} false (call_said o (poll_of x))
    go (Some why) x = none_kept
    go None None = none_kept
    go None (Some moment) = none_kept

part_agrees : (A : Type 0) (unit : MomentUnit) (p : ScriptPart) (name : List ℕ) (fields : List (List ℕ)) → Agree {A = A} (part_keeps unit p name fields) (fields_said unit p name fields)
part_agrees A unit p name fields = go (bytes_eq name (codes "control")) (bytes_eq name (codes "step")) refl (bytes_eq name (codes "change")) refl (bytes_eq name (codes "poll"))
  where
    go : (x y : Bool) → bytes_eq name (codes "step") ≡ y → (z : Bool) → bytes_eq name (codes "change") ≡ z → (w : Bool) →
        Agree {A = A} (if x then control_keeps p (control_of fields) else (if z then change_keeps unit p fields else false))
        (if x then control_said p (control_of fields) else (if y then step_said p (step_said_by fields) else (if z then change_said unit p fields else (if w then poll_said unit p fields else Err cause.ScriptForm))))
    go true y ey z ez w = control_agrees A p (control_of fields)
    go false true ey true ez w = absurd (one_name name (codes "step") (codes "change") refl ((bytes_eq-Decides name (codes "step")).0 ey) ((bytes_eq-Decides name (codes "change")).0 ez))
    go false true ey false ez w = step_agrees A p (step_said_by fields)
    go false false ey true ez w = change_agrees A unit p fields
    go false false ey false ez true = poll_agrees A unit p fields
    go false false ey false ez false = none_kept

line_agrees : (A : Type 0) (unit : MomentUnit) (p : ScriptPart) (line : List ℕ) → Agree {A = A} (line_keeps unit p line) (line_said unit p line)
line_agrees A unit p [] = none_kept
line_agrees A unit p (x ∷ xs) = go (x == 35)
  where
    go : (z : Bool) → Agree {A = A} (if z then false else all_keep unit p (comma_fields (x ∷ xs))) (if z then Ok (None, p) else all_said unit p (comma_fields (x ∷ xs)))
    go true = none_kept
    go false =
        let r = cut_some 44 (x ∷ xs) in
        subst (λ (parts : List (List ℕ)). Agree {A = A} (all_keep unit p parts) (all_said unit p parts)) (sym r.2) (part_agrees A unit p r.0 r.1)

settled_agrees : {A : Type 0} (unit : MomentUnit) (b : Bool) (r : Result (Option (ScriptItem A) × ScriptPart) ScriptCause) → Agree b r → Agree b (settled unit r)
settled_agrees unit b (Ok (None, p)) w = w
settled_agrees unit b (Ok (Some x, p)) w = w
settled_agrees unit b (Err why) w = w

agrees : (A : Type 0) (s : ScriptLines) (line : List ℕ) → Agree {A = A} (script_keeps s line) (script_said s line)
agrees A (After unit p) line = settled_agrees unit (line_keeps unit p line) (line_said unit p line) (line_agrees A unit p line)
agrees A First line = go (is_version line) refl
  where
    go : (z : Bool) → is_version line ≡ z → Agree {A = A} (line_keeps Milliseconds part.Control line) (if z then Ok (None, After Microseconds part.Control) else settled Milliseconds (line_said Milliseconds part.Control line))
    go true e = rw (version_is line e) none_kept
    go false e = settled_agrees Milliseconds (line_keeps Milliseconds part.Control line) (line_said Milliseconds part.Control line) (line_agrees A Milliseconds part.Control line)

needs : {A : Type 0} (s : ScriptLines) (line : List ℕ) (r : Result (Option (ScriptItem A) × ScriptLines) ScriptCause) → LineSays s line r → Keeps r → LineNeedsMemory A s line
needs s line (Ok (None, next)) w kept = absurd kept
needs s line (Ok (Some x, next)) w kept = record { what = x; next = next; says = w; needs_memory = kept }
needs s line (Err why) w kept = absurd kept

pub lines_are_kept : {A : Type 0} → LinesAreKept A
lines_are_kept {A} s line = (
  (λ kept. needs s line (script_said {A = A} s line) (reads A s line) ((agrees A s line).0 kept)),
  (λ w. (agrees A s line).1 (subst (Keeps {A = A}) (sym (read_back s line (Ok (Some w.what, w.next)) w.says)) w.needs_memory)),
)
