-- Reading of a sequence of fields: what is read is spelled so, what is spelled so is read, and the same of faults.
use Rattle.std.proofs.Common.{◌≡◌, ◌≢◌, ℕ, ◌-◌, ◌+◌, ◌%◌, ◌≤◌, ◌<◌, Bool, true, false, eqb, ltb, List, [], ◌∷◌, ◌++◌, length, Result, Ok, Err, Option, Some, refl, sym, ap, ap₂, subst, ◌∙◌, append_assoc, arith, inl, inr}
use Rattle.std.proofs.lemmas.List.{length-append, append-nil}
use Rattle.std.proofs.lemmas.Bool.{eqb-false, ltb-true, ltb-false, lt-ltb, ne_eqb}
use Rattle.std.specs.Prelude.{slice_range, not, ◌&&◌}
use Rattle.ber_core.specs.declared.fault.Fault.{Fault}
use Rattle.ber_core.specs.declared.fault.Cause.TheVariants as causes
use Rattle.ber_core.specs.computed.Reading.{◌>>=◌}
use Rattle.ber_core.specs.Element.{Elem}
use Rattle.ber_core.specs.Faults.{fault_of}
use Rattle.ber_core.proofs.Steps.{chosen, bind_ok, bind_err, err_is}
use Rattle.ber_core.specs.Fields.{Field, Grammar, BeginsWith, SpellsField, SpellsFields, FieldsFault, later, absent, missing, high, unexpected, in_length, in_contents, extra, filled, left_out}
use Rattle.ber_core.specs.computed.FieldReading.{Read, field_at, fields_at, ends_at, is_stranger, are_apart}
use Rattle.ber_core.proofs.Regions.{behind_front, region-length}
use Rattle.ber_core.proofs.FieldSound.{IsSound, Took, took, skipped, field_took, field_wrong, field_again, field_skipped, field_wrong_again, field_length_again, field_absent, absence_means, may_be_absent}

-- ---- identifiers of a sequence are apart

pub both : (a b : Bool) → (a && b) ≡ true → (a ≡ true) × (b ≡ true)
both true b e = (refl, e)
both false b e = absurd (cc)

pub is_not : (a : Bool) → not a ≡ true → a ≡ false
is_not false e = refl
is_not true e = absurd (cc)

abbrev pub Outside : {K I : Type 0} → List (Field K I) → List ℕ → Type 0
Outside gs [] = Unit {0}
Outside gs (b ∷ bs) = is_stranger b gs ≡ true

elem_front : (id i : ℕ) (c a : List ℕ) (b : List ℕ) → id ≢ i → Elem i c a → ¬ BeginsWith id (a ++ b)
elem_front id i c [] b n s = absurd (let none = s.parts in cc)
elem_front id i c (x ∷ xs) b n s = λ same. let is : x ≡ i = (let parts = s.parts in cc) in n (sym same ∙ is)

-- a stranger does not begin what the fields spell, and what follows them
stranger_front : {K I : Type 0} (G : Grammar K I) (id : ℕ) (gs : List (Field K I)) (us : List (Option I)) (a b : List ℕ) → is_stranger id gs ≡ true → SpellsFields G gs us a → ¬ BeginsWith id b → ¬ BeginsWith id (a ++ b)
stranger_front G id [] [] a b n s out = rw s out
stranger_front G id [] (u ∷ us) a b n s out = absurd s
stranger_front G id (g ∷ gs) [] a b n s out = absurd s
stranger_front G id (g ∷ gs) (u ∷ us) a b n (first, rest, filled x c is elem spelled, more, parts) out =
    let t = both (not (eqb id g.identifier)) (is_stranger id gs) n in
    let e : a ++ b ≡ first ++ (rest ++ b) = ap (λ (s : List ℕ). s ++ b) parts ∙ append_assoc first rest b in
    rw e (elem_front id g.identifier c first (rest ++ b) (eqb-false id g.identifier (is_not (eqb id g.identifier) t.0)) elem)
stranger_front G id (g ∷ gs) (u ∷ us) a b n (first, rest, left_out means none, more, parts) out =
    let t = both (not (eqb id g.identifier)) (is_stranger id gs) n in
    let e : a ≡ rest = parts ∙ ap (λ (s : List ℕ). s ++ rest) none in
    rw e (stranger_front G id gs us rest b t.1 more out)

pub outside_front : {K I : Type 0} (G : Grammar K I) (g : Field K I) (gs : List (Field K I)) (b : List ℕ) → Outside (g ∷ gs) b → (¬ BeginsWith g.identifier b) × Outside gs b
outside_front G g gs [] o = (λ x. x, tt)
outside_front G g gs (x ∷ xs) o = let t = both (not (eqb x g.identifier)) (is_stranger x gs) o in (eqb-false x g.identifier (is_not (eqb x g.identifier) t.0), t.1)

pub ended : (q e : ℕ) → ends_at q e ≡ Ok tt → e ≤ q
ended q e h = elim (chosen (ltb q e) _ _ _ h) [
  | inl t ↦ absurd (let wrong = t.1 in cc)
  | inr t ↦ ltb-false q e t.0
]

-- the values and the octets of fields that were read
pub record Goes {K I : Type 0} (G : Grammar K I) (gs : List (Field K I)) (vs ws : List (Option I)) (octets : List ℕ) (p e q : ℕ) : Type 0 where
  pub values : List (Option I)
  pub front : List ℕ
  pub back : List ℕ
  pub all : ws ≡ vs ++ values
  pub spelled : SpellsFields G gs values front
  pub parts : slice_range octets p e ≡ front ++ back
  pub next : q ≡ p + length front

-- one field at the front
record Piece {K I : Type 0} (G : Grammar K I) (g : Field K I) (p : ℕ) (o : List ℕ) (v : Option I) (q : ℕ) : Type 0 where
  front : List ℕ
  back : List ℕ
  parts : o ≡ front ++ back
  spelled : SpellsField G g v front
  next : q ≡ p + length front

pub cut : (id : ℕ) (size c rest : List ℕ) → (id ∷ size ++ (c ++ rest)) ≡ (id ∷ size ++ c) ++ rest
cut id size c rest = ap (λ (x : List ℕ). id ∷ x) (sym (append_assoc size c rest))

piece : {K I : Type 0} (G : Grammar K I) (g : Field K I) (low : eqb (g.identifier % 32) 31 ≡ false) (p : ℕ) (o : List ℕ) (v : Option I) (q : ℕ) → Took G g p o v q → Piece G g p o v q
piece G g low p o v q (took x size c rest parts len spelled is next) = record {
  front = g.identifier ∷ size ++ c;
  back = rest;
  parts = parts ∙ cut g.identifier size c rest;
  spelled = filled x c is (record { identifier = eqb-false (g.identifier % 32) 31 low; size = size; sized = len; parts = refl }) spelled;
  next = omega (arith, next, length-append size c);
}
piece G g low p o v q (skipped n means next) = record {
  front = [];
  back = o;
  parts = refl;
  spelled = left_out means refl;
  next = omega (arith, next);
}

pub bind_assoc : {A B C : Type 0} (r : Result A Fault) (f : A → Result B Fault) (h : B → Result C Fault) → ((r >>= f) >>= h) ≡ (r >>= λ x. (f x >>= h))
bind_assoc (Ok x) f h = refl
bind_assoc (Err e) f h = refl

some_front : (octets : List ℕ) (p e : ℕ) → p ≤ e → e ≤ length octets → p < e → (b : ℕ) × (bs : List ℕ) × (slice_range octets p e ≡ b ∷ bs)
some_front octets p e order within more = cons_of (slice_range octets p e) (omega (arith, region-length octets p e within)) where
  cons_of : (o : List ℕ) → 0 < length o → (b : ℕ) × (bs : List ℕ) × (o ≡ b ∷ bs)
  cons_of [] h = absurd (omega arith)
  cons_of (b ∷ bs) h = (b, bs, refl)

-- what follows the front of a fault
fault_step : {K I : Type 0} (G : Grammar K I) (f : Fault) (g : Field K I) (low : eqb (g.identifier % 32) 31 ≡ false) (gs : List (Field K I)) (octets : List ℕ) (p e q : ℕ) (v : Option I) → p ≤ e → e ≤ length octets
    → Took G g p (slice_range octets p e) v q → FieldsFault G f gs q (slice_range octets q e) → FieldsFault G f (g ∷ gs) p (slice_range octets p e)
fault_step G f g low gs octets p e q v order within (took x size c rest parts len spelled is next) more =
    let t = behind_front octets p e (g.identifier ∷ size ++ c) rest order within (parts ∙ cut g.identifier size c rest) in
    let at : q ≡ p + length (g.identifier ∷ size ++ c) = omega (arith, next, length-append size c) in
    let more' = subst (λ (y : ℕ). FieldsFault G f gs y (slice_range octets y e)) at more in
    later x c (g.identifier ∷ size ++ c) rest (record { identifier = eqb-false (g.identifier % 32) 31 low; size = size; sized = len; parts = refl }) spelled (parts ∙ cut g.identifier size c rest) (subst (FieldsFault G f gs (p + length (g.identifier ∷ size ++ c))) t.0 more')
fault_step G f g low gs octets p e q v order within (skipped n means next) more =
    absent (may_be_absent g.presence v means) n (subst (λ (y : ℕ). FieldsFault G f gs y (slice_range octets y e)) next more)

one_more : {I : Type 0} (vs us : List I) (u : I) → (vs ++ u ∷ []) ++ us ≡ vs ++ (u ∷ us)
one_more vs us u = append_assoc vs (u ∷ []) us

module _ {K I : Type 0} (G : Grammar K I) (read : Read K I) (sound : IsSound G read) (octets : List ℕ) (e : ℕ) (within : e ≤ length octets) where
  -- what is read is spelled so
  pub fields_found : (gs : List (Field K I)) (vs ws : List (Option I)) (p q : ℕ) → are_apart gs ≡ true → p ≤ e → fields_at read gs vs octets p e ≡ Ok (ws, q) → Goes G gs vs ws octets p e q
  fields_found [] vs ws p q apart order is =
      let same : ◌≡◌ {A = List (Option I) × ℕ} (vs, p) (ws, q) = cc in
      let next : q ≡ p = ap (λ x. x.1) (sym same) in
      record {
        values = [];
        front = [];
        back = slice_range octets p e;
        all = ap (λ x. x.0) (sym same) ∙ sym (append-nil vs);
        spelled = refl;
        parts = refl;
        next = omega (arith, next);
      }
  fields_found (g ∷ gs) vs ws p q apart order is =
      let a = both (not (eqb (g.identifier % 32) 31)) _ apart in
      let b = both (is_stranger g.identifier gs) _ a.1 in
      let x = bind_ok (field_at read g octets p e) _ (ws, q) is in
      let t = piece G g (is_not _ a.0) p (slice_range octets p e) x.0.0 x.0.1 (field_took G read sound octets e within g p order (is_not _ a.0) x.0.0 x.0.1 x.1) in
      let on = behind_front octets p e t.front t.back order within t.parts in
      let next : x.0.1 ≡ p + length t.front = t.next in
      let r = fields_found gs (vs ++ x.0.0 ∷ []) ws x.0.1 q b.1 (omega (arith, next, on.1)) x.2 in
      let back : t.back ≡ r.front ++ r.back = sym on.0 ∙ ap (λ (y : ℕ). slice_range octets y e) (sym t.next) ∙ r.parts in
      let further : q ≡ x.0.1 + length r.front = r.next in
      record {
        values = x.0.0 ∷ r.values;
        front = t.front ++ r.front;
        back = r.back;
        all = r.all ∙ one_more vs r.values x.0.0;
        spelled = (t.front, r.front, t.spelled, r.spelled, refl);
        parts = t.parts ∙ ap (λ (y : List ℕ). t.front ++ y) back ∙ sym (append_assoc t.front r.front r.back);
        next = omega (arith, next, further, length-append t.front r.front);
      }

  -- what stops is at fault so
  pub fields_wrong : (f : Fault) (gs : List (Field K I)) (vs : List (Option I)) (p : ℕ) → are_apart gs ≡ true → p ≤ e → (fields_at read gs vs octets p e >>= λ x. ends_at x.1 e) ≡ Err f → FieldsFault G f gs p (slice_range octets p e)
  fields_wrong f [] vs p apart order is = elim (chosen (ltb p e) _ _ _ is) [
    | inl t ↦ let s = some_front octets p e order within (ltb-true p e t.0) in rw s.2 (extra (err_is {A = Unit {0}} (fault_of p causes.ExtraOctets) f t.1))
    | inr t ↦ absurd (let wrong = t.1 in cc)
  ]
  fields_wrong f (g ∷ gs) vs p apart order is =
      let a = both (not (eqb (g.identifier % 32) 31)) _ apart in
      let b = both (is_stranger g.identifier gs) _ a.1 in
      elim (bind_err (field_at read g octets p e) (λ x. (fields_at read gs (vs ++ x.0 ∷ []) octets x.1 e >>= λ y. ends_at y.1 e)) f (sym (bind_assoc (field_at read g octets p e) (λ x. fields_at read gs (vs ++ x.0 ∷ []) octets x.1 e) (λ y. ends_at y.1 e)) ∙ is)) [
        | inl w ↦ field_wrong G read sound octets e within g p order (is_not _ a.0) f gs w
        | inr x ↦
            let t = field_took G read sound octets e within g p order (is_not _ a.0) x.0.0 x.0.1 x.1 in
            let s = piece G g (is_not _ a.0) p (slice_range octets p e) x.0.0 x.0.1 t in
            let on = behind_front octets p e s.front s.back order within s.parts in
            let next : x.0.1 ≡ p + length s.front = s.next in
            fault_step G f g (is_not _ a.0) gs octets p e x.0.1 x.0.0 order within t (fields_wrong f gs (vs ++ x.0.0 ∷ []) x.0.1 b.1 (omega (arith, next, on.1)) x.2)
      ]

  -- one good element in front
  pub elem_again : (g : Field K I) (p : ℕ) (x : I) (c a b : List ℕ) → p ≤ e → eqb (g.identifier % 32) 31 ≡ false → Elem g.identifier c a → G.spells g.kind x c → slice_range octets p e ≡ a ++ b → field_at read g octets p e ≡ Ok (Some x, p + length a)
  elem_again g p x c a b order low elem spelled parts =
      let whole : slice_range octets p e ≡ g.identifier ∷ elem.size ++ (c ++ b) = parts ∙ ap (λ (s : List ℕ). s ++ b) elem.parts ∙ sym (cut g.identifier elem.size c b) in
      let next : p + 1 + length elem.size + length c ≡ p + length a = omega (arith, ap length elem.parts, length-append elem.size c) in
      field_again G read sound octets e within g p order low x elem.size c b whole elem.sized spelled ∙ ap (λ (y : ℕ). Ok (Some x, y)) next

  -- what is spelled so is read
  pub fields_again : (gs : List (Field K I)) (vs us : List (Option I)) (p : ℕ) (a b : List ℕ) → are_apart gs ≡ true → p ≤ e → Outside gs b → SpellsFields G gs us a → slice_range octets p e ≡ a ++ b
      → fields_at read gs vs octets p e ≡ Ok (vs ++ us, p + length a)
  fields_again [] vs [] p a b apart order out s parts =
      let size : p + length a ≡ p = omega (arith, ap length s) in
      rw (size, append-nil vs) refl
  fields_again [] vs (u ∷ us) p a b apart order out s parts = absurd s
  fields_again (g ∷ gs) vs [] p a b apart order out s parts = absurd s
  fields_again (g ∷ gs) vs (u ∷ us) p a b apart order out (first, rest, filled x c is elem spelled, more, front) parts =
      let t = both (not (eqb (g.identifier % 32) 31)) _ apart in
      let d = both (is_stranger g.identifier gs) _ t.1 in
      let o = outside_front G g gs b out in
      let whole : slice_range octets p e ≡ first ++ (rest ++ b) = parts ∙ ap (λ (s : List ℕ). s ++ b) front ∙ append_assoc first rest b in
      let on = behind_front octets p e first (rest ++ b) order within whole in
      let one : field_at read g octets p e ≡ Ok (u, p + length first) = elem_again g p x c first (rest ++ b) order (is_not _ t.0) elem spelled whole ∙ ap (λ (y : Option I). Ok (y, p + length first)) (sym is) in
      let others = fields_again gs (vs ++ u ∷ []) us (p + length first) rest b d.1 (omega (arith, on.1)) o.1 more on.0 in
      let size : p + length first + length rest ≡ p + length a = omega (arith, ap length front, length-append first rest) in
      ap (λ r. r >>= λ x. fields_at read gs (vs ++ x.0 ∷ []) octets x.1 e) one ∙ others ∙ ap₂ (λ x y. Ok (x, y)) (one_more vs us u) size
  fields_again (g ∷ gs) vs (u ∷ us) p a b apart order out (first, rest, left_out means none, more, front) parts =
      let t = both (not (eqb (g.identifier % 32) 31)) _ apart in
      let d = both (is_stranger g.identifier gs) _ t.1 in
      let o = outside_front G g gs b out in
      let a-is : a ≡ rest = front ∙ ap (λ (s : List ℕ). s ++ rest) none in
      let whole : slice_range octets p e ≡ rest ++ b = parts ∙ ap (λ (s : List ℕ). s ++ b) a-is in
      let absent' : ¬ BeginsWith g.identifier (slice_range octets p e) = rw whole (stranger_front G g.identifier gs us rest b d.0 more o.0) in
      let one : field_at read g octets p e ≡ Ok (u, p) = field_skipped G read sound octets e within g p order (is_not _ t.0) u means absent' in
      let others = fields_again gs (vs ++ u ∷ []) us p rest b d.1 order o.1 more whole in
      let size : p + length rest ≡ p + length a = omega (arith, ap length a-is) in
      ap (λ r. r >>= λ x. fields_at read gs (vs ++ x.0 ∷ []) octets x.1 e) one ∙ others ∙ ap₂ (λ x y. Ok (x, y)) (one_more vs us u) size

  stops_at : (f : Fault) (g : Field K I) (gs : List (Field K I)) (vs : List (Option I)) (p : ℕ) → field_at read g octets p e ≡ Err f → (fields_at read (g ∷ gs) vs octets p e >>= λ x. ends_at x.1 e) ≡ Err f
  stops_at f g gs vs p is = rw is refl

  goes_on_at : (f : Fault) (g : Field K I) (gs : List (Field K I)) (vs : List (Option I)) (p q : ℕ) (v : Option I) → field_at read g octets p e ≡ Ok (v, q) → (fields_at read gs (vs ++ v ∷ []) octets q e >>= λ x. ends_at x.1 e) ≡ Err f
      → (fields_at read (g ∷ gs) vs octets p e >>= λ x. ends_at x.1 e) ≡ Err f
  goes_on_at f g gs vs p q v is more = rw is more

  -- a fault that is there stops reading
  pub fields_wrong_again : (f : Fault) (gs : List (Field K I)) (vs : List (Option I)) (p : ℕ) (o : List ℕ) → are_apart gs ≡ true → p ≤ e → slice_range octets p e ≡ o → FieldsFault G f gs p o
      → (fields_at read gs vs octets p e >>= λ x. ends_at x.1 e) ≡ Err f
  fields_wrong_again f (g ∷ gs) vs p o apart order at (later x c a b elem spelled parts more) =
      let t = both (not (eqb (g.identifier % 32) 31)) _ apart in
      let d = both (is_stranger g.identifier gs) _ t.1 in
      let on = behind_front octets p e a b order within (at ∙ parts) in
      goes_on_at f g gs vs p (p + length a) (Some x) (elem_again g p x c a b order (is_not _ t.0) elem spelled (at ∙ parts)) (fields_wrong_again f gs (vs ++ Some x ∷ []) (p + length a) b d.1 (omega (arith, on.1)) on.0 more)
  fields_wrong_again f (g ∷ gs) vs p o apart order at (absent may n more) =
      let t = both (not (eqb (g.identifier % 32) 31)) _ apart in
      let d = both (is_stranger g.identifier gs) _ t.1 in
      let m = absence_means g.presence may in
      goes_on_at f g gs vs p p m.0 (field_skipped G read sound octets e within g p order (is_not _ t.0) m.0 m.1 (rw at n)) (fields_wrong_again f gs (vs ++ m.0 ∷ []) p o d.1 order at more)
  fields_wrong_again f (g ∷ gs) vs p o apart order at (missing is fault) =
      let t = both (not (eqb (g.identifier % 32) 31)) _ apart in
      stops_at f g gs vs p (field_absent G read sound octets e within g p order (is_not _ t.0) is (rw at (λ x. x)) ∙ rw (at, fault) refl)
  fields_wrong_again f (g ∷ gs) vs p (b ∷ bs) apart order at (high is tag fault) =
      let t = both (not (eqb (g.identifier % 32) 31)) _ apart in
      let low : g.identifier % 32 ≢ 31 = eqb-false _ _ (is_not _ t.0) in
      stops_at f g gs vs p (field_absent G read sound octets e within g p order (is_not _ t.0) is (rw at (λ (x : b ≡ g.identifier). low (ap (λ (y : ℕ). y % 32) (sym x) ∙ tag))) ∙ rw (at, tag, fault) refl)
  fields_wrong_again f (g ∷ gs) vs p (b ∷ bs) apart order at (unexpected is n tag fault) =
      let t = both (not (eqb (g.identifier % 32) 31)) _ apart in
      stops_at f g gs vs p (field_absent G read sound octets e within g p order (is_not _ t.0) is (rw at n) ∙ rw (at, ne_eqb _ _ tag, fault) refl)
  fields_wrong_again f (g ∷ gs) vs p (b ∷ bs) apart order at (in_length same wrong) =
      let t = both (not (eqb (g.identifier % 32) 31)) _ apart in
      stops_at f g gs vs p (field_length_again G read sound octets e within g p order (is_not _ t.0) f bs (at ∙ ap (λ (y : ℕ). y ∷ bs) same) wrong)
  fields_wrong_again f (g ∷ gs) vs p o apart order at (in_contents c size rest parts len wrong) =
      let t = both (not (eqb (g.identifier % 32) 31)) _ apart in
      stops_at f g gs vs p (field_wrong_again G read sound octets e within g p order (is_not _ t.0) f size c rest (at ∙ parts) len wrong)
  fields_wrong_again f [] vs p (b ∷ bs) apart order at (extra fault) =
      let size : length (b ∷ bs) ≡ e - p = ap length (sym at) ∙ region-length octets p e within in
      let more : p < e = omega arith in
      rw (lt-ltb p e more, fault) refl
  fields_wrong_again f [] vs p [] apart order at h = elim h [ ]
