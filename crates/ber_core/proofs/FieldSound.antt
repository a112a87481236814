-- What reading of contents owes, and what reading of one field then gives.
use Rattle.std.proofs.Common.{◌≡◌, ℕ, ◌+◌, ◌%◌, ◌≤◌, false, eqb, List, [], ◌∷◌, ◌++◌, length, Result, Ok, Err, Option, Some, None, refl, sym, ap, subst, ◌∙◌, arith, inl, inr}
use Rattle.std.proofs.lemmas.Bool.{eqb-true, eqb-false}
use Rattle.std.specs.Prelude.{slice_range, ◌⊎◌}
use Rattle.ber_core.specs.declared.fault.Fault.{Fault}
use Rattle.ber_core.specs.declared.fault.Cause.TheVariants as causes
use Rattle.ber_core.specs.declared.element.Header.{Header}
use Rattle.ber_core.specs.computed.Reading.{◌>>=◌}
use Rattle.ber_core.specs.Length.{Len}
use Rattle.ber_core.specs.Element.{contents_of}
use Rattle.ber_core.specs.Faults.{LengthFault, fault_of}
use Rattle.ber_core.proofs.Headers.{header_for, Parts}
use Rattle.ber_core.proofs.Steps.{chosen, bind_ok, bind_err}
pub use Rattle.ber_core.proofs.Steps.{err_is, pair_is}
use Rattle.ber_core.specs.Fields.{Presence, always, optional, default, Field, Grammar, AbsenceMeans, MayBeAbsent, BeginsWith, FieldsFault, missing, high, unexpected, in_length, in_contents}
use Rattle.ber_core.specs.computed.FieldReading.{Read, if_there, absence, or_absence, there_at, required_at, read_behind, read_behind_if, field_as, field_at}
use Rattle.ber_core.proofs.Regions.{contents_are, rest_is}
use Rattle.ber_core.proofs.FieldRegions.{if_there_again, if_there_found, if_there_wrong, if_there_wrong_again, if_there_none, if_there_absent}

-- a header that stands in these octets
abbrev pub IsPlaced : List ℕ → Header → Type 0
IsPlaced octets h = (h.contents_from ≤ h.contents_to) × (h.contents_to ≤ length octets)

pub record IsSound {K I : Type 0} (G : Grammar K I) (read : Read K I) : Type 0 where
  pub finds : (k : K) (octets : List ℕ) (h : Header) (x : I) → IsPlaced octets h → read k octets h ≡ Ok x → G.spells k x (contents_of octets h)
  pub again : (k : K) (octets : List ℕ) (h : Header) (x : I) → IsPlaced octets h → G.spells k x (contents_of octets h) → read k octets h ≡ Ok x
  pub wrong : (k : K) (octets : List ℕ) (h : Header) (f : Fault) → IsPlaced octets h → read k octets h ≡ Err f → G.fault f k h.at h.contents_from (contents_of octets h)
  pub wrong_again : (k : K) (octets : List ℕ) (h : Header) (f : Fault) → IsPlaced octets h → G.fault f k h.at h.contents_from (contents_of octets h) → read k octets h ≡ Err f

-- a field that was read: it is there, or it is not
pub data Took {K I : Type 0} (G : Grammar K I) (g : Field K I) (p : ℕ) (o : List ℕ) : Option I → ℕ → Type 0 where
  took : {v : Option I} {q : ℕ} (x : I) (size c rest : List ℕ) → o ≡ g.identifier ∷ size ++ (c ++ rest) → Len (length c) size → G.spells g.kind x c → v ≡ Some x → q ≡ p + 1 + length size + length c → Took G g p o v q
  skipped : {v : Option I} {q : ℕ} → ¬ BeginsWith g.identifier o → AbsenceMeans g.presence v → q ≡ p → Took G g p o v q

module _ {K I : Type 0} (G : Grammar K I) (read : Read K I) (sound : IsSound G read) (octets : List ℕ) (e : ℕ) (within : e ≤ length octets) where
  -- the contents behind a header that stands at the front of the region
  module _ (g : Field K I) (p : ℕ) (order : p ≤ e) where
    behind_took : (ls : List ℕ) (h : Header) (v : Option I) (q : ℕ) → slice_range octets p e ≡ g.identifier ∷ ls → Parts p g.identifier ls h → read_behind read g.kind octets h ≡ Ok (v, q) → Took G g p (slice_range octets p e) v q
    behind_took ls h v q at t is =
        let parts : slice_range octets p e ≡ g.identifier ∷ t.size ++ (t.contents ++ t.rest) = at ∙ ap (λ (x : List ℕ). g.identifier ∷ x) t.parts in
        let x = bind_ok (read g.kind octets h) _ (v, q) is in
        let same = pair_is (Some x.0) v h.contents_to q x.2 in
        let c-is = contents_are octets p e g.identifier t.size t.contents t.rest order within parts in
        let r = rest_is octets p e g.identifier t.size t.contents t.rest order within parts in
        let spelled = sound.finds g.kind octets (header_for p g.identifier (length t.size) (length t.contents)) x.0 (omega arith, omega (arith, r.1)) (ap (read g.kind octets) (sym t.header) ∙ x.1) in
        took x.0 t.size t.contents t.rest parts t.sized (subst (G.spells g.kind x.0) c-is spelled) same.0 (same.1 ∙ ap (λ (y : Header). y.contents_to) t.header)

    behind_again : (x : I) (size c rest : List ℕ) → slice_range octets p e ≡ g.identifier ∷ size ++ (c ++ rest) → G.spells g.kind x c
        → read_behind read g.kind octets (header_for p g.identifier (length size) (length c)) ≡ Ok (Some x, p + 1 + length size + length c)
    behind_again x size c rest parts spelled =
        let c-is = contents_are octets p e g.identifier size c rest order within parts in
        let r = rest_is octets p e g.identifier size c rest order within parts in
        let h = header_for p g.identifier (length size) (length c) in
        ap (λ (y : Result I Fault). y >>= λ z. Ok (Some z, h.contents_to)) (sound.again g.kind octets h x (omega arith, omega (arith, r.1)) (subst (G.spells g.kind x) (sym c-is) spelled))

    behind_wrong : (f : Fault) (gs : List (Field K I)) (ls : List ℕ) (h : Header) → slice_range octets p e ≡ g.identifier ∷ ls → Parts p g.identifier ls h → read_behind read g.kind octets h ≡ Err f → FieldsFault G f (g ∷ gs) p (slice_range octets p e)
    behind_wrong f gs ls h at t is =
        let parts : slice_range octets p e ≡ g.identifier ∷ t.size ++ (t.contents ++ t.rest) = at ∙ ap (λ (x : List ℕ). g.identifier ∷ x) t.parts in
        elim (bind_err (read g.kind octets h) _ f is) [
          | inl x ↦ let c-is = contents_are octets p e g.identifier t.size t.contents t.rest order within parts in
              let r = rest_is octets p e g.identifier t.size t.contents t.rest order within parts in
              let wrong = sound.wrong g.kind octets (header_for p g.identifier (length t.size) (length t.contents)) f (omega arith, omega (arith, r.1)) (ap (read g.kind octets) (sym t.header) ∙ x) in
              in_contents t.contents t.size t.rest parts t.sized (subst (G.fault f g.kind p (p + 1 + length t.size)) c-is wrong)
          | inr x ↦ absurd (let wrong = x.2 in cc)
        ]

    behind_wrong_again : (f : Fault) (size c rest : List ℕ) → slice_range octets p e ≡ g.identifier ∷ size ++ (c ++ rest) → G.fault f g.kind p (p + 1 + length size) c
        → read_behind read g.kind octets (header_for p g.identifier (length size) (length c)) ≡ Err f
    behind_wrong_again f size c rest parts wrong =
        let c-is = contents_are octets p e g.identifier size c rest order within parts in
        let r = rest_is octets p e g.identifier size c rest order within parts in
        let h = header_for p g.identifier (length size) (length c) in
        ap (λ (y : Result I Fault). y >>= λ z. Ok (Some z, h.contents_to)) (sound.wrong_again g.kind octets h f (omega arith, omega (arith, r.1)) (subst (G.fault f g.kind p (p + 1 + length size)) (sym c-is) wrong))

-- ---- a field

-- where a field that is always there is not
absence_fault : {K I : Type 0} (G : Grammar K I) (g : Field K I) (gs : List (Field K I)) (p : ℕ) (o : List ℕ) → g.presence ≡ always → ¬ BeginsWith g.identifier o → FieldsFault G (absence p o) (g ∷ gs) p o
absence_fault G g gs p [] is n = missing is refl
absence_fault G g gs p (b ∷ bs) is n = elim (chosen (eqb (b % 32) 31) (fault_of p causes.HighTag) (fault_of p causes.UnexpectedTag) (absence p (b ∷ bs)) refl) [
  | inl t ↦ high is (eqb-true _ _ t.0) (sym t.1)
  | inr t ↦ unexpected is n (eqb-false _ _ t.0) (sym t.1)
]

pub required_found : (id p e : ℕ) (octets : List ℕ) (h : Header) → required_at id octets p e ≡ Ok h → if_there id p (slice_range octets p e) ≡ Ok (Some h)
unfolding required_at there_at
required_found id p e octets h is = found_in (if_there id p (slice_range octets p e)) is where
  found_in : (r : Result (Option Header) Fault) → (r >>= or_absence p (slice_range octets p e)) ≡ Ok h → r ≡ Ok (Some h)
  found_in (Ok (Some k)) s = let same : k ≡ h = cc in ap (λ (x : Header). Ok (Some x)) same
  found_in (Ok None) s = absurd (cc)
  found_in (Err f) s = absurd (cc)

pub required_wrong : (id p e : ℕ) (octets : List ℕ) (f : Fault) → required_at id octets p e ≡ Err f → (if_there id p (slice_range octets p e) ≡ Err f) ⊎ ((if_there id p (slice_range octets p e) ≡ Ok None) × (f ≡ absence p (slice_range octets p e)))
unfolding required_at there_at
required_wrong id p e octets f is = wrong_in (if_there id p (slice_range octets p e)) is where
  wrong_in : (r : Result (Option Header) Fault) → (r >>= or_absence p (slice_range octets p e)) ≡ Err f → (r ≡ Err f) ⊎ ((r ≡ Ok None) × (f ≡ absence p (slice_range octets p e)))
  wrong_in (Ok (Some k)) s = absurd (cc)
  wrong_in (Ok None) s = inr (refl, err_is {A = Header} (absence p (slice_range octets p e)) f s)
  wrong_in (Err g) s = inl (let same : g ≡ f = cc in ap (λ (x : Fault). Err x) same)

-- one field: the presence is a variable, so that it can be told apart
module _ {K I : Type 0} (G : Grammar K I) (read : Read K I) (sound : IsSound G read) (octets : List ℕ) (e : ℕ) (within : e ≤ length octets) (g : Field K I) (p : ℕ) (order : p ≤ e) (low : eqb (g.identifier % 32) 31 ≡ false) where
  there_took : (h : Header) (v : Option I) (q : ℕ) → if_there g.identifier p (slice_range octets p e) ≡ Ok (Some h) → read_behind read g.kind octets h ≡ Ok (v, q) → Took G g p (slice_range octets p e) v q
  there_took h v q is then =
      let t = if_there_found g.identifier p low (slice_range octets p e) h is in
      behind_took G read sound octets e within g p order t.0 h v q t.1 t.2 then

  if_took : (m : Option Header) (d v : Option I) (q : ℕ) → AbsenceMeans g.presence d → if_there g.identifier p (slice_range octets p e) ≡ Ok m → read_behind_if read g.kind octets p d m ≡ Ok (v, q) → Took G g p (slice_range octets p e) v q
  if_took (Some h) d v q means is then = there_took h v q is then
  if_took None d v q means is then =
      let same = pair_is d v p q then in
      skipped (if_there_absent g.identifier p (slice_range octets p e) is) (subst (AbsenceMeans g.presence) (sym same.0) means) same.1

  as_took : (pr : Presence I) → g.presence ≡ pr → (v : Option I) (q : ℕ) → field_as read g.identifier g.kind pr octets p e ≡ Ok (v, q) → Took G g p (slice_range octets p e) v q
  unfolding there_at
  as_took always pr v q is =
      let x = bind_ok (required_at g.identifier octets p e) _ (v, q) is in
      there_took x.0 v q (required_found g.identifier p e octets x.0 x.1) x.2
  as_took optional pr v q is =
      let x = bind_ok (if_there g.identifier p (slice_range octets p e)) _ (v, q) is in
      if_took x.0 None v q (rw pr refl) x.1 x.2
  as_took (default d) pr v q is =
      let x = bind_ok (if_there g.identifier p (slice_range octets p e)) _ (v, q) is in
      if_took x.0 (Some d) v q (rw pr refl) x.1 x.2

  pub field_took : (v : Option I) (q : ℕ) → field_at read g octets p e ≡ Ok (v, q) → Took G g p (slice_range octets p e) v q
  field_took v q is = as_took g.presence refl v q is

  -- faults
  there_wrong : (f : Fault) (gs : List (Field K I)) → if_there g.identifier p (slice_range octets p e) ≡ Err f → FieldsFault G f (g ∷ gs) p (slice_range octets p e)
  there_wrong f gs is = let t = if_there_wrong g.identifier p low (slice_range octets p e) f is in rw t.1 (in_length refl t.2)

  then_wrong : (f : Fault) (gs : List (Field K I)) (h : Header) → if_there g.identifier p (slice_range octets p e) ≡ Ok (Some h) → read_behind read g.kind octets h ≡ Err f → FieldsFault G f (g ∷ gs) p (slice_range octets p e)
  then_wrong f gs h is then =
      let t = if_there_found g.identifier p low (slice_range octets p e) h is in
      behind_wrong G read sound octets e within g p order f gs t.0 h t.1 t.2 then

  if_wrong : (f : Fault) (gs : List (Field K I)) (m : Option Header) (d : Option I) → if_there g.identifier p (slice_range octets p e) ≡ Ok m → read_behind_if read g.kind octets p d m ≡ Err f → FieldsFault G f (g ∷ gs) p (slice_range octets p e)
  if_wrong f gs (Some h) d is then = then_wrong f gs h is then
  if_wrong f gs None d is then = absurd (let wrong = then in cc)

  if_there_or_wrong : (f : Fault) (gs : List (Field K I)) (d : Option I) → (if_there g.identifier p (slice_range octets p e) >>= read_behind_if read g.kind octets p d) ≡ Err f → FieldsFault G f (g ∷ gs) p (slice_range octets p e)
  if_there_or_wrong f gs d is = elim (bind_err (if_there g.identifier p (slice_range octets p e)) _ f is) [
    | inl w ↦ there_wrong f gs w
    | inr x ↦ if_wrong f gs x.0 d x.1 x.2
  ]

  as_wrong : (f : Fault) (gs : List (Field K I)) (pr : Presence I) → g.presence ≡ pr → field_as read g.identifier g.kind pr octets p e ≡ Err f → FieldsFault G f (g ∷ gs) p (slice_range octets p e)
  unfolding there_at
  as_wrong f gs always pr is = elim (bind_err (required_at g.identifier octets p e) _ f is) [
    | inl w ↦ elim (required_wrong g.identifier p e octets f w) [
      | inl u ↦ there_wrong f gs u
      | inr u ↦ rw u.1 (absence_fault G g gs p (slice_range octets p e) pr (if_there_absent g.identifier p (slice_range octets p e) u.0))
    ]
    | inr x ↦ then_wrong f gs x.0 (required_found g.identifier p e octets x.0 x.1) x.2
  ]
  as_wrong f gs optional pr is = if_there_or_wrong f gs None is
  as_wrong f gs (default d) pr is = if_there_or_wrong f gs (Some d) is

  pub field_wrong : (f : Fault) (gs : List (Field K I)) → field_at read g octets p e ≡ Err f → FieldsFault G f (g ∷ gs) p (slice_range octets p e)
  field_wrong f gs is = as_wrong f gs g.presence refl is

  -- a header that is there decides, whatever the presence
  as_there : (r : Result (Option I × ℕ) Fault) (h : Header) (pr : Presence I) → if_there g.identifier p (slice_range octets p e) ≡ Ok (Some h) → read_behind read g.kind octets h ≡ r → field_as read g.identifier g.kind pr octets p e ≡ r
  unfolding there_at required_at
  as_there r h always is then = rw is then
  as_there r h optional is then = rw is then
  as_there r h (default d) is then = rw is then

  pub field_again : (x : I) (size c rest : List ℕ) → slice_range octets p e ≡ g.identifier ∷ size ++ (c ++ rest) → Len (length c) size → G.spells g.kind x c → field_at read g octets p e ≡ Ok (Some x, p + 1 + length size + length c)
  field_again x size c rest parts len spelled =
      as_there (Ok (Some x, p + 1 + length size + length c)) (header_for p g.identifier (length size) (length c)) g.presence (if_there_again g.identifier p low (slice_range octets p e) size c rest parts len) (behind_again G read sound octets e within g p order x size c rest parts spelled)

  pub field_wrong_again : (f : Fault) (size c rest : List ℕ) → slice_range octets p e ≡ g.identifier ∷ size ++ (c ++ rest) → Len (length c) size → G.fault f g.kind p (p + 1 + length size) c → field_at read g octets p e ≡ Err f
  field_wrong_again f size c rest parts len wrong =
      as_there (Err f) (header_for p g.identifier (length size) (length c)) g.presence (if_there_again g.identifier p low (slice_range octets p e) size c rest parts len) (behind_wrong_again G read sound octets e within g p order f size c rest parts wrong)

  as_length : (f : Fault) (pr : Presence I) → if_there g.identifier p (slice_range octets p e) ≡ Err f → field_as read g.identifier g.kind pr octets p e ≡ Err f
  unfolding there_at required_at
  as_length f always is = rw is refl
  as_length f optional is = rw is refl
  as_length f (default d) is = rw is refl

  pub field_length_again : (f : Fault) (ls : List ℕ) → slice_range octets p e ≡ g.identifier ∷ ls → LengthFault f p ls → field_at read g octets p e ≡ Err f
  field_length_again f ls at wrong = as_length f g.presence (ap (if_there g.identifier p) at ∙ if_there_wrong_again g.identifier p low ls f wrong)

  as_skipped : (pr : Presence I) (v : Option I) → AbsenceMeans pr v → ¬ BeginsWith g.identifier (slice_range octets p e) → field_as read g.identifier g.kind pr octets p e ≡ Ok (v, p)
  unfolding there_at
  as_skipped always v means n = absurd means
  as_skipped optional v means n = rw (if_there_none g.identifier p (slice_range octets p e) n, means) refl
  as_skipped (default d) v means n = rw (if_there_none g.identifier p (slice_range octets p e) n, means) refl

  pub field_skipped : (v : Option I) → AbsenceMeans g.presence v → ¬ BeginsWith g.identifier (slice_range octets p e) → field_at read g octets p e ≡ Ok (v, p)
  field_skipped v means n = as_skipped g.presence v means n

  as_absent : (pr : Presence I) → pr ≡ always → ¬ BeginsWith g.identifier (slice_range octets p e) → field_as read g.identifier g.kind pr octets p e ≡ Err (absence p (slice_range octets p e))
  unfolding there_at required_at
  as_absent pr is n = rw (is, if_there_none g.identifier p (slice_range octets p e) n) refl

  pub field_absent : g.presence ≡ always → ¬ BeginsWith g.identifier (slice_range octets p e) → field_at read g octets p e ≡ Err (absence p (slice_range octets p e))
  field_absent is n = as_absent g.presence is n

-- an absent field means something
pub absence_means : {I : Type 0} (pr : Presence I) → MayBeAbsent pr → (v : Option I) × AbsenceMeans pr v
absence_means always m = absurd m
absence_means optional m = (None, refl)
absence_means (default d) m = (Some d, refl)

pub may_be_absent : {I : Type 0} (pr : Presence I) (v : Option I) → AbsenceMeans pr v → MayBeAbsent pr
may_be_absent always v m = m
may_be_absent optional v m = tt
may_be_absent (default d) v m = tt
