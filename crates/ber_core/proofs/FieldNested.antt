-- Contents that are a sequence of fields themselves, and sequences in two parts.
use Rattle.std.proofs.Common.{◌≡◌, ℕ, suc, ◌+◌, ◌≤◌, true, List, [], ◌∷◌, ◌++◌, length, Result, Ok, Err, Option, refl, sym, ap, subst, ◌∙◌, arith, inl, inr}
use Rattle.std.proofs.lemmas.List.{append-nil}
use Rattle.std.proofs.lemmas.Bool.{le-ltb}
use Rattle.std.specs.Prelude.{slice_range, ◌⊎◌}
use Rattle.ber_core.specs.declared.fault.Fault.{Fault}
use Rattle.ber_core.specs.declared.element.Header.{Header}
use Rattle.ber_core.specs.computed.Reading.{◌>>=◌}
use Rattle.ber_core.specs.Element.{contents_of}
use Rattle.ber_core.proofs.Steps.{bind_ok, bind_err, err_is}
pub use Rattle.ber_core.proofs.Steps.{ok_is}
use Rattle.ber_core.specs.Fields.{Field, Grammar, SpellsFields, FieldsFault, nested}
use Rattle.ber_core.specs.computed.FieldReading.{Read, field_at, fields_at, ends_at, are_apart}
use Rattle.ber_core.proofs.Regions.{behind_front}
use Rattle.ber_core.proofs.FieldSound.{IsSound, IsPlaced}
use Rattle.ber_core.proofs.FieldSequence.{fields_found, fields_wrong, fields_again, fields_wrong_again, ended}

abbrev pub nested_read : {K I : Type 0} → Read K I → List (Field K I) → Read (Unit {0}) (List (Option I))
nested_read read gs k octets h = fields_at read gs [] octets h.contents_from h.contents_to >>= λ x. (ends_at x.1 h.contents_to >>= λ _. Ok x.0)

pub nothing : (o : List ℕ) → length o ≡ 0 → o ≡ []
nothing [] h = refl
nothing (x ∷ xs) h = absurd (omega arith)

module _ {K I : Type 0} (G : Grammar K I) (read : Read K I) (sound : IsSound G read) (gs : List (Field K I)) (apart : are_apart gs ≡ true) (octets : List ℕ) where
  pub fills_found : (p e q : ℕ) (ws : List (Option I)) → p ≤ e → e ≤ length octets → fields_at read gs [] octets p e ≡ Ok (ws, q) → e ≤ q → SpellsFields G gs ws (slice_range octets p e)
  fills_found p e q ws order within is end =
      let t = fields_found G read sound octets e within gs [] ws p q apart order is in
      let on = behind_front octets p e t.front t.back order within t.parts in
      let next : q ≡ p + length t.front = t.next in
      let back : t.back ≡ [] = nothing t.back (omega (arith, on.1, next, end)) in
      let region : slice_range octets p e ≡ t.front = t.parts ∙ ap (λ (x : List ℕ). t.front ++ x) back ∙ append-nil t.front in
      subst (λ (x : List (Option I)). SpellsFields G gs x (slice_range octets p e)) (sym t.all) (subst (SpellsFields G gs t.values) (sym region) t.spelled)

  pub fills_again : (p e : ℕ) (ws : List (Option I)) → p ≤ e → e ≤ length octets → SpellsFields G gs ws (slice_range octets p e) → fields_at read gs [] octets p e ≡ Ok (ws, e)
  fills_again p e ws order within s =
      let region : slice_range octets p e ≡ slice_range octets p e ++ [] = sym (append-nil (slice_range octets p e)) in
      let on = behind_front octets p e (slice_range octets p e) [] order within region in
      let end : p + length (slice_range octets p e) ≡ e = omega (arith, on.1) in
      fields_again G read sound octets e within gs [] ws p (slice_range octets p e) [] apart order tt s region ∙ ap (λ (x : ℕ). Ok (ws, x)) end

  ends_err : (r : Result (List (Option I) × ℕ) Fault) (e : ℕ) (f : Fault) → (r >>= λ x. (ends_at x.1 e >>= λ _. Ok x.0)) ≡ Err f → (r >>= λ x. ends_at x.1 e) ≡ Err f
  ends_err (Err g) e f is = let same : f ≡ g = err_is {A = List (Option I)} g f is in ap (λ (x : Fault). Err x) (sym same)
  ends_err (Ok x) e f is = elim (bind_err (ends_at x.1 e) (λ _. Ok x.0) f is) [
    | inl w ↦ w
    | inr y ↦ absurd (let wrong = y.2 in cc)
  ]

  err_ends : (r : Result (List (Option I) × ℕ) Fault) (e : ℕ) (f : Fault) → (r >>= λ x. ends_at x.1 e) ≡ Err f → (r >>= λ x. (ends_at x.1 e >>= λ _. Ok x.0)) ≡ Err f
  err_ends (Err g) e f is = let same : f ≡ g = err_is {A = Unit {0}} g f is in ap (λ (x : Fault). Err x) (sym same)
  err_ends (Ok x) e f is = rw is refl

  nested_finds : (h : Header) (ws : List (Option I)) → IsPlaced octets h → nested_read read gs tt octets h ≡ Ok ws → SpellsFields G gs ws (contents_of octets h)
  nested_finds h ws placed is =
      let x = bind_ok (fields_at read gs [] octets h.contents_from h.contents_to) _ ws is in
      let y = bind_ok (ends_at x.0.1 h.contents_to) _ ws x.2 in
      let s = fills_found h.contents_from h.contents_to x.0.1 x.0.0 placed.0 placed.1 x.1 (ended x.0.1 h.contents_to y.1) in
      rw (sym (ok_is x.0.0 ws y.2)) s

  nested_again : (h : Header) (ws : List (Option I)) → IsPlaced octets h → SpellsFields G gs ws (contents_of octets h) → nested_read read gs tt octets h ≡ Ok ws
  nested_again h ws placed s = rw (fills_again h.contents_from h.contents_to ws placed.0 placed.1 s, le-ltb h.contents_to h.contents_to (omega arith)) refl

  nested_wrong : (h : Header) (f : Fault) → IsPlaced octets h → nested_read read gs tt octets h ≡ Err f → FieldsFault G f gs h.contents_from (contents_of octets h)
  nested_wrong h f placed is = fields_wrong G read sound octets h.contents_to placed.1 f gs [] h.contents_from apart placed.0 (ends_err (fields_at read gs [] octets h.contents_from h.contents_to) h.contents_to f is)

  nested_wrong_again : (h : Header) (f : Fault) → IsPlaced octets h → FieldsFault G f gs h.contents_from (contents_of octets h) → nested_read read gs tt octets h ≡ Err f
  nested_wrong_again h f placed w =
      err_ends (fields_at read gs [] octets h.contents_from h.contents_to) h.contents_to f (fields_wrong_again G read sound octets h.contents_to placed.1 f gs [] h.contents_from (contents_of octets h) apart placed.0 refl w)

pub nested_sound : {K I : Type 0} (G : Grammar K I) (read : Read K I) (gs : List (Field K I)) → IsSound G read → are_apart gs ≡ true → IsSound (nested G gs) (nested_read read gs)
nested_sound G read gs sound apart = record {
  finds = λ k octets h x placed is. nested_finds G read sound gs apart octets h x placed is;
  again = λ k octets h x placed s. nested_again G read sound gs apart octets h x placed s;
  wrong = λ k octets h f placed is. nested_wrong G read sound gs apart octets h f placed is;
  wrong_again = λ k octets h f placed w. nested_wrong_again G read sound gs apart octets h f placed w;
}

-- ---- two parts

bind_parts : {A B C : Type 0} (r : Result A Fault) (f : A → Result C Fault) (g : A → Result B Fault) (h : B → Result C Fault) → ((x : A) → f x ≡ (g x >>= h)) → (r >>= f) ≡ ((r >>= g) >>= h)
bind_parts (Ok x) f g h same = same x
bind_parts (Err e) f g h same = refl

pub fields_split : {K I : Type 0} (read : Read K I) (gs hs : List (Field K I)) (vs : List (Option I)) (octets : List ℕ) (p e : ℕ) → fields_at read (gs ++ hs) vs octets p e ≡ (fields_at read gs vs octets p e >>= λ x. fields_at read hs x.0 octets x.1 e)
fields_split read [] hs vs octets p e = refl
fields_split read (g ∷ gs) hs vs octets p e =
    bind_parts (field_at read g octets p e) (λ x. fields_at read (gs ++ hs) (vs ++ x.0 ∷ []) octets x.1 e) (λ x. fields_at read gs (vs ++ x.0 ∷ []) octets x.1 e) (λ x. fields_at read hs x.0 octets x.1 e)
    (λ x. fields_split read gs hs (vs ++ x.0 ∷ []) octets x.1 e)

-- as many values as fields
pub as_many : {K I : Type 0} (G : Grammar K I) (gs : List (Field K I)) (vs : List (Option I)) (o : List ℕ) → SpellsFields G gs vs o → length vs ≡ length gs
as_many G [] [] o s = refl
as_many G [] (v ∷ vs) o s = absurd s
as_many G (g ∷ gs) [] o s = absurd s
as_many G (g ∷ gs) (v ∷ vs) o (a, b, first, more, parts) = ap suc (as_many G gs vs b more)

pub result_cases : {A : Type 0} (r : Result A Fault) → ((x : A) × (r ≡ Ok x)) ⊎ ((f : Fault) × (r ≡ Err f))
result_cases (Ok x) = inl (x, refl)
result_cases (Err f) = inr (f, refl)
