-- The newest sighting of a key, as it is computed and by positions.
use Rattle.std.proofs.Common.{◌≡◌, ◌⊎◌, ℕ, zero, suc, ◌<◌, Bool, true, false, Option, Some, None, List, [], ◌∷◌, ◌++◌, length, take, slice_get, reverse, ap, sym, ◌∙◌, refl, arith, subst, inl, inr, append_assoc}
use Rattle.std.specs.Prelude.{if◌then◌else◌}
use Rattle.std.proofs.lemmas.List.{append-nil, reverse-append, reverse-reverse}
use Rattle.std.proofs.lemmas.Option.{slice_get_within, none-some, same_Some}
use Rattle.object_core.specs.declared.counted.Form.{Form}
use Rattle.object_core.specs.declared.counted.Form.TheVariants.{Text as Lines}
use Rattle.list_core.specs.ListReader.{list_fault_of}
use Rattle.text_core.specs.LineText.{list_fault_line}
use Rattle.engine_core.specs.EventsText.{EventText, over_events}
use Rattle.inventory_engine.specs.Sightings.{Key, Sighting, key_of, sightings_in, sightings_of}
use Rattle.inventory_engine.specs.BlocksText.{AreBlocksTexts, AreLines, IsBlocksIn, IsBlocksText, IsLineAfter, IsNewest, Telling, line_after, telling}
use Rattle.inventory_engine.specs.computed.BlocksStep.{blocks_event, blocks_text, lines_by, newest, text_seen}
use Rattle.inventory_engine.specs.computed.KnownTexts.{same_key, text_by}
use Rattle.inventory_engine.proofs.KeyLemmas.{same_is, same_yes}

module _ {X : Type 0} where
  get_front : (xs : List X) (y : X) (i : ℕ) (x : X) → slice_get xs i ≡ Some x → slice_get (xs ++ y ∷ []) i ≡ Some x
  get_front [] y i x e = absurd (none-some x e)
  get_front (z ∷ xs) y zero x e = e
  get_front (z ∷ xs) y (suc i) x e = get_front xs y i x e

  get_end : (xs : List X) (y : X) → slice_get (xs ++ y ∷ []) (length xs) ≡ Some y
  get_end [] y = refl
  get_end (x ∷ xs) y = get_end xs y

  get_cases : (xs : List X) (y : X) (i : ℕ) (x : X) → slice_get (xs ++ y ∷ []) i ≡ Some x → (slice_get xs i ≡ Some x) ⊎ ((i ≡ length xs) × (x ≡ y))
  get_cases [] y zero x e = inr (refl, sym (same_Some y x e))
  get_cases [] y (suc i) x e = absurd (none-some x e)
  get_cases (z ∷ xs) y zero x e = inl e
  get_cases (z ∷ xs) y (suc i) x e = elim (get_cases xs y i x e) [ inl old ↦ inl old | inr last ↦ inr (ap suc last.0, last.1) ]

-- one sighting more
pub newest-push : (seen : List Sighting) (s : Sighting) (key : Key) → newest (seen ++ s ∷ []) key ≡ (if same_key (key_of s) key then Some s.text else newest seen key)
newest-push seen s key = ap (λ (l : List Sighting). text_by key_of text_seen l key) (reverse-append seen (s ∷ []))

newest_more : (seen : List Sighting) (s : Sighting) (key : Key) (o : Option (List ℕ)) (b : Bool) → b ≡ same_key (key_of s) key → IsNewest seen key o
    → IsNewest (seen ++ s ∷ []) key (if b then Some s.text else o)
newest_more seen s key o true e h = record {
  position = length seen;
  is = record { sighting = s; there = get_end seen s; has_key = same_is (key_of s) key (sym e) };
  has_text = refl;
  none_after = λ j lt r. elim (get_cases seen s j r.sighting r.there) [
    | inl old ↦ let in_front : j < length seen = slice_get_within seen j r.sighting old in omega arith
    | inr last ↦ let at_end : j ≡ length seen = last.0 in omega arith
  ];
}
newest_more seen s key None false e h = λ i r. elim (get_cases seen s i r.sighting r.there) [
  | inl old ↦ h i (record { sighting = r.sighting; there = old; has_key = r.has_key })
  | inr last ↦ other s key e (ap key_of (sym last.1) ∙ r.has_key)
]
  where
    other : (s : Sighting) (key : Key) → false ≡ same_key (key_of s) key → key_of s ≡ key → ⊥
    other s key e g = let yes = same_yes (key_of s) key g in let both : false ≡ true = e ∙ yes in cc
newest_more seen s key (Some text) false e h = record {
  position = h.position;
  is = record { sighting = h.is.sighting; there = get_front seen s h.position h.is.sighting h.is.there; has_key = h.is.has_key };
  has_text = h.has_text;
  none_after = λ j lt r. elim (get_cases seen s j r.sighting r.there) [
    | inl old ↦ h.none_after j lt (record { sighting = r.sighting; there = old; has_key = r.has_key })
    | inr last ↦ other s key e (ap key_of (sym last.1) ∙ r.has_key)
  ];
}
  where
    other : (s : Sighting) (key : Key) → false ≡ same_key (key_of s) key → key_of s ≡ key → ⊥
    other s key e g = let yes = same_yes (key_of s) key g in let both : false ≡ true = e ∙ yes in cc

newest_of : (xs : List Sighting) (key : Key) → IsNewest (reverse xs) key (text_by key_of text_seen xs key)
newest_of [] key = λ i r. none-some r.sighting r.there
newest_of (x ∷ xs) key =
    subst (λ (l : List Sighting). IsNewest l key (text_by key_of text_seen (x ∷ xs) key)) (sym (reverse-append (x ∷ []) xs))
    (newest_more (reverse xs) x key (text_by key_of text_seen xs key) (same_key (key_of x) key) refl (newest_of xs key))

pub newest_is : (seen : List Sighting) (key : Key) → IsNewest seen key (newest seen key)
newest_is seen key = subst (λ (l : List Sighting). IsNewest l key (newest seen key)) (reverse-reverse seen) (newest_of (reverse seen) key)

-- the lines as they are computed are those of the sightings
lines_are : (t : Telling) (earlier seen : List Sighting) → AreLines t earlier seen (lines_by t earlier seen)
lines_are t earlier seen = record { sizes = sizes earlier seen; each = each earlier seen }
  where
    sizes : (earlier seen : List Sighting) → length (lines_by t earlier seen) ≡ length seen
    sizes earlier [] = refl
    sizes earlier (s ∷ seen) = ap suc (sizes (earlier ++ s ∷ []) seen)

    each : (earlier seen : List Sighting) (i : ℕ) (s : Sighting) (line : List ℕ) → slice_get seen i ≡ Some s → slice_get (lines_by t earlier seen) i ≡ Some line →
        IsLineAfter t (earlier ++ take i seen) s line
    each earlier [] i s line e f = absurd (none-some s e)
    each earlier (x ∷ seen) zero s line e f =
        let same : x ≡ s = same_Some x s e in
        let o = newest earlier (key_of x) in record {
          newest = o;
          is_newest = subst (λ (y : Sighting). IsNewest (earlier ++ []) (key_of y) o) same (subst (λ (l : List Sighting). IsNewest l (key_of x) o) (sym (append-nil earlier)) (newest_is earlier (key_of x)));
          is_line = sym (same_Some _ line f) ∙ ap (λ (y : Sighting). line_after t y o) same;
        }
    each earlier (x ∷ seen) (suc i) s line e f =
        let rest = each (earlier ++ x ∷ []) seen i s line e f in
        subst (λ (l : List Sighting). IsLineAfter t l s line) (append_assoc earlier (x ∷ []) (take i seen)) rest

pub blocks_of : {A : Type 0} (form : Form) → IsBlocksIn {A = A} form (blocks_event form)
blocks_of form = λ before e. record {
  lines = lines_by (telling form e.0 e.1.moment) (sightings_in before) (sightings_of e.1.kind);
  are_lines = lines_are (telling form e.0 e.1.moment) (sightings_in before) (sightings_of e.1.kind);
  text = refl;
}

-- texts for each form are, in lines over a list, its text
pub in_lines : {A : Type 0} (texts : Form → EventText A) → AreBlocksTexts texts → IsBlocksText {A = A} (over_events (texts Lines) (λ f. list_fault_line (list_fault_of f)))
in_lines texts are = record { first = refl; each_item = λ before e. are Lines before e; last = λ f. refl }

pub blocks_is : {A : Type 0} → IsBlocksText {A = A} blocks_text
blocks_is = in_lines blocks_event blocks_of
