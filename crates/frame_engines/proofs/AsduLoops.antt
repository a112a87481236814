-- ASDUs written one after another, each behind a sign.
use Rattle.std.proofs.Common.{◌≡◌, ℕ, List, [], ◌∷◌, ◌++◌, map, ap, refl, sym, ◌∙◌, append_assoc}
use Rattle.std.specs.List.{flat_map}
use Rattle.std.proofs.lemmas.List.{append-nil, map-append}
use Rattle.std.proofs.lemmas.List.Concat.{flat_map-append}
use Rattle.pdu_core.specs.SampledViews.{asdu_of}
use Rattle.pdu_core.specs.declared.sampled.asdu.Asdu.{Asdu}
use Rattle.pdu_core.specs.declared.sampled.view.AsduView.{AsduView}
use Rattle.text_core.proofs.PieceLemmas.{then_text}

module _ (yielded : List AsduView) (a : AsduView) where
  -- of one more the others are left
  pub more_read : (left next all : List (Asdu (Unit {0}))) → map (asdu_of {A = Unit {0}}) yielded ++ left ≡ all → left ≡ asdu_of a ∷ next
      → map (asdu_of {A = Unit {0}}) (yielded ++ a ∷ []) ++ next ≡ all
  more_read left next all parts first =
      ap (λ (l : List (Asdu (Unit {0}))). l ++ next) (map-append (asdu_of {A = Unit {0}}) yielded (a ∷ []))
      ∙ append_assoc (map (asdu_of {A = Unit {0}}) yielded) (asdu_of a ∷ []) next
      ∙ ap (λ (l : List (Asdu (Unit {0}))). map (asdu_of {A = Unit {0}}) yielded ++ l) (sym first) ∙ parts

  -- the text of one more was appended
  pub more_written : (text : Asdu (Unit {0}) → List ℕ) (sign : ℕ) (o b m n : List ℕ) → b ≡ o ++ flat_map (λ x. sign ∷ text x) (map (asdu_of {A = Unit {0}}) yielded) → m ≡ b ++ sign ∷ []
      → n ≡ m ++ text (asdu_of a) → n ≡ o ++ flat_map (λ x. sign ∷ text x) (map (asdu_of {A = Unit {0}}) (yielded ++ a ∷ []))
  more_written text sign o b m n so_far signed written =
      let one = then_text b (sign ∷ []) (text (asdu_of a)) (sign ∷ text (asdu_of a)) m n signed written refl in
      then_text o (flat_map (λ x. sign ∷ text x) (map (asdu_of {A = Unit {0}}) yielded)) (sign ∷ text (asdu_of a)) _ b n so_far one
      (ap (λ (l : List ℕ). flat_map (λ x. sign ∷ text x) (map (asdu_of {A = Unit {0}}) yielded) ++ l) (sym (append-nil (sign ∷ text (asdu_of a))))
      ∙ sym (flat_map-append (λ x. sign ∷ text x) (map (asdu_of {A = Unit {0}}) yielded) (asdu_of a ∷ []))
      ∙ ap (λ (l : List (Asdu (Unit {0}))). flat_map (λ x. sign ∷ text x) l) (sym (map-append (asdu_of {A = Unit {0}}) yielded (a ∷ []))))

-- where none is left, the text of all was appended
pub all_written : (text : Asdu (Unit {0}) → List ℕ) (sign : ℕ) (o b : List ℕ) (yielded : List AsduView) (left all : List (Asdu (Unit {0}))) → map (asdu_of {A = Unit {0}}) yielded ++ left ≡ all → left ≡ []
    → b ≡ o ++ flat_map (λ x. sign ∷ text x) (map (asdu_of {A = Unit {0}}) yielded) → b ≡ o ++ flat_map (λ x. sign ∷ text x) all
all_written text sign o b yielded left all parts none so_far =
    so_far ∙ ap (λ (l : List (Asdu (Unit {0}))). o ++ flat_map (λ x. sign ∷ text x) l)
    (sym (append-nil (map (asdu_of {A = Unit {0}}) yielded)) ∙ ap (λ (l : List (Asdu (Unit {0}))). map (asdu_of {A = Unit {0}}) yielded ++ l) (sym none) ∙ parts)
