-- The texts of members, one after the other.
use Rattle.std.proofs.Common.{◌≡◌, ℕ, List, [], ◌∷◌, ◌++◌, length, take, ap, refl, subst, sym, ◌∙◌, append_assoc, append-nil}
use Rattle.std.specs.Prelude.{flat_map}
use Rattle.mms_data.specs.Data.{Data}
use Rattle.text_core.proofs.Fronts.{front_grows}
use Rattle.text_core.proofs.PieceLemmas.{done, more}
use Rattle.object_core.specs.MemberObject.{AreMembers, AreOthers, Behind, IsMember, behind_comma}
use Rattle.object_core.specs.Objects as objects
use Rattle.object_core.proofs.ObjectParts.{array_parts, in_turn}

-- with texts of the members to come, texts of all of them stand behind o
pub record Continues (o : List ℕ) (all : List Data) (out : List ℕ) (to_come : List Data) : Type 0 where
  pub finish : (rest : List ℕ) → AreOthers to_come rest → (text : List ℕ) × (out ++ rest ≡ o ++ text) × AreOthers all text

-- at the first
pub begins : (o : List ℕ) (all : List Data) → Continues o all o all
begins o all = record { finish = λ rest others. (rest, refl, others) }

-- behind one more
pub one_more : (o out new m : List ℕ) (all to_come rest : List Data) (d : Data) → Continues o all out to_come → to_come ≡ d ∷ rest → new ≡ out ++ 44 ∷ m → IsMember d m → Continues o all new rest
one_more o out new m all to_come rest d so_far split put is = record {
  finish = λ text others.
      let these : AreOthers to_come ((44 ∷ m) ++ text) = subst (λ ds. AreOthers ds ((44 ∷ m) ++ text)) (sym split) (m ∷ others.0, ap (λ (l : List ℕ). (44 ∷ m) ++ l) others.1, (is, others.2)) in
      let whole = so_far.finish ((44 ∷ m) ++ text) these in
      (whole.0, ap (λ (l : List ℕ). l ++ text) put ∙ append_assoc out (44 ∷ m) text ∙ whole.1, whole.2);
}

-- the same, where the member stands behind a comma
pub one_behind : (o out new : List ℕ) (all to_come rest : List Data) (d : Data) → Continues o all out to_come → to_come ≡ d ∷ rest → (text : List ℕ) × (new ≡ out ++ text) × Behind 44 (IsMember d) text
    → Continues o all new rest
one_behind o out new all to_come rest d so_far split put =
    one_more o out new put.2.0 all to_come rest d so_far split (put.1 ∙ ap (λ (l : List ℕ). out ++ l) put.2.1) put.2.2

-- at the last
pub finished : (o out : List ℕ) (all to_come : List Data) → Continues o all out to_come → to_come ≡ [] → (text : List ℕ) × (out ≡ o ++ text) × AreOthers all text
finished o out all to_come so_far none =
    let whole = so_far.finish [] (subst (λ ds. AreOthers ds []) (sym none) ([], refl, tt)) in
    (whole.0, sym (append-nil out) ∙ whole.1, whole.2)

-- the first member was written behind a bracket, then the others, and then another bracket
pub members_written : (o a b c : List ℕ) (all rest : List Data) (d : Data) → all ≡ d ∷ rest → (text : List ℕ) × (a ≡ o ++ text) × Behind 91 (IsMember d) text
    → (text : List ℕ) × (b ≡ a ++ text) × AreOthers rest text → c ≡ b ++ 93 ∷ [] → (text : List ℕ) × (c ≡ o ++ text) × AreMembers all text
members_written o a b c all rest d split first others end =
    let m = first.2.0 in
    let texts = others.2.0 in
    let more_texts = flat_map behind_comma texts in (
      objects.array (m ∷ texts),
      in_turn ((91 ∷ m) ∷ more_texts ∷ (93 ∷ []) ∷ []) (sym (array_parts m texts ∙ append_assoc (91 ∷ m) more_texts (93 ∷ []))) (
          more (first.1 ∙ ap (λ (l : List ℕ). o ++ l) first.2.1) (
          more (others.1 ∙ ap (λ (l : List ℕ). a ++ l) others.2.1) (
          more end (
          done refl)))),
      subst (λ ds. AreMembers ds (objects.array (m ∷ texts))) (sym split) (m ∷ texts, refl, (first.2.2, others.2.2)),
    )

-- a front was written, then what stands in it, and then a brace
pub nested_written : (o a b c front inner text whole : List ℕ) → a ≡ o ++ front → b ≡ a ++ text → text ≡ inner → c ≡ b ++ 125 ∷ [] → front ++ (inner ++ 125 ∷ []) ≡ whole → c ≡ o ++ whole
nested_written o a b c front inner text whole first inside is end e =
    in_turn (front ∷ inner ∷ (125 ∷ []) ∷ []) e (more first (more (inside ∙ ap (λ (l : List ℕ). a ++ l) is) (more end (done refl))))

-- what stands in front stays there
pub kept_more : (o out new x : List ℕ) → take (length o) out ≡ o → new ≡ out ++ x → take (length o) new ≡ o
kept_more o out new x kept put = ap (take (length o)) put ∙ front_grows o out x kept
