-- What stands in front stays there.
use Rattle.std.proofs.Common.{◌≡◌, ℕ, ◌≤◌, List, ◌++◌, length, take, ap, sym, subst, refl, ◌∙◌, arith, length-append, Result, Ok, Err, is_ok}
use Rattle.std.specs.Prelude.{if◌then◌else◌}
use Rattle.std.specs.List.{concat}
use Rattle.std.proofs.lemmas.List.{length-take, take-append-le, take-take, take_all}
use Rattle.text_core.specs.Pieces.{AppendsText}
use Rattle.text_core.proofs.PieceLemmas.{Chain, concat-append, row, then_text}

stands : (old : List ℕ) → take (length old) old ≡ old
stands old = take_all (length old) old (omega arith)

-- what stands before an appended text stands in front of what it stands in front of
pub front_before : (old x new : List ℕ) → (take (length (old ++ x)) new ≡ take (length (old ++ x)) new) × (take (length (old ++ x)) new ≡ old ++ x → take (length old) new ≡ old)
front_before old x new = (
  refl,
  λ h.
      let less : length old ≤ length (old ++ x) = omega (arith, length-append old x) in
      sym (take-take (length old) (length (old ++ x)) new less) ∙ ap (take (length old)) h ∙ take-append-le (length old) old x (omega arith) ∙ stands old,
)

-- what stands in front is no longer than what it stands in front of
front_fits : (old mid : List ℕ) → take (length old) mid ≡ old → length old ≤ length mid
front_fits old mid h = omega (arith, length-take (length old) mid, ap length h)

pub front_grows : (old mid x : List ℕ) → take (length old) mid ≡ old → take (length old) (mid ++ x) ≡ old
front_grows old mid x h = take-append-le (length old) mid x (front_fits old mid h) ∙ h

pub front_twice : (old mid new : List ℕ) → take (length old) mid ≡ old → take (length mid) new ≡ mid → take (length old) new ≡ old
front_twice old mid new h k = sym (take-take (length old) (length mid) new (front_fits old mid h)) ∙ ap (take (length old)) k ∙ h

-- what was appended, by another name
pub appended : {T E : Type 0} (r : Result T E) (old new x y : List ℕ) → new ≡ (if is_ok r then old ++ x else old) → x ≡ y → AppendsText r old new y
appended (Ok t) old new x y e same = e ∙ ap (λ (l : List ℕ). old ++ l) same
appended (Err f) old new x y e same = ap (take (length old)) e ∙ stands old

-- a text was appended, and then another one
pub then_appended : {T E : Type 0} (r : Result T E) (old mid new x y z : List ℕ) → mid ≡ old ++ x → AppendsText r mid new y → x ++ y ≡ z → AppendsText r old new z
then_appended (Ok t) old mid new x y z p q e = then_text old x y z mid new p q e
then_appended (Err f) old mid new x y z p q e = (front_before old x new).1 (subst (λ l. take (length l) new ≡ l) p q)

-- the last of a text was appended, of which the others were
pub rest_appended : {T E : Type 0} (r : Result T E) (old mid new y z : List ℕ) → take (length old) mid ≡ old → AppendsText r mid new y → mid ++ y ≡ old ++ z → AppendsText r old new z
rest_appended (Ok t) old mid new y z h q e = q ∙ e
rest_appended (Err f) old mid new y z h q e = front_twice old mid new h q

-- what is as it was stands in front
pub same_stands : (old new : List ℕ) → new ≡ old → take (length old) new ≡ old
same_stands old new e = ap (take (length old)) e ∙ stands old

-- what stood before an appended text stands in front
pub grown : (old mid new x : List ℕ) → mid ≡ old ++ x → take (length mid) new ≡ mid → take (length old) new ≡ old
grown old mid new x e h = (front_before old x new).1 (subst (λ l. take (length l) new ≡ l) e h)

-- several texts were appended, and then the others
pub row_then : {T E : Type 0} (r : Result T E) (old mid new : List ℕ) (xs ys : List (List ℕ)) → Chain mid old xs → AppendsText r mid new (concat ys) → AppendsText r old new (concat (xs ++ ys))
row_then r old mid new xs ys texts others = then_appended r old mid new (concat xs) (concat ys) (concat (xs ++ ys)) (row old mid xs texts) others (sym (concat-append xs ys))
