-- Texts of a kind, appended before and behind other texts.
use Rattle.std.proofs.Common.{◌≡◌, ℕ, List, ◌++◌, refl, Result, Ok, Err, is_ok}
use Rattle.std.specs.Prelude.{if◌then◌else◌}
use Rattle.text_core.specs.Pieces.{AppendsText}
use Rattle.text_core.proofs.Fronts.{appended, grown}
use Rattle.text_core.proofs.PieceLemmas.{then_text}
use Rattle.object_core.specs.Objects.{AppendsSome}

-- a text of the kind was appended
pub exactly : {T E : Type 0} (r : Result T E) (old new text : List ℕ) (Is : List ℕ → Type 0) → Is text → AppendsText r old new text → AppendsSome r old new Is
exactly (Ok t) old new text Is is e = (text, e, is)
exactly (Err f) old new text Is is e = e

-- a text was appended, and then one of a kind
pub then_some : {T E : Type 0} (r : Result T E) (old mid new x : List ℕ) (Is Both : List ℕ → Type 0) → mid ≡ old ++ x → AppendsSome r mid new Is → ((y : List ℕ) → Is y → Both (x ++ y))
    → AppendsSome r old new Both
then_some (Ok t) old mid new x Is Both p q both = (x ++ q.0, then_text old x q.0 (x ++ q.0) mid new p q.1 refl, both q.0 q.2)
then_some (Err f) old mid new x Is Both p q both = grown old mid new x p q

-- a text of a kind was appended, and then another text
pub some_then : {T E : Type 0} (r : Result T E) (old mid new y : List ℕ) (Is Both : List ℕ → Type 0) → (x : List ℕ) × (mid ≡ old ++ x) × Is x → AppendsText r mid new y
    → ((x : List ℕ) → Is x → Both (x ++ y)) → AppendsSome r old new Both
some_then (Ok t) old mid new y Is Both p q both = (p.0 ++ y, then_text old p.0 y (p.0 ++ y) mid new p.1 q refl, both p.0 p.2)
some_then (Err f) old mid new y Is Both p q both = grown old mid new p.0 p.1 q

-- the same, where no octet of it was appended for want of memory
pub extended : {T E : Type 0} (r : Result T E) (old new text : List ℕ) (Is : List ℕ → Type 0) → Is text → new ≡ (if is_ok r then old ++ text else old) → AppendsSome r old new Is
extended r old new text Is is e = exactly r old new text Is is (appended r old new text text e refl)
