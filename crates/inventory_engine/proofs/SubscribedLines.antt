-- The lines of control blocks that are subscribed to, one block more.
use Rattle.std.proofs.Common.{◌≡◌, ◌∙◌, ◌+◌, ℕ, Bool, true, false, List, [], ◌∷◌, ◌++◌, cond, length, ap, sym, refl, append_assoc, length-append, arith}
use Rattle.std.proofs.lemmas.List.{append-nil}
use Rattle.engine_core.specs.declared.style.Style.{Style}
use Rattle.inventory_engine.specs.declared.listed_block.ListedBlock.{ListedBlock}
use Rattle.inventory_engine.specs.SubscribedText.{named_in, subscribed_from, subscribed_in, subscribed_text}

from-append : {A : Type 0} (style : Style) (n : ℕ) (xs : List (ListedBlock A)) (y : ListedBlock A) → subscribed_from style n (xs ++ y ∷ []) ≡ subscribed_from style n xs ++ subscribed_in style (n + length xs) y
from-append style n [] y = let same : n ≡ n + 0 = omega arith in append-nil (subscribed_in style n y) ∙ ap (λ (k : ℕ). subscribed_in style k y) same
from-append style n (x ∷ xs) y =
    let same : n + 1 + length xs ≡ n + length (x ∷ xs) = omega arith in
    ap (λ (l : List ℕ). subscribed_in style n x ++ l) (from-append style (n + 1) xs y ∙ ap (λ (k : ℕ). subscribed_from style (n + 1) xs ++ subscribed_in style k y) same)
    ∙ sym (append_assoc (subscribed_in style n x) (subscribed_from style (n + 1) xs) (subscribed_in style (n + length (x ∷ xs)) y))

pub named_yes : {A : Type 0} (done : List (ListedBlock A)) (b : ListedBlock A) → b.is_named ≡ true → named_in (done ++ b ∷ []) ≡ named_in done ++ b ∷ []
named_yes {A = A} [] b e = ap (λ (k : Bool). cond k (b ∷ []) []) e
named_yes {A = A} (x ∷ done) b e = go x.is_named (named_yes done b e)
  where
    go : (k : Bool) → named_in {A = A} (done ++ b ∷ []) ≡ named_in done ++ b ∷ [] → cond k (x ∷ named_in (done ++ b ∷ [])) (named_in (done ++ b ∷ [])) ≡ cond k (x ∷ named_in done) (named_in done) ++ b ∷ []
    go true rest = ap (λ (l : List (ListedBlock A)). x ∷ l) rest
    go false rest = rest

pub named_no : {A : Type 0} (done : List (ListedBlock A)) (b : ListedBlock A) → b.is_named ≡ false → named_in (done ++ b ∷ []) ≡ named_in done
named_no {A = A} [] b e = ap (λ (k : Bool). cond k (b ∷ []) []) e
named_no {A = A} (x ∷ done) b e = go x.is_named (named_no done b e)
  where
    go : (k : Bool) → named_in {A = A} (done ++ b ∷ []) ≡ named_in done → cond k (x ∷ named_in (done ++ b ∷ [])) (named_in (done ++ b ∷ [])) ≡ cond k (x ∷ named_in done) (named_in done)
    go true rest = ap (λ (l : List (ListedBlock A)). x ∷ l) rest
    go false rest = rest

-- what was written of blocks, and how many of them a BLOCK can name
pub record WroteOf {A : Type 0} (style : Style) (done : List (ListedBlock A)) (position : ℕ) (old new : List ℕ) : Type 0 where
  pub counted : position ≡ length (named_in done)
  pub wrote : new ≡ old ++ subscribed_text style done

pub wrote_none : {A : Type 0} (style : Style) (old : List ℕ) → WroteOf {A = A} style [] 0 old old
wrote_none style old = record { counted = refl; wrote = sym (append-nil old) }

-- one more that a BLOCK can name
pub wrote_one : {A : Type 0} (style : Style) (done : List (ListedBlock A)) (b : ListedBlock A) (position : ℕ) (old mid new : List ℕ) → b.is_named ≡ true → WroteOf style done position old mid → new ≡ mid ++ subscribed_in style position b
    → WroteOf style (done ++ b ∷ []) (position + 1) old new
wrote_one style done b position old mid new named w more =
    let push = named_yes done b named in
    let size = length-append (named_in done) (b ∷ []) in
    let counted = w.counted in
    let zero : length (named_in done) ≡ 0 + length (named_in done) = omega arith in
    let one = ap length push in record {
      counted = omega (arith, counted, one, size);
      wrote = more ∙ ap (λ (l : List ℕ). l ++ subscribed_in style position b) w.wrote ∙ append_assoc old (subscribed_text style done) (subscribed_in style position b)
          ∙ ap (λ (l : List ℕ). old ++ l) (ap (λ (k : ℕ). subscribed_text style done ++ subscribed_in style k b) (counted ∙ zero) ∙ sym (from-append style 0 (named_in done) b) ∙ ap (subscribed_from style 0) (sym push));
    }

-- and one that none can
pub wrote_past : {A : Type 0} (style : Style) (done : List (ListedBlock A)) (b : ListedBlock A) (position : ℕ) (old new : List ℕ) → b.is_named ≡ false → WroteOf style done position old new → WroteOf style (done ++ b ∷ []) position old new
wrote_past style done b position old new unnamed w =
    let push = named_no done b unnamed in record {
      counted = w.counted ∙ ap length (sym push);
      wrote = w.wrote ∙ ap (λ (l : List ℕ). old ++ l) (ap (subscribed_from style 0) (sym push));
    }
