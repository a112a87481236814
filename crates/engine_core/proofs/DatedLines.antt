-- Lines behind the date of their event.
use Rattle.std.proofs.Common.{◌≡◌, ℕ, true, eqb, List, [], ◌∷◌, ◌++◌, length, take, Option, Some, None, option_map, ap, sym, ◌∙◌, refl, arith}
use Rattle.std.specs.Prelude.{codes, unwrap_or}
use Rattle.std.proofs.lemmas.List.{append_assoc, append-nil}
use Rattle.std.proofs.lemmas.Bool.{eqb-true}
use Rattle.list_core.specs.Cuts.{cut_at}
use Rattle.list_core.proofs.Cuts.{cut_some}
use Rattle.text_core.proofs.Fronts.{front_grows}
use Rattle.engine_core.specs.Dated.{date_mark, dated, lines_as}

-- a line in front of a text
pub lines_more : (write : List ℕ → List ℕ) (line rest : List ℕ) → lines_as write (line ∷ cut_at 10 rest) ≡ write line ++ 10 ∷ lines_as write (cut_at 10 rest)
lines_more write line rest = let r = cut_some 10 rest in rw r.2 refl

-- a line was appended behind a mark
pub line_passed : (old mid one two new mark line others rest : List ℕ) → cut_at 10 others ≡ line ∷ cut_at 10 rest → one ≡ mid ++ mark → two ≡ one ++ line → new ≡ two ++ 10 ∷ [] → take (length old) mid ≡ old →
    (take (length old) new ≡ old) × (new ++ lines_as (λ l. mark ++ l) (cut_at 10 rest) ≡ mid ++ lines_as (λ l. mark ++ l) (cut_at 10 others))
line_passed old mid one two new mark line others rest cut a b c front =
    let whole : new ≡ ((mid ++ mark) ++ line) ++ 10 ∷ [] = c ∙ ap (λ l. l ++ 10 ∷ []) (b ∙ ap (λ l. l ++ line) a) in (
      rw whole (front_grows old ((mid ++ mark) ++ line) (10 ∷ []) (front_grows old (mid ++ mark) line (front_grows old mid mark front))),
      rw (whole, cut, lines_more (λ l. mark ++ l) line rest) (simp append_assoc),
    )

-- the mark of a moment that has a date
pub mark_some : (o : Option (List ℕ)) (mark : List ℕ) → Some mark ≡ option_map (λ date. date ++ codes " ") o → mark ≡ unwrap_or o (codes "-") ++ codes " "
mark_some (Some date) mark e = cc
mark_some None mark e = cc

-- and of one that has none
pub mark_none : (o : Option (List ℕ)) → None ≡ option_map (λ date. date ++ codes " ") o → codes "- " ≡ unwrap_or o (codes "-") ++ codes " "
mark_none (Some date) e = cc
mark_none None e = refl

pub dated_none : (moment : ℕ) → dated moment [] ≡ []
unfolding dated
dated_none moment = refl

-- nothing is written of no text
pub dated_empty : (moment : ℕ) (out text : List ℕ) → eqb (length text) 0 ≡ true → out ≡ out ++ dated moment text
dated_empty moment out [] e = rw dated_none (sym (append-nil out))
dated_empty moment out (c ∷ cs) e = let none = eqb-true (length (c ∷ cs)) 0 e in absurd (omega arith)

-- a text behind the mark of a moment
pub dated_by : (moment : ℕ) (mark text : List ℕ) → mark ≡ date_mark moment → lines_as (λ l. mark ++ l) (cut_at 10 text) ≡ dated moment text
unfolding dated
dated_by moment mark text e = ap (λ (m : List ℕ). lines_as (λ l. m ++ l) (cut_at 10 text)) e
