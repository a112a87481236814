use Rattle.std.proofs.Common.{◌≡◌, ◌∙◌, Bool, true, false, Option, Some, None, codes, refl, sym, ap, subst}
use Rattle.std.specs.Option.{option_eq, option_map_or}
use Rattle.std.specs.Str.{bytes_eq}
use Rattle.std.specs.Str.Parse.{ParsesBool}
use Rattle.std.proofs.lemmas.Slice.Eq.{bytes_eq-Decides}
use Rattle.std.specs.Bool.{beq}
use Rattle.clap.specs.Words.{ReadsOne, Text, found_of, one_text}
use Rattle.clap.proofs.WalkLemmas.{one_text-rows}
use Rattle.words_core.proofs.option_words.is_set.Goals as goal

-- what `get_one` reads as true
flag_read : (E : Type 0) (o : Option Text) (r : Option Bool) → (o ≡ None → r ≡ None) → ((t : Text) → o ≡ Some t → ReadsOne {E = E} ParsesBool t r)
    → option_eq beq r (Some true) ≡ option_map_or (bytes_eq (codes "true")) o false
flag_read E None r none value = rw (none refl) refl
flag_read E (Some t) r none value = go r (value t refl)
  where
    no : (b : Bool) → bytes_eq (codes "true") t ≡ b → (t ≡ codes "true" → ⊥) → false ≡ b
    no true e other = absurd (other (sym ((bytes_eq-Decides (codes "true") t).0 e)))
    no false e other = refl

    go : (x : Option Bool) → ReadsOne {E = E} ParsesBool t x → option_eq beq x (Some true) ≡ bytes_eq (codes "true") t
    go (Some true) h = subst (λ (w : Text). true ≡ bytes_eq (codes "true") w) (sym h) refl
    go (Some false) h = subst (λ (w : Text). false ≡ bytes_eq (codes "true") w) (sym h) refl
    go None h = no (bytes_eq (codes "true") t) refl h.1.0

pub returns : goal.returns
returns c =
    let found = found_of c.args.matches.now in
    c.eq.ensures ∙ flag_read _ (one_text found c.args.name.now) c.get_one.result c.get_one.ensures.none c.get_one.ensures.value
    ∙ ap (λ (o : Option Text). option_map_or (bytes_eq (codes "true")) o false) (one_text-rows found c.args.name.now)
