-- Texts that speak of each item alone.
use Rattle.std.proofs.Common.{◌≡◌, ℕ, Bool, List, [], ◌∷◌, ◌++◌, Ok, ap, sym, ◌∙◌, refl}
use Rattle.std.specs.List.{flat_map, list_any}
use Rattle.std.proofs.lemmas.List.{append_assoc}
use Rattle.list_core.specs.declared.line_rules.ItemFault.{ItemFault}
use Rattle.list_core.specs.Lines.{Stop}
use Rattle.list_core.specs.Items.{Listing}
use Rattle.engine_core.specs.EngineText.{Text, IsPlain, last_text}
use Rattle.engine_core.specs.computed.WholeText.{Account, told_after, put_step, whole_text, told}

module _ {X C : Type 0} (t : Text X C) (line : ℕ × X → List ℕ) (finds : ℕ × X → Bool) (p : IsPlain t line finds) where
  plain : (before es : List (ℕ × X)) (stop : Stop (ItemFault C)) →
      told_after t before es stop ≡ record { text = flat_map line es ++ last_text t stop; found = list_any finds es; stop = stop }
  unfolding told_after
  plain before [] stop = refl
  plain before (e ∷ es) stop =
      ap (λ s. put_step t e.0 s (told_after t (before ++ e ∷ []) es stop)) (p before e)
      ∙ ap (put_step t e.0 (Ok (line e, finds e))) (plain (before ++ e ∷ []) es stop)
      ∙ ap (λ (l : List ℕ). told_by l (list_any finds (e ∷ es)) stop) (sym (append_assoc (line e) (flat_map line es) (last_text t stop)))
    where
      told_by : List ℕ → Bool → Stop (ItemFault C) → Account C
      told_by l f s = record { text = l; found = f; stop = s }

  pub plain_text : (l : Listing X C) → whole_text t l ≡ t.first ++ (flat_map line l.items ++ last_text t l.stop)
  plain_text l = ap (λ (o : Account C). t.first ++ o.text) (plain [] l.items l.stop)

  pub plain_found : (l : Listing X C) → (told t l).found ≡ list_any finds l.items
  plain_found l = ap (λ (o : Account C). o.found) (plain [] l.items l.stop)

  pub plain_stop : (l : Listing X C) → (told t l).stop ≡ l.stop
  plain_stop l = ap (λ (o : Account C). o.stop) (plain [] l.items l.stop)
