-- What several calls for the lines at the end of an input make an engine write.
use Rattle.std.proofs.Common.{Option, None, Ok, ◌≡◌, ℕ, suc, ◌+◌, Bool, false, List, [], ◌∷◌, ◌++◌, take, ap, ap₂, sym, ◌∙◌, refl, subst, arith}
use Rattle.std.specs.Prelude.{◌||◌, if◌then◌else◌}
use Rattle.std.proofs.lemmas.List.{append-nil}
use Rattle.std.proofs.lemmas.Grind.{flat_map-append}
use Rattle.std.proofs.lemmas.List.Folds.{list_any-append}
use Rattle.std.specs.Io.KnownBytes.{Appends}
use Rattle.list_core.proofs.Devices.{Appends-append, Appends-none}
use Rattle.engine_core.specs.declared.ending.Ending.{Ending}
use Rattle.engine_core.specs.declared.ending.Ending.TheVariants.{Done, Findings}
use Rattle.engine_core.specs.declared.running.Next.TheVariants as next
use Rattle.engine_core.specs.declared.stopped.Halt.{Halt}
use Rattle.engine_core.specs.declared.stopped.Halt.TheVariants as halt
use Rattle.engine_core.specs.EngineText.{Allowed, ItemText, has_finding, joined_texts}
use Rattle.engine_core.specs.RunOver.{EndsThere, HaltsAtEnd, StopsAtLine, ending_by_halt, fault_by_halt}
use Rattle.engine_core.specs.computed.EngineStep.{LineWrites}
use Rattle.engine_core.proofs.Ends.{all_before, one_more, some_line}
use Rattle.engine_core.proofs.ItemTexts.{or_assoc, or_false}

-- the lines before a position were written, and something was found before or in them, or nothing was
pub record Closed (lines : List ItemText) (at : ℕ) (found has_found : Bool) (held mid : Option (List ℕ)) : Type 0 where
  pub written : Appends held mid (joined_texts (take at lines))
  pub finds : has_found ≡ (found || has_finding (take at lines))
  pub no_more : lines ≡ [] → mid ≡ held

pub closed_none : (lines : List ItemText) (found : Bool) (held : Option (List ℕ)) → Closed lines 0 found found held held
closed_none lines found held = record { written = Appends-none held; finds = sym (or_false found); no_more = λ none. refl }

-- a line more
pub closed_more : (lines : List ItemText) (at : ℕ) (found has_found is_finding : Bool) (held mid new : Option (List ℕ)) → Closed lines at found has_found held mid → LineWrites {F = Unit {0}} lines at (next.Wrote is_finding) mid new → Closed lines (at + 1) found (has_found || is_finding) held new
closed_more lines at found has_found is_finding held mid new p (w, is, wrote, finds) =
    let next : at + 1 ≡ suc at = omega arith in
    let more : take (at + 1) lines ≡ take at lines ++ w ∷ [] = ap (λ (n : ℕ). take n lines) next ∙ one_more lines at w is in
    let text : joined_texts (take (at + 1) lines) ≡ joined_texts (take at lines) ++ w.text =
    ap joined_texts more ∙ flat_map-append (λ (x : ItemText). x.text) (take at lines) (w ∷ []) ∙ ap (λ (l : List ℕ). joined_texts (take at lines) ++ l) (append-nil w.text) in
    let any : has_finding (take (at + 1) lines) ≡ (has_finding (take at lines) || w.is_finding) =
    ap has_finding more ∙ list_any-append (λ (x : ItemText). x.is_finding) (take at lines) (w ∷ []) ∙ ap (λ (b : Bool). has_finding (take at lines) || b) (or_false w.is_finding) in
    record {
      written = subst (λ (l : List ℕ). Appends held new l) (sym text) (Appends-append held mid new (joined_texts (take at lines)) w.text p.written wrote);
      finds = ap₂ (λ (a b : Bool). a || b) p.finds finds ∙ sym (or_assoc found (has_finding (take at lines)) w.is_finding) ∙ ap (λ (b : Bool). found || b) (sym any);
      no_more = λ none. some_line lines at w none is;
    }

module _ {X C F : Type 0} (t : Allowed X C F) (items : List (ℕ × X)) (texts : List ItemText) (lines : List ItemText) (may : t.at_end items lines) (at : ℕ) (found has_found : Bool) (finds : has_finding texts ≡ found) (held mid new : Option (List ℕ)) (p : Closed lines at found has_found held mid) where
  -- there are no further ones
  pub closed_all : LineWrites {F = F} lines at next.Ended mid new → EndsThere t items texts (Ok None) (if has_found then Findings else Done) None held new
  closed_all (none, same) =
      let all = all_before lines at none in
      record {
        ended = refl;
        lines = lines;
        may_end = may;
        has_ending = ap (λ (b : Bool). if b then Findings else Done) (p.finds ∙ ap₂ (λ (a : Bool) (l : List ItemText). a || has_finding l) (sym finds) all);
        by_none = refl;
        written = subst (λ (o : Option (List ℕ)). Appends held o (joined_texts lines)) (sym same) (subst (λ (l : List ItemText). Appends held mid (joined_texts l)) all p.written);
        no_more = λ empty. same ∙ p.no_more empty;
      }

  by_none : (failed : F → Bool) (h : Halt F) → fault_by_halt h ≡ None → ending_by_halt (λ why. false) h ≡ ending_by_halt failed h
  by_none failed (halt.Fault why) e = cc
  by_none failed halt.WriteFault e = refl
  by_none failed halt.Memory e = refl

  -- the run stopped at the next
  pub closed_at : (failed : F → Bool) (h : Halt F) → LineWrites lines at (next.Stop h) mid new → HaltsAtEnd t items (Ok None) (ending_by_halt failed h) (fault_by_halt h) held new
  closed_at failed h (w, is, stops, none) = record { ended = refl; lines = lines; may_end = may; before = at; mid = mid; written = p.written; line = w; is_line = is; stops = subst (λ (o : Ending). StopsAtLine w.text o mid new) (by_none failed h none) stops; by_none = none }
