-- What an engine over a list of items writes: a text for each item, which may speak of all items before it, and a last one where the list has a fault or an item is refused.
use Rattle.std.specs.Prelude.{◌≡◌, ℕ, Bool, List, [], ◌∷◌, length, take, slice_get, Some, Result, Ok, Err}
use Rattle.std.specs.List.{flat_map, list_any}
use Rattle.list_core.specs.declared.line_rules.ItemFault.{ItemFault}
use Rattle.list_core.specs.declared.line_rules.ItemFault.TheVariants as fault
use Rattle.list_core.specs.Lines.{Stop, finished, unfinished, faulty}

-- What an engine writes of items, which come with their numbers: something first, then for each item, and something
-- last on a fault. X are the items, C is why one is refused, F is a fault. What is written for an item is fixed by it and
-- by the items before it.
pub record TextTo (X C F : Type 0) : Type 0 where
  -- before anything is read
  pub first : List ℕ
  -- after these items, for this one: its text, and whether it is a finding; or why it is refused
  pub of_item : List (ℕ × X) → ℕ × X → Result (List ℕ × Bool) C
  -- last, on a fault
  pub last : F → List ℕ

-- what is written of one item, or in one line at the end: its text, and whether it is a finding
pub record ItemText : Type 0 where
  pub text : List ℕ
  pub is_finding : Bool

-- What an engine may write of items, where what it writes for one need not be fixed: each result is allowed or not.
pub record Allowed (X C F : Type 0) : Type 1 where
  -- before anything is read
  pub first : List ℕ
  -- after these items, for this one: a text, and whether it is a finding; or why it is refused
  pub of_item : List (ℕ × X) → ℕ × X → Result (List ℕ × Bool) C → Type 0
  -- after these items, memory may be wanted for what is kept of this one, whatever is written of it
  pub keeps : List (ℕ × X) → ℕ × X → Type 0
  -- at the end of the input, behind all these items: lines, one after another
  pub at_end : List (ℕ × X) → List ItemText → Type 0
  -- last, on a fault
  pub last : F → List ℕ

-- nothing is kept of an item
abbrev pub keeps_nothing : {X : Type 0} → List (ℕ × X) → ℕ × X → Type 0
keeps_nothing before e = ⊥

-- nothing is written at the end
abbrev pub ends_silently : {X : Type 0} → List (ℕ × X) → List ItemText → Type 0
ends_silently items lines = lines ≡ []

-- this text is allowed, and no other; nothing at the end
abbrev pub exactly : {X C F : Type 0} → TextTo X C F → Allowed X C F
exactly t = record { first = t.first; of_item = λ before e written. t.of_item before e ≡ written; keeps = keeps_nothing; at_end = ends_silently; last = t.last }

-- the same is allowed by both
pub record Alike {X C F : Type 0} (a b : Allowed X C F) : Type 0 where
  pub first : a.first ≡ b.first
  pub there : (before : List (ℕ × X)) (e : ℕ × X) (written : Result (List ℕ × Bool) C) → a.of_item before e written → b.of_item before e written
  pub back : (before : List (ℕ × X)) (e : ℕ × X) (written : Result (List ℕ × Bool) C) → b.of_item before e written → a.of_item before e written
  pub keeps : (before : List (ℕ × X)) (e : ℕ × X) → a.keeps before e → b.keeps before e
  pub keeps_back : (before : List (ℕ × X)) (e : ℕ × X) → b.keeps before e → a.keeps before e
  pub ends : (items : List (ℕ × X)) (lines : List ItemText) → a.at_end items lines → b.at_end items lines
  pub ends_back : (items : List (ℕ × X)) (lines : List ItemText) → b.at_end items lines → a.at_end items lines
  pub last : (f : F) → a.last f ≡ b.last f

-- what an engine writes of a list of items
abbrev pub Text : Type 0 → Type 0 → Type 0
Text X C = TextTo X C (ItemFault C)

-- What is written of each of these items, after those before it: a text that is allowed. None of them is refused.
pub record AreAllowedTexts {X C F : Type 0} (t : Allowed X C F) (items : List (ℕ × X)) (texts : List ItemText) : Type 0 where
  pub one_each : length texts ≡ length items
  pub each : (i : ℕ) (e : ℕ × X) (w : ItemText) → slice_get items i ≡ Some e → slice_get texts i ≡ Some w → t.of_item (take i items) e (Ok (w.text, w.is_finding))

-- the same of a text that is fixed
abbrev pub AreItemTexts : {X C F : Type 0} → TextTo X C F → List (ℕ × X) → List ItemText → Type 0
AreItemTexts t items texts = AreAllowedTexts (exactly t) items texts

-- their texts, one after another
abbrev pub joined_texts : List ItemText → List ℕ
joined_texts texts = flat_map (λ w. w.text) texts

-- whether one of the items is a finding
abbrev pub has_finding : List ItemText → Bool
has_finding texts = list_any (λ w. w.is_finding) texts

-- what is written last: nothing, unless there is a fault
abbrev pub last_text : {X C : Type 0} → Text X C → Stop (ItemFault C) → List ℕ
last_text t finished = []
last_text t unfinished = []
last_text t (faulty f) = t.last f

-- the text that a step writes: that of its item, or the last one where it is refused, which is this fault then
abbrev pub step_text_to : {X C F : Type 0} → (ℕ → C → F) → Allowed X C F → ℕ → Result (List ℕ × Bool) C → List ℕ
step_text_to refused t n (Ok s) = s.0
step_text_to refused t n (Err why) = t.last (refused n why)

-- the same of a list, where a refused item is a fault of its line
abbrev pub step_text : {X C : Type 0} → Text X C → ℕ → Result (List ℕ × Bool) C → List ℕ
step_text t n s = step_text_to fault.Line (exactly t) n s

-- a text that speaks of each item alone, and refuses none
abbrev pub IsPlain : {X C : Type 0} → Text X C → (ℕ × X → List ℕ) → (ℕ × X → Bool) → Type 0
IsPlain {X = X} t line finds = (before : List (ℕ × X)) (e : ℕ × X) → t.of_item before e ≡ Ok (line e, finds e)
