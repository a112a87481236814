-- Lines of entries that were handed over one after another.
use Rattle.std.proofs.Common.{◌≡◌, ◌++◌, ℕ, Bool, true, false, List, [], ap, append-nil, append_assoc, length, refl, sym, take, ◌∙◌}
use Rattle.std.proofs.lemmas.List.Concat.{flat_map-append}
use Rattle.std.proofs.lemmas.List.Elements.{filter-append}
use Rattle.subscribe_core.specs.declared.entry.Entry.{Entry}
use Rattle.subscribe_core.specs.Changes.{is_change}
use Rattle.text_core.proofs.Fronts.{front_twice, same_stands}
use Rattle.exchange_engines.specs.EntryText.{entry_line, entry_lines}
use Rattle.exchange_engines.specs.ReplayText.{told_of}

-- the lines of those of these entries that are told stand behind what stood there; the number and the manner stay
pub record AreLinesTold {A : Type 0} (n : ℕ) (alone : Bool) (old : List ℕ) (es : List (Entry A)) (m : ℕ) (other : Bool) (new : List ℕ) : Type 0 where
  pub lines : new ≡ old ++ entry_lines n (told_of alone es)
  pub number : m ≡ n
  pub manner : other ≡ alone

-- of no entries none is told
nothing : (A : Type 0) (alone : Bool) → told_of {A = A} alone [] ≡ []
nothing A true = refl
nothing A false = refl

twice : {A : Type 0} (alone : Bool) (x y : List (Entry A)) → told_of alone (x ++ y) ≡ told_of alone x ++ told_of alone y
twice true x y = filter-append is_change x y
twice false x y = refl

pub told_none : {A : Type 0} (n : ℕ) (alone : Bool) (old : List ℕ) → AreLinesTold {A = A} n alone old [] n alone old
told_none {A} n alone old = record { lines = sym (append-nil old) ∙ ap (λ (es : List (Entry A)). old ++ entry_lines n es) (sym (nothing A alone)); number = refl; manner = refl }

pub told_more : {A : Type 0} (n : ℕ) (alone : Bool) (old : List ℕ) (x : List (Entry A)) (m : ℕ) (other : Bool) (mid : List ℕ) (y : List (Entry A)) (k : ℕ) (last : Bool) (new : List ℕ) →
    AreLinesTold n alone old x m other mid → AreLinesTold m other mid y k last new → AreLinesTold n alone old (x ++ y) k last new
told_more {A} n alone old x m other mid y k last new first second =
    let behind : new ≡ mid ++ entry_lines n (told_of alone y) = second.lines ∙ (ap (λ (i : ℕ). mid ++ entry_lines i (told_of other y)) first.number ∙ ap (λ (b : Bool). mid ++ entry_lines n (told_of b y)) first.manner) in
    let all = sym (ap (λ (es : List (Entry A)). entry_lines n es) (twice alone x y) ∙ flat_map-append (entry_line n) (told_of alone x) (told_of alone y)) in
    record {
      lines = behind ∙ (ap (λ (l : List ℕ). l ++ entry_lines n (told_of alone y)) first.lines ∙ (append_assoc old (entry_lines n (told_of alone x)) (entry_lines n (told_of alone y)) ∙ ap (λ (l : List ℕ). old ++ l) all));
      number = second.number ∙ first.number;
      manner = second.manner ∙ first.manner;
    }

pub front_same : (old : List ℕ) → take (length old) old ≡ old
front_same old = same_stands old old refl

pub front_kept : (old mid new : List ℕ) → take (length old) mid ≡ old → take (length mid) new ≡ mid → take (length old) new ≡ old
front_kept = front_twice

pub room_kept : {A : Type 0} {n m : ℕ} {alone other : Bool} {old new : List ℕ} → AreLinesTold {A = A} n alone old [] m other new → alone ≡ true → other ≡ true
room_kept told room = told.manner ∙ room
